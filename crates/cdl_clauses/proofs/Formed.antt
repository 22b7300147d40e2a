-- Every declaration and every statement of a text is formed.
use Rattle.std.proofs.Common.{◌≡◌, true, ◌&&◌, List, [], ◌∷◌, ◌++◌, map, Option, Some, None, refl, ◌∙◌, rules}
use Rattle.std.specs.List.{list_all}
use Rattle.std.proofs.lemmas.Bool.{and_from}
use Rattle.cdl_tree.specs.declared.name.Ident.{Ident}
use Rattle.cdl_tree.specs.declared.expr.Expr.{Expr}
use Rattle.cdl_tree.specs.declared.class.Dim.{Dim}
use Rattle.cdl_tree.specs.declared.class.Modifier.{Modifier}
use Rattle.cdl_tree.specs.declared.class.Item.{Item}
use Rattle.cdl_tree.specs.declared.class.Part.{Part}
use Rattle.cdl_tree.specs.declared.class.Sub.{Sub}
use Rattle.cdl_tree.specs.declared.class.Connect.{Connect}
use Rattle.cdl_tree.specs.declared.class.Statement.{Statement, the_lemmas as statement_lemmas}
use Rattle.cdl_tree.specs.declared.class.Statement.TheVariants as variant
use Rattle.cdl_tree.specs.declared.class.Loop.{Loop}
use Rattle.cdl_tree.specs.Words.{Word}
use Rattle.cdl_tree.specs.Trees.{the_ident, listed, Head, the_item, the_connect, the_loop}
use Rattle.cdl_tree.specs.Proper.{is_some, all_of}
use Rattle.cdl_tree.specs.Formed.{formed_ident, formed_name, is_formed}
use Rattle.cdl_tree.specs.FormedFiles.{formed_modifier, formed_dim, formed_item, formed_sub, formed_part, formed_connect, formed_statement}
use Rattle.cdl_tree.specs.Grammar.{DimOf, any_size, a_size, DimList, one_dim, more_dims, Dims, no_dim, dims, DeclOf, decl, Decls, one_decl, more_decls, ClauseOf, clause, ConstantOf, constant, SubOf, all_places, one_place, places, SubList, one_sub, more_subs, Subs, no_sub, subs, PartOf, part, RefOf, one_part, more_parts, ConnectOf, connect, StatementOf, a_connect, a_loop, LoopOf, loop, Body, no_body, more_body, Statements, no_statement, then_statement, then_note, EquationPart, no_equation, equation}
use Rattle.cdl_tree.proofs.Shapes.{some_behind}
use Rattle.cdl_expressions.proofs.Formed.{Spelled, parted, front, around, between, ident_formed, name_formed, further, expr_formed, value_formed, condition_formed, inside, all_is, optional_formed}

-- ---- declarations

listed_formed : (ms : Option (List Modifier)) → inside ms ≡ true → list_all formed_modifier (listed ms) ≡ true
listed_formed None h = refl
listed_formed (Some ms) h = h

dim_formed : {w : Word} {d : Dim} → DimOf w d → Spelled w → formed_dim d ≡ true
dim_formed (any_size t h) s = refl
dim_formed (a_size x) s = expr_formed x s

dim_list_formed : {w : Word} {ds : List Dim} → DimList w ds → Spelled w → list_all formed_dim ds ≡ true
dim_list_formed (one_dim x) s = and_from _ _ (dim_formed x s) refl
dim_list_formed (more_dims {v} {w} t {ds} {d} xs h x) s = let parts = around v t w s in further formed_dim ds d (dim_list_formed xs parts.0) (dim_formed x parts.1)

dims_formed : {w : Word} {ds : List Dim} → Dims w ds → Spelled w → list_all formed_dim ds ≡ true
dims_formed no_dim s = refl
dims_formed (dims a b {w} h x i) s = dim_list_formed x (between a w b s)

decl_formed : {head : Head} {w : Word} {x : Item} → formed_name head.class ≡ true → DeclOf head w x → Spelled w → formed_item x ≡ true
unfolding the_item
decl_formed n (decl i {u} {v} {x} {y} {z} {ds} {ms} {e} {c} h d a k l t) s =
    let name = front i (u ++ (v ++ (x ++ (y ++ z)))) s in
    let sizes = parted u (v ++ (x ++ (y ++ z))) name.1 in
    let args = parted v (x ++ (y ++ z)) sizes.1 in
    let value = parted x (y ++ z) args.1 in
    and_from _ _ n (and_from _ _ (ident_formed i h name.0) (and_from _ _ (dims_formed d sizes.0)
    (and_from _ _ (listed_formed ms (optional_formed a args.0)) (and_from _ _ (value_formed k value.0) (condition_formed l (parted y z value.1).0)))))

decls_formed : {head : Head} {w : Word} {xs : List Item} → formed_name head.class ≡ true → Decls head w xs → Spelled w → list_all formed_item xs ≡ true
decls_formed n (one_decl x) s = and_from _ _ (decl_formed n x s) refl
decls_formed n (more_decls {v} {w} t {xs} {x} ds h d) s = let parts = around v t w s in further formed_item xs x (decls_formed n ds parts.0) (decl_formed n d parts.1)

pub clause_formed : {w : Word} {xs : List Item} → ClauseOf w xs → Spelled w → list_all formed_item xs ≡ true
clause_formed (clause {u} {v} {w} {z} t f p n ds h) s =
    let words = parted v (w ++ (z ++ t ∷ [])) (parted u (v ++ (w ++ (z ++ t ∷ []))) s).1 in
    let class = parted w (z ++ t ∷ []) words.1 in
    decls_formed (name_formed n class.0) ds (parted z (t ∷ []) class.1).0

pub constant_formed : {w : Word} {xs : List Item} → ConstantOf w xs → Spelled w → list_all formed_item xs ≡ true
constant_formed (constant {u} {w} {z} c t f h n ds i) s =
    let class = parted w (z ++ t ∷ []) (around u c (w ++ (z ++ t ∷ [])) s).1 in
    decls_formed (name_formed n class.0) ds (parted z (t ∷ []) class.1).0

-- ---- statements

sub_formed : {w : Word} {x : Sub} → SubOf w x → Spelled w → formed_sub x ≡ true
sub_formed (all_places t h) s = refl
sub_formed (one_place x) s = expr_formed x s
sub_formed (places {v} {w} t x h y) s = let parts = around v t w s in and_from _ _ (expr_formed x parts.0) (expr_formed y parts.1)

sub_list_formed : {w : Word} {xs : List Sub} → SubList w xs → Spelled w → list_all formed_sub xs ≡ true
sub_list_formed (one_sub x) s = and_from _ _ (sub_formed x s) refl
sub_list_formed (more_subs {v} {w} t {ss} {s = x} xs h y) s = let parts = around v t w s in further formed_sub ss x (sub_list_formed xs parts.0) (sub_formed y parts.1)

subs_formed : {w : Word} {xs : List Sub} → Subs w xs → Spelled w → list_all formed_sub xs ≡ true
subs_formed no_sub s = refl
subs_formed (subs a b {w} h x i) s = sub_list_formed x (between a w b s)

part_formed : {w : Word} {x : Part} → PartOf w x → Spelled w → formed_part x ≡ true
part_formed (part i {w} h x) s = let name = front i w s in and_from _ _ (ident_formed i h name.0) (subs_formed x name.1)

parts_formed : {w : Word} {xs : List Part} → RefOf w xs → Spelled w → list_all formed_part xs ≡ true
parts_formed (one_part x) s = and_from _ _ (part_formed x s) refl
parts_formed (more_parts {v} {w} p {xs} {x} r h y) s = let parts = around v p w s in further formed_part xs x (parts_formed r parts.0) (part_formed y parts.1)

parts_some : {w : Word} {xs : List Part} → RefOf w xs → is_some xs ≡ true
parts_some (one_part x) = refl
parts_some (more_parts p {xs} {x} r h y) = some_behind xs x

connect_formed : {w : Word} {c : Connect} → ConnectOf w c → Spelled w → formed_connect c ≡ true
unfolding the_connect
connect_formed (connect c o m e t {v} {w} {z} h i l j r n k q) s =
    let inner = front o (v ++ m ∷ (w ++ e ∷ (z ++ t ∷ []))) (front c (o ∷ (v ++ m ∷ (w ++ e ∷ (z ++ t ∷ [])))) s).1 in
    let left = around v m (w ++ e ∷ (z ++ t ∷ [])) inner.1 in
    and_from _ _ (and_from _ _ (parts_some l) (parts_formed l left.0)) (and_from _ _ (parts_some r) (parts_formed r (around w e (z ++ t ∷ []) left.1).0))

connect_is : (c : Connect) → formed_statement (variant.Connect c) ≡ formed_connect c
unfolding formed_statement
connect_is c = search (rules, statement_lemmas)

loop_is : (i : Ident) (l h : Expr) (xs : List Statement) (w : Word)
    → formed_statement (variant.Loop (the_loop i l h xs w)) ≡ (formed_ident i && (is_formed l && (is_formed h && all_of (map formed_statement xs))))
unfolding formed_statement the_loop
loop_is i l h xs w = search (rules, statement_lemmas)

mutual
  statement_formed : {w : Word} {x : Statement} → StatementOf w x → Spelled w → formed_statement x ≡ true
  statement_formed (a_connect {c = c} x) s = connect_is c ∙ connect_formed x s
  statement_formed (a_loop x) s = loop_formed x s

  loop_formed : {w : Word} {l : Loop} → LoopOf w l → Spelled w → formed_statement (variant.Loop l) ≡ true
  loop_formed (loop f i n c o e g t {u} {v} {w} {body = xs} hf hi hn l hc h ho b he hg ht) s =
      let behind = w ++ e ∷ g ∷ t ∷ [] in
      let index = front i (n ∷ (u ++ c ∷ (v ++ o ∷ behind))) (front f (i ∷ n ∷ (u ++ c ∷ (v ++ o ∷ behind))) s).1 in
      let low = around u c (v ++ o ∷ behind) (front n (u ++ c ∷ (v ++ o ∷ behind)) index.1).1 in
      let high = around v o behind low.1 in
      loop_is (the_ident i) _ _ xs _
      ∙ and_from _ _ (ident_formed i hi index.0) (and_from _ _ (expr_formed l low.0) (and_from _ _ (expr_formed h high.0)
      (all_is formed_statement xs ∙ body_formed b (around w e (g ∷ t ∷ []) high.1).0)))

  body_formed : {w : Word} {xs : List Statement} → Body w xs → Spelled w → list_all formed_statement xs ≡ true
  body_formed no_body s = refl
  body_formed (more_body {v} {w} {xs} {x} b y) s = let parts = parted v w s in further formed_statement xs x (body_formed b parts.0) (statement_formed y parts.1)

statements_formed : {w : Word} {xs : List Statement} → Statements w xs → Spelled w → list_all formed_statement xs ≡ true
statements_formed no_statement s = refl
statements_formed (then_statement {v} {w} {xs} {x} b y) s = let parts = parted v w s in further formed_statement xs x (statements_formed b parts.0) (statement_formed y parts.1)
statements_formed (then_note {v} {w} t b n h) s = statements_formed b (parted v (w ++ t ∷ []) s).0

pub equation_formed : {w : Word} {xs : List Statement} → EquationPart w xs → Spelled w → list_all formed_statement xs ≡ true
equation_formed no_equation s = refl
equation_formed (equation t {w} h xs) s = statements_formed xs (front t w s).1
