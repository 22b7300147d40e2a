-- Declarations and statements have no more names than tokens.
use Rattle.std.proofs.Common.{◌≡◌, ℕ, suc, ◌+◌, ◌≤◌, List, [], ◌∷◌, ◌++◌, length, Option, Some, None, arith, rules, length-append}
use Rattle.cdl_tree.specs.declared.name.Ident.{Ident}
use Rattle.cdl_tree.specs.declared.expr.Expr.{Expr}
use Rattle.cdl_tree.specs.declared.class.Dim.{Dim}
use Rattle.cdl_tree.specs.declared.class.Modifier.{Modifier}
use Rattle.cdl_tree.specs.declared.class.Item.{Item}
use Rattle.cdl_tree.specs.declared.class.Part.{Part}
use Rattle.cdl_tree.specs.declared.class.Sub.{Sub}
use Rattle.cdl_tree.specs.declared.class.Connect.{Connect}
use Rattle.cdl_tree.specs.declared.class.Statement.{Statement, the_lemmas as statement_lemmas}
use Rattle.cdl_tree.specs.declared.class.Statement.TheVariants as variant
use Rattle.cdl_tree.specs.declared.class.Loop.{Loop}
use Rattle.cdl_tree.specs.Words.{Word}
use Rattle.cdl_tree.specs.Trees.{the_ident, listed, Head, the_item, the_connect, the_loop}
use Rattle.cdl_tree.specs.Grammar.{DimOf, any_size, a_size, DimList, one_dim, more_dims, Dims, no_dim, dims, DeclOf, decl, Decls, one_decl, more_decls, ClauseOf, clause, ConstantOf, constant, SubOf, all_places, one_place, places, SubList, one_sub, more_subs, Subs, no_sub, subs, PartOf, part, RefOf, one_part, more_parts, ConnectOf, connect, StatementOf, a_connect, a_loop, LoopOf, loop, Body, no_body, more_body, Statements, no_statement, then_statement, then_note, EquationPart, no_equation, equation}
use Rattle.cdl_expressions.specs.Names.{names_in, names_of_modifier}
use Rattle.cdl_expressions.proofs.Counted.{total_behind, around, beside, between, expr_counted, value_counted, condition_counted, names_of_args, optional_counted}
use Rattle.cdl_clauses.specs.Names.{names_of, names_of_dim, names_of_item, names_of_sub, names_of_part, names_of_connect, names_of_statement}

pub names_joined : {A : Type 0} (f : A → ℕ) (xs ys : List A) → names_of f (xs ++ ys) ≡ names_of f xs + names_of f ys
names_joined f [] ys = omega arith
names_joined f (x ∷ xs) ys = let later = names_joined f xs ys in omega (arith, later)

-- ---- declarations

listed_counted : (ms : Option (List Modifier)) → names_of names_of_modifier (listed ms) ≡ names_of_args ms
listed_counted None = omega arith
listed_counted (Some ms) = omega arith

dim_counted : {w : Word} {d : Dim} → DimOf w d → names_of_dim d ≤ length w
dim_counted (any_size t h) = omega arith
dim_counted (a_size x) = expr_counted x

dim_list_counted : {w : Word} {ds : List Dim} → DimList w ds → names_of names_of_dim ds ≤ length w
dim_list_counted (one_dim x) = omega (arith, dim_counted x)
dim_list_counted (more_dims {v} {w} t {ds} {d} xs h x) = omega (arith, total_behind names_of_dim ds d, around _ _ v t w (dim_list_counted xs) (dim_counted x))

dims_counted : {w : Word} {ds : List Dim} → Dims w ds → names_of names_of_dim ds ≤ length w
dims_counted no_dim = omega arith
dims_counted (dims a b {w} h x i) = between _ a w b (dim_list_counted x)

decl_counted : {head : Head} {w : Word} {x : Item} → DeclOf head w x → names_of_item x ≤ length w
unfolding the_item
decl_counted (decl i {u} {v} {x} {y} {z} {ds} {ms} {e} {c} h d a k l t) =
    omega (
      arith,
      dims_counted d,
      listed_counted ms,
      optional_counted a,
      value_counted k,
      condition_counted l,
      length-append u (v ++ (x ++ (y ++ z))),
      length-append v (x ++ (y ++ z)),
      length-append x (y ++ z),
      length-append y z,
    )

decls_counted : {head : Head} {w : Word} {xs : List Item} → Decls head w xs → names_of names_of_item xs ≤ length w
decls_counted (one_decl x) = omega (arith, decl_counted x)
decls_counted (more_decls {v} {w} t {xs} {x} ds h d) = omega (arith, total_behind names_of_item xs x, around _ _ v t w (decls_counted ds) (decl_counted d))

pub clause_counted : {w : Word} {xs : List Item} → ClauseOf w xs → names_of names_of_item xs ≤ length w
clause_counted (clause {u} {v} {w} {z} t f p n ds h) =
    omega (arith, decls_counted ds, length-append u (v ++ (w ++ (z ++ t ∷ []))), length-append v (w ++ (z ++ t ∷ [])), length-append w (z ++ t ∷ []), length-append z (t ∷ []))

pub constant_counted : {w : Word} {xs : List Item} → ConstantOf w xs → names_of names_of_item xs ≤ length w
constant_counted (constant {u} {w} {z} c t f h n ds i) =
    omega (arith, decls_counted ds, length-append u (c ∷ (w ++ (z ++ t ∷ []))), length-append w (z ++ t ∷ []), length-append z (t ∷ []))

-- ---- statements

sub_counted : {w : Word} {x : Sub} → SubOf w x → names_of_sub x ≤ length w
sub_counted (all_places t h) = omega arith
sub_counted (one_place x) = expr_counted x
sub_counted (places {v} {w} t x h y) = around _ _ v t w (expr_counted x) (expr_counted y)

sub_list_counted : {w : Word} {xs : List Sub} → SubList w xs → names_of names_of_sub xs ≤ length w
sub_list_counted (one_sub x) = omega (arith, sub_counted x)
sub_list_counted (more_subs {v} {w} t {ss} {s = x} xs h y) = omega (arith, total_behind names_of_sub ss x, around _ _ v t w (sub_list_counted xs) (sub_counted y))

subs_counted : {w : Word} {xs : List Sub} → Subs w xs → names_of names_of_sub xs ≤ length w
subs_counted no_sub = omega arith
subs_counted (subs a b {w} h x i) = between _ a w b (sub_list_counted x)

part_counted : {w : Word} {x : Part} → PartOf w x → names_of_part x ≤ length w
part_counted (part i h x) = omega (arith, subs_counted x)

parts_counted : {w : Word} {xs : List Part} → RefOf w xs → names_of names_of_part xs ≤ length w
parts_counted (one_part x) = omega (arith, part_counted x)
parts_counted (more_parts {v} {w} p {xs} {x} r h y) = omega (arith, total_behind names_of_part xs x, around _ _ v p w (parts_counted r) (part_counted y))

connect_counted : {w : Word} {c : Connect} → ConnectOf w c → names_of_connect c ≤ length w
unfolding the_connect
connect_counted (connect c o m e s {v} {w} {z} h i l j r n k q) =
    omega (arith, parts_counted l, parts_counted r, length-append v (m ∷ (w ++ e ∷ (z ++ s ∷ []))), length-append w (e ∷ (z ++ s ∷ [])))

connect_has : (c : Connect) → names_of_statement (variant.Connect c) ≡ names_of_connect c
unfolding names_of_statement
connect_has c = search (rules, statement_lemmas)

loop_has : (i : Ident) (l h : Expr) (xs : List Statement) (w : Word)
    → names_of_statement (variant.Loop (the_loop i l h xs w)) ≡ suc (names_in l + (names_in h + names_of names_of_statement xs))
unfolding names_of_statement the_loop
loop_has i l h xs w = search (rules, statement_lemmas)

mutual
  statement_counted : {w : Word} {x : Statement} → StatementOf w x → names_of_statement x ≤ length w
  statement_counted (a_connect {c = c} x) = omega (arith, connect_has c, connect_counted x)
  statement_counted (a_loop x) = loop_counted x

  loop_counted : {w : Word} {l : Loop} → LoopOf w l → names_of_statement (variant.Loop l) ≤ length w
  loop_counted (loop f i n c o e g s {u} {v} {w} {l} {h} {body = xs} hf hi hn x hc y ho b he hg hs) =
      omega (
        arith,
        loop_has (the_ident i) l h xs (f ∷ i ∷ n ∷ (u ++ c ∷ (v ++ o ∷ (w ++ e ∷ g ∷ s ∷ [])))),
        expr_counted x,
        expr_counted y,
        body_counted b,
        length-append u (c ∷ (v ++ o ∷ (w ++ e ∷ g ∷ s ∷ []))),
        length-append v (o ∷ (w ++ e ∷ g ∷ s ∷ [])),
        length-append w (e ∷ g ∷ s ∷ []),
      )

  body_counted : {w : Word} {xs : List Statement} → Body w xs → names_of names_of_statement xs ≤ length w
  body_counted no_body = omega arith
  body_counted (more_body {v} {w} {xs} {x} b y) = omega (arith, total_behind names_of_statement xs x, beside _ _ v w (body_counted b) (statement_counted y))

statements_counted : {w : Word} {xs : List Statement} → Statements w xs → names_of names_of_statement xs ≤ length w
statements_counted no_statement = omega arith
statements_counted (then_statement {v} {w} {xs} {x} b y) = omega (arith, total_behind names_of_statement xs x, beside _ _ v w (statements_counted b) (statement_counted y))
statements_counted (then_note {v} {w} s b n h) = omega (arith, statements_counted b, length-append v (w ++ s ∷ []))

pub equation_counted : {w : Word} {xs : List Statement} → EquationPart w xs → names_of names_of_statement xs ≤ length w
equation_counted no_equation = omega arith
equation_counted (equation t h xs) = omega (arith, statements_counted xs)
