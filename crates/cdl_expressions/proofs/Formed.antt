-- Every expression and every argument of a text is formed.
use Rattle.std.proofs.Common.{◌≡◌, ℕ, ℤ, Bool, true, ◌&&◌, List, [], ◌∷◌, ◌++◌, map, Option, Some, None, refl, sym, ap, ◌∙◌, subst, rules}
use Rattle.std.specs.List.{list_all}
use Rattle.std.specs.Str.{is_utf8}
use Rattle.std.proofs.lemmas.List.Folds.{list_all-append}
use Rattle.std.proofs.lemmas.Bool.{and_from, and_parts}
use Rattle.cdl_tree.specs.declared.terminal.Terminal.{Terminal}
use Rattle.cdl_tree.specs.declared.terminal.Terminal.TheVariants as the
use Rattle.cdl_tree.specs.declared.name.Ident.{Ident}
use Rattle.cdl_tree.specs.declared.expr.Op.{Op}
use Rattle.cdl_tree.specs.declared.expr.Op.TheVariants as op
use Rattle.cdl_tree.specs.declared.expr.Expr.{Expr, the_lemmas}
use Rattle.cdl_tree.specs.declared.expr.Node.TheVariants as node
use Rattle.cdl_tree.specs.declared.class.Modifier.{Modifier, the_lemmas as modifier_lemmas}
use Rattle.cdl_tree.specs.Words.{Lexeme, Word}
use Rattle.cdl_tree.specs.Trees.{tree, the_ident, the_name, the_modifier}
use Rattle.cdl_tree.specs.Proper.{all_of}
use Rattle.cdl_tree.specs.Spelled.{is_spelled_as, is_spelled, are_spelled}
use Rattle.cdl_tree.specs.Formed.{formed_ident, formed_name, is_integer, is_not_negative, is_written, is_formed}
use Rattle.cdl_tree.specs.FormedFiles.{formed_value, formed_modifier}
use Rattle.cdl_tree.specs.Grammar.{NameOf, single, dotted, ExprOf, conditional, logical, Otherwise, otherwise_if, otherwise, Lor, one_land, or_land, Land, one_lnot, and_lnot, Lnot, as_it_is, not_rel, Rel, one_sum, compared, Sum, one_term, signed, added, Term, one_prim, times, Prim, integer, real, string, true_word, false_word, paren, array, call, refer, Operands, no_operand, operands, Subscripts, no_subscript, subscripts, Exprs, one_expr, more_exprs, Value, no_value, value, Condition, no_condition, condition, ArgsOf, no_arg, args, ArgList, one_arg, more_args, OptionalArgs, without_args, with_args, ArgOf, arg}
use Rattle.cdl_tree.proofs.Shapes.{name_some, expr_proper}
use Rattle.cdl_expressions.proofs.Meant.{integer_fits, real_not_negative, string_utf8}

-- ---- spelled words

abbrev pub Spelled : Word → Type 0
Spelled w = are_spelled w ≡ true

pub parted : (v w : Word) → Spelled (v ++ w) → Spelled v × Spelled w
parted v w s = and_parts (are_spelled v) (are_spelled w) (sym (list_all-append is_spelled v w) ∙ s)

pub front : (t : Lexeme) (w : Word) → Spelled (t ∷ w) → (is_spelled t ≡ true) × Spelled w
front t w s = and_parts (is_spelled t) (are_spelled w) s

-- before and behind a token, and between two
pub around : (v : Word) (t : Lexeme) (w : Word) → Spelled (v ++ t ∷ w) → Spelled v × Spelled w
around v t w s = let parts = parted v (t ∷ w) s in (parts.0, (front t w parts.1).1)

pub between : (a : Lexeme) (w : Word) (b : Lexeme) → Spelled (a ∷ (w ++ b ∷ [])) → Spelled w
between a w b s = (parted w (b ∷ []) (front a (w ++ b ∷ []) s).1).0

pub spelled_as : (t : Lexeme) (terminal : Terminal) → t.terminal ≡ terminal → is_spelled t ≡ true → is_spelled_as terminal t.text ≡ true
spelled_as t terminal e s = subst (λ k. is_spelled_as k t.text ≡ true) e s

pub ident_formed : (t : Lexeme) → t.terminal ≡ the.Identifier → is_spelled t ≡ true → formed_ident (the_ident t) ≡ true
ident_formed t e s = spelled_as t the.Identifier e s

-- ---- names

pub further : {A : Type 0} (p : A → Bool) (xs : List A) (x : A) → list_all p xs ≡ true → p x ≡ true → list_all p (xs ++ x ∷ []) ≡ true
further p xs x h i = list_all-append p xs (x ∷ []) ∙ and_from _ _ h (and_from _ _ i refl)

pub parts_formed : {w : Word} {parts : List Ident} → NameOf w parts → Spelled w → list_all formed_ident parts ≡ true
parts_formed (single a h) s = and_from _ _ (ident_formed a h (front a [] s).0) refl
parts_formed (dotted {v} p a {parts} n h i) s =
    let halves = parted v (p ∷ a ∷ []) s in
    let last = front a [] (front p (a ∷ []) halves.1).1 in
    further formed_ident parts (the_ident a) (parts_formed n halves.0) (ident_formed a i last.0)

pub name_formed : {w : Word} {parts : List Ident} → NameOf w parts → Spelled w → formed_name (the_name parts) ≡ true
name_formed n s = and_from _ _ (name_some n) (parts_formed n s)

-- ---- what a node of each shape owes

integer_is : (z : ℤ) (w : Word) → is_written (tree (node.Integer z) w) ≡ is_integer z
unfolding is_written tree
integer_is z w = search (rules, the_lemmas)

real_is : (q : ℤ) (w : Word) → is_written (tree (node.Real q) w) ≡ is_not_negative q
unfolding is_written tree
real_is q w = search (rules, the_lemmas)

string_is : (s : List ℕ) (w : Word) → is_written (tree (node.Str s) w) ≡ is_utf8 s
unfolding is_written tree
string_is s w = search (rules, the_lemmas)

boolean_is : (b : Bool) (w : Word) → is_written (tree (node.Boolean b) w) ≡ true
unfolding is_written tree
boolean_is b w = search (rules, the_lemmas)

unary_is : (o : Op) (e : Expr) (w : Word) → is_written (tree (node.Unary o e) w) ≡ is_written e
unfolding is_written tree
unary_is o e w = search (rules, the_lemmas)

binary_is : (o : Op) (l r : Expr) (w : Word) → is_written (tree (node.Binary o l r) w) ≡ (is_written l && is_written r)
unfolding is_written tree
binary_is o l r w = search (rules, the_lemmas)

choice_is : (c x y : Expr) (w : Word) → is_written (tree (node.If c x y) w) ≡ (is_written c && (is_written x && is_written y))
unfolding is_written tree
choice_is c x y w = search (rules, the_lemmas)

array_is : (es : List Expr) (w : Word) → is_written (tree (node.Array es) w) ≡ all_of (map is_written es)
unfolding is_written tree
array_is es w = search (rules, the_lemmas)

call_is : (f : Ident) (es : List Expr) (w : Word) → is_written (tree (node.Call f es) w) ≡ (formed_ident f && all_of (map is_written es))
unfolding is_written tree
call_is f es w = search (rules, the_lemmas)

refer_is : (parts : List Ident) (es : List Expr) (w : Word) → is_written (tree (node.Refer (the_name parts) es) w) ≡ (list_all formed_ident parts && all_of (map is_written es))
unfolding is_written tree
refer_is parts es w = search (rules, the_lemmas)

binary : (o : Op) (l r : Expr) (w : Word) → is_written l ≡ true → is_written r ≡ true → is_written (tree (node.Binary o l r) w) ≡ true
binary o l r w i j = binary_is o l r w ∙ and_from _ _ i j

choice : (c x y : Expr) (w : Word) → is_written c ≡ true → is_written x ≡ true → is_written y ≡ true → is_written (tree (node.If c x y) w) ≡ true
choice c x y w h i j = choice_is c x y w ∙ and_from _ _ h (and_from _ _ i j)

all_behind : (es : List Expr) (e : Expr) → all_of (map is_written es) ≡ true → is_written e ≡ true → all_of (map is_written (es ++ e ∷ [])) ≡ true
all_behind [] e h i = and_from _ _ i refl
all_behind (x ∷ es) e h i = let parts = and_parts (is_written x) (all_of (map is_written es)) h in and_from _ _ parts.0 (all_behind es e parts.1 i)

-- ---- expressions

-- the three parts of a choice behind its first word
chosen : (i : Lexeme) (u : Word) (t : Lexeme) (v w : Word) → Spelled (i ∷ (u ++ t ∷ (v ++ w))) → Spelled u × (Spelled v × Spelled w)
chosen i u t v w s = let parts = around u t (v ++ w) (front i (u ++ t ∷ (v ++ w)) s).1 in (parts.0, parted v w parts.1)

mutual
  expr_written : {w : Word} {e : Expr} → ExprOf w e → Spelled w → is_written e ≡ true
  expr_written (conditional i t {u} {v} {w} h c g x y) s =
      let parts = chosen i u t v w s in choice _ _ _ _ (expr_written c parts.0) (expr_written x parts.1.0) (otherwise_written y parts.1.1)
  expr_written (logical x) s = lor_written x s

  otherwise_written : {w : Word} {e : Expr} → Otherwise w e → Spelled w → is_written e ≡ true
  otherwise_written (otherwise_if i t {u} {v} {w} h c g x y) s =
      let parts = chosen i u t v w s in choice _ _ _ _ (expr_written c parts.0) (expr_written x parts.1.0) (otherwise_written y parts.1.1)
  otherwise_written (otherwise t {w} h x) s = expr_written x (front t w s).1

  lor_written : {w : Word} {e : Expr} → Lor w e → Spelled w → is_written e ≡ true
  lor_written (one_land x) s = land_written x s
  lor_written (or_land {v} {w} t x h y) s = let parts = around v t w s in binary op.Or _ _ _ (lor_written x parts.0) (land_written y parts.1)

  land_written : {w : Word} {e : Expr} → Land w e → Spelled w → is_written e ≡ true
  land_written (one_lnot x) s = lnot_written x s
  land_written (and_lnot {v} {w} t x h y) s = let parts = around v t w s in binary op.And _ _ _ (land_written x parts.0) (lnot_written y parts.1)

  lnot_written : {w : Word} {e : Expr} → Lnot w e → Spelled w → is_written e ≡ true
  lnot_written (as_it_is x) s = rel_written x s
  lnot_written (not_rel t {w} h x) s = unary_is op.Not _ _ ∙ rel_written x (front t w s).1

  rel_written : {w : Word} {e : Expr} → Rel w e → Spelled w → is_written e ≡ true
  rel_written (one_sum x) s = sum_written x s
  rel_written (compared {v} {w} t {o} x h y) s = let parts = around v t w s in binary o _ _ _ (sum_written x parts.0) (sum_written y parts.1)

  sum_written : {w : Word} {e : Expr} → Sum w e → Spelled w → is_written e ≡ true
  sum_written (one_term x) s = term_written x s
  sum_written (signed t {w} {o = o} h x) s = unary_is o _ _ ∙ term_written x (front t w s).1
  sum_written (added {v} {w} t {o} x h y) s = let parts = around v t w s in binary o _ _ _ (sum_written x parts.0) (term_written y parts.1)

  term_written : {w : Word} {e : Expr} → Term w e → Spelled w → is_written e ≡ true
  term_written (one_prim x) s = prim_written x s
  term_written (times {v} {w} t {o} x h y) s = let parts = around v t w s in binary o _ _ _ (term_written x parts.0) (prim_written y parts.1)

  prim_written : {w : Word} {e : Expr} → Prim w e → Spelled w → is_written e ≡ true
  prim_written (integer t {z} h i) s = integer_is z _ ∙ integer_fits t.text z i
  prim_written (real t {q} h i) s = real_is q _ ∙ real_not_negative t.text q i (spelled_as t the.Real h (front t [] s).0)
  prim_written (string t {s = x} h i) s = string_is x _ ∙ string_utf8 t.text x (spelled_as t the.Str h (front t [] s).0) i
  prim_written (true_word t h) s = boolean_is _ _
  prim_written (false_word t h) s = boolean_is _ _
  prim_written (paren a b {w} h x i) s = expr_written x (between a w b s)
  prim_written (array a b {w} {es} h x i) s = array_is es _ ∙ exprs_written x (between a w b s)
  prim_written (call f a b {w} {es} h i x j) s =
      let parts = front f (a ∷ (w ++ b ∷ [])) s in
      call_is (the_ident f) es _ ∙ and_from _ _ (ident_formed f h parts.0) (operands_written x (between a w b parts.1))
  prim_written (refer {v} {w} {parts} {es} n x) s =
      let halves = parted v w s in refer_is parts es _ ∙ and_from _ _ (parts_formed n halves.0) (subscripts_written x halves.1)

  operands_written : {w : Word} {es : List Expr} → Operands w es → Spelled w → all_of (map is_written es) ≡ true
  operands_written no_operand s = refl
  operands_written (operands x) s = exprs_written x s

  subscripts_written : {w : Word} {es : List Expr} → Subscripts w es → Spelled w → all_of (map is_written es) ≡ true
  subscripts_written no_subscript s = refl
  subscripts_written (subscripts a b {w} h x i) s = exprs_written x (between a w b s)

  exprs_written : {w : Word} {es : List Expr} → Exprs w es → Spelled w → all_of (map is_written es) ≡ true
  exprs_written (one_expr x) s = and_from _ _ (expr_written x s) refl
  exprs_written (more_exprs {v} {w} t {es} {e} xs h x) s = let parts = around v t w s in all_behind es e (exprs_written xs parts.0) (expr_written x parts.1)

pub expr_formed : {w : Word} {e : Expr} → ExprOf w e → Spelled w → is_formed e ≡ true
unfolding is_formed
expr_formed x s = and_from _ _ (expr_proper x) (expr_written x s)

-- ---- values and arguments

pub value_formed : {w : Word} {e : Option Expr} → Value w e → Spelled w → formed_value e ≡ true
value_formed no_value s = refl
value_formed (value t {w} h x) s = expr_formed x (front t w s).1

pub condition_formed : {w : Word} {e : Option Expr} → Condition w e → Spelled w → formed_value e ≡ true
condition_formed no_condition s = refl
condition_formed (condition t {w} h x) s = expr_formed x (front t w s).1

abbrev pub inside : Option (List Modifier) → Bool
inside None = true
inside (Some ms) = list_all formed_modifier ms

pub all_is : {A : Type 0} (p : A → Bool) (xs : List A) → all_of (map p xs) ≡ list_all p xs
all_is p [] = refl
all_is p (x ∷ xs) = ap (λ z. p x && z) (all_is p xs)

modifier_alone : (each is_final : Bool) (name : Ident) (e : Option Expr) (w : Word) → formed_modifier (the_modifier each is_final name None e w) ≡ (formed_ident name && formed_value e)
unfolding formed_modifier the_modifier
modifier_alone each is_final name e w = search (rules, modifier_lemmas)

modifier_with : (each is_final : Bool) (name : Ident) (ms : List Modifier) (e : Option Expr) (w : Word)
    → formed_modifier (the_modifier each is_final name (Some ms) e w) ≡ (formed_ident name && (all_of (map formed_modifier ms) && formed_value e))
unfolding formed_modifier the_modifier
modifier_with each is_final name ms e w = search (rules, modifier_lemmas)

a_modifier : (each is_final : Bool) (name : Ident) (ms : Option (List Modifier)) (e : Option Expr) (w : Word) → formed_ident name ≡ true → inside ms ≡ true → formed_value e ≡ true
    → formed_modifier (the_modifier each is_final name ms e w) ≡ true
a_modifier each is_final name None e w n h i = modifier_alone each is_final name e w ∙ and_from _ _ n i
a_modifier each is_final name (Some ms) e w n h i = modifier_with each is_final name ms e w ∙ and_from _ _ n (and_from _ _ (all_is formed_modifier ms ∙ h) i)

mutual
  pub args_formed : {w : Word} {ms : List Modifier} → ArgsOf w ms → Spelled w → list_all formed_modifier ms ≡ true
  args_formed (no_arg a b h i) s = refl
  args_formed (args a b {w} h x i) s = list_formed x (between a w b s)

  list_formed : {w : Word} {ms : List Modifier} → ArgList w ms → Spelled w → list_all formed_modifier ms ≡ true
  list_formed (one_arg x) s = and_from _ _ (arg_formed x s) refl
  list_formed (more_args {v} {w} t {ms} {m} xs h x) s = let parts = around v t w s in further formed_modifier ms m (list_formed xs parts.0) (arg_formed x parts.1)

  pub optional_formed : {w : Word} {ms : Option (List Modifier)} → OptionalArgs w ms → Spelled w → inside ms ≡ true
  optional_formed without_args s = refl
  optional_formed (with_args x) s = args_formed x s

  arg_formed : {w : Word} {m : Modifier} → ArgOf w m → Spelled w → formed_modifier m ≡ true
  arg_formed (arg {q} {r} {u} {v} {w} i {each} {is_final} {ms} {e} hq hr hi hu hv hw) s =
      let behind = parted r (i ∷ (u ++ (v ++ w))) (parted q (r ++ i ∷ (u ++ (v ++ w))) s).1 in
      let parts = front i (u ++ (v ++ w)) behind.1 in
      let inner = parted u (v ++ w) parts.1 in
      a_modifier each is_final (the_ident i) ms e _ (ident_formed i hi parts.0) (optional_formed hu inner.0) (value_formed hv (parted v w inner.1).0)
