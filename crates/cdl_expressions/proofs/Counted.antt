-- Expressions and arguments have no more names than tokens.
use Rattle.std.proofs.Common.{◌≡◌, ℕ, ℤ, suc, ◌+◌, ◌≤◌, Bool, true, false, List, [], ◌∷◌, ◌++◌, length, map, Option, Some, None, ap, ◌∙◌, arith, rules, length-append}
use Rattle.cdl_tree.specs.declared.name.Ident.{Ident}
use Rattle.cdl_tree.specs.declared.expr.Op.{Op}
use Rattle.cdl_tree.specs.declared.expr.Op.TheVariants as op
use Rattle.cdl_tree.specs.declared.expr.Expr.{Expr, the_lemmas}
use Rattle.cdl_tree.specs.declared.expr.Node.TheVariants as node
use Rattle.cdl_tree.specs.declared.class.Modifier.{Modifier, the_lemmas as modifier_lemmas}
use Rattle.cdl_tree.specs.Words.{Lexeme, Word}
use Rattle.cdl_tree.specs.Trees.{tree, the_ident, the_name, the_modifier}
use Rattle.cdl_tree.specs.Grammar.{ExprOf, conditional, logical, Otherwise, otherwise_if, otherwise, Lor, one_land, or_land, Land, one_lnot, and_lnot, Lnot, as_it_is, not_rel, Rel, one_sum, compared, Sum, one_term, signed, added, Term, one_prim, times, Prim, integer, real, string, true_word, false_word, paren, array, call, refer, Operands, no_operand, operands, Subscripts, no_subscript, subscripts, Exprs, one_expr, more_exprs, Value, no_value, value, Condition, no_condition, condition, ArgsOf, no_arg, args, ArgList, one_arg, more_args, OptionalArgs, without_args, with_args, ArgOf, arg}
use Rattle.cdl_expressions.specs.Names.{total, names_in, names_of_value, names_of_modifier}
use Rattle.cdl_expressions.proofs.ExprLaws.{name_some}

-- ---- what a node of each shape has

integer_has : (z : ℤ) (w : Word) → names_in (tree (node.Integer z) w) ≡ 0
unfolding names_in tree
integer_has z w = search (rules, the_lemmas)

real_has : (q : ℤ) (w : Word) → names_in (tree (node.Real q) w) ≡ 0
unfolding names_in tree
real_has q w = search (rules, the_lemmas)

string_has : (s : List ℕ) (w : Word) → names_in (tree (node.Str s) w) ≡ 0
unfolding names_in tree
string_has s w = search (rules, the_lemmas)

boolean_has : (b : Bool) (w : Word) → names_in (tree (node.Boolean b) w) ≡ 0
unfolding names_in tree
boolean_has b w = search (rules, the_lemmas)

unary_has : (o : Op) (e : Expr) (w : Word) → names_in (tree (node.Unary o e) w) ≡ names_in e
unfolding names_in tree
unary_has o e w = search (rules, the_lemmas)

binary_has : (o : Op) (l r : Expr) (w : Word) → names_in (tree (node.Binary o l r) w) ≡ names_in l + names_in r
unfolding names_in tree
binary_has o l r w = search (rules, the_lemmas)

choice_has : (c x y : Expr) (w : Word) → names_in (tree (node.If c x y) w) ≡ names_in c + (names_in x + names_in y)
unfolding names_in tree
choice_has c x y w = search (rules, the_lemmas)

array_has : (es : List Expr) (w : Word) → names_in (tree (node.Array es) w) ≡ total (map names_in es)
unfolding names_in tree
array_has es w = search (rules, the_lemmas)

call_has : (f : Ident) (es : List Expr) (w : Word) → names_in (tree (node.Call f es) w) ≡ suc (total (map names_in es))
unfolding names_in tree
call_has f es w = search (rules, the_lemmas)

refer_has : (parts : List Ident) (es : List Expr) (w : Word) → names_in (tree (node.Refer (the_name parts) es) w) ≡ suc (total (map names_in es))
unfolding names_in tree
refer_has parts es w = search (rules, the_lemmas)

pub total_behind : {A : Type 0} (f : A → ℕ) (xs : List A) (x : A) → total (map f (xs ++ x ∷ [])) ≡ total (map f xs) + f x
total_behind f [] x = omega arith
total_behind f (y ∷ xs) x = let later = total_behind f xs x in omega (arith, later)

-- ---- words

-- each list has at most as many names as its word has tokens, so has what a token stands between
pub around : (m n : ℕ) (v : Word) (t : Lexeme) (w : Word) → m ≤ length v → n ≤ length w → m + n ≤ length (v ++ t ∷ w)
around m n v t w a b = omega (arith, a, b, length-append v (t ∷ w))

pub beside : (m n : ℕ) (v w : Word) → m ≤ length v → n ≤ length w → m + n ≤ length (v ++ w)
beside m n v w a b = omega (arith, a, b, length-append v w)

pub between : (n : ℕ) (a : Lexeme) (w : Word) (b : Lexeme) → n ≤ length w → n ≤ length (a ∷ (w ++ b ∷ []))
between n a w b h = omega (arith, h, length-append w (b ∷ []))

choices : (i t : Lexeme) (u v w : Word) (c x y e : ℕ) → e ≡ c + (x + y) → c ≤ length u → x ≤ length v → y ≤ length w → e ≤ length (i ∷ (u ++ t ∷ (v ++ w)))
choices i t u v w c x y e h p q r = omega (arith, h, p, q, r, length-append u (t ∷ (v ++ w)), length-append v w)

binary : (o : Op) (v : Word) (t : Lexeme) (w : Word) (l r : Expr) → names_in l ≤ length v → names_in r ≤ length w → names_in (tree (node.Binary o l r) (v ++ t ∷ w)) ≤ length (v ++ t ∷ w)
binary o v t w l r a b = omega (arith, binary_has o l r (v ++ t ∷ w), around (names_in l) (names_in r) v t w a b)

unary : (o : Op) (t : Lexeme) (w : Word) (e : Expr) → names_in e ≤ length w → names_in (tree (node.Unary o e) (t ∷ w)) ≤ length (t ∷ w)
unary o t w e a = omega (arith, unary_has o e (t ∷ w), a)

mutual
  pub expr_counted : {w : Word} {e : Expr} → ExprOf w e → names_in e ≤ length w
  expr_counted (conditional i t {u} {v} {w} {c = c} {x = x} {y = y} h a g b d) =
      choices i t u v w _ _ _ _ (choice_has c x y _) (expr_counted a) (expr_counted b) (otherwise_counted d)
  expr_counted (logical x) = lor_counted x

  otherwise_counted : {w : Word} {e : Expr} → Otherwise w e → names_in e ≤ length w
  otherwise_counted (otherwise_if i t {u} {v} {w} {c = c} {x = x} {y = y} h a g b d) =
      choices i t u v w _ _ _ _ (choice_has c x y _) (expr_counted a) (expr_counted b) (otherwise_counted d)
  otherwise_counted (otherwise t h x) = omega (arith, expr_counted x)

  lor_counted : {w : Word} {e : Expr} → Lor w e → names_in e ≤ length w
  lor_counted (one_land x) = land_counted x
  lor_counted (or_land {v} {w} t x h y) = binary op.Or v t w _ _ (lor_counted x) (land_counted y)

  land_counted : {w : Word} {e : Expr} → Land w e → names_in e ≤ length w
  land_counted (one_lnot x) = lnot_counted x
  land_counted (and_lnot {v} {w} t x h y) = binary op.And v t w _ _ (land_counted x) (lnot_counted y)

  lnot_counted : {w : Word} {e : Expr} → Lnot w e → names_in e ≤ length w
  lnot_counted (as_it_is x) = rel_counted x
  lnot_counted (not_rel t {w} h x) = unary op.Not t w _ (rel_counted x)

  rel_counted : {w : Word} {e : Expr} → Rel w e → names_in e ≤ length w
  rel_counted (one_sum x) = sum_counted x
  rel_counted (compared {v} {w} t {o} x h y) = binary o v t w _ _ (sum_counted x) (sum_counted y)

  sum_counted : {w : Word} {e : Expr} → Sum w e → names_in e ≤ length w
  sum_counted (one_term x) = term_counted x
  sum_counted (signed t {w} {o = o} h x) = unary o t w _ (term_counted x)
  sum_counted (added {v} {w} t {o} x h y) = binary o v t w _ _ (sum_counted x) (term_counted y)

  term_counted : {w : Word} {e : Expr} → Term w e → names_in e ≤ length w
  term_counted (one_prim x) = prim_counted x
  term_counted (times {v} {w} t {o} x h y) = binary o v t w _ _ (term_counted x) (prim_counted y)

  prim_counted : {w : Word} {e : Expr} → Prim w e → names_in e ≤ length w
  prim_counted (integer t {z} h i) = omega (arith, integer_has z (t ∷ []))
  prim_counted (real t {q} h i) = omega (arith, real_has q (t ∷ []))
  prim_counted (string t {s = x} h i) = omega (arith, string_has x (t ∷ []))
  prim_counted (true_word t h) = omega (arith, boolean_has true (t ∷ []))
  prim_counted (false_word t h) = omega (arith, boolean_has false (t ∷ []))
  prim_counted (paren a b {w} h x i) = between _ a w b (expr_counted x)
  prim_counted (array a b {w} {es} h x i) = omega (arith, array_has es (a ∷ (w ++ b ∷ [])), between _ a w b (exprs_counted x))
  prim_counted (call f a b {w} {es} h i x j) = omega (arith, call_has (the_ident f) es (f ∷ a ∷ (w ++ b ∷ [])), between _ a w b (operands_counted x))
  prim_counted (refer {v} {w} {parts} {es} n x) = omega (arith, refer_has parts es (v ++ w), name_some n, subscripts_counted x, length-append v w)

  operands_counted : {w : Word} {es : List Expr} → Operands w es → total (map names_in es) ≤ length w
  operands_counted no_operand = omega arith
  operands_counted (operands x) = exprs_counted x

  subscripts_counted : {w : Word} {es : List Expr} → Subscripts w es → total (map names_in es) ≤ length w
  subscripts_counted no_subscript = omega arith
  subscripts_counted (subscripts a b {w} h x i) = between _ a w b (exprs_counted x)

  exprs_counted : {w : Word} {es : List Expr} → Exprs w es → total (map names_in es) ≤ length w
  exprs_counted (one_expr x) = omega (arith, expr_counted x)
  exprs_counted (more_exprs {v} {w} t {es} {e} xs h x) = omega (arith, total_behind names_in es e, around _ _ v t w (exprs_counted xs) (expr_counted x))

-- ---- values and arguments

pub value_counted : {w : Word} {e : Option Expr} → Value w e → names_of_value e ≤ length w
value_counted no_value = omega arith
value_counted (value t h x) = omega (arith, expr_counted x)

pub condition_counted : {w : Word} {e : Option Expr} → Condition w e → names_of_value e ≤ length w
condition_counted no_condition = omega arith
condition_counted (condition t h x) = omega (arith, expr_counted x)

-- of the arguments that stand there
abbrev pub names_of_args : Option (List Modifier) → ℕ
names_of_args None = 0
names_of_args (Some ms) = total (map names_of_modifier ms)

modifier_alone : (each is_final : Bool) (name : Ident) (e : Option Expr) (w : Word) → names_of_modifier (the_modifier each is_final name None e w) ≡ suc (names_of_value e)
unfolding names_of_modifier the_modifier
modifier_alone each is_final name e w = search (rules, modifier_lemmas)

modifier_with : (each is_final : Bool) (name : Ident) (ms : List Modifier) (e : Option Expr) (w : Word)
    → names_of_modifier (the_modifier each is_final name (Some ms) e w) ≡ suc (total (map names_of_modifier ms) + names_of_value e)
unfolding names_of_modifier the_modifier
modifier_with each is_final name ms e w = search (rules, modifier_lemmas)

modifier_has : (each is_final : Bool) (name : Ident) (ms : Option (List Modifier)) (e : Option Expr) (w : Word)
    → names_of_modifier (the_modifier each is_final name ms e w) ≡ suc (names_of_args ms + names_of_value e)
modifier_has each is_final name None e w = let none : names_of_value e ≡ 0 + names_of_value e = omega arith in modifier_alone each is_final name e w ∙ ap (λ n. suc n) none
modifier_has each is_final name (Some ms) e w = modifier_with each is_final name ms e w

mutual
  pub args_counted : {w : Word} {ms : List Modifier} → ArgsOf w ms → total (map names_of_modifier ms) ≤ length w
  args_counted (no_arg a b h i) = omega arith
  args_counted (args a b {w} h x i) = between _ a w b (list_counted x)

  list_counted : {w : Word} {ms : List Modifier} → ArgList w ms → total (map names_of_modifier ms) ≤ length w
  list_counted (one_arg x) = omega (arith, arg_counted x)
  list_counted (more_args {v} {w} t {ms} {m} xs h x) = omega (arith, total_behind names_of_modifier ms m, around _ _ v t w (list_counted xs) (arg_counted x))

  pub optional_counted : {w : Word} {ms : Option (List Modifier)} → OptionalArgs w ms → names_of_args ms ≤ length w
  optional_counted without_args = omega arith
  optional_counted (with_args x) = args_counted x

  arg_counted : {w : Word} {m : Modifier} → ArgOf w m → names_of_modifier m ≤ length w
  arg_counted (arg {q} {r} {u} {v} {w} i {each} {is_final} {ms} {e} hq hr hi hu hv hw) =
      omega (
        arith,
        modifier_has each is_final (the_ident i) ms e (q ++ (r ++ i ∷ (u ++ (v ++ w)))),
        optional_counted hu,
        value_counted hv,
        length-append q (r ++ i ∷ (u ++ (v ++ w))),
        length-append r (i ∷ (u ++ (v ++ w))),
        length-append u (v ++ w),
        length-append v w,
      )
