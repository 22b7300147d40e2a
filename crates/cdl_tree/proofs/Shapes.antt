-- Every expression of a text is proper.
use Rattle.std.proofs.Common.{◌≡◌, ℕ, Bool, true, ◌&&◌, List, [], ◌∷◌, ◌++◌, map, Some, ℤ, refl, ◌∙◌, rules}
use Rattle.std.proofs.lemmas.Bool.{and_from, and_parts}
use Rattle.cdl_tree.specs.declared.terminal.Terminal.{Terminal}
use Rattle.cdl_tree.specs.declared.terminal.Terminal.TheVariants as the
use Rattle.cdl_tree.specs.declared.name.Ident.{Ident}
use Rattle.cdl_tree.specs.declared.expr.Op.{Op}
use Rattle.cdl_tree.specs.declared.expr.Op.TheVariants as op
use Rattle.cdl_tree.specs.declared.expr.Expr.{Expr, the_lemmas}
use Rattle.cdl_tree.specs.declared.expr.Node.TheVariants as node
use Rattle.cdl_tree.specs.Words.{Word}
use Rattle.cdl_tree.specs.Trees.{comparison, sign, factor, tree, the_name}
use Rattle.cdl_tree.specs.Proper.{is_unary, is_binary, is_some, all_of, is_proper}
use Rattle.cdl_tree.specs.Grammar.{NameOf, single, dotted, ExprOf, conditional, logical, Otherwise, otherwise_if, otherwise, Lor, one_land, or_land, Land, one_lnot, and_lnot, Lnot, as_it_is, not_rel, Rel, one_sum, compared, Sum, one_term, signed, added, Term, one_prim, times, Prim, integer, real, string, true_word, false_word, paren, array, call, refer, Operands, no_operand, operands, Subscripts, no_subscript, subscripts, Exprs, one_expr, more_exprs}

comparison_binary : (terminal : Terminal) (o : Op) → comparison terminal ≡ Some o → is_binary o ≡ true
comparison_binary the.Less o e = cc
comparison_binary the.LessEqual o e = cc
comparison_binary the.Greater o e = cc
comparison_binary the.GreaterEqual o e = cc
comparison_binary the.EqualEqual o e = cc
comparison_binary the.NotEqual o e = cc
comparison_binary _ o e = cc

sign_both : (terminal : Terminal) (o : Op) → sign terminal ≡ Some o → (is_binary o ≡ true) × (is_unary o ≡ true)
sign_both the.Plus o e = (cc, cc)
sign_both the.Minus o e = (cc, cc)
sign_both _ o e = (cc, cc)

factor_binary : (terminal : Terminal) (o : Op) → factor terminal ≡ Some o → is_binary o ≡ true
factor_binary the.Star o e = cc
factor_binary the.Slash o e = cc
factor_binary _ o e = cc

pub some_behind : {A : Type 0} (xs : List A) (x : A) → is_some (xs ++ x ∷ []) ≡ true
some_behind [] x = refl
some_behind (y ∷ xs) x = refl

some_mapped : {A B : Type 0} (f : A → B) (xs : List A) → is_some (map f xs) ≡ is_some xs
some_mapped f [] = refl
some_mapped f (x ∷ xs) = refl

pub name_some : {w : Word} {parts : List Ident} → NameOf w parts → is_some parts ≡ true
name_some (single a h) = refl
name_some (dotted p a {parts} n h i) = some_behind parts _

all_behind : (es : List Expr) (e : Expr) → all_of (map is_proper es) ≡ true → is_proper e ≡ true → all_of (map is_proper (es ++ e ∷ [])) ≡ true
all_behind [] e h i = and_from _ _ i refl
all_behind (x ∷ es) e h i = let parts = and_parts (is_proper x) (all_of (map is_proper es)) h in and_from _ _ parts.0 (all_behind es e parts.1 i)

-- what a node of each shape owes

integer_is : (z : ℤ) (w : Word) → is_proper (tree (node.Integer z) w) ≡ true
unfolding is_proper tree
integer_is z w = search (rules, the_lemmas)

real_is : (q : ℤ) (w : Word) → is_proper (tree (node.Real q) w) ≡ true
unfolding is_proper tree
real_is q w = search (rules, the_lemmas)

string_is : (s : List ℕ) (w : Word) → is_proper (tree (node.Str s) w) ≡ true
unfolding is_proper tree
string_is s w = search (rules, the_lemmas)

boolean_is : (b : Bool) (w : Word) → is_proper (tree (node.Boolean b) w) ≡ true
unfolding is_proper tree
boolean_is b w = search (rules, the_lemmas)

unary_is : (o : Op) (e : Expr) (w : Word) → is_proper (tree (node.Unary o e) w) ≡ (is_unary o && is_proper e)
unfolding is_proper tree
unary_is o e w = search (rules, the_lemmas)

binary_is : (o : Op) (l r : Expr) (w : Word) → is_proper (tree (node.Binary o l r) w) ≡ (is_binary o && (is_proper l && is_proper r))
unfolding is_proper tree
binary_is o l r w = search (rules, the_lemmas)

choice_is : (c x y : Expr) (w : Word) → is_proper (tree (node.If c x y) w) ≡ (is_proper c && (is_proper x && is_proper y))
unfolding is_proper tree
choice_is c x y w = search (rules, the_lemmas)

array_is : (es : List Expr) (w : Word) → is_proper (tree (node.Array es) w) ≡ (is_some (map is_proper es) && all_of (map is_proper es))
unfolding is_proper tree
array_is es w = search (rules, the_lemmas)

call_is : (f : Ident) (es : List Expr) (w : Word) → is_proper (tree (node.Call f es) w) ≡ all_of (map is_proper es)
unfolding is_proper tree
call_is f es w = search (rules, the_lemmas)

refer_is : (parts : List Ident) (es : List Expr) (w : Word) → is_proper (tree (node.Refer (the_name parts) es) w) ≡ (is_some parts && all_of (map is_proper es))
unfolding is_proper tree
refer_is parts es w = search (rules, the_lemmas)

unary : (o : Op) (e : Expr) (w : Word) → is_unary o ≡ true → is_proper e ≡ true → is_proper (tree (node.Unary o e) w) ≡ true
unary o e w h i = unary_is o e w ∙ and_from _ _ h i

binary : (o : Op) (l r : Expr) (w : Word) → is_binary o ≡ true → is_proper l ≡ true → is_proper r ≡ true → is_proper (tree (node.Binary o l r) w) ≡ true
binary o l r w h i j = binary_is o l r w ∙ and_from _ _ h (and_from _ _ i j)

choice : (c x y : Expr) (w : Word) → is_proper c ≡ true → is_proper x ≡ true → is_proper y ≡ true → is_proper (tree (node.If c x y) w) ≡ true
choice c x y w h i j = choice_is c x y w ∙ and_from _ _ h (and_from _ _ i j)

items : (es : List Expr) (w : Word) → is_some es ≡ true → all_of (map is_proper es) ≡ true → is_proper (tree (node.Array es) w) ≡ true
items es w h i = array_is es w ∙ and_from _ _ (some_mapped is_proper es ∙ h) i

called : (f : Ident) (es : List Expr) (w : Word) → all_of (map is_proper es) ≡ true → is_proper (tree (node.Call f es) w) ≡ true
called f es w i = call_is f es w ∙ i

referred : (parts : List Ident) (es : List Expr) (w : Word) → is_some parts ≡ true → all_of (map is_proper es) ≡ true → is_proper (tree (node.Refer (the_name parts) es) w) ≡ true
referred parts es w h i = refer_is parts es w ∙ and_from _ _ h i

exprs_some : {w : Word} {es : List Expr} → Exprs w es → is_some es ≡ true
exprs_some (one_expr x) = refl
exprs_some (more_exprs t {es} xs c x) = some_behind es _

mutual
  pub expr_proper : {w : Word} {e : Expr} → ExprOf w e → is_proper e ≡ true
  expr_proper (conditional i t h c g x y) = choice _ _ _ _ (expr_proper c) (expr_proper x) (otherwise_proper y)
  expr_proper (logical x) = lor_proper x

  otherwise_proper : {w : Word} {e : Expr} → Otherwise w e → is_proper e ≡ true
  otherwise_proper (otherwise_if i t h c g x y) = choice _ _ _ _ (expr_proper c) (expr_proper x) (otherwise_proper y)
  otherwise_proper (otherwise s h x) = expr_proper x

  lor_proper : {w : Word} {e : Expr} → Lor w e → is_proper e ≡ true
  lor_proper (one_land x) = land_proper x
  lor_proper (or_land t x h y) = binary op.Or _ _ _ refl (lor_proper x) (land_proper y)

  land_proper : {w : Word} {e : Expr} → Land w e → is_proper e ≡ true
  land_proper (one_lnot x) = lnot_proper x
  land_proper (and_lnot t x h y) = binary op.And _ _ _ refl (land_proper x) (lnot_proper y)

  lnot_proper : {w : Word} {e : Expr} → Lnot w e → is_proper e ≡ true
  lnot_proper (as_it_is x) = rel_proper x
  lnot_proper (not_rel t h x) = unary op.Not _ _ refl (rel_proper x)

  rel_proper : {w : Word} {e : Expr} → Rel w e → is_proper e ≡ true
  rel_proper (one_sum x) = sum_proper x
  rel_proper (compared t {o} x h y) = binary o _ _ _ (comparison_binary t.terminal o h) (sum_proper x) (sum_proper y)

  sum_proper : {w : Word} {e : Expr} → Sum w e → is_proper e ≡ true
  sum_proper (one_term x) = term_proper x
  sum_proper (signed t {o = o} h x) = unary o _ _ (sign_both t.terminal o h).1 (term_proper x)
  sum_proper (added t {o} x h y) = binary o _ _ _ (sign_both t.terminal o h).0 (sum_proper x) (term_proper y)

  term_proper : {w : Word} {e : Expr} → Term w e → is_proper e ≡ true
  term_proper (one_prim x) = prim_proper x
  term_proper (times t {o} x h y) = binary o _ _ _ (factor_binary t.terminal o h) (term_proper x) (prim_proper y)

  prim_proper : {w : Word} {e : Expr} → Prim w e → is_proper e ≡ true
  prim_proper (integer t h v) = integer_is _ _
  prim_proper (real t h v) = real_is _ _
  prim_proper (string t h v) = string_is _ _
  prim_proper (true_word t h) = boolean_is _ _
  prim_proper (false_word t h) = boolean_is _ _
  prim_proper (paren a b h x g) = expr_proper x
  prim_proper (array a b {es = es} h x g) = items es _ (exprs_some x) (exprs_proper x)
  prim_proper (call f a b h i x g) = called _ _ _ (operands_proper x)
  prim_proper (refer n x) = referred _ _ _ (name_some n) (subscripts_proper x)

  operands_proper : {w : Word} {es : List Expr} → Operands w es → all_of (map is_proper es) ≡ true
  operands_proper no_operand = refl
  operands_proper (operands x) = exprs_proper x

  subscripts_proper : {w : Word} {es : List Expr} → Subscripts w es → all_of (map is_proper es) ≡ true
  subscripts_proper no_subscript = refl
  subscripts_proper (subscripts a b h x g) = exprs_proper x

  exprs_proper : {w : Word} {es : List Expr} → Exprs w es → all_of (map is_proper es) ≡ true
  exprs_proper (one_expr x) = and_from _ _ (expr_proper x) refl
  exprs_proper (more_exprs t {es} {e} xs h x) = all_behind es e (exprs_proper xs) (expr_proper x)
