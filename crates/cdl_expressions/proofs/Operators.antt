-- The laws of operators and conditions.
use Rattle.std.proofs.Common.{◌≡◌, ℕ, zero, suc, ◌≤◌, ◌<◌, true, List, [], ◌∷◌, ◌++◌, length, Option, Some, None, refl, sym, ap, ◌∙◌, subst, arith, append_assoc, append-nil}
use Rattle.cdl_tree.specs.declared.terminal.Terminal.{Terminal}
use Rattle.cdl_tree.specs.declared.terminal.Terminal.TheVariants as the
use Rattle.cdl_tree.specs.declared.expr.Op.{Op}
use Rattle.cdl_tree.specs.declared.expr.Op.TheVariants as op
use Rattle.cdl_tree.specs.declared.expr.Expr.{Expr}
use Rattle.cdl_tree.specs.declared.expr.Node.TheVariants as node
use Rattle.cdl_tree.specs.Words.{Lexeme, Word, same_terminal}
use Rattle.cdl_tree.specs.Trees.{comparison, sign, factor, tree}
use Rattle.cdl_tree.specs.Grammar.{ExprOf, conditional as a_conditional, logical, Otherwise, otherwise_if, otherwise as an_otherwise, Lor, one_land, or_land, Land, one_lnot, and_lnot, Lnot, as_it_is, not_rel, Rel, one_sum, compared, Sum, one_term, signed as signed_term, added, Term, one_prim, times, Prim, true_word as a_true}
use Rattle.cdl_reading.specs.Reading.{Parser, and_then, pure, terminal, made}
use Rattle.cdl_expressions.specs.Expressions as spec
use Rattle.cdl_reading.proofs.Steps.{Then, both, Is, is, Made, is_made, seam}
use Rattle.cdl_reading.proofs.Laws.{member, Law, fewer_law, shaped, like, begun_law, pure_law, made_law, then_law, then_less, Chosen, found, missing, chosen_by, chosen_law, only, only_is, is_only, eaten_law, One, a_token, token_of, word_then, word_less, same_read, refused_law}
use Rattle.cdl_reading.proofs.Repeats.{fold, Lefts, left_one, left_more}
use Rattle.cdl_expressions.proofs.Groups.{Operated, operated, grouped_law}
use Rattle.cdl_expressions.proofs.Sets.{prims, sums, lnots, exprs, after_expr, after_land, after_lnot, comparisons, after_sum, after_term, after_prim}
use Rattle.cdl_expressions.proofs.ExprLaws.{prim_some, term_some, sum_some, lnot_some, land_some, expr_some, expr_leads, terminals_of, factor_table, sign_table, comparison_table, and_table, or_table, and_is, or_is}
use Rattle.cdl_expressions.proofs.Prims.{prim_law}

-- ---- each level from the one below

-- a term, or a term behind a sign
pub data SignedOf : Word → Expr → Type 0 where
  unsigned : {w : Word} {e : Expr} → Term w e → SignedOf w e
  with_sign : (t : Lexeme) {o : Op} {w : Word} {e : Expr} → sign t.terminal ≡ Some o → Term w e → SignedOf (t ∷ w) (tree (node.Unary o e) (t ∷ w))

signed_some : {w : Word} {e : Expr} → SignedOf w e → 0 < length w
signed_some (unsigned x) = term_some x
signed_some (with_sign t h x) = omega arith

term_left : {w : Word} {e : Expr} → Term w e → Lefts Prim (Operated factor Prim) [] w e
term_left (one_prim p) = left_one p
term_left (times t x h y) = left_more (term_left x) (operated t h y refl)

term_grow : (v w : Word) (a b : Expr) → Term v a → Operated factor Prim a v w b → Term (v ++ w) b
term_grow v _ a b x (operated t {w = w} h y m) = subst (Term (v ++ t ∷ w)) (sym m) (times t x h y)

term_in : (u w : Word) (e : Expr) → Lefts Prim (Operated factor Prim) [] w e → Term w e
term_in u w e (both p r) = fold Term term_grow (one_prim p) r

sum_left : {w : Word} {e : Expr} → Sum w e → Lefts SignedOf (Operated sign Term) [] w e
sum_left (one_term x) = left_one (unsigned x)
sum_left (signed_term t h x) = left_one (with_sign t h x)
sum_left (added t x h y) = left_more (sum_left x) (operated t h y refl)

sum_grow : (v w : Word) (a b : Expr) → Sum v a → Operated sign Term a v w b → Sum (v ++ w) b
sum_grow v _ a b x (operated t {w = w} h y m) = subst (Sum (v ++ t ∷ w)) (sym m) (added t x h y)

signed_sum : {w : Word} {e : Expr} → SignedOf w e → Sum w e
signed_sum (unsigned x) = one_term x
signed_sum (with_sign t h x) = signed_term t h x

sum_in : (u w : Word) (e : Expr) → Lefts SignedOf (Operated sign Term) [] w e → Sum w e
sum_in u w e (both p r) = fold Sum sum_grow (signed_sum p) r

land_left : {w : Word} {e : Expr} → Land w e → Lefts Lnot (Operated spec.conjunction Lnot) [] w e
land_left (one_lnot p) = left_one p
land_left (and_lnot t x h y) = left_more (land_left x) (operated t (ap spec.conjunction h) y refl)

land_grow : (v w : Word) (a b : Expr) → Land v a → Operated spec.conjunction Lnot a v w b → Land (v ++ w) b
land_grow v _ a b x (operated t {o = o} {w = w} {r = r} h y m) =
    let at = and_is t.terminal o h in subst (Land (v ++ t ∷ w)) (sym (m ∙ ap (λ o. tree (node.Binary o a r) (v ++ t ∷ w)) at.1)) (and_lnot t x at.0 y)

land_in : (u w : Word) (e : Expr) → Lefts Lnot (Operated spec.conjunction Lnot) [] w e → Land w e
land_in u w e (both p r) = fold Land land_grow (one_lnot p) r

lor_left : {w : Word} {e : Expr} → Lor w e → Lefts Land (Operated spec.disjunction Land) [] w e
lor_left (one_land p) = left_one p
lor_left (or_land t x h y) = left_more (lor_left x) (operated t (ap spec.disjunction h) y refl)

lor_grow : (v w : Word) (a b : Expr) → Lor v a → Operated spec.disjunction Land a v w b → Lor (v ++ w) b
lor_grow v _ a b x (operated t {o = o} {w = w} {r = r} h y m) =
    let at = or_is t.terminal o h in subst (Lor (v ++ t ∷ w)) (sym (m ∙ ap (λ o. tree (node.Binary o a r) (v ++ t ∷ w)) at.1)) (or_land t x at.0 y)

lor_in : (u w : Word) (e : Expr) → Lefts Land (Operated spec.disjunction Land) [] w e → Lor w e
lor_in u w e (both p r) = fold Lor lor_grow (one_land p) r

-- the shortest words
least : Word
least = token_of the.True ∷ []

least_tree : Expr
least_tree = tree (node.Boolean true) (token_of the.True ∷ [])

least_expr : ExprOf least least_tree
unfolding least least_tree
least_expr = logical (one_land (one_lnot (as_it_is (one_sum (one_term (one_prim (a_true (token_of the.True) refl)))))))

least_rest : Otherwise (token_of the.Else ∷ least) least_tree
least_rest = an_otherwise (token_of the.Else) refl least_expr

otherwise_some : (w : Word) (e : Expr) → Otherwise w e → 0 < length w
otherwise_some _ _ (otherwise_if i t h c g x y) = omega arith
otherwise_some _ _ (an_otherwise s h x) = omega arith

abbrev pub rests : List Terminal
rests = the.ElseIf ∷ the.Else ∷ []

rest_of : (x kd : Terminal) → kd ≡ x → member rests x ≡ true → member rests kd ≡ true
rest_of x kd e h = subst (λ z. member rests z ≡ true) (sym e) h

otherwise_leads : (w j : Word) (e : Expr) → Otherwise w e → member rests (terminal (w ++ j)) ≡ true
unfolding same_terminal
otherwise_leads _ j _ (otherwise_if i t h c g x y) = rest_of the.ElseIf i.terminal h refl
otherwise_leads _ j _ (an_otherwise s h x) = rest_of the.Else s.terminal h refl

module _ (d d' : ℕ) (whole whole' : Parser Expr) (h : Law d d' (λ u. ExprOf) exprs after_expr (λ s. whole) (λ s. whole')) where
  less : {T S : List Terminal} {X : Word → Expr → Type 0} {p p' : Parser Expr} → Law (suc d) (suc d') (λ u. X) T S (λ s. p) (λ s. p') → Law d d' (λ u. X) T S (λ s. p) (λ s. p')
  less l = fewer_law (omega arith) (omega arith) l

  term_law : Law (suc d) (suc d') (λ u. Term) prims after_term (λ s. spec.term d whole) (λ s. spec.term d' whole')
  unfolding spec.term same_terminal
  term_law =
      shaped term_in (λ u w e x. term_left x)
      (begun_law (then_less {U = after_prim} (λ u w e x. prim_some x) (prim_law d d' whole whole' h)
      (λ e. grouped_law factor refl the.Star op.Times refl (the.Star ∷ the.Slash ∷ []) (terminals_of factor (the.Star ∷ the.Slash ∷ []) factor_table) after_prim after_term (less (prim_law d d' whole whole' h)) refl refl refl d d' (omega arith) (omega arith) e)
      refl))

  -- [ sign ] term
  signed_is : (n : ℕ) (p : Parser Expr) (s i : Word) (o : Option Op) → spec.signed_by n p s o i ≡ chosen_by (λ o s i. and_then (spec.term n p i) (λ e. made (tree (node.Unary o e)) s)) (λ s. spec.term n p) o s i
  signed_is n p s i None = refl
  signed_is n p s i (Some o) = refl

  abbrev SignedR : Word → Word → Expr → Type 0
  SignedR u = Chosen sign (λ o. Then (λ u. Term) (λ e. Made (tree (node.Unary o e)))) (λ u. Term) []

  signed_in : (u w : Word) (e : Expr) → SignedR u w e → SignedOf w e
  signed_in u w e (found t {a = o} g (both {x = v} {a = x} y (is_made m))) =
      subst (λ z. SignedOf z e) (sym (ap (λ z. t ∷ z) (append-nil v))) (subst (SignedOf (t ∷ v)) (sym m) (with_sign t g y))
  signed_in u w e (missing x) = unsigned x

  signed_out : (u w : Word) (e : Expr) → SignedOf w e → SignedR u w e
  signed_out u _ e (unsigned x) = missing x
  signed_out u _ _ (with_sign t {o = o} {w = v} {e = x} g y) =
      subst (λ z. SignedR u z (tree (node.Unary o x) (t ∷ v))) (ap (λ z. t ∷ z) (append-nil v)) (found t g (both y (is_made refl)))

  signed_law : Law (suc d) (suc d') (λ u. SignedOf) sums after_term (λ s. spec.signed d whole) (λ s. spec.signed d' whole')
  unfolding spec.signed same_terminal
  signed_law =
      shaped signed_in signed_out
      (like (λ s i. signed_is d whole i i (sign (terminal i))) (λ s i. signed_is d' whole' i i (sign (terminal i)))
      (begun_law (chosen_law {n' = d} {m' = d'} sign refl (omega arith) (omega arith) (the.Plus ∷ the.Minus ∷ []) (terminals_of sign (the.Plus ∷ the.Minus ∷ []) sign_table)
      (λ _ o _. then_law {U = after_term} (less term_law) (λ e. made_law {S = after_term} (tree (node.Unary o e))) refl) term_law refl)))

  sum_law : Law (suc d) (suc d') (λ u. Sum) sums after_sum (λ s. spec.sum d whole) (λ s. spec.sum d' whole')
  unfolding spec.sum same_terminal
  sum_law =
      shaped sum_in (λ u w e x. sum_left x)
      (begun_law (then_less {U = after_term} (λ u w e x. signed_some x) signed_law
      (λ e. grouped_law sign refl the.Plus op.Plus refl (the.Plus ∷ the.Minus ∷ []) (terminals_of sign (the.Plus ∷ the.Minus ∷ []) sign_table) after_term after_sum (less term_law) refl refl refl d d' (omega arith) (omega arith) e)
      refl))

  -- ---- comparisons

  rel_is : (n : ℕ) (p : Parser Expr) (l : Expr) (s i : Word) (o : Option Op)
      → spec.rel_by n p s l o i ≡ chosen_by (λ o s i. and_then (spec.sum n p i) (λ r. made (tree (node.Binary o l r)) s)) (λ s. pure l) o s i
  rel_is n p l s i None = refl
  rel_is n p l s i (Some o) = refl

  abbrev RelR : Word → Word → Expr → Type 0
  RelR u = Then (λ u. Sum) (λ l. Chosen comparison (λ o. Then (λ u. Sum) (λ r. Made (tree (node.Binary o l r)))) (Is l)) []

  rel_in : (u w : Word) (e : Expr) → RelR u w e → Rel w e
  rel_in u w e (both {x = v} {a = l} x (found t {a = o} g (both {x = q} {a = r} y (is_made m)))) =
      subst (λ z. Rel z e) (sym (ap (λ z. v ++ t ∷ z) (append-nil q))) (subst (Rel (v ++ t ∷ q)) (sym (m ∙ ap (tree (node.Binary o l r)) (seam v t q))) (compared t x g y))
  rel_in u w e (both {x = v} x (missing is)) = subst (λ z. Rel z e) (sym (append-nil v)) (one_sum x)

  rel_out : (u w : Word) (e : Expr) → Rel w e → RelR u w e
  rel_out u w e (one_sum x) = subst (λ z. RelR u z e) (append-nil w) (both x (missing is))
  rel_out u _ _ (compared {v = v} {w = q} t {o = o} {l = l} {r = r} x g y) =
      subst (λ z. RelR u z (tree (node.Binary o l r) (v ++ t ∷ q))) (ap (λ z. v ++ t ∷ z) (append-nil q))
      (both x (found t g (both y (is_made (ap (tree (node.Binary o l r)) (sym (seam v t q)))))))

  rel_law : Law (suc d) (suc d') (λ u. Rel) sums after_lnot (λ s. spec.rel d whole) (λ s. spec.rel d' whole')
  unfolding spec.rel same_terminal
  rel_law =
      shaped rel_in rel_out
      (begun_law (then_less {U = after_sum} (λ u w e x. sum_some x) sum_law
      (λ l. like (λ s i. rel_is d whole l s i (comparison (terminal i))) (λ s i. rel_is d' whole' l s i (comparison (terminal i)))
      (chosen_law {n' = d} {m' = d'} comparison refl (omega arith) (omega arith) comparisons (terminals_of comparison comparisons comparison_table)
      (λ _ o _. then_law {U = after_sum} (less sum_law) (λ r. made_law {S = after_lnot} (tree (node.Binary o l r))) refl) (pure_law {S = after_lnot} l) refl))
      refl))

  -- ---- "not", "and", "or"

  abbrev LnotR : Word → Word → Expr → Type 0
  LnotR u = Chosen (only the.Not) (λ _. Then (λ u. Rel) (λ e. Made (tree (node.Unary op.Not e)))) (λ u. Rel) []

  lnot_in : (u w : Word) (e : Expr) → LnotR u w e → Lnot w e
  lnot_in u w e (found t {a = a} g (both {x = v} {a = x} y (is_made m))) =
      subst (λ z. Lnot z e) (sym (ap (λ z. t ∷ z) (append-nil v))) (subst (Lnot (t ∷ v)) (sym m) (not_rel t (only_is the.Not t.terminal a g) y))
  lnot_in u w e (missing x) = as_it_is x

  lnot_out : (u w : Word) (e : Expr) → Lnot w e → LnotR u w e
  lnot_out u _ e (as_it_is x) = missing x
  lnot_out u _ _ (not_rel t {w = v} {e = x} g y) =
      subst (λ z. LnotR u z (tree (node.Unary op.Not x) (t ∷ v))) (ap (λ z. t ∷ z) (append-nil v)) (found t (is_only the.Not t.terminal g) (both y (is_made refl)))

  lnot_law : Law (suc d) (suc d') (λ u. Lnot) lnots after_lnot (λ s. spec.lnot d whole) (λ s. spec.lnot d' whole')
  unfolding spec.lnot same_terminal
  lnot_law =
      shaped lnot_in lnot_out
      (begun_law (eaten_law {n' = d} {m' = d'} the.Not refl (omega arith) (omega arith) (then_law {U = after_lnot} (less rel_law) (λ e. made_law {S = after_lnot} (tree (node.Unary op.Not e))) refl) rel_law refl))

  land_law : Law (suc d) (suc d') (λ u. Land) lnots after_land (λ s. spec.land d whole) (λ s. spec.land d' whole')
  unfolding spec.land same_terminal
  land_law =
      shaped land_in (λ u w e x. land_left x)
      (begun_law (then_less {U = after_lnot} (λ u w e x. lnot_some x) lnot_law
      (λ e. grouped_law spec.conjunction refl the.And op.And refl (the.And ∷ []) (terminals_of spec.conjunction (the.And ∷ []) and_table) after_lnot after_land (less lnot_law) refl refl refl d d' (omega arith) (omega arith) e)
      refl))

  lor_law : Law (suc d) (suc d') (λ u. Lor) lnots after_expr (λ s. spec.lor d whole) (λ s. spec.lor d' whole')
  unfolding spec.lor same_terminal
  lor_law =
      shaped lor_in (λ u w e x. lor_left x)
      (begun_law (then_less {U = after_land} (λ u w e x. land_some x) land_law
      (λ e. grouped_law spec.disjunction refl the.Or op.Or refl (the.Or ∷ []) (terminals_of spec.disjunction (the.Or ∷ []) or_table) after_land after_expr (less land_law) refl refl refl d d' (omega arith) (omega arith) e)
      refl))

  -- ---- conditions

  abbrev ChoiceR : Word → Word → Expr → Type 0
  ChoiceR = Then (λ u. ExprOf) (λ c. Then (One the.Then) (λ _. Then (λ u. ExprOf) (λ x. Then (λ u. Otherwise) (λ y. Made (tree (node.If c x y))))))

  choice_law : (n m : ℕ) → n ≤ d → m ≤ d' → (p p' : Parser Expr) → Law n m (λ u. Otherwise) rests after_expr (λ s. p) (λ s. p') → Law n m ChoiceR exprs after_expr (spec.choice d whole p) (spec.choice d' whole' p')
  unfolding spec.choice same_terminal
  choice_law n m ln lm p p' o =
      then_law {U = after_expr} (fewer_law ln lm h)
      (λ c. word_then the.Then refl
      (then_law {U = after_expr} (fewer_law ln lm h) (λ x. then_law {U = after_expr} o (λ y. made_law {S = after_expr} (tree (node.If c x y))) refl) refl)) refl

  whole_word : (i t : Lexeme) (u v w : Word) → (((i ∷ u) ++ t ∷ []) ++ v) ++ w ≡ i ∷ (u ++ t ∷ (v ++ w))
  whole_word i t u v w = simp append_assoc

  abbrev OtherR : Word → Word → Expr → Type 0
  OtherR u = Chosen (only the.ElseIf) (λ _. ChoiceR) (Then (One the.Else) (λ _. λ u. ExprOf)) []

  other_in : (u w : Word) (e : Expr) → OtherR u w e → Otherwise w e
  other_in u w e (found i {a = a} g (both {x = p} {a = c} hc (both (a_token t {a = b} f) (both {x = q} {a = x} hx (both {x = r} {a = y} hy (is_made m)))))) =
      subst (λ z. Otherwise (i ∷ (p ++ t ∷ (q ++ z))) e) (sym (append-nil r))
      (subst (Otherwise (i ∷ (p ++ t ∷ (q ++ r)))) (sym (m ∙ ap (tree (node.If c x y)) (whole_word i t p q r))) (otherwise_if i t (only_is the.ElseIf i.terminal a g) hc (only_is the.Then t.terminal b f) hx hy))
  other_in u w e (missing (both (a_token s {a = a} g) x)) = an_otherwise s (only_is the.Else s.terminal a g) x

  other_out : (u w : Word) (e : Expr) → Otherwise w e → OtherR u w e
  other_out u _ _ (otherwise_if i t {u = p} {v = q} {w = r} {c = c} {x = x} {y = y} g hc f hx hy) =
      subst (λ z. OtherR u (i ∷ (p ++ t ∷ (q ++ z))) (tree (node.If c x y) (i ∷ (p ++ t ∷ (q ++ r))))) (append-nil r)
      (found i (is_only the.ElseIf i.terminal g) (both hc (both (a_token t (is_only the.Then t.terminal f)) (both hx (both hy (is_made (ap (tree (node.If c x y)) (sym (whole_word i t p q r)))))))))
  other_out u _ e (an_otherwise s g x) = missing (both (a_token s (is_only the.Else s.terminal g)) x)

  other_turn : (n m : ℕ) → n ≤ d → m ≤ d' → (p p' : Parser Expr) → Law n m (λ u. Otherwise) rests after_expr (λ s. p) (λ s. p')
      → Law (suc n) (suc m) (λ u. Otherwise) rests after_expr (λ s. spec.otherwise_by d whole p) (λ s. spec.otherwise_by d' whole' p')
  unfolding spec.otherwise_by same_terminal
  other_turn n m ln lm p p' o =
      shaped other_in other_out
      (begun_law (eaten_law {n' = n} {m' = m} the.ElseIf refl (omega arith) (omega arith) (choice_law n m ln lm p p' o) (word_less the.Else refl (fewer_law ln lm h)) refl))

  other_law : (n m : ℕ) → n ≤ d → m ≤ d' → Law n m (λ u. Otherwise) rests after_expr (λ s. spec.otherwise d whole n) (λ s. spec.otherwise d' whole' m)
  unfolding spec.otherwise
  other_law zero m ln lm = refused_law (token_of the.Else ∷ least) least_tree least_rest otherwise_some otherwise_leads
  other_law (suc n) zero ln lm = same_read (other_turn n zero (omega (arith, ln)) lm (spec.otherwise d whole n) (spec.otherwise d' whole' zero) (other_law n zero (omega (arith, ln)) lm))
  other_law (suc n) (suc m) ln lm =
      other_turn n m (omega (arith, ln)) (omega (arith, lm)) (spec.otherwise d whole n) (spec.otherwise d' whole' m) (other_law n m (omega (arith, ln)) (omega (arith, lm)))

  abbrev CondR : Word → Word → Expr → Type 0
  CondR u = Chosen (only the.If) (λ _. ChoiceR) (λ u. Lor) []

  cond_in : (u w : Word) (e : Expr) → CondR u w e → ExprOf w e
  cond_in u w e (found i {a = a} g (both {x = p} {a = c} hc (both (a_token t {a = b} f) (both {x = q} {a = x} hx (both {x = r} {a = y} hy (is_made m)))))) =
      subst (λ z. ExprOf (i ∷ (p ++ t ∷ (q ++ z))) e) (sym (append-nil r))
      (subst (ExprOf (i ∷ (p ++ t ∷ (q ++ r)))) (sym (m ∙ ap (tree (node.If c x y)) (whole_word i t p q r))) (a_conditional i t (only_is the.If i.terminal a g) hc (only_is the.Then t.terminal b f) hx hy))
  cond_in u w e (missing x) = logical x

  cond_out : (u w : Word) (e : Expr) → ExprOf w e → CondR u w e
  cond_out u _ _ (a_conditional i t {u = p} {v = q} {w = r} {c = c} {x = x} {y = y} g hc f hx hy) =
      subst (λ z. CondR u (i ∷ (p ++ t ∷ (q ++ z))) (tree (node.If c x y) (i ∷ (p ++ t ∷ (q ++ r))))) (append-nil r)
      (found i (is_only the.If i.terminal g) (both hc (both (a_token t (is_only the.Then t.terminal f)) (both hx (both hy (is_made (ap (tree (node.If c x y)) (sym (whole_word i t p q r)))))))))
  cond_out u _ e (logical x) = missing x

  pub cond_law : Law (suc d) (suc d') (λ u. ExprOf) exprs after_expr (λ s. spec.conditional d whole) (λ s. spec.conditional d' whole')
  unfolding spec.conditional same_terminal
  cond_law =
      shaped cond_in cond_out
      (begun_law (eaten_law {n' = d} {m' = d'} the.If refl (omega arith) (omega arith)
      (choice_law d d' (omega arith) (omega arith) (spec.otherwise d whole d) (spec.otherwise d' whole' d') (other_law d d' (omega arith) (omega arith))) lor_law refl))

pub expr_law : (d d' : ℕ) → Law d d' (λ u. ExprOf) exprs after_expr (λ s. spec.expr d) (λ s. spec.expr d')
unfolding spec.expr
expr_law zero d' = refused_law least least_tree least_expr (λ w e x. expr_some x) (λ w j e x. expr_leads x j)
expr_law (suc d) zero = same_read (cond_law d zero (spec.expr d) (spec.expr zero) (expr_law d zero))
expr_law (suc d) (suc d') = cond_law d d' (spec.expr d) (spec.expr d') (expr_law d d')
