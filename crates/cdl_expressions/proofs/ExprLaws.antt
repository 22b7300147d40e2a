-- The laws of names and expressions.
use Rattle.std.proofs.Common.{◌≡◌, ℕ, ◌<◌, ℤ, Bool, true, false, List, [], ◌∷◌, ◌++◌, length, Option, Some, None, Result, Ok, Err, refl, sym, ap, ◌∙◌, subst, arith, if◌then◌else◌, append_assoc, length-append}
use Rattle.cdl_decimal.specs.declared.numeral.DecimalError.{DecimalError}
use Rattle.cdl_decimal.specs.Split.{parse_of}
use Rattle.cdl_tree.proofs.Reals.{real_read, real_is}
use Rattle.cdl_tree.specs.declared.terminal.Terminal.{Terminal}
use Rattle.cdl_tree.specs.declared.terminal.Terminal.TheVariants as the
use Rattle.cdl_tree.specs.declared.name.Ident.{Ident}
use Rattle.cdl_tree.specs.declared.expr.Op.{Op}
use Rattle.cdl_tree.specs.declared.expr.Op.TheVariants as op
use Rattle.cdl_tree.specs.declared.expr.Expr.{Expr}
use Rattle.cdl_tree.specs.Words.{Lexeme, Word, same_terminal}
use Rattle.cdl_tree.specs.Literals.{IsReal}
use Rattle.cdl_tree.specs.Trees.{the_ident, comparison, sign, factor}
use Rattle.cdl_tree.specs.Grammar.{NameOf, single, dotted, ExprOf, conditional as a_conditional, logical, Lor, one_land, or_land, Land, one_lnot, and_lnot, Lnot, as_it_is, not_rel, Rel, one_sum, compared, Sum, one_term, signed as signed_term, added, Term, one_prim, times, Prim, integer as an_integer, real as a_real, string as a_string, true_word as a_true, false_word as a_false, paren as a_paren, array as an_array, call as a_call, refer as a_refer}
use Rattle.cdl_reading.specs.Reading.{pure, terminal, sees, ident, literal_by, literal, value_of, real_of}
use Rattle.cdl_expressions.specs.Expressions.{name, disjunction, conjunction}
use Rattle.cdl_reading.proofs.Steps.{is_terminal}
use Rattle.cdl_reading.proofs.Laws.{member, each_at, alone, is_same, Law, shaped, Token, a_token, token_by, Reader, token_law, flagged, only, token_of}
use Rattle.cdl_reading.proofs.Repeats.{Row, row_one, row_more, row_in, list_law}
use Rattle.cdl_expressions.proofs.Sets.{exprs, comparisons, after_name}

-- ---- identifiers and literals

pub data IdentOf : Word → Ident → Type 0 where
  an_ident : (t : Lexeme) → t.terminal ≡ the.Identifier → IdentOf (t ∷ []) (the_ident t)

abbrev pub ident_by : Bool → Lexeme → Option Ident
ident_by true t = Some (the_ident t)
ident_by false t = None

abbrev pub ident_at : Lexeme → Option Ident
ident_at t = ident_by (same_terminal t.terminal the.Identifier) t

pub ident_reader : Reader ident_at ident
unfolding ident sees same_terminal
ident_reader = record { nil = refl; cons = λ t ts. cons t ts (same_terminal t.terminal the.Identifier) }
  where
    cons : (t : Lexeme) (ts : Word) (b : Bool) → (if b then pure (the_ident t) ts else Err (t ∷ ts)) ≡ token_by (ident_by b t) (t ∷ ts) ts
    cons t ts true = refl
    cons t ts false = refl

pub ident_is : (t : Lexeme) (a : Ident) → ident_at t ≡ Some a → (t.terminal ≡ the.Identifier) × (the_ident t ≡ a)
ident_is t a e = go (same_terminal t.terminal the.Identifier) refl e
  where
    go : (b : Bool) → same_terminal t.terminal the.Identifier ≡ b → ident_by b t ≡ Some a → (t.terminal ≡ the.Identifier) × (the_ident t ≡ a)
    go true f e = let same : the_ident t ≡ a = cc in (is_terminal t.terminal the.Identifier f, same)
    go false f e = cc

pub is_ident : (t : Lexeme) → t.terminal ≡ the.Identifier → ident_at t ≡ Some (the_ident t)
is_ident t e = ap (λ b. ident_by b t) (is_same t.terminal the.Identifier e)

pub ident_law : {n m : ℕ} {S : List Terminal} → Law n m (λ u. IdentOf) (the.Identifier ∷ []) S (λ s. ident) (λ s. ident)
ident_law {S = S} =
    shaped goes comes
    (token_law ident_at ident ident_reader (token_of the.Identifier) (the_ident (token_of the.Identifier)) (is_ident (token_of the.Identifier) refl) (the.Identifier ∷ [])
    (λ t a e. alone t.terminal the.Identifier ((ident_is t a e).0)) S)
  where
    goes : (u w : Word) (a : Ident) → Token ident_at u w a → IdentOf w a
    goes u _ a (a_token t e) = let both = ident_is t a e in subst (IdentOf (t ∷ [])) both.1 (an_ident t both.0)

    comes : (u w : Word) (a : Ident) → IdentOf w a → Token ident_at u w a
    comes u _ _ (an_ident t e) = a_token t (is_ident t e)

pub ident_some : {w : Word} {a : Ident} → IdentOf w a → 0 < length w
ident_some (an_ident t e) = omega arith

abbrev pub valued : {A : Type 0} → (List ℕ → Option A) → Bool → Lexeme → Option A
valued value true t = value t.text
valued value false t = None

abbrev pub literal_at : {A : Type 0} → Terminal → (List ℕ → Option A) → Lexeme → Option A
literal_at kd value t = valued value (same_terminal t.terminal kd) t

module _ {A : Type 0} (kd : Terminal) (value : List ℕ → Option A) where
  pub literal_reader : only kd the.Nothing ≡ None → Reader (literal_at kd value) (literal kd value)
  unfolding literal sees
  literal_reader never = record { nil = nil (same_terminal the.Nothing kd) never; cons = λ t ts. cons t ts (same_terminal t.terminal kd) }
    where
      nil : (b : Bool) → flagged b ≡ None → (if b then literal_by (value []) [] else Err []) ≡ Err []
      nil true e = cc
      nil false e = refl

      by : (t : Lexeme) (ts : Word) (o : Option A) → literal_by o (t ∷ ts) ≡ token_by o (t ∷ ts) ts
      by t ts (Some a) = refl
      by t ts None = refl

      cons : (t : Lexeme) (ts : Word) (b : Bool) → (if b then literal_by (value t.text) (t ∷ ts) else Err (t ∷ ts)) ≡ token_by (valued value b t) (t ∷ ts) ts
      cons t ts true = by t ts (value t.text)
      cons t ts false = refl

  pub literal_is : (t : Lexeme) (a : A) → literal_at kd value t ≡ Some a → (t.terminal ≡ kd) × (value t.text ≡ Some a)
  literal_is t a e = go (same_terminal t.terminal kd) refl e
    where
      go : (b : Bool) → same_terminal t.terminal kd ≡ b → valued value b t ≡ Some a → (t.terminal ≡ kd) × (value t.text ≡ Some a)
      go true f e = (is_terminal t.terminal kd f, e)
      go false f e = cc

  pub is_literal : (t : Lexeme) (a : A) → t.terminal ≡ kd → value t.text ≡ Some a → literal_at kd value t ≡ Some a
  is_literal t a e f = ap (λ b. valued value b t) (is_same t.terminal kd e) ∙ f

  pub literal_law : {n m : ℕ} {S : List Terminal} → only kd the.Nothing ≡ None → (v : Lexeme) (a : A) → literal_at kd value v ≡ Some a
      → Law n m (Token (literal_at kd value)) (kd ∷ []) S (λ s. literal kd value) (λ s. literal kd value)
  literal_law {S = S} never v a known = token_law (literal_at kd value) (literal kd value) (literal_reader never) v a known (kd ∷ []) (λ t a e. alone t.terminal kd ((literal_is t a e).0)) S

pub real_some : (bytes : List ℕ) (q : ℤ) → real_of bytes ≡ Some q → IsReal bytes q
real_some bytes q e = go (parse_of bytes) refl e
  where
    go : (r : Result ℤ DecimalError) → parse_of bytes ≡ r → value_of r ≡ Some q → IsReal bytes q
    go (Ok p) f e = let same : p ≡ q = cc in subst (IsReal bytes) same (real_is bytes p f)
    go (Err x) f e = cc

pub some_real : (bytes : List ℕ) (q : ℤ) → IsReal bytes q → real_of bytes ≡ Some q
some_real bytes q r = ap value_of (real_read bytes q r)

-- ---- names

pub name_row : {w : Word} {parts : List Ident} → NameOf w parts → Row the.Period IdentOf [] [] w parts
name_row (single a h) = row_one [] (a ∷ []) (the_ident a) (an_ident a h)
name_row (dotted p a n c h) = row_more [] (name_row n) p c (an_ident a h)

pub name_single : (w : Word) (x : Ident) → IdentOf w x → NameOf w (x ∷ [])
name_single _ _ (an_ident t h) = single t h

pub name_dotted : (v w : Word) (t : Lexeme) (xs : List Ident) (x : Ident) → NameOf v xs → t.terminal ≡ the.Period → IdentOf w x → NameOf (v ++ t ∷ w) (xs ++ x ∷ [])
name_dotted v _ t xs _ n e (an_ident a h) = dotted t a n e h

pub name_in : (w : Word) (parts : List Ident) → Row the.Period IdentOf [] [] w parts → NameOf w parts
name_in = row_in the.Period IdentOf NameOf name_single name_dotted

pub name_law : (d d' : ℕ) → Law d d' (λ u. NameOf) (the.Identifier ∷ []) after_name (λ s. name d) (λ s. name d')
unfolding name same_terminal
name_law d d' = shaped (λ u. name_in) (λ u w a n. name_row n) (list_law {U = the.Period ∷ after_name} the.Period refl after_name ident_law refl refl [])

-- ---- how words of expressions begin, and that they are not empty

abbrev pub Leads : Word → Type 0
Leads w = (j : Word) → member exprs (terminal (w ++ j)) ≡ true

pub one_of : (x kd : Terminal) → kd ≡ x → member exprs x ≡ true → member exprs kd ≡ true
one_of x kd e h = subst (λ z. member exprs z ≡ true) (sym e) h

pub leads_left : (v w : Word) → Leads v → Leads (v ++ w)
leads_left v w f j = subst (λ z. member exprs (terminal z) ≡ true) (sym (append_assoc v w j)) (f (w ++ j))

abbrev pub is_operator : Option Op → Bool
is_operator None = false
is_operator (Some o) = true

module _ (operator : Terminal → Option Op) (O : List Terminal) (table : (kd : Terminal) → is_operator (operator kd) ≡ member O kd) where
  pub terminals_of : (kd : Terminal) (o : Op) → operator kd ≡ Some o → member O kd ≡ true
  terminals_of kd o e = sym (table kd) ∙ ap is_operator e

pub factor_table : (kd : Terminal) → is_operator (factor kd) ≡ member (the.Star ∷ the.Slash ∷ []) kd
unfolding same_terminal
factor_table the.Star = refl
factor_table the.Slash = refl
factor_table _ = refl

pub sign_table : (kd : Terminal) → is_operator (sign kd) ≡ member (the.Plus ∷ the.Minus ∷ []) kd
unfolding same_terminal
sign_table the.Plus = refl
sign_table the.Minus = refl
sign_table _ = refl

pub comparison_table : (kd : Terminal) → is_operator (comparison kd) ≡ member comparisons kd
unfolding same_terminal
comparison_table the.Less = refl
comparison_table the.LessEqual = refl
comparison_table the.Greater = refl
comparison_table the.GreaterEqual = refl
comparison_table the.EqualEqual = refl
comparison_table the.NotEqual = refl
comparison_table _ = refl

pub and_table : (kd : Terminal) → is_operator (conjunction kd) ≡ member (the.And ∷ []) kd
unfolding same_terminal
and_table the.And = refl
and_table _ = refl

pub or_table : (kd : Terminal) → is_operator (disjunction kd) ≡ member (the.Or ∷ []) kd
unfolding same_terminal
or_table the.Or = refl
or_table _ = refl

pub only_one : (x kd : Terminal) → member (x ∷ []) kd ≡ true → kd ≡ x
only_one x kd e = go (same_terminal x kd) refl e
  where
    go : (b : Bool) → same_terminal x kd ≡ b → (if b then true else false) ≡ true → kd ≡ x
    go true f e = sym (is_terminal x kd f)
    go false f e = cc

pub and_is : (kd : Terminal) (o : Op) → conjunction kd ≡ Some o → (kd ≡ the.And) × (o ≡ op.And)
and_is kd o e =
    let at : kd ≡ the.And = only_one the.And kd (terminals_of conjunction (the.And ∷ []) and_table kd o e) in
    let same : Some op.And ≡ Some o = ap conjunction (sym at) ∙ e in
    (at, cc)

pub or_is : (kd : Terminal) (o : Op) → disjunction kd ≡ Some o → (kd ≡ the.Or) × (o ≡ op.Or)
or_is kd o e =
    let at : kd ≡ the.Or = only_one the.Or kd (terminals_of disjunction (the.Or ∷ []) or_table kd o e) in
    let same : Some op.Or ≡ Some o = ap disjunction (sym at) ∙ e in
    (at, cc)

pub sign_leads : (kd : Terminal) (o : Op) → sign kd ≡ Some o → member exprs kd ≡ true
unfolding same_terminal
sign_leads kd o e = each_at (member exprs) kd (the.Plus ∷ the.Minus ∷ []) refl (terminals_of sign (the.Plus ∷ the.Minus ∷ []) sign_table kd o e)

pub name_leads : {w : Word} {parts : List Ident} → NameOf w parts → Leads w
unfolding same_terminal
name_leads (single a h) j = one_of the.Identifier a.terminal h refl
name_leads (dotted {v} p a n c h) j = leads_left v (p ∷ a ∷ []) (name_leads n) j

pub prim_leads : {w : Word} {e : Expr} → Prim w e → Leads w
unfolding same_terminal
prim_leads (an_integer t h v) j = one_of the.Integer t.terminal h refl
prim_leads (a_real t h v) j = one_of the.Real t.terminal h refl
prim_leads (a_string t h v) j = one_of the.Str t.terminal h refl
prim_leads (a_true t h) j = one_of the.True t.terminal h refl
prim_leads (a_false t h) j = one_of the.False t.terminal h refl
prim_leads (a_paren a b h x g) j = one_of the.Open a.terminal h refl
prim_leads (an_array a b h x g) j = one_of the.OpenBrace a.terminal h refl
prim_leads (a_call f a b h i x g) j = one_of the.Identifier f.terminal h refl
prim_leads (a_refer {v} {w} n x) j = leads_left v w (name_leads n) j

pub term_leads : {w : Word} {e : Expr} → Term w e → Leads w
term_leads (one_prim p) j = prim_leads p j
term_leads (times {v} {w} t l f r) j = leads_left v (t ∷ w) (term_leads l) j

pub sum_leads : {w : Word} {e : Expr} → Sum w e → Leads w
sum_leads (one_term x) j = term_leads x j
sum_leads (signed_term t {o = o} f x) j = sign_leads t.terminal o f
sum_leads (added {v} {w} t l f r) j = leads_left v (t ∷ w) (sum_leads l) j

pub rel_leads : {w : Word} {e : Expr} → Rel w e → Leads w
rel_leads (one_sum x) j = sum_leads x j
rel_leads (compared {v} {w} t l f r) j = leads_left v (t ∷ w) (sum_leads l) j

pub lnot_leads : {w : Word} {e : Expr} → Lnot w e → Leads w
unfolding same_terminal
lnot_leads (as_it_is x) j = rel_leads x j
lnot_leads (not_rel t h x) j = one_of the.Not t.terminal h refl

pub land_leads : {w : Word} {e : Expr} → Land w e → Leads w
land_leads (one_lnot x) j = lnot_leads x j
land_leads (and_lnot {v} {w} t l f r) j = leads_left v (t ∷ w) (land_leads l) j

pub lor_leads : {w : Word} {e : Expr} → Lor w e → Leads w
lor_leads (one_land x) j = land_leads x j
lor_leads (or_land {v} {w} t l f r) j = leads_left v (t ∷ w) (lor_leads l) j

pub expr_leads : {w : Word} {e : Expr} → ExprOf w e → Leads w
unfolding same_terminal
expr_leads (a_conditional i t h c g x y) j = one_of the.If i.terminal h refl
expr_leads (logical x) j = lor_leads x j

pub some_left : (v : Word) (t : Lexeme) (w : Word) → 0 < length (v ++ t ∷ w)
some_left v t w = omega (arith, length-append v (t ∷ w))

pub name_some : {w : Word} {parts : List Ident} → NameOf w parts → 0 < length w
name_some (single a h) = omega arith
name_some (dotted {v} p a n c h) = some_left v p (a ∷ [])

pub prim_some : {w : Word} {e : Expr} → Prim w e → 0 < length w
prim_some (an_integer t h v) = omega arith
prim_some (a_real t h v) = omega arith
prim_some (a_string t h v) = omega arith
prim_some (a_true t h) = omega arith
prim_some (a_false t h) = omega arith
prim_some (a_paren a b h x g) = omega arith
prim_some (an_array a b h x g) = omega arith
prim_some (a_call f a b h i x g) = omega arith
prim_some (a_refer {v} {w} n x) = omega (arith, name_some n, length-append v w)

pub term_some : {w : Word} {e : Expr} → Term w e → 0 < length w
term_some (one_prim p) = prim_some p
term_some (times {v} {w} t l f r) = some_left v t w

pub sum_some : {w : Word} {e : Expr} → Sum w e → 0 < length w
sum_some (one_term x) = term_some x
sum_some (signed_term t f x) = omega arith
sum_some (added {v} {w} t l f r) = some_left v t w

pub rel_some : {w : Word} {e : Expr} → Rel w e → 0 < length w
rel_some (one_sum x) = sum_some x
rel_some (compared {v} {w} t l f r) = some_left v t w

pub lnot_some : {w : Word} {e : Expr} → Lnot w e → 0 < length w
lnot_some (as_it_is x) = rel_some x
lnot_some (not_rel t h x) = omega arith

pub land_some : {w : Word} {e : Expr} → Land w e → 0 < length w
land_some (one_lnot x) = lnot_some x
land_some (and_lnot {v} {w} t l f r) = some_left v t w

pub lor_some : {w : Word} {e : Expr} → Lor w e → 0 < length w
lor_some (one_land x) = land_some x
lor_some (or_land {v} {w} t l f r) = some_left v t w

pub expr_some : {w : Word} {e : Expr} → ExprOf w e → 0 < length w
expr_some (a_conditional i t h c g x y) = omega arith
expr_some (logical x) = lor_some x
