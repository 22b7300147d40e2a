-- Depths and counts, a token at a time.
use Rattle.std.proofs.Common.{◌≡◌, inl, inr, Bool, true, false, ℕ, ◌+◌, ◌==◌, ◌<◌, ◌≤◌, List, [], ◌∷◌, ◌&&◌, not, if◌then◌else◌, length, reverse, take, get_or, sym, ap, ◌∙◌, arith}
use Rattle.std.proofs.lemmas.List.{reverse-append, take_more}
use Rattle.cdl_source.specs.declared.place.Token.{Token}
use Rattle.cdl_lex.specs.declared.role.Role.{Role}
use Rattle.cdl_lex.specs.declared.role.Role.TheVariants as r
use Rattle.cdl_lex.specs.declared.depth.Depth.{Depth}
use Rattle.cdl_lex.specs.declared.counts.Counts.{Counts}
use Rattle.cdl_lex.specs.Spellings.{Bytes}
use Rattle.cdl_lex.specs.Roles.{role_of, is_end, is_semicolon, is_if, is_operator, is_lead}
use Rattle.cdl_lex.specs.Limits.{follows, with_bracket, brackets, with_class, classes, depth, with_token, ifs, operators, IsTooDeep, IsTooMany}

-- one token more, from the nearest one back
pub turned : (ts : List Token) (i : ℕ) (d : Token) → i < length ts → get_or ts i d ∷ reverse (take i ts) ≡ reverse (take (i + 1) ts)
turned ts i d l = sym (ap reverse (take_more ts i d l) ∙ reverse-append (take i ts) (get_or ts i d ∷ []))

-- ---- depths

-- The code's depth is that behind these tokens.
pub record IsDepth (bytes : Bytes) (earlier : List Token) (d : Depth) : Type 0 where
  pub brackets_are : d.brackets ≡ brackets bytes earlier
  pub classes_are : d.classes ≡ classes bytes earlier
  pub end_is : d.follows_end ≡ follows is_end bytes earlier

pub depth_next : (bytes : Bytes) (earlier : List Token) (t : Token) (d b : Depth) (r : Role) → IsDepth bytes earlier d → r ≡ role_of bytes t → b.brackets ≡ with_bracket r d.brackets
    → b.classes ≡ (if d.brackets == 0 then with_class r d.follows_end d.classes else d.classes) → b.follows_end ≡ is_end r → IsDepth bytes (t ∷ earlier) b
depth_next bytes earlier t d b r h e f g k = record {
  brackets_are = f ∙ ap (λ z. with_bracket z d.brackets) e ∙ ap (with_bracket (role_of bytes t)) h.brackets_are;
  classes_are = g ∙ ap (λ z. if d.brackets == 0 then with_class z d.follows_end d.classes else d.classes) e
      ∙ ap (λ z. if z == 0 then with_class (role_of bytes t) d.follows_end d.classes else d.classes) h.brackets_are
      ∙ ap (λ z. if brackets bytes earlier == 0 then with_class (role_of bytes t) z d.classes else d.classes) h.end_is
      ∙ ap (λ z. if brackets bytes earlier == 0 then with_class (role_of bytes t) (follows is_end bytes earlier) z else z) h.classes_are;
  end_is = k ∙ ap is_end e;
}

with_class_small : (r : Role) (e : Bool) (n : ℕ) → with_class r e n ≤ n + 1
with_class_small r.Class e n = omega arith
with_class_small r.For true n = omega arith
with_class_small r.For false n = omega arith
with_class_small r.End e n = omega arith
with_class_small _ e n = omega arith

-- one token raises the depth by one at most
step_small : (r : Role) (e q : Bool) (m n : ℕ) → with_bracket r m + (if q then with_class r e n else n) ≤ (m + n) + 1
step_small r.Opening e true m n = omega arith
step_small r.Closing e true m n = omega arith
step_small r.Class e true m n = omega arith
step_small r.For true true m n = omega arith
step_small r.For false true m n = omega arith
step_small r.End e true m n = omega arith
step_small r.Opening e false m n = omega arith
step_small r.Closing e false m n = omega arith
step_small _ e true m n = omega arith
step_small _ e false m n = omega arith

pub is_too_deep : (bytes : Bytes) (before : List Token) (t : Token) (d b : Depth) → IsDepth bytes (reverse before) d → IsDepth bytes (t ∷ reverse before) b
    → d.brackets + d.classes ≤ 64 → 64 < b.brackets + b.classes → IsTooDeep bytes before t
is_too_deep bytes before t d b h k small over =
    let step : depth bytes (t ∷ reverse before) ≤ depth bytes (reverse before) + 1 =
    step_small (role_of bytes t) (follows is_end bytes (reverse before)) (brackets bytes (reverse before) == 0) (brackets bytes (reverse before)) (classes bytes (reverse before)) in
    let at_limit : depth bytes (reverse before) ≡ 64 = omega (arith, h.brackets_are, h.classes_are, k.brackets_are, k.classes_are) in
    let above : depth bytes (t ∷ reverse before) ≡ 64 + 1 = omega (arith, h.brackets_are, h.classes_are, k.brackets_are, k.classes_are) in
    (at_limit, above)

pub not_too_deep : (bytes : Bytes) (before : List Token) (t : Token) (b : Depth) → IsDepth bytes (t ∷ reverse before) b → b.brackets + b.classes ≤ 64 → IsTooDeep bytes before t → ⊥
not_too_deep bytes before t b k small p = let above : depth bytes (t ∷ reverse before) ≡ 64 + 1 = p.1 in absurd (omega (arith, k.brackets_are, k.classes_are))

-- ---- counts

-- The code's counts are those behind these tokens.
pub record AreCounts (bytes : Bytes) (earlier : List Token) (c : Counts) : Type 0 where
  pub ifs_are : c.ifs ≡ ifs bytes earlier
  pub operators_are : c.operators ≡ operators bytes earlier
  pub lead_is : c.follows_lead ≡ follows is_lead bytes earlier

pub counts_next : (bytes : Bytes) (earlier : List Token) (t : Token) (c b : Counts) (r : Role) → AreCounts bytes earlier c → r ≡ role_of bytes t
    → b.ifs ≡ with_token (is_semicolon r) (is_if r) c.ifs → b.operators ≡ with_token (is_semicolon r) (is_operator r && not c.follows_lead) c.operators → b.follows_lead ≡ is_lead r
    → AreCounts bytes (t ∷ earlier) b
counts_next bytes earlier t c b r h e f g k = record {
  ifs_are = f ∙ ap (λ z. with_token (is_semicolon z) (is_if z) c.ifs) e ∙ ap (with_token (is_semicolon (role_of bytes t)) (is_if (role_of bytes t))) h.ifs_are;
  operators_are = g ∙ ap (λ z. with_token (is_semicolon z) (is_operator z && not c.follows_lead) c.operators) e
      ∙ ap (λ z. with_token (is_semicolon (role_of bytes t)) (is_operator (role_of bytes t) && not z) c.operators) h.lead_is
      ∙ ap (with_token (is_semicolon (role_of bytes t)) (is_operator (role_of bytes t) && not (follows is_lead bytes earlier))) h.operators_are;
  lead_is = k ∙ ap is_lead e;
}

token_small : (s c : Bool) (n : ℕ) → with_token s c n ≤ n + 1
token_small true c n = omega arith
token_small false true n = omega arith
token_small false false n = omega arith

pub has_many_ifs : (bytes : Bytes) (before : List Token) (t : Token) (c b : Counts) → AreCounts bytes (reverse before) c → AreCounts bytes (t ∷ reverse before) b
    → c.ifs ≤ 64 → 64 < b.ifs → IsTooMany bytes before t
has_many_ifs bytes before t c b h k small over =
    let step : ifs bytes (t ∷ reverse before) ≤ ifs bytes (reverse before) + 1 = token_small (is_semicolon (role_of bytes t)) (is_if (role_of bytes t)) (ifs bytes (reverse before)) in
    let at_limit : ifs bytes (reverse before) ≡ 64 = omega (arith, h.ifs_are, k.ifs_are) in
    let above : ifs bytes (t ∷ reverse before) ≡ 64 + 1 = omega (arith, h.ifs_are, k.ifs_are) in
    inl (at_limit, above)

pub has_many_operators : (bytes : Bytes) (before : List Token) (t : Token) (c b : Counts) → AreCounts bytes (reverse before) c → AreCounts bytes (t ∷ reverse before) b
    → c.operators ≤ 1024 → 1024 < b.operators → IsTooMany bytes before t
has_many_operators bytes before t c b h k small over =
    let step : operators bytes (t ∷ reverse before) ≤ operators bytes (reverse before) + 1 =
    token_small (is_semicolon (role_of bytes t)) (is_operator (role_of bytes t) && not (follows is_lead bytes (reverse before))) (operators bytes (reverse before)) in
    let at_limit : operators bytes (reverse before) ≡ 1024 = omega (arith, h.operators_are, k.operators_are) in
    let above : operators bytes (t ∷ reverse before) ≡ 1024 + 1 = omega (arith, h.operators_are, k.operators_are) in
    inr (at_limit, above)

pub has_few : (bytes : Bytes) (before : List Token) (t : Token) (b : Counts) → AreCounts bytes (t ∷ reverse before) b → b.ifs ≤ 64 → b.operators ≤ 1024 → IsTooMany bytes before t → ⊥
has_few bytes before t b k few_ifs few_operators p = elim p [ inl q ↦ many_ifs q.1 | inr q ↦ many_operators q.1 ]
  where
    many_ifs : ifs bytes (t ∷ reverse before) ≡ 64 + 1 → ⊥
    many_ifs e = absurd (omega (arith, k.ifs_are))

    many_operators : operators bytes (t ∷ reverse before) ≡ 1024 + 1 → ⊥
    many_operators e = absurd (omega (arith, k.operators_are))
