-- Kinds are found by their names, which are short and ASCII.
use Rattle.std.proofs.lemmas.Option.{same_Some}
use Rattle.std.proofs.Common.{◌≡◌, ◌<◌, ◌≤◌, ◌↔◌, ℕ, true, List, [], ◌∷◌, length, Option, Some, None, refl, sym, ◌∙◌, ap, inl, inr, arith, subst, lit≤, lit<, zero, suc, Bool, ◌&&◌, nat_lt, get_or}
use Rattle.std.specs.Str.{bytes_eq, IsUtf8}
use Rattle.std.proofs.lemmas.Bool.{cases_Bool, and_parts}
use Rattle.std.proofs.lemmas.Str.{IsUtf8-from_ascii}
use borrow.Author.Tests.{ltb-true}
use Rattle.std.proofs.lemmas.Slice.Eq.{bytes_eq-Decides}
use Rattle.cdl_kinds.specs.declared.kind.Kind.{Kind}
use Rattle.cdl_kinds.specs.declared.kind.Kind.TheVariants.{LogicalAnd}
use Rattle.cdl_kinds.specs.Names.{kind_name, kinds, found}
use Rattle.cdl_scopes.proofs.Lists.{cases_option}

first_of_name : (k : Kind) → found (kind_name k) kinds ≡ Some k
unfolding kinds
first_of_name LogicalAnd = refl
first_of_name _ = refl

is_ascii : List ℕ → Bool
is_ascii [] = true
is_ascii (b ∷ bs) = nat_lt b 128 && is_ascii bs

below_128 : (bs : List ℕ) → is_ascii bs ≡ true → (i : ℕ) → get_or bs i 0 < 128
unfolding is_ascii
below_128 [] h i = lit< tt
below_128 (b ∷ bs) h zero = ltb-true b 128 (and_parts (nat_lt b 128) (is_ascii bs) h).0
below_128 (b ∷ bs) h (suc i) = below_128 bs (and_parts (nat_lt b 128) (is_ascii bs) h).1 i

names_ascii : (k : Kind) → is_ascii (kind_name k) ≡ true
unfolding is_ascii
names_ascii LogicalAnd = refl
names_ascii _ = refl

ascii : (k : Kind) → IsUtf8 (kind_name k)
ascii k = IsUtf8-from_ascii (kind_name k) (below_128 (kind_name k) (names_ascii k))

short : (k : Kind) → length (kind_name k) ≤ 64
short LogicalAnd = lit≤ tt
short _ = lit≤ tt

has_name : (name : List ℕ) (ks : List Kind) (k : Kind) → found name ks ≡ Some k → kind_name k ≡ name
has_name name [] k e = cc
has_name name (j ∷ ks) k e =
    elim (cases_Bool (bytes_eq (kind_name j) name)) [
      | inl hit ↦ ap kind_name (sym (same_Some j k (rw hit at e))) ∙ (bytes_eq-Decides (kind_name j) name).0 hit
      | inr miss ↦ has_name name ks k (rw miss at e)
    ]

missing : (name : List ℕ) (k : Kind) → found name kinds ≡ None → kind_name k ≡ name → ⊥
missing name k none e =
    let there : found name kinds ≡ Some k = ap (λ (x : List ℕ). found x kinds) (sym e) ∙ first_of_name k in
    cc

-- a call that answers with exactly the kind of this name
pub kind_is : (name : List ℕ) (r : Option Kind) → ((k : Kind) → (r ≡ Some k) ↔ (kind_name k ≡ name)) → r ≡ found name kinds
kind_is name r h =
    elim (cases_option (found name kinds)) [
      | inl none ↦
          elim (cases_option r) [
            | inl and_parts ↦ and_parts ∙ sym none
            | inr some ↦ absurd (missing name some.0 none ((h some.0).0 some.1))
          ]
      | inr some ↦ (h some.0).1 (has_name name kinds some.0 some.1) ∙ sym some.1
    ]

pub no_long_kind : (name : List ℕ) → 64 < length name → found name kinds ≡ None
no_long_kind name h =
    elim (cases_option (found name kinds)) [
      | inl none ↦ none
      | inr some ↦ absurd (omega (arith, short some.0, ap length (has_name name kinds some.0 some.1)))
    ]

pub no_other_kind : (name : List ℕ) → (IsUtf8 name → ⊥) → found name kinds ≡ None
no_other_kind name h =
    elim (cases_option (found name kinds)) [
      | inl none ↦ none
      | inr some ↦ absurd (h (subst (λ (x : List ℕ). IsUtf8 x) (has_name name kinds some.0 some.1) (ascii some.0)))
    ]
