-- What a document has of the parameters of a kind can be written.
use Rattle.std.proofs.Common.{ℕ, zero, suc, ◌+◌, ◌*◌, ◌/◌, ◌%◌, ◌^◌, ◌<◌, ◌≡◌, ◌==◌, ◌&&◌, refl, sym, ap, ◌∙◌, ℤ, pos, Bool, true, false, cond, List, [], ◌∷◌, ◌++◌, map, length, IsUtf8, All, arith, Some, slice_get, unsigned_abs}
use Rattle.std.specs.Int.RustNames.{int_lt}
use Rattle.std.specs.Int.Digits.{AllBelowBase, digits_of}
use Rattle.std.specs.List.{list_all}
use Rattle.std.proofs.lemmas.Bool.{and_from, and_parts, false≢true, lt-ltb}
use Rattle.std.proofs.lemmas.Int.Digits.{all_below_base_digits_of}
use Rattle.std.proofs.lemmas.List.Elements.{All-cons, All-map, All-nil}
use Rattle.std.proofs.lemmas.Nat.{div_below, mod_below}
use Rattle.std.proofs.Math.Nat.{pow-suc}
use Rattle.std.proofs.Common.{lit≤, lit<}
use Rattle.cdl_decimal.specs.Canon.{canon, decimal, digit, places_of, point_of, sign_of}
use Rattle.cdl_decimal.proofs.ScaleLaws.{power_positive}
use Rattle.cdl_values.specs.declared.value.Array.{Array}
use Rattle.cdl_values.specs.declared.value.Value.{Value}
use Rattle.cdl_values.specs.declared.value.Value.TheVariants.{Boolean, Integer, Real, Str, Enumeration}
use Rattle.cdl_values.specs.declared.value.ValueType.{ValueType}
use Rattle.cdl_values.specs.declared.value.ValueType.TheVariants.{Boolean as BooleanType, Integer as IntegerType, Real as RealType, Str as StrType, Enumeration as EnumerationType}
use Rattle.cdl_values.specs.Values.{IsArray, IsOf, first, integer_at, items_of}
use Rattle.cdl_kinds.specs.declared.kind.Kind.{Kind}
use Rattle.cdl_kinds.specs.declared.kind.Kind.TheVariants as kind
use Rattle.cdl_kinds.specs.Conditions.{FitRows, Keeps}
use Rattle.cdl_kinds.specs.Names.{kind_name}
use Rattle.cdl_kinds.specs.Parameters.{parameters}
use Rattle.cdl_kinds.specs.Table.{ParameterRow}
use Rattle.cdl_connect.specs.WellFormed.{is_plain}
use Rattle.cdl_network.specs.Rules.{is_empty}
use Rattle.cxf_graph.specs.declared.graph.Given.{Given}
use Rattle.cxf_graph.specs.declared.graph.GivenItem.{GivenItem}
use Rattle.cxf_graph.specs.declared.graph.GivenItem.TheVariants.{Bad}
use Rattle.cxf_graph.specs.declared.graph.GivenValue.{GivenValue}
use Rattle.cxf_graph.specs.declared.graph.GivenValue.TheVariants.{Item, List as Listed}
use Rattle.cxf_graph.specs.Document.{IsGiven, IsItem, IsValue}
use Rattle.cxf_graph.specs.Written.{given_all, given_in, given_item, given_value}
use Rattle.cxf_graph.proofs.Texts.{all_both, is_low, low_utf8}

-- canonical texts
digit_low : (d : ℕ) → d < 10 → is_low (digit d) ≡ true
digit_low d h = lt-ltb (48 + d) 128 (omega arith)

digits_low : (ds : List ℕ) → AllBelowBase 10 ds → list_all is_low (map digit ds) ≡ true
digits_low [] h = refl
digits_low (d ∷ ds) h = and_from (is_low (digit d)) (list_all is_low (map digit ds)) (digit_low d h.0) (digits_low ds h.1)

decimal_low : (n : ℕ) → list_all is_low (decimal n) ≡ true
decimal_low n = elim (n == 0) as (λ z. list_all is_low (cond z (48 ∷ []) (map digit (digits_of 10 n))) ≡ true) [
  | true ↦ refl
  | false ↦ digits_low (digits_of 10 n) (all_below_base_digits_of 10 n (lit≤ tt))
]

places_low : (k n : ℕ) → n < 10 ^ k → list_all is_low (places_of k n) ≡ true
places_low zero n h = refl
places_low (suc k) n h =
    let p : 10 ^ (suc k) ≡ 10 ^ k * 10 = pow-suc 10 k in
    let d : n / 10 ^ k < 10 = div_below n (10 ^ k) 10 (power_positive k) (omega arith) in
    let r = places_low k (n % 10 ^ k) (mod_below n (10 ^ k) (power_positive k)) in
    elim (n == 0) as (λ z. list_all is_low (cond z [] (digit (n / 10 ^ k) ∷ places_of k (n % 10 ^ k))) ≡ true) [
      | true ↦ refl
      | false ↦ and_from (is_low (digit (n / 10 ^ k))) (list_all is_low (places_of k (n % 10 ^ k))) (digit_low (n / 10 ^ k) d) r
    ]

point_low : (n : ℕ) → n < 10 ^ 6 → list_all is_low (point_of n) ≡ true
point_low n h = elim (n == 0) as (λ z. list_all is_low (cond z [] (46 ∷ places_of 6 n)) ≡ true) [ true ↦ refl | false ↦ places_low 6 n h ]

sign_low : (c : ℤ) → list_all is_low (sign_of c) ≡ true
sign_low c = elim (int_lt c (pos 0)) as (λ z. list_all is_low (cond z (45 ∷ []) []) ≡ true) [ true ↦ refl | false ↦ refl ]

canon_low : (c : ℤ) → list_all is_low (canon c) ≡ true
unfolding canon
canon_low c =
    let n = unsigned_abs c in
    let point = point_low (n % 1000000) (mod_below n 1000000 (lit< tt)) in
    all_both is_low (sign_of c ++ decimal (n / 1000000)) (point_of (n % 1000000)) (all_both is_low (sign_of c) (decimal (n / 1000000)) (sign_low c) (decimal_low (n / 1000000))) point

canon_utf8 : (c : ℤ) → IsUtf8 (canon c)
canon_utf8 c = low_utf8 (canon c) (canon_low c)

-- items of plain types
item_writable : (t : ValueType) (v : Value) → is_plain t ≡ true → IsOf t v → IsItem (given_item v)
item_writable t (Boolean b) p h = tt
item_writable t (Integer z) p h = tt
item_writable t (Real c) p h = canon_utf8 c
item_writable BooleanType (Str s) p h = absurd h
item_writable IntegerType (Str s) p h = absurd h
item_writable RealType (Str s) p h = absurd h
item_writable StrType (Str s) p h = absurd (false≢true p)
item_writable (EnumerationType c) (Str s) p h = absurd (false≢true p)
item_writable BooleanType (Enumeration c o) p h = absurd h
item_writable IntegerType (Enumeration c o) p h = absurd h
item_writable RealType (Enumeration c o) p h = absurd h
item_writable StrType (Enumeration c o) p h = absurd (false≢true p)
item_writable (EnumerationType d) (Enumeration c o) p h = absurd (false≢true p)

-- what holds of a value where something holds of its items
module _ (P : GivenItem → Type 0) (Q : GivenValue → Type 0) (one : (g : GivenItem) → P g → Q (Item g)) (many : (gs : List GivenItem) → All P gs → Q (Listed gs)) where
  scalar_has : (t : ValueType) (vs : List Value) → ((v : Value) → IsOf t v → P (given_item v)) → All (IsOf t) vs → length vs ≡ 1 → P (first given_item Bad vs)
  scalar_has t [] f h e = absurd (omega arith)
  scalar_has t (v ∷ vs) f h e = f v (h 0 v (omega arith))

  by_shape : (shape : List ℕ) (t : ValueType) (vs : List Value) → ((v : Value) → IsOf t v → P (given_item v)) → All (IsOf t) vs → length vs ≡ items_of shape → Q (cond (is_empty shape) (Item (first given_item Bad vs)) (Listed (map given_item vs)))
  by_shape [] t vs f h e = one (first given_item Bad vs) (scalar_has t vs f h e)
  by_shape (n ∷ ns) t vs f h e = many (map given_item vs) (All-map P given_item vs (λ k d l. f _ (h k d l)))

  pub value_has : (a : Array) → ((v : Value) → IsOf a.value_type v → P (given_item v)) → IsArray a → Q (given_value a)
  value_has a f i = by_shape a.shape a.value_type a.items f i.each i.count

value_writable : (a : Array) → is_plain a.value_type ≡ true → IsArray a → IsValue (given_value a)
value_writable a p i = value_has IsItem IsValue (λ g h. h) (λ gs h. h) a (λ v h. item_writable a.value_type v p h) i

-- names are ASCII, and each parameter is Boolean, Integer or Real
abbrev is_fine_row : ParameterRow → Bool
is_fine_row r = list_all is_low r.name && is_plain r.value_type

kind_fine : (k : Kind) → (list_all is_low (kind_name k) && list_all is_fine_row (parameters k)) ≡ true
kind_fine kind.LogicalAnd = refl
kind_fine _ = refl

pub name_utf8 : (k : Kind) → IsUtf8 (kind_name k)
name_utf8 k = low_utf8 (kind_name k) (and_parts (list_all is_low (kind_name k)) (list_all is_fine_row (parameters k)) (kind_fine k)).0

-- the parameters of these rows, with these values
abbrev pub paired : List ParameterRow → List Array → List Given
paired [] v = []
paired (r ∷ rs) [] = []
paired (r ∷ rs) (a ∷ v) = record { name = r.name; value = given_value a } ∷ paired rs v

rows_paired : (nin : ℤ) (rs : List ParameterRow) (all v : List Array) (i : ℕ) → FitRows nin rs v → ((j : ℕ) → slice_get all (i + j) ≡ slice_get v j) → given_all all i rs ≡ paired rs v
rows_paired nin [] all v i f s = refl
rows_paired nin (r ∷ rs) all [] i f s = absurd f
rows_paired nin (r ∷ rs) all (a ∷ v) i f s =
    let z : i + 0 ≡ i = omega arith in
    let e : slice_get all i ≡ Some a = ap (slice_get all) (sym z) ∙ s 0 in
    let rest = rows_paired nin rs all v (suc i) f.1 (λ j. let q : suc i + j ≡ i + suc j = omega arith in ap (slice_get all) q ∙ s (suc j)) in
    ap (λ o. given_in r o ++ given_all all (suc i) rs) e ∙ ap (λ l. record { name = r.name; value = given_value a } ∷ l) rest

pub given_paired : (k : Kind) (v : List Array) → Keeps k v → given_all v 0 (parameters k) ≡ paired (parameters k) v
given_paired k v h = rows_paired (integer_at v 0) (parameters k) v v 0 h.fits.rows (λ j. let z : 0 + j ≡ j = omega arith in ap (slice_get v) z)

-- names are UTF-8, and of each value holds what holds of values of plain types
module _ (Q : GivenValue → Type 0) (value : (a : Array) → is_plain a.value_type ≡ true → IsArray a → Q (given_value a)) where
  all_paired : (nin : ℤ) (rs : List ParameterRow) (v : List Array) → list_all is_fine_row rs ≡ true → FitRows nin rs v → All (λ (g : Given). IsUtf8 g.name × Q g.value) (paired rs v)
  all_paired nin [] v h f = All-nil (λ (g : Given). IsUtf8 g.name × Q g.value)
  all_paired nin (r ∷ rs) [] h f = All-nil (λ (g : Given). IsUtf8 g.name × Q g.value)
  all_paired nin (r ∷ rs) (a ∷ v) h f =
      let b = and_parts (is_fine_row r) (list_all is_fine_row rs) h in
      let c = and_parts (list_all is_low r.name) (is_plain r.value_type) b.0 in
      All-cons (λ (g : Given). IsUtf8 g.name × Q g.value) (record { name = r.name; value = given_value a }) (paired rs v)
      (low_utf8 r.name c.0, value a (ap is_plain f.0.value_type ∙ c.1) f.0.array)
      (all_paired nin rs v b.1 f.1)

  pub each_given : (k : Kind) (v : List Array) → Keeps k v → All (λ (g : Given). IsUtf8 g.name × Q g.value) (given_all v 0 (parameters k))
  each_given k v h =
      let fine = (and_parts (list_all is_low (kind_name k)) (list_all is_fine_row (parameters k)) (kind_fine k)).1 in
      rw (given_paired k v h) (all_paired (integer_at v 0) (parameters k) v fine h.fits.rows)

pub given_writable : (k : Kind) (v : List Array) → Keeps k v → All IsGiven (given_all v 0 (parameters k))
given_writable k v h = each_given IsValue value_writable k v h
