-- Wires between numbers stand for those between names.
use Rattle.std.proofs.Common.{◌≡◌, ◌<◌, ◌≤◌, ℕ, ◌+◌, List, [], ◌∷◌, ◌++◌, map, length, drop, get_or, refl, sym, ap, ◌∙◌, subst, add-one, drop-cons, arith, inl, inr, Option, Some, Ok, Err, true, false}
use Rattle.std.specs.Prelude.{min, nat_le, slice_get}
use Rattle.std.proofs.lemmas.List.{map-append, length-map, drop_all}
use Rattle.std.proofs.lemmas.Bool.{cases_lt}
use Rattle.cdl_source.specs.declared.limits.TheConstants.{MOST_WIRES}
use Rattle.cdl_source.specs.declared.rules.TheConstants.{TOO_MANY_WIRES}
use Rattle.cdl_connect.specs.declared.net.RawWire.{RawWire}
use Rattle.cdl_paths.specs.declared.path.Step.{Step}
use Rattle.cdl_model.specs.Names.{ElementName}
use Rattle.cdl_statements.specs.declared.net.Net.{Net}
use Rattle.cdl_statements.specs.Directory.{Directory, NamedWire, wire, wire_at, AreNumbers}
use Rattle.cdl_statements.specs.Events.{Wires, pairs, step}
use Rattle.cdl_joins.specs.declared.sides.Piece.{Piece}
use Rattle.cdl_joins.specs.declared.sides.Side.{Side}
use Rattle.cdl_statements.specs.Places.{Spot}
use Rattle.cdl_joins.specs.Sides.{all_elements, elements}
use Rattle.cdl_statements.specs.inner.Seen.{made, raw, raw_pairs}

pub raw_next : (s : ℕ) (ls rs : List ℕ) (i : ℕ) (d : ℕ) → i < length ls → i < length rs → raw_pairs s (drop i ls) (drop i rs) ≡ raw s (get_or ls i d) (get_or rs i d) ∷ raw_pairs s (drop (i + 1) ls) (drop (i + 1) rs)
raw_next s ls rs i d g h = rw (add-one, drop-cons ls i d g, drop-cons rs i d h) refl

none_right : (s : ℕ) (ls : List ℕ) → raw_pairs s ls [] ≡ []
none_right s [] = refl
none_right s (l ∷ ls) = refl

pub raw_end : (s : ℕ) (ls rs : List ℕ) (i : ℕ) → min (length ls) (length rs) ≤ i → raw_pairs s (drop i ls) (drop i rs) ≡ []
raw_end s ls rs i h = elim (cases_lt i (length ls)) [
  | inl lt ↦ (let past : length rs ≤ i = omega (arith, h, lt) in rw (drop_all i rs past) (none_right s (drop i ls)))
  | inr le ↦ rw (drop_all i ls le) refl
]

no_item : (l : ElementName) (ls : List ElementName) → [] ≡ map Some (l ∷ ls) → ⊥
no_item l ls e = cc

no_number : (o : Option ElementName) (os : List (Option ElementName)) → o ∷ os ≡ [] → ⊥
no_number o os e = cc

heads : (o p : Option ElementName) (os ps : List (Option ElementName)) → o ∷ os ≡ p ∷ ps → (o ≡ p) × (os ≡ ps)
heads o p os ps e = (cc, cc)

wire_is : (d : Directory) (s n m : ℕ) (p : List Step) (l r : ElementName) → slice_get d.paths s ≡ Some p → slice_get d.names n ≡ Some l → slice_get d.names m ≡ Some r → wire_at d (raw s n m) ≡ Some (wire p l r)
wire_is d s n m p l r a b c = rw (a, b, c) refl

pub pairs_are : (d : Directory) (s : ℕ) (p : List Step) (ns ms : List ℕ) (ls rs : List ElementName) → slice_get d.paths s ≡ Some p → AreNumbers d.names ns ls → AreNumbers d.names ms rs → map (wire_at d) (raw_pairs s ns ms) ≡ map Some (pairs p ls rs)
pairs_are d s p [] ms [] rs a b c = refl
pairs_are d s p [] ms (l ∷ ls) rs a b c = absurd (no_item l ls b)
pairs_are d s p (n ∷ ns) ms [] rs a b c = absurd (no_number (slice_get d.names n) (map (slice_get d.names) ns) b)
pairs_are d s p (n ∷ ns) [] (l ∷ ls) [] a b c = refl
pairs_are d s p (n ∷ ns) [] (l ∷ ls) (r ∷ rs) a b c = absurd (no_item r rs c)
pairs_are d s p (n ∷ ns) (m ∷ ms) (l ∷ ls) [] a b c = absurd (no_number (slice_get d.names m) (map (slice_get d.names) ms) c)
pairs_are d s p (n ∷ ns) (m ∷ ms) (l ∷ ls) (r ∷ rs) a b c =
    let x = heads (slice_get d.names n) (Some l) (map (slice_get d.names) ns) (map Some ls) b in
    let y = heads (slice_get d.names m) (Some r) (map (slice_get d.names) ms) (map Some rs) c in
    ap (λ (z : Option NamedWire). z ∷ map (wire_at d) (raw_pairs s ns ms)) (wire_is d s n m p l r a x.0 y.0)
    ∙ ap (λ (zs : List (Option NamedWire)). Some (wire p l r) ∷ zs) (pairs_are d s p ns ms ls rs a x.1 y.1)

-- the wires of two sides
pub sides_joined : (d : Directory) (s : ℕ) (p : List Step) (l r : Side) (nl nr : List ℕ) (pl pr : List Piece) (ns ms us vs : List ℕ) (xs : List RawWire) → slice_get d.paths s ≡ Some p → nl ≡ l.name → pl ≡ l.pieces → nr ≡ r.name → pr ≡ r.pieces
    → AreNumbers d.names ns (all_elements nl pl) → AreNumbers d.names ms (all_elements nr pr) → us ≡ ns → vs ≡ ms → xs ≡ raw_pairs s us vs → map (wire_at d) xs ≡ map Some (pairs p (elements l) (elements r))
sides_joined d s p l r nl nr pl pr ns ms us vs xs a b c e f g h i j k =
    let one : AreNumbers d.names ns (elements l) = subst (λ (z : List ℕ). AreNumbers d.names ns (all_elements z l.pieces)) b (subst (λ (z : List Piece). AreNumbers d.names ns (all_elements nl z)) c g) in
    let two : AreNumbers d.names ms (elements r) = subst (λ (z : List ℕ). AreNumbers d.names ms (all_elements z r.pieces)) e (subst (λ (z : List Piece). AreNumbers d.names ms (all_elements nr z)) f h) in
    ap (map (wire_at d)) (k ∙ ap (λ (z : List ℕ). raw_pairs s z vs) i ∙ ap (λ (z : List ℕ). raw_pairs s ns z) j) ∙ pairs_are d s p ns ms (elements l) (elements r) a one two

count_is : (d : Directory) (n : Net) (xs : List RawWire) (ws : List NamedWire) → map (wire_at d) xs ≡ map Some ws → length (made d n).wires + length ws ≡ length n.wires + length xs
count_is d n xs ws e =
    let one : length (map (wire_at d) n.wires) ≡ length n.wires = length-map n.wires (wire_at d) in
    let two : length xs ≡ length ws = sym (length-map xs (wire_at d)) ∙ ap length e ∙ length-map ws Some in
    omega (arith, one, two)

pub wires_fit : (d : Directory) (m n : Net) (at : Spot) (xs : List RawWire) (ws : List NamedWire) → map (wire_at d) xs ≡ map Some ws → nat_le (length m.wires + length xs) MOST_WIRES ≡ true → n.turns ≡ m.turns → n.wires ≡ m.wires ++ xs
    → step (made d m) (Wires at ws) ≡ Ok (made d n)
wires_fit d m n at xs ws e h t w =
    let all : (made d m).wires ++ map Some ws ≡ (made d n).wires = ap (λ (zs : List (Option NamedWire)). map (wire_at d) m.wires ++ zs) (sym e) ∙ sym (map-append (wire_at d) m.wires xs) ∙ ap (map (wire_at d)) (sym w) in
    rw (count_is d m xs ws e, h) (ap (λ (zs : List (Option NamedWire)). Ok (record { turns = m.turns; wires = zs })) all ∙ ap (λ (k : ℕ). Ok (record { turns = k; wires = (made d n).wires })) (sym t))

pub wires_past : (d : Directory) (m : Net) (at : Spot) (xs : List RawWire) (ws : List NamedWire) → map (wire_at d) xs ≡ map Some ws → nat_le (length m.wires + length xs) MOST_WIRES ≡ false → step (made d m) (Wires at ws) ≡ Err (at, TOO_MANY_WIRES)
wires_past d m at xs ws e h = rw (count_is d m xs ws e, h) refl
