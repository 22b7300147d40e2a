-- Names declared twice.
use Rattle.std.proofs.lemmas.Option.{same_Some}
use Rattle.std.proofs.Common.{◌≡◌, ◌⊎◌, ◌<◌, ◌≤◌, ◌+◌, ◌&&◌, ℕ, zero, suc, true, false, cond, List, [], ◌∷◌, ◌++◌, map, take, drop, length, Option, Some, None, Vec, is_some, refl, sym, ◌∙◌, ap, inl, inr, arith, append_assoc, append-nil, nat_lt}
use Rattle.std.specs.Prelude.{if◌then◌else◌, nat_le, ◌==◌}
use Rattle.std.specs.declared.alloc.Global.{Global}
use Rattle.std.specs.BTreeMap.{BTreeMap}
use Rattle.std.specs.List.{slice_get, slice_set, list_any, filter}
use Rattle.std.specs.Str.{bytes_eq}
use Rattle.std.proofs.lemmas.Bool.{cases_Bool, cases_lt, false≢true, false_from_ne_true, eqb-true, eq-eqb, leb-true, le-leb, ltb-true, lt-ltb, and_from, and_parts, or_cases, or_left, or_right}
use Rattle.std.proofs.Math.ListN.{length-set}
use Rattle.std.proofs.lemmas.List.{same_from_push, map-append}
use Rattle.cdl_source.specs.declared.place.Place.{Place}
use Rattle.cdl_tree.specs.declared.name.Ident.{Ident}
use Rattle.cdl_scopes.specs.Classes.{Declared, Full, full, same_full, text_of}
use Rattle.cdl_scopes.specs.Lookup.{first_from, first_named, first_named_from, first_of}
use Rattle.cdl_classes.specs.Places.{not_after, soonest, latest, sooner, least}
use Rattle.cdl_classes.specs.Rules.{Named, place, later_of, with_name, twice_from, again_from}
use Rattle.cdl_classes.specs.inner.Marks.{mark_from, Marks, and_later}
use Rattle.cdl_scopes.specs.Entries.{entry}
use Rattle.cdl_scopes.proofs.Lists.{get_at, get_written}
use Rattle.cdl_scopes.proofs.Meanings.{first_within}
use Rattle.cdl_scopes.proofs.Entries.{at}
use Rattle.std.specs.Map.{lookup}
use Rattle.cdl_scopes.proofs.Fronts.{same_bytes, bytes_same, same_is, same_self}
use Rattle.cdl_classes.proofs.Items.{least-append}
use Rattle.cdl_scopes.proofs.Lists.{drop_at}

-- a place comes before another by its file, or by its byte in one file
ordered : (p q : Place) → (p.file < q.file) ⊎ ((p.file ≡ q.file) × (p.byte ≤ q.byte)) → not_after p q ≡ true
ordered p q (inl lt) = or_left (nat_lt p.file q.file) _ (lt-ltb p.file q.file lt)
ordered p q (inr same) = or_right (nat_lt p.file q.file) _ (and_from (p.file == q.file) (nat_le p.byte q.byte) (eq-eqb p.file q.file same.0) (le-leb p.byte q.byte same.1))

order_of : (p q : Place) → not_after p q ≡ true → (p.file < q.file) ⊎ ((p.file ≡ q.file) × (p.byte ≤ q.byte))
order_of p q h =
    elim (or_cases (nat_lt p.file q.file) ((p.file == q.file) && nat_le p.byte q.byte) h) [
      | inl lt ↦ inl (ltb-true p.file q.file lt)
      | inr rest ↦
          let both_are = and_parts (p.file == q.file) (nat_le p.byte q.byte) rest in
          inr (eqb-true p.file q.file both_are.0, leb-true p.byte q.byte both_are.1)
    ]

pub total : (p q : Place) → not_after p q ≡ false → not_after q p ≡ true
total p q h =
    elim (cases_lt q.file p.file) [
      | inl lt ↦ ordered q p (inl lt)
      | inr le ↦
          elim (cases_lt p.file q.file) [
            | inl lt ↦ absurd (false≢true (sym h ∙ ordered p q (inl lt)))
            | inr ge ↦
                let same : p.file ≡ q.file = omega arith in
                elim (cases_lt p.byte q.byte) [
                  | inl lt ↦ absurd (false≢true (sym h ∙ ordered p q (inr (same, omega arith))))
                  | inr back ↦ ordered q p (inr (sym same, back))
                ]
          ]
    ]

pub trans : (p q r : Place) → not_after p q ≡ true → not_after q r ≡ true → not_after p r ≡ true
trans p q r h i =
    elim (order_of p q h) [
      | inl a ↦
          elim (order_of q r i) [
            | inl b ↦ ordered p r (inl (omega arith))
            | inr b ↦ ordered p r (inl (omega (arith, b.0)))
          ]
      | inr a ↦
          elim (order_of q r i) [
            | inl b ↦ ordered p r (inl (omega (arith, a.0)))
            | inr b ↦ ordered p r (inr (a.0 ∙ b.0, omega (arith, a.1, b.1)))
          ]
    ]

pub self : (p : Place) → not_after p p ≡ true
self p = ordered p p (inr (refl, omega arith))

-- the later one of a place and the sooner of two is the sooner of the two later ones
later_soonest : (a b p : Place) → latest (soonest a b) p ≡ soonest (latest a p) (latest b p)
later_soonest a b p =
    elim (cases_Bool (not_after a b)) [
      | inl ab ↦
          elim (cases_Bool (not_after a p)) [
            | inl ap_is ↦
                elim (cases_Bool (not_after b p)) [
                  | inl bp ↦ rw (ab, ap_is, bp, self p) refl
                  | inr pb ↦ rw (ab, ap_is, pb, total b p pb) refl
                ]
            | inr pa ↦
                elim (cases_Bool (not_after b p)) [
                  | inl bp ↦ absurd (false≢true (sym pa ∙ trans a b p ab bp))
                  | inr pb ↦ rw (ab, pa, pb, ab) refl
                ]
          ]
      | inr ba ↦
          elim (cases_Bool (not_after b p)) [
            | inl bp ↦
                elim (cases_Bool (not_after a p)) [
                  | inl ap_is ↦ rw (ba, bp, ap_is, self p) refl
                  | inr pa ↦ rw (ba, bp, pa, pa) refl
                ]
            | inr pb ↦
                elim (cases_Bool (not_after a p)) [
                  | inl ap_is ↦ absurd (false≢true (sym pb ∙ trans b a p (total a b ba) ap_is))
                  | inr pa ↦ rw (ba, pb, pa, ba) refl
                ]
          ]
    ]

soonest_three : (a b c : Place) → soonest (soonest a b) c ≡ soonest a (soonest b c)
soonest_three a b c =
    elim (cases_Bool (not_after a b)) [
      | inl ab ↦
          elim (cases_Bool (not_after b c)) [
            | inl bc ↦ rw (ab, bc, ab, trans a b c ab bc) refl
            | inr cb ↦ rw (ab, cb) refl
          ]
      | inr ba ↦
          elim (cases_Bool (not_after b c)) [
            | inl bc ↦ rw (ba, bc, ba) refl
            | inr cb ↦
                elim (cases_Bool (not_after a c)) [
                  | inl ac ↦ absurd (false≢true (sym cb ∙ trans b a c (total a b ba) ac))
                  | inr ca ↦ rw (ba, cb, ca) refl
                ]
          ]
    ]

sooner_three : (first : Option Place) (b c : Place) → sooner (sooner first b) c ≡ sooner first (soonest b c)
sooner_three None b c = refl
sooner_three (Some a) b c = ap (λ (x : Place). Some x) (soonest_three a b c)

-- a further place of a name, where it stands behind those of the name
with_next : (first known : Option Place) (m p : Place) → sooner (and_later first known p) (latest m p) ≡ and_later first (sooner known m) p
with_next first None m p = refl
with_next first (Some k) m p = sooner_three first (latest k p) (latest m p) ∙ ap (sooner first) (sym (later_soonest k m p))

later_first : (first known : Option Place) (q : Full) (p : Place) (ns : List Named) → least (and_later first known p) (map (later_of p) (filter (with_name q) ns)) ≡ and_later first (mark_from q known ns) p
later_first first known q p [] = refl
later_first first known q p (n ∷ ns) =
    elim (cases_Bool (same_full q n.full)) [
      | inl hit ↦
          rw hit (ap (λ (f : Option Place). least f (map (later_of p) (filter (with_name q) ns))) (with_next first known n.at p) ∙ later_first first (sooner known n.at) q p ns)
      | inr miss ↦ rw miss (later_first first known q p ns)
    ]

pub marked_first : (first : Option Place) (q : Full) (p : Place) (ns : List Named) → and_later first (mark_from q None ns) p ≡ least first (map (later_of p) (filter (with_name q) ns))
marked_first first q p ns = sym (later_first first None q p ns)

mark_push : (q : Full) (known : Option Place) (ns : List Named) (n : Named) → mark_from q known (ns ++ n ∷ []) ≡ (if same_full q n.full then sooner (mark_from q known ns) n.at else mark_from q known ns)
mark_push q known [] n = refl
mark_push q known (m ∷ ns) n = mark_push q (if same_full q m.full then sooner known m.at else known) ns n

pushed_same : (q p : Full) (x y : List ℕ) → q ++ x ∷ [] ≡ p ++ y ∷ [] → (q ≡ p) × (x ≡ y)
pushed_same q p x y e = same_from_push q p x y e

differs : (q p : Full) → (q ≡ p → ⊥) → same_full q p ≡ false
differs q p h = false_from_ne_true (same_full q p) (λ e. h (same_is q p e))

not_ways : {A : Type 0} (i : ℕ) → Some i ≡ None → A
not_ways i e = cc

first_over : (k i : ℕ) (q : Full) (ds : List Declared) → first_from k q ds ≡ Some i → k ≤ i
first_over k i q [] e = cc
first_over k i q (d ∷ ds) e =
    elim (cases_Bool (same_full q (full d))) [
      | inl hit ↦
          let same : k ≡ i = same_Some k i (rw hit at e) in
          omega arith
      | inr miss ↦
          let rest = first_over (k + 1) i q ds (rw miss at e) in
          omega arith
    ]

same_from : (k i : ℕ) (ds : List Declared) (q r : Full) → first_from k q ds ≡ Some i → first_from k r ds ≡ Some i → q ≡ r
same_from k i [] q r a b = cc
same_from k i (d ∷ ds) q r a b =
    elim (cases_Bool (same_full q (full d))) [
      | inl qh ↦
          elim (cases_Bool (same_full r (full d))) [
            | inl rh ↦ same_is q (full d) qh ∙ sym (same_is r (full d) rh)
            | inr rm ↦
                let e : k ≡ i = same_Some k i (rw qh at a) in
                let l = first_over (k + 1) i r ds (rw rm at b) in
                absurd (omega arith)
          ]
      | inr qm ↦
          elim (cases_Bool (same_full r (full d))) [
            | inl rh ↦
                let e : k ≡ i = same_Some k i (rw rh at b) in
                let l = first_over (k + 1) i q ds (rw qm at a) in
                absurd (omega arith)
            | inr rm ↦ same_from (k + 1) i ds q r (rw qm at a) (rw rm at b)
          ]
    ]

-- two full names that one class is the first to have are the same
same_first : (i : ℕ) (ds : List Declared) (q r : Full) → first_of q ds ≡ Some i → first_of r ds ≡ Some i → q ≡ r
same_first i ds q r a b = same_from 0 i ds q r a b

own_from : (k i : ℕ) (ds : List Declared) (d : Declared) → slice_get ds i ≡ Some d → first_from k (full d) ds ≡ None → ⊥
own_from k i [] d at none = cc
own_from k zero (e ∷ ds) d at none =
    let same : e ≡ d = same_Some e d at in
    let hit : same_full (full d) (full e) ≡ true = ap (λ (x : Declared). same_full (full d) (full x)) same ∙ same_self (full d) in
    not_ways k (rw hit at none)
own_from k (suc i) (e ∷ ds) d at none =
    elim (cases_Bool (same_full (full d) (full e))) [
      | inl hit ↦ not_ways k (rw hit at none)
      | inr miss ↦ own_from (k + 1) i ds d at (rw miss at none)
    ]

-- a declared class is found by its full name
pub own_first : (i : ℕ) (ds : List Declared) (d : Declared) → slice_get ds i ≡ Some d → first_of (full d) ds ≡ None → ⊥
own_first i ds d at none = own_from 0 i ds d at none

pub empty_marks : (ds : List Declared) (classes : List (Option Place)) (constants : List (BTreeMap (Vec ℕ Global) Place)) → length classes ≡ length ds → length constants ≡ length ds
    → ((n : ℕ) (o : Option Place) → slice_get classes n ≡ Some o → o ≡ None) → ((n : ℕ) (m : BTreeMap (Vec ℕ Global) Place) → slice_get constants n ≡ Some m → m.entries ≡ [])
    → Marks ds classes constants []
empty_marks ds classes constants many size none empty = record {
  many = many;
  size = size;
  of_class = λ i q e.
      let g = get_at classes i (omega (arith, first_within i q ds e, many)) in
      g.1 ∙ ap (λ (o : Option Place). Some o) (none i g.0 g.1);
  of_constant = λ i m q x e fresh there. ap (lookup (at x)) (empty i m there);
}

module _ (ds : List Declared) (classes : List (Option Place)) (constants : List (BTreeMap (Vec ℕ Global) Place)) (ns : List Named) (h : Marks ds classes constants ns) where
  -- one more name of a class is noted
  pub noted_class : (p : ℕ) (q : Full) (at s : Place) → first_of q ds ≡ Some p → Some s ≡ sooner (mark_from q None ns) at
      → Marks ds (slice_set classes p (Some s)) constants (ns ++ (record { full = q; at = at }) ∷ [])
  noted_class p q at s f put =
      let N : Named = record { full = q; at = at } in
      record {
        many = length-set classes p (Some s) ∙ h.many;
        size = h.size;
        of_class = λ i r e.
            let push = mark_push r None ns N in
            let g = get_at (slice_set classes p (Some s)) i (omega (arith, first_within i r ds e, length-set classes p (Some s), h.many)) in
            elim (get_written classes (Some s) (mark_from q None ns) g.0 p i (h.of_class p q f) g.1) [
              | inl w ↦
                  let same : r ≡ q = same_first i ds r q e (f ∙ ap (λ (j : ℕ). Some j) (sym w.0)) in
                  let hit : same_full r q ≡ true = ap (λ (z : Full). same_full z q) same ∙ same_self q in
                  let after : mark_from r None (ns ++ N ∷ []) ≡ sooner (mark_from r None ns) at = push ∙ rw hit refl in
                  g.1 ∙ ap (λ (o : Option Place). Some o) (w.1 ∙ put ∙ ap (λ (z : Full). sooner (mark_from z None ns) at) (sym same) ∙ sym after)
              | inr w ↦
                  let other : same_full r q ≡ false = differs r q (λ eq. w.0 (same_Some i p (sym e ∙ ap (λ (z : Full). first_of z ds) eq ∙ f))) in
                  let after : mark_from r None (ns ++ N ∷ []) ≡ mark_from r None ns = push ∙ rw other refl in
                  g.1 ∙ sym w.1 ∙ h.of_class i r e ∙ ap (λ (o : Option Place). Some o) (sym after)
            ];
        of_constant = λ i m r x e none there.
            let other : same_full (r ++ x ∷ []) q ≡ false = differs (r ++ x ∷ []) q (λ eq. not_ways p (sym f ∙ ap (λ (z : Full). first_of z ds) (sym eq) ∙ none)) in
            let after : mark_from (r ++ x ∷ []) None (ns ++ N ∷ []) ≡ mark_from (r ++ x ∷ []) None ns = mark_push (r ++ x ∷ []) None ns N ∙ rw other refl in
            h.of_constant i m r x e none there ∙ sym after;
      }

  -- one more name of another constant is noted
  pub noted_constant : (old new : BTreeMap (Vec ℕ Global) Place) (p : ℕ) (q : Full) (x : List ℕ) (at s : Place) → first_of q ds ≡ Some p → first_of (q ++ x ∷ []) ds ≡ None
      → slice_get constants p ≡ Some old → ((y : List ℕ) → entry new y ≡ cond (bytes_eq y x) (Some s) (entry old y)) → Some s ≡ sooner (entry old x) at
      → Marks ds classes (slice_set constants p new) (ns ++ (record { full = q ++ x ∷ []; at = at }) ∷ [])
  noted_constant old new p q x at s f none here put is =
      let N : Named = record { full = q ++ x ∷ []; at = at } in
      record {
        many = h.many;
        size = length-set constants p new ∙ h.size;
        of_class = λ i r e.
            let other : same_full r (q ++ x ∷ []) ≡ false = differs r (q ++ x ∷ []) (λ eq. not_ways i (sym e ∙ ap (λ (z : Full). first_of z ds) eq ∙ none)) in
            let after : mark_from r None (ns ++ N ∷ []) ≡ mark_from r None ns = mark_push r None ns N ∙ rw other refl in
            h.of_class i r e ∙ ap (λ (o : Option Place). Some o) (sym after);
        of_constant = λ i m r y e fresh there.
            let push = mark_push (r ++ y ∷ []) None ns N in
            elim (get_written constants new old m p i here there) [
              | inl w ↦
                  let scoped : r ≡ q = same_first i ds r q e (f ∙ ap (λ (j : ℕ). Some j) (sym w.0)) in
                  elim (cases_Bool (bytes_eq y x)) [
                    | inl hit ↦
                        let name : r ++ y ∷ [] ≡ q ++ x ∷ [] = cc (scoped, same_bytes y x hit) in
                        let same : same_full (r ++ y ∷ []) (q ++ x ∷ []) ≡ true = ap (λ (z : Full). same_full z (q ++ x ∷ [])) name ∙ same_self (q ++ x ∷ []) in
                        let value : cond (bytes_eq y x) (Some s) (entry old y) ≡ sooner (mark_from (r ++ y ∷ []) None ns) at =
                        rw hit (is ∙ ap (λ (o : Option Place). sooner o at) (h.of_constant p old q x f none here ∙ ap (λ (z : Full). mark_from z None ns) (sym name))) in
                        let after : mark_from (r ++ y ∷ []) None (ns ++ N ∷ []) ≡ sooner (mark_from (r ++ y ∷ []) None ns) at = push ∙ rw same refl in
                        ap (λ (z : BTreeMap (Vec ℕ Global) Place). entry z y) w.1 ∙ put y ∙ value ∙ sym after
                    | inr miss ↦
                        let other : same_full (r ++ y ∷ []) (q ++ x ∷ []) ≡ false = differs (r ++ y ∷ []) (q ++ x ∷ []) (λ eq. false≢true (sym miss ∙ bytes_same y x (pushed_same r q y x eq).1)) in
                        let absent : first_of (q ++ y ∷ []) ds ≡ None = ap (λ (z : Full). first_of (z ++ y ∷ []) ds) (sym scoped) ∙ fresh in
                        let value : cond (bytes_eq y x) (Some s) (entry old y) ≡ mark_from (r ++ y ∷ []) None ns =
                        rw miss (h.of_constant p old q y f absent here ∙ ap (λ (z : Full). mark_from (z ++ y ∷ []) None ns) (sym scoped)) in
                        let after : mark_from (r ++ y ∷ []) None (ns ++ N ∷ []) ≡ mark_from (r ++ y ∷ []) None ns = push ∙ rw other refl in
                        ap (λ (z : BTreeMap (Vec ℕ Global) Place). entry z y) w.1 ∙ put y ∙ value ∙ sym after
                  ]
              | inr w ↦
                  let other : same_full (r ++ y ∷ []) (q ++ x ∷ []) ≡ false =
                  differs (r ++ y ∷ []) (q ++ x ∷ []) (λ eq. w.0 (same_Some i p (sym e ∙ ap (λ (z : Full). first_of z ds) (pushed_same r q y x eq).0 ∙ f))) in
                  let after : mark_from (r ++ y ∷ []) None (ns ++ N ∷ []) ≡ mark_from (r ++ y ∷ []) None ns = push ∙ rw other refl in
                  h.of_constant i m r y e fresh w.1 ∙ sym after
            ];
      }

any_named : (i : ℕ) (x : List ℕ) (names : List (List ℕ)) → is_some (first_named_from i x names) ≡ list_any (bytes_eq x) names
any_named i x [] = refl
any_named i x (y ∷ names) =
    elim (cases_Bool (bytes_eq x y)) [
      | inl hit ↦ rw hit refl
      | inr miss ↦ rw miss (any_named (i + 1) x names)
    ]

pub seen_before : (f : List ℕ → Option ℕ) (names : List (List ℕ)) (x : List ℕ) → ((y : List ℕ) → f y ≡ first_named y names) → is_some (f x) ≡ list_any (bytes_eq x) names
seen_before f names x h = ap (λ (o : Option ℕ). is_some o) (h x) ∙ any_named 0 x names

pub taken_more : {X : Type 0} (xs : List X) (i : ℕ) (x : X) → slice_get xs i ≡ Some x → take (i + 1) xs ≡ take i xs ++ x ∷ []
taken_more [] i x e = cc
taken_more (y ∷ xs) zero x e = ap (λ z. z ∷ []) (same_Some y x e)
taken_more (y ∷ xs) (suc i) x e =
    let next : suc i + 1 ≡ suc (i + 1) = omega arith in
    ap (λ j. take j (y ∷ xs)) next ∙ ap (λ zs. y ∷ zs) (taken_more xs i x e)

-- one more name in a class
pub next_again : (file : ℕ) (is : List Ident) (i : ℕ) (ident : Ident) (whole first next : Option Place) (f : List ℕ → Option ℕ) → slice_get is i ≡ Some ident
    → ((x : List ℕ) → f x ≡ first_named x (map text_of (take i is) ++ ident.text ∷ []))
    → next ≡ least first (if list_any (bytes_eq ident.text) (map text_of (take i is)) then place file ident ∷ [] else [])
    → least first (again_from file (map text_of (take i is)) (drop i is)) ≡ whole
    → ((x : List ℕ) → f x ≡ first_named x (map text_of (take (i + 1) is))) × (least next (again_from file (map text_of (take (i + 1) is)) (drop (i + 1) is)) ≡ whole)
next_again file is i ident whole first next f at seen n so_far =
    let names : map text_of (take (i + 1) is) ≡ map text_of (take i is) ++ ident.text ∷ [] = ap (map text_of) (taken_more is i ident at) ∙ map-append text_of (take i is) (ident ∷ []) in
    let step : List Place = if list_any (bytes_eq ident.text) (map text_of (take i is)) then place file ident ∷ [] else [] in (
      λ x. seen x ∙ ap (first_named x) (sym names),
      ap (λ (o : Option Place). least o (again_from file (map text_of (take (i + 1) is)) (drop (i + 1) is))) n
          ∙ ap (λ (b : List (List ℕ)). least (least first step) (again_from file b (drop (i + 1) is))) names
          ∙ sym (least-append first step (again_from file (map text_of (take i is) ++ ident.text ∷ []) (drop (i + 1) is)))
          ∙ sym (ap (λ (xs : List Ident). least first (again_from file (map text_of (take i is)) xs)) (drop_at is i ident at)) ∙ so_far,
    )

pub twice_append : (before xs ys : List Named) → twice_from before (xs ++ ys) ≡ twice_from before xs ++ twice_from (before ++ xs) ys
twice_append before [] ys = ap (λ (b : List Named). twice_from b ys) (sym (append-nil before))
twice_append before (x ∷ xs) ys =
    ap (λ (ps : List Place). map (later_of x.at) (filter (with_name x.full) before) ++ ps)
    (twice_append (before ++ x ∷ []) xs ys ∙ ap (λ (b : List Named). twice_from (before ++ x ∷ []) xs ++ twice_from b ys) (append_assoc before (x ∷ []) xs))
    ∙ sym (append_assoc (map (later_of x.at) (filter (with_name x.full) before)) (twice_from (before ++ x ∷ []) xs) (twice_from (before ++ x ∷ xs) ys))
