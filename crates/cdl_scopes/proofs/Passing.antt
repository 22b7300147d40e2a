-- Scopes that are passed over on the way outwards.
use Rattle.std.proofs.Common.{◌≡◌, ◌<◌, ◌≤◌, ◌+◌, ◌||◌, ℕ, zero, suc, Bool, true, false, cond, List, [], ◌∷◌, ◌++◌, take, length, Option, Some, None, Vec, nat_eq, refl, sym, ◌∙◌, ap, subst, inl, inr, arith}
use Rattle.std.specs.Prelude.{if◌then◌else◌, unwrap_or, is_some}
use Rattle.std.specs.List.{slice_get}
use Rattle.std.specs.Option.{option_or}
use Rattle.std.specs.Str.{bytes_eq}
use Rattle.std.specs.Map.{lookup}
use Rattle.std.specs.declared.alloc.Global.{Global}
use Rattle.std.proofs.Math.Seq.{take-length}
use Rattle.std.proofs.lemmas.Bool.{cases_Bool, cases_lt, false≢true, false_from_ne_true, or_parts}
use Rattle.std.proofs.lemmas.Bool.Decides.{eqb_tells}
use Rattle.std.proofs.lemmas.Map.Text.{is_eq-slice_cmp}
use Rattle.std.proofs.lemmas.Option.{slice_get_within, same_Some}
use Rattle.indexmap.specs.IndexMap.{get}
use Rattle.cdl_tree.specs.declared.class.FileTree.{FileTree}
use Rattle.cdl_scopes.specs.declared.gather.Classes.{Classes}
use Rattle.cdl_scopes.specs.declared.names.Node.{Node}
use Rattle.cdl_scopes.specs.declared.lookup.Sought.{Sought}
use Rattle.cdl_scopes.specs.declared.lookup.Sought.TheVariants.{Class as ClassNames, Value}
use Rattle.cdl_scopes.specs.Classes.{Full, Declared, declared, is_front}
use Rattle.cdl_scopes.specs.Lookup.{library, cdl_name, modelica_name, in_library, type_at, constant_at, inside, has, seek}
use Rattle.cdl_scopes.specs.inner.Numbered.{child}
use Rattle.cdl_scopes.specs.inner.Gathered.{IsGathered}
use Rattle.cdl_scopes.specs.inner.Outwards.{SoughtAt, Passes, next_for}
use Rattle.cdl_scopes.specs.declared.scopes.Outwards.{Outwards}
use Rattle.cdl_scopes.proofs.Entries.{at}
use Rattle.cdl_scopes.proofs.Lists.{get_at, get_left, get_last, get_pushed}
use Rattle.cdl_scopes.proofs.Fronts.{same_bytes, front_trans}
use Rattle.cdl_scopes.proofs.StandingLaws.{not_library, unnumbered}
use Rattle.cdl_scopes.proofs.Needs.{child_fresh, up}
use Rattle.cdl_scopes.proofs.Finding.{inside_is, seek_further, outer_is, take_front}

-- ---- maps

or_none : (o : Option ℕ) → o ≡ option_or o None
or_none None = refl
or_none (Some n) = refl

some_or : (o p : Option ℕ) → is_some o ≡ true → o ≡ option_or o p
some_or None p h = absurd (false≢true h)
some_or (Some n) p h = refl

none_or : (o p : Option ℕ) → is_some o ≡ false → p ≡ option_or o p
none_or None p h = refl
none_or (Some n) p h = absurd (false≢true (sym h))

pub noted_again : (f : List ℕ → Option ℕ) (name : List ℕ) (n : ℕ) → is_some (f name) ≡ true → (x : List ℕ) → f x ≡ option_or (f x) (if bytes_eq x name then Some n else None)
noted_again f name n h x =
    elim (cases_Bool (bytes_eq x name)) [
      | inl hit ↦ some_or (f x) (if bytes_eq x name then Some n else None) (ap (λ y. is_some (f y)) (same_bytes x name hit) ∙ h)
      | inr miss ↦ rw miss (or_none (f x))
    ]

pub noted_new : (f g : List ℕ → Option ℕ) (name : List ℕ) (n : ℕ) → is_some (f name) ≡ false → ((x : List ℕ) → g x ≡ cond (bytes_eq x name) (Some n) (f x))
    → (x : List ℕ) → g x ≡ option_or (f x) (if bytes_eq x name then Some n else None)
noted_new f g name n h new x =
    elim (cases_Bool (bytes_eq x name)) [
      | inl hit ↦ new x ∙ rw hit (none_or (f x) (Some n) (ap (λ y. is_some (f y)) (same_bytes x name hit) ∙ h))
      | inr miss ↦ new x ∙ rw miss (or_none (f x))
    ]

pub none_is : (o : Option ℕ) → is_some o ≡ false → o ≡ None
none_is None h = refl
none_is (Some n) h = absurd (false≢true (sym h))

-- a map of one entry has no other key
pub only_entry : (es : List (Vec ℕ Global × ℕ)) (k : Vec ℕ Global) (v : ℕ) (x : List ℕ) → length es ≡ 1 → slice_get es 0 ≡ Some (k, v) → bytes_eq x k.items ≡ false → lookup (at x) es ≡ None
only_entry [] k v x size first miss = absurd (omega arith)
only_entry (e ∷ []) k v x size first miss =
    let same : e.0 ≡ k = ap (λ (p : Vec ℕ Global × ℕ). p.0) (same_Some e (k, v) first) in
    rw (is_eq-slice_cmp x (e.0).items, ap (λ (z : Vec ℕ Global). bytes_eq x z.items) same ∙ miss) refl
only_entry (e ∷ f ∷ es) k v x size first miss = absurd (omega (arith, size))

-- ---- a scope that lacks a name

has_none : (ds : List Declared) (sought : Sought) (q : Full) (x : List ℕ) → type_at q x ≡ None → constant_at ds q x ≡ None → inside ds q x ≡ None → has ds sought q x ≡ None
has_none ds ClassNames q x t c i = rw (t, i) refl
has_none ds Value q x t c i = rw (t, c, i) refl

pub free_front : (q : Full) (k : ℕ) → in_library q ≡ false → in_library (take k q) ≡ false
free_front q k h =
    let fs = or_parts (is_front cdl_name q) (is_front modelica_name q) h in
    let c : is_front cdl_name (take k q) ≡ false = false_from_ne_true _ (λ e. false≢true (sym fs.0 ∙ front_trans cdl_name (take k q) q e (take_front q k))) in
    let m : is_front modelica_name (take k q) ≡ false = false_from_ne_true _ (λ e. false≢true (sym fs.1 ∙ front_trans modelica_name (take k q) q e (take_front q k))) in
    rw (c, m) refl

module _ (files : List FileTree) (all : Classes) (h : IsGathered files all library (declared files)) where
  untyped : (n : ℕ) (q : Full) (x : List ℕ) → slice_get h.names.paths n ≡ Some q → 0 < n → type_at q x ≡ None
  untyped n [] x at l = absurd (omega (arith, h.names.numbers.once n 0 [] at h.names.numbers.top))
  untyped n (y ∷ q) x at l = refl

  undeclared : (n : ℕ) (q : Full) (x : List ℕ) → slice_get h.names.paths n ≡ Some q → get nat_eq all.by_name n ≡ None → constant_at (declared files) q x ≡ None
  undeclared n q x at e = rw (sym (h.first n q at) ∙ e) refl

  pub bare_lacks : (n : ℕ) (node : Node) (q : Full) (x : List ℕ) (sought : Sought) → slice_get all.nodes.items n ≡ Some node → slice_get h.names.paths n ≡ Some q → 0 < n → in_library q ≡ false
      → get nat_eq all.by_name n ≡ None → child node x ≡ None → has (declared files) sought q x ≡ None
  bare_lacks n node q x sought a at l own none miss =
      let apart = not_library q own in
      has_none (declared files) sought q x (untyped n q x at l) (undeclared n q x at none)
      (inside_is (declared files) q x apart.0 apart.1 ∙ unnumbered files all h (q ++ x ∷ []) (child_fresh files all h n node q x a at miss))

  pub smaller : (n : ℕ) (node : Node) → slice_get all.nodes.items n ≡ Some node → 0 < n → node.parent < n
  smaller n node a l =
      let p = get_at h.names.paths n (omega (arith, slice_get_within all.nodes.items n node a, h.names.numbers.size)) in
      (h.names.numbers.parents n node p.0 a p.1 l).4

  up_one : (q : Full) (n j : ℕ) (node : Node) → slice_get all.nodes.items n ≡ Some node → 0 < n → j ≤ length q → slice_get h.names.paths n ≡ Some (take j q)
      → (k : ℕ) × (suc k ≡ j) × (slice_get h.names.paths node.parent ≡ Some (take k q))
  up_one q n zero node a l le at = absurd (omega (arith, h.names.numbers.once n 0 [] at h.names.numbers.top))
  up_one q n (suc k) node a l le at =
      let i = h.names.numbers.parents n node (take (suc k) q) a at l in
      (k, refl, i.3 ∙ ap (λ r. Some r) (outer_is q i.0 k i.1 le i.2))

  -- from a scope that lacks the name to the one around it
  pub outer_sought : (q : Full) (x : List ℕ) (sought : Sought) (n j : ℕ) (node : Node) → slice_get all.nodes.items n ≡ Some node → 0 < n → j ≤ length q → slice_get h.names.paths n ≡ Some (take j q)
      → seek (declared files) sought q (length q) x ≡ seek (declared files) sought q j x → has (declared files) sought (take j q) x ≡ None
      → SoughtAt (declared files) h.names.paths q node.parent sought x
  outer_sought q x sought n j node a l le at so none =
      let u = up_one q n j node a l le at in
      let here : has (declared files) sought (take (suc u.0) q) x ≡ None = ap (λ i. has (declared files) sought (take i q) x) u.1 ∙ none in
      (u.0, omega (arith, u.1), u.2, so ∙ ap (λ i. seek (declared files) sought q i x) (sym u.1) ∙ seek_further (declared files) sought q u.0 x here)

  pub own_sought : (q : Full) (x : List ℕ) (sought : Sought) (n : ℕ) (node : Node) → slice_get all.nodes.items n ≡ Some node → 0 < n → slice_get h.names.paths n ≡ Some q
      → has (declared files) sought q x ≡ None → SoughtAt (declared files) h.names.paths q node.parent sought x
  own_sought q x sought n node a l at none =
      outer_sought q x sought n (length q) node a l (omega arith) (at ∙ ap (λ r. Some r) (sym (take-length q))) refl (ap (λ r. has (declared files) sought r x) (take-length q) ∙ none)

  pub lower_begun : (n : ℕ) (node : Node) (absent : Option ℕ) → absent ≡ None → slice_get all.nodes.items n ≡ Some node → 0 < n → unwrap_or absent node.parent < n
  lower_begun n node absent e a l =
      let P : Option ℕ → Type 0 = λ o. unwrap_or o node.parent < n in
      subst P (sym e) (smaller n node a l)

  pub lower_further : (x : List ℕ) (scope n : ℕ) (node : Node) (name : List ℕ) (old new : Option ℕ) → slice_get all.nodes.items n ≡ Some node → 0 < n
      → new ≡ option_or old (if bytes_eq x name then Some n else None) → unwrap_or old n < scope → unwrap_or new node.parent < scope
  lower_further x scope n node name (Some b) new a l e s =
      let P : Option ℕ → Type 0 = λ o. unwrap_or o node.parent < scope in
      subst P (sym e) s
  lower_further x scope n node name None new a l e s =
      let P : Option ℕ → Type 0 = λ o. unwrap_or o node.parent < scope in
      elim (cases_Bool (bytes_eq x name)) [
        | inl hit ↦ subst P (sym (e ∙ ap (λ b. if b then Some n else None) hit)) s
        | inr miss ↦
            let up : node.parent < scope = omega (arith, smaller n node a l, s) in
            subst P (sym (e ∙ ap (λ b. if b then Some n else None) miss)) up
      ]

  -- with no bare scope in the row
  pub row_begun : (q : Full) (x : List ℕ) (sought : Sought) (n : ℕ) (node : Node) (absent : Option ℕ) → absent ≡ None → slice_get all.nodes.items n ≡ Some node → 0 < n → slice_get h.names.paths n ≡ Some q
      → has (declared files) sought q x ≡ None → SoughtAt (declared files) h.names.paths q (unwrap_or absent node.parent) sought x
  row_begun q x sought n node absent e a l at lacks =
      let P : Option ℕ → Type 0 = λ o. SoughtAt (declared files) h.names.paths q (unwrap_or o node.parent) sought x in
      subst P (sym e) (own_sought q x sought n node a l at lacks)

  -- with a further bare scope in the row
  pub row_further : (q : Full) (x : List ℕ) (sought : Sought) (n : ℕ) (node : Node) (name : List ℕ) (old new : Option ℕ) → slice_get all.nodes.items n ≡ Some node → 0 < n
      → in_library q ≡ false
      → ((p : Full) → slice_get h.names.paths n ≡ Some p → in_library p ≡ false → bytes_eq x name ≡ false → has (declared files) sought p x ≡ None)
      → new ≡ option_or old (if bytes_eq x name then Some n else None)
      → SoughtAt (declared files) h.names.paths q (unwrap_or old n) sought x → SoughtAt (declared files) h.names.paths q (unwrap_or new node.parent) sought x
  row_further q x sought n node name (Some b) new a l own lacks e s =
      let P : Option ℕ → Type 0 = λ o. SoughtAt (declared files) h.names.paths q (unwrap_or o node.parent) sought x in
      subst P (sym e) s
  row_further q x sought n node name None new a l own lacks e s =
      let P : Option ℕ → Type 0 = λ o. SoughtAt (declared files) h.names.paths q (unwrap_or o node.parent) sought x in
      elim (cases_Bool (bytes_eq x name)) [
        | inl hit ↦ subst P (sym (e ∙ ap (λ b. if b then Some n else None) hit)) s
        | inr miss ↦
            let out = outer_sought q x sought n s.0 node a l (omega (arith, s.1)) s.2 s.3 (lacks (take s.0 q) s.2 (free_front q s.0 own) miss) in
            subst P (sym (e ∙ ap (λ b. if b then Some n else None) miss)) out
      ]

  top_flag : (q : Full) (known : List Bool) (parent : ℕ) → slice_get h.names.paths 0 ≡ Some q → length known ≡ 0 → unwrap_or (slice_get known parent) false ≡ in_library q
  top_flag q [] parent at size = sym (ap in_library (same_Some q [] (sym at ∙ h.names.numbers.top)))
  top_flag q (b ∷ known) parent at size = absurd (omega arith)

  deeper : (n : ℕ) (node : Node) (q : Full) (known : List Bool) → slice_get all.nodes.items n ≡ Some node → slice_get h.names.paths n ≡ Some q → length known ≡ n
      → ((m : ℕ) (p : Full) → m < n → slice_get h.names.paths m ≡ Some p → slice_get known m ≡ Some (in_library p)) → (n ≡ all.cdl → ⊥) → (n ≡ all.modelica → ⊥)
      → unwrap_or (slice_get known node.parent) false ≡ in_library q
  deeper zero node q known a at size before c m = top_flag q known node.parent at size
  deeper (suc k) node q known a at size before c m =
      let u = up files all h (suc k) node q a at (omega arith) c m in
      let there = before node.parent u.0 (smaller (suc k) node a (omega arith)) u.1 in
      rw there u.2

  -- whether a scope lies in the library
  pub flag_is : (n : ℕ) (node : Node) (q : Full) (known : List Bool) → slice_get all.nodes.items n ≡ Some node → slice_get h.names.paths n ≡ Some q → length known ≡ n
      → ((m : ℕ) (p : Full) → m < n → slice_get h.names.paths m ≡ Some p → slice_get known m ≡ Some (in_library p))
      → (nat_eq n all.cdl || (nat_eq n all.modelica || unwrap_or (slice_get known node.parent) false)) ≡ in_library q
  flag_is n node q known a at size before =
      elim (eqb_tells n all.cdl) [
        | inl hit ↦
            let is : q ≡ cdl_name = same_Some q cdl_name (sym at ∙ ap (λ i. slice_get h.names.paths i) hit.1 ∙ h.cdl) in
            rw hit.0 (sym (ap in_library is))
        | inr c ↦
            rw c.0
            (elim (eqb_tells n all.modelica) [
              | inl hit ↦
                  let is : q ≡ modelica_name = same_Some q modelica_name (sym at ∙ ap (λ i. slice_get h.names.paths i) hit.1 ∙ h.modelica) in
                  rw hit.0 (sym (ap in_library is))
              | inr m ↦ rw m.0 (deeper n node q known a at size before c.1 m.1)
            ])
      ]

abbrev pub Passed : List FileTree → Classes → List Outwards → Type 0
Passed files all os = (h : IsGathered files all library (declared files)) (n : ℕ) (o : Outwards) (q : Full) → slice_get os n ≡ Some o → slice_get h.names.paths n ≡ Some q → 0 < n → in_library q ≡ false
    → Passes (declared files) h.names.paths q o

pub passed_more : (files : List FileTree) (all : Classes) (os : List Outwards) (n : ℕ) (o : Outwards) → n ≡ length os → Passed files all os
    → ((h : IsGathered files all library (declared files)) (q : Full) → slice_get h.names.paths n ≡ Some q → 0 < n → in_library q ≡ false → Passes (declared files) h.names.paths q o)
    → Passed files all (os ++ o ∷ [])
passed_more files all os n o size before this h m p q e at up own =
    elim (get_pushed os o p m e) [
      | inl there ↦ before h m p q there at up own
      | inr last ↦
          let same : m ≡ n = last.0 ∙ sym size in
          let P : Outwards → Type 0 = λ z. Passes (declared files) h.names.paths q z in
          subst P (sym last.1) (this h q (ap (λ i. slice_get h.names.paths i) (sym same) ∙ at) (omega arith) own)
    ]

abbrev pub Lower : List Outwards → Type 0
Lower os = (n : ℕ) (o : Outwards) (x : List ℕ) → slice_get os n ≡ Some o → 0 < n → next_for o x < n

pub lower_more : (os : List Outwards) (n : ℕ) (o : Outwards) → n ≡ length os → Lower os → ((x : List ℕ) → 0 < n → next_for o x < n) → Lower (os ++ o ∷ [])
lower_more os n o size before this m p x e up =
    elim (get_pushed os o p m e) [
      | inl there ↦ before m p x there up
      | inr last ↦
          let same : m ≡ n = last.0 ∙ sym size in
          let P : Outwards → Type 0 = λ z. next_for z x < m in
          subst P (sym last.1) (omega (arith, this x (omega arith)))
    ]

abbrev pub Flags : List FileTree → Classes → List Bool → ℕ → Type 0
Flags files all known n = (h : IsGathered files all library (declared files)) (m : ℕ) (p : Full) → m < n → slice_get h.names.paths m ≡ Some p → slice_get known m ≡ Some (in_library p)

pub flags_more : (files : List FileTree) (all : Classes) (known : List Bool) (n : ℕ) (flag : Bool) → n ≡ length known → Flags files all known n
    → ((h : IsGathered files all library (declared files)) (q : Full) → slice_get h.names.paths n ≡ Some q → flag ≡ in_library q) → Flags files all (known ++ flag ∷ []) (n + 1)
flags_more files all known n flag size before this h m p l at =
    elim (cases_lt m n) [
      | inl lt ↦ get_left known (flag ∷ []) m (in_library p) (before h m p lt at)
      | inr le ↦
          let same : m ≡ n = omega arith in
          get_last known flag m (same ∙ size) ∙ ap (λ b. Some b) (this h p (ap (λ i. slice_get h.names.paths i) (sym same) ∙ at))
    ]
