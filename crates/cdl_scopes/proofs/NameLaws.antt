-- How the nodes of names grow.
use Rattle.std.proofs.Common.{◌≡◌, ◌≢◌, ◌<◌, ◌⊎◌, ◌+◌, ℕ, zero, suc, true, cond, List, [], ◌∷◌, ◌++◌, length, Some, None, Vec, refl, sym, ◌∙◌, ap, inl, inr, arith, length-append}
use Rattle.std.specs.declared.alloc.Global.{Global}
use Rattle.std.specs.BTreeMap.{BTreeMap, insert_entry}
use Rattle.std.specs.List.{slice_get, slice_set}
use Rattle.std.specs.Map.{lookup}
use Rattle.std.proofs.Math.ListN.{length-set}
use Rattle.std.specs.Str.{bytes_eq}
use Rattle.std.proofs.lemmas.Bool.{cases_Bool}
use Rattle.std.proofs.lemmas.List.{same_from_push}
use Rattle.std.proofs.lemmas.Option.{slice_get_within, same_Some}
use Rattle.std.proofs.lemmas.Slice.Eq.{bytes_eq-Decides}
use Rattle.cdl_scopes.specs.declared.names.Node.{Node}
use Rattle.cdl_scopes.specs.Classes.{Full}
use Rattle.cdl_scopes.specs.inner.Numbered.{Numbers, Inside, child}
use Rattle.cdl_scopes.proofs.Entries.{order, at, lookup-insert}
use Rattle.cdl_scopes.proofs.Lists.{get_left, get_last, get_pushed, get_written, get_at}

-- what stands at each place after a leaf is pushed and the node around it is written
pub record Changed (nodes news : List Node) (scope : ℕ) (x : List ℕ) (around : Node) : Type 0 where
  pub size : length news ≡ length nodes + 1
  pub old : slice_get nodes scope ≡ Some around
  pub each : (k : ℕ) (node : Node) → slice_get news k ≡ Some node
      → ((k ≡ scope) × (node.parent ≡ around.parent) × ((y : List ℕ) → child node y ≡ cond (bytes_eq y x) (Some (length nodes)) (child around y)))
      ⊎ (((k ≡ length nodes) × (node.parent ≡ scope) × ((y : List ℕ) → child node y ≡ None))
      ⊎ ((k ≢ scope) × (slice_get nodes k ≡ Some node)))

module _ (nodes news : List Node) (scope : ℕ) (x : List ℕ) (around : Node) (paths : List Full) (q : Full)
    (w : Changed nodes news scope x around) (h : Numbers nodes paths) (here : slice_get paths scope ≡ Some q)
    (fresh : (m : ℕ) → slice_get paths m ≡ Some (q ++ x ∷ []) → ⊥) where
  new : Full
  new = q ++ x ∷ []

  all : List Full
  all = paths ++ new ∷ []

  found_in : (m : ℕ) (p : Full) → slice_get paths m ≡ Some p → slice_get all m ≡ Some p
  unfolding all
  found_in m p e = get_left paths (new ∷ []) m p e

  at_new : slice_get all (length nodes) ≡ Some new
  unfolding all
  at_new = get_last paths new (length nodes) h.size

  split : (m : ℕ) (p : Full) → slice_get all m ≡ Some p → (slice_get paths m ≡ Some p) ⊎ ((m ≡ length nodes) × (p ≡ new))
  unfolding all
  split m p e =
      elim (get_pushed paths new p m e) [
        | inl there ↦ inl there
        | inr last ↦ inr (last.0 ∙ sym h.size, last.1)
      ]

  -- the scope has the number that the nodes before had
  same_scope : (k : ℕ) (p : Full) → slice_get all k ≡ Some p → k ≡ scope → p ≡ q
  same_scope k p e s =
      let known : slice_get all scope ≡ Some p = sym (ap (λ i. slice_get all i) s) ∙ e in
      sym (same_Some q p (sym (found_in scope q here) ∙ known))

  wider : (parent n : ℕ) (p : Full) → Inside paths parent n p → Inside all parent n p
  wider parent n p i = (i.0, i.1, i.2, found_in parent i.0 i.3, i.4)

  moved : (a b n k : ℕ) (p r : Full) → a ≡ b → n ≡ k → p ≡ r → Inside all b k r → Inside all a n p
  moved a b n k p r e f g i = rw (e, f, g) i

  same_bytes : (y z : List ℕ) → bytes_eq y z ≡ true → y ≡ z
  same_bytes y z e = (bytes_eq-Decides y z).0 e

  bytes_same : (y z : List ℕ) → y ≡ z → bytes_eq y z ≡ true
  bytes_same y z e = (bytes_eq-Decides y z).1 e

  the_new : (p : Full) → slice_get all (length nodes) ≡ Some p → p ≡ new
  the_new p e = sym (same_Some new p (sym at_new ∙ e))

  short : (m : ℕ) (node : Node) → slice_get nodes m ≡ Some node → m ≢ length nodes
  short m node e = λ last. let small = slice_get_within nodes m node e in absurd (omega arith)

  added_found : (n m : ℕ) (node : Node) (p : Full) (y : List ℕ) → slice_get news n ≡ Some node → slice_get all n ≡ Some p → child node y ≡ Some m → slice_get all m ≡ Some (p ++ y ∷ [])
  unfolding new
  added_found n m node p y a b e =
      elim (w.each n node a) [
        | inl s ↦
            let same : p ≡ q = same_scope n p b s.0 in
            elim (cases_Bool (bytes_eq y x)) [
              | inl hit ↦
                  let number : length nodes ≡ m = same_Some _ _ (sym (rw hit at (s.2 y)) ∙ e) in
                  rw (same, same_bytes y x hit, ← number) at_new
              | inr miss ↦ rw same (found_in m _ (h.found scope m around q y w.old here (sym (rw miss at (s.2 y)) ∙ e)))
            ]
        | inr rest ↦
            elim rest [
              | inl leaf ↦ cc (leaf.2 y)
              | inr other ↦
                  elim (split n p b) [
                    | inl there ↦ found_in m _ (h.found n m node p y other.1 there e)
                    | inr last ↦ absurd (short n node other.1 last.0)
                  ]
            ]
      ]

  longer : (p : Full) (y : List ℕ) → p ++ y ∷ [] ≡ p → ⊥
  longer p y e =
      let size : length (p ++ y ∷ []) ≡ length p = ap length e in
      omega (arith, length-append p (y ∷ []))

  not_empty : (p : Full) (y : List ℕ) → [] ≡ p ++ y ∷ [] → ⊥
  not_empty [] y e = cc
  not_empty (z ∷ p) y e = cc

  -- a name that was there stands in a scope that was there
  scope_before : (m : ℕ) (p : Full) (y : List ℕ) → slice_get paths m ≡ Some (p ++ y ∷ []) → (k : ℕ) × (slice_get paths k ≡ Some p)
  scope_before zero p y e = absurd (not_empty p y (same_Some _ _ (sym h.top ∙ e)))
  scope_before (suc m) p y e =
      let within : suc m < length nodes = omega (arith, slice_get_within paths (suc m) (p ++ y ∷ []) e, h.size) in
      let it = get_at nodes (suc m) within in
      let i = h.parents (suc m) it.0 (p ++ y ∷ []) it.1 e (omega arith) in
      (it.0.parent, i.3 ∙ ap (λ r. Some r) (sym (same_from_push p i.0 y i.1 i.2).0))

  added_finds : (n m : ℕ) (node : Node) (p : Full) (y : List ℕ) → slice_get news n ≡ Some node → slice_get all n ≡ Some p → slice_get all m ≡ Some (p ++ y ∷ []) → child node y ≡ Some m
  unfolding new
  added_finds n m node p y a b e =
      elim (w.each n node a) [
        | inl s ↦
            let same : p ≡ q = same_scope n p b s.0 in
            elim (split m (p ++ y ∷ []) e) [
              | inl there ↦
                  let known : slice_get paths m ≡ Some (q ++ y ∷ []) = there ∙ ap (λ r. Some (r ++ y ∷ [])) same in
                  elim (cases_Bool (bytes_eq y x)) [
                    | inl hit ↦ absurd (fresh m (known ∙ ap (λ z. Some (q ++ z ∷ [])) (same_bytes y x hit)))
                    | inr miss ↦ s.2 y ∙ rw miss (h.finds scope m around q y w.old here known)
                  ]
              | inr last ↦ s.2 y ∙ rw (bytes_same y x (same_from_push p q y x last.1).1) (ap (λ k. Some k) (sym last.0))
            ]
        | inr rest ↦
            elim rest [
              | inl leaf ↦
                  let whole : p ≡ new = the_new p (sym (ap (λ k. slice_get all k) leaf.0) ∙ b) in
                  elim (split m (p ++ y ∷ []) e) [
                    | inl there ↦
                        let before = scope_before m p y there in
                        absurd (fresh before.0 (before.1 ∙ ap (λ r. Some r) whole))
                    | inr last ↦ absurd (longer p y (last.1 ∙ sym whole))
                  ]
              | inr other ↦
                  elim (split n p b) [
                    | inl there ↦
                        elim (split m (p ++ y ∷ []) e) [
                          | inl known ↦ h.finds n m node p y other.1 there known
                          | inr last ↦
                              let scoped : slice_get paths n ≡ Some q = there ∙ ap (λ r. Some r) (same_from_push p q y x last.1).0 in
                              absurd (other.0 (h.once n scope q scoped here))
                        ]
                    | inr last ↦ absurd (short n node other.1 last.0)
                  ]
            ]
      ]

  added_once : (n m : ℕ) (p : Full) → slice_get all n ≡ Some p → slice_get all m ≡ Some p → n ≡ m
  unfolding new
  added_once n m p a b =
      elim (split n p a) [
        | inl there ↦
            elim (split m p b) [
              | inl known ↦ h.once n m p there known
              | inr last ↦ absurd (fresh n (there ∙ ap (λ r. Some r) last.1))
            ]
        | inr new_n ↦
            elim (split m p b) [
              | inl known ↦ absurd (fresh m (known ∙ ap (λ r. Some r) new_n.1))
              | inr new_m ↦ new_n.0 ∙ sym new_m.0
            ]
      ]

  added_parents : (n : ℕ) (node : Node) (p : Full) → slice_get news n ≡ Some node → slice_get all n ≡ Some p → 0 < n → Inside all node.parent n p
  unfolding new
  added_parents n node p a b l =
      elim (w.each n node a) [
        | inl s ↦
            let up : 0 < scope = omega (arith, s.0) in
            moved node.parent around.parent n scope p q s.1 s.0 (same_scope n p b s.0) (wider _ _ _ (h.parents scope around q w.old here up))
        | inr rest ↦
            elim rest [
              | inl leaf ↦
                  let whole : p ≡ new = the_new p (sym (ap (λ k. slice_get all k) leaf.0) ∙ b) in
                  (q, x, whole, ap (λ k. slice_get all k) leaf.1 ∙ found_in scope q here, omega (arith, slice_get_within nodes scope around w.old, leaf.0, leaf.1))
              | inr other ↦
                  elim (split n p b) [
                    | inl there ↦ wider _ _ _ (h.parents n node p other.1 there l)
                    | inr last ↦ absurd (short n node other.1 last.0)
                  ]
            ]
      ]

  pub numbers-added : Numbers news (paths ++ (q ++ x ∷ []) ∷ [])
  unfolding all new
  numbers-added = record {
    size = omega (arith, w.size, h.size, length-append paths ((q ++ x ∷ []) ∷ []));
    top = found_in 0 [] h.top;
    found = added_found;
    finds = added_finds;
    once = added_once;
    parents = added_parents;
  }

module _ (nodes pushed : List Node) (scope number : ℕ) (x : List ℕ) (around leaf : Node) (m : BTreeMap (Vec ℕ Global) ℕ) (key : Vec ℕ Global)
    (old : slice_get nodes scope ≡ Some around) (push : pushed ≡ nodes ++ leaf ∷ []) (parent : leaf.parent ≡ scope) (empty : leaf.children.entries ≡ [])
    (insert : m.entries ≡ insert_entry order around.children.entries key number) (items : key.items ≡ x) (counted : number ≡ length nodes) where
  wrote : Node
  wrote = record { parent = around.parent; children = m }

  has : (y : List ℕ) → child wrote y ≡ cond (bytes_eq y x) (Some (length nodes)) (child around y)
  unfolding wrote
  has y = ap (lookup (at y)) insert ∙ lookup-insert around.children.entries key number y ∙ rw (items, counted) refl

  wrote_parent : (node : Node) → node ≡ wrote → node.parent ≡ around.parent
  unfolding wrote
  wrote_parent node e = ap (λ (n : Node). n.parent) e

  none : (y : List ℕ) → child leaf y ≡ None
  none y = ap (lookup (at y)) empty

  in_pushed : slice_get pushed scope ≡ Some around
  in_pushed = rw push (get_left nodes (leaf ∷ []) scope around old)

  each_changed : (k : ℕ) (node : Node) → slice_get (slice_set pushed scope wrote) k ≡ Some node
      → ((k ≡ scope) × (node.parent ≡ around.parent) × ((y : List ℕ) → child node y ≡ cond (bytes_eq y x) (Some (length nodes)) (child around y)))
      ⊎ (((k ≡ length nodes) × (node.parent ≡ scope) × ((y : List ℕ) → child node y ≡ None))
      ⊎ ((k ≢ scope) × (slice_get nodes k ≡ Some node)))
  each_changed k node e =
      elim (get_written pushed wrote around node scope k in_pushed e) [
        | inl s ↦ inl (s.0, wrote_parent node s.1, λ y. ap (λ (n : Node). child n y) s.1 ∙ has y)
        | inr other ↦
            elim (get_pushed nodes leaf node k (sym (ap (λ xs. slice_get xs k) push) ∙ other.1)) [
              | inl there ↦ inr (inr (other.0, there))
              | inr last ↦ inr (inl (last.0, ap (λ (n : Node). n.parent) last.1 ∙ parent, λ y. ap (λ (n : Node). child n y) last.1 ∙ none y))
            ]
      ]

  pub changed : Changed nodes (slice_set pushed scope (record { parent = around.parent; children = m })) scope x around
  unfolding wrote
  changed = record {
    size = omega (arith, length-set {A = Node}, ap length push, length-append nodes (leaf ∷ []));
    old = old;
    each = each_changed;
  }
