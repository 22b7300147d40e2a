-- Each instance stands behind the one that it is a part of, and each element behind its instance.
use Rattle.std.proofs.Common.{◌≡◌, ◌<◌, ℕ, zero, suc, ◌+◌, ◌-◌, Bool, true, false, cond, List, [], ◌∷◌, ◌++◌, length, map, refl, sym, ap, ◌∙◌, subst, arith, append_assoc, length-append, Result, Ok, Err, Option, Some, None, inl, inr, ◌⊎◌}
use Rattle.std.specs.Prelude.{nat_le, ◌&&◌, unwrap_or}
use Rattle.std.specs.List.{slice_get}
use Rattle.std.specs.Str.{bytes_eq}
use Rattle.std.proofs.lemmas.Bool.{cases_lt}
use Rattle.std.proofs.lemmas.List.{append-nil, map-append, take_at}
use Rattle.std.proofs.lemmas.Option.{slice_get_within}
use Rattle.cdl_source.proofs.Options.{bytes_eq-true}
use Rattle.cdl_source.specs.declared.limits.TheConstants.{MOST_STEPS}
use Rattle.cdl_source.specs.declared.rules.TheConstants.{TOO_MANY_OR_TOO_DEEP}
use Rattle.cdl_values.specs.declared.value.Array.{Array}
use Rattle.cdl_array.specs.Outcomes.{Outcome}
use Rattle.cdl_kinds.specs.declared.kind.Kind.{Kind}
use Rattle.cdl_tree.specs.declared.class.Item.{Item}
use Rattle.cdl_scopes.specs.Classes.{declared}
use Rattle.cdl_scopes.specs.Lookup.{item_name}
use Rattle.cdl_classes.specs.declared.found.ClassId.{ClassId}
use Rattle.cdl_paths.specs.declared.path.Step.{Step}
use Rattle.cdl_params.specs.Kept.{Model}
use Rattle.cdl_stations.specs.Keys.{Key, Before, In, Sorted, Lists}
use Rattle.cdl_stations.specs.Runs.{on_ok, goes, Went}
use Rattle.cdl_stations.proofs.Grown.{in_left, in_right, in_either}
use Rattle.cdl_stations.proofs.Unique.{before_asym, before_self, sorted_across}
use Rattle.cdl_items.specs.declared.role.Part.{Part}
use Rattle.cdl_items.specs.declared.role.Part.TheVariants as part
use Rattle.cdl_items.specs.declared.role.Role.{Role}
use Rattle.cdl_items.specs.declared.role.Role.TheVariants as role
use Rattle.cdl_walk.specs.declared.walked.Content.{Content}
use Rattle.cdl_walk.specs.declared.walked.Content.TheVariants as content
use Rattle.cdl_walk.specs.declared.walked.Element.{Element}
use Rattle.cdl_walk.specs.declared.walked.Instance.{Instance}
use Rattle.cdl_walk.specs.declared.walked.KindInstance.{KindInstance}
use Rattle.cdl_walk.specs.declared.walked.Point.{Point}
use Rattle.cdl_walk.specs.declared.walked.Walked.{Walked}
use Rattle.cdl_items.specs.Roles.{items_of, role_of}
use Rattle.cdl_walk.specs.Elements.{owned, indices_at}
use Rattle.cdl_walk.specs.Events.{Event, Fails, Skips, Opens, Begins, Stands, Adds, nothing, outer, same_step, same_steps, number_from, number_at, parent_of, owner_of, instance_of, with_instance, with_elements, has_room, has_room_for, step}
use Rattle.cdl_walk.specs.Faults.{Fault, named}
use Rattle.cdl_walk.specs.Places.{Here, start, entered, inside}
use Rattle.cdl_walk.specs.Stations.{connector_station, component_station, block_station, opens, begins, stands, adds, skips, item_event, ForItem, ForElement, InKind, InBlock, InItem, InModel, the_root}
use Rattle.cdl_walk.specs.Instances.{Seen, Owned, owned_by, Block, Elementary, instances_from, instances_in, elements_in, seen_instance, path_in, path_at, seen_element, IsPartOf, AreAll}
use Rattle.cdl_walk.specs.Judges.{NoneFails}
use Rattle.cdl_walk.proofs.Counts.{root_went}
use Rattle.cdl_walk.proofs.Numbering.{number_push, number_here}
use Rattle.cdl_walk.proofs.Preorder.{Family, Fine, fine_here, no_fault, all_there, all_things}

-- ---- what an event needs to stand before it

-- an instance but the root needs the one that it is a part of, a connector its instance
abbrev Needs : Event → List Step → Type 0
Needs (Fails p r) q = ⊥
Needs Skips q = ⊥
Needs (Opens p c) q = (0 < length p) × (q ≡ outer p)
Needs (Begins p) q = ⊥
Needs (Stands p k v ps) q = (0 < length p) × (q ≡ outer p)
Needs (Adds p d ps) q = q ≡ d

outer_push : (p : List Step) (s : Step) → outer (p ++ s ∷ []) ≡ p
outer_push p s = take_at p (s ∷ []) (length (p ++ s ∷ []) - 1) (let more : length (p ++ s ∷ []) ≡ length p + 1 = length-append p (s ∷ []) in omega (arith, more))

at_needs : (e f : Event) (q : List Step) → e ≡ f → Needs e q → Needs f q
at_needs e f q s n = subst (λ (x : Event). Needs x q) s n

opens_needs : (b : Bool) (p : List Step) (c : ClassId) (r : ℕ) (q : List Step) → Needs (cond b (Opens p c) (Fails p r)) q → (0 < length p) × (q ≡ outer p)
opens_needs true p c r q n = n
opens_needs false p c r q n = absurd n

begins_needs : (b : Bool) (p : List Step) (r : ℕ) (q : List Step) → Needs (cond b (Begins p) (Fails p r)) q → ⊥
begins_needs true p r q n = n
begins_needs false p r q n = n

skips_needs : (A : Type 0) (p : List Step) (o : Outcome A) (q : List Step) → Needs (skips p o) q → ⊥
skips_needs A p (Ok a) q n = n
skips_needs A p (Err r) q n = n

adds_needs : (p d : List Step) (o : Outcome (List Point)) (q : List Step) → Needs (adds p d o) q → q ≡ d
adds_needs p d (Ok ps) q n = n
adds_needs p d (Err r) q n = absurd n

stands_needs : (h : Here) (k : Kind) (o : Result KindInstance Fault) (q : List Step) → Needs (stands h k o) q → q ≡ outer h.steps
stands_needs h k (Ok x) q n = n.1
stands_needs h k (Err f) q n = absurd n

item_needs_itself : (w : Model) (h : Here) (item : Item) (r : Role) (q : List Step) → Needs (item_event w h item r) q → q ≡ h.steps
item_needs_itself w h item role.Value q n = absurd (skips_needs Array _ _ q n)
item_needs_itself w h item (role.Connector t input) q n = adds_needs (named h.steps (item_name item)) h.steps (connector_station w h item t input) q n
item_needs_itself w h item (role.Component p) q n = absurd (skips_needs (List ℕ) _ _ q n)
item_needs_itself w h item role.Other q n = absurd n

kind_needs : (w : Model) (h : Here) (k : Kind) (l : Key) (e : Event) (q : List Step) → InKind w h k l e → Needs e q → q ≡ outer h.steps
kind_needs w h k [] e q s n = absurd (begins_needs (nat_le (length h.steps) MOST_STEPS) h.steps TOO_MANY_OR_TOO_DEEP q (at_needs e (begins h) q s n))
kind_needs w h k (i ∷ []) e q s n = stands_needs h k (block_station w h k) q (at_needs e (stands h k (block_station w h k)) q s.1 n)
kind_needs w h k (i ∷ j ∷ l) e q s n = absurd s

-- an instance of a declared block at this path opens at an earlier key
record Opened (S : Family) (k : Key) (q : List Step) : Type 0 where
  key : Key
  class : ClassId
  before : Before key k
  there : S key (Opens q class)

abbrev BlockNeeds : Model → Here → ClassId → Key → List Step → Type 0
BlockNeeds w h c k q = ((0 < length h.steps) × (q ≡ outer h.steps)) ⊎ Opened (InBlock w h c) k q

abbrev ItemNeeds : Model → Here → Item → Role → Key → List Step → Type 0
ItemNeeds w h x r k q = (q ≡ h.steps) ⊎ Opened (InItem w h x r) k q

abbrev Inner : Model → Here → Outcome (List ℕ) → Item → Part → ℕ → Family
Inner w h o item p x l e = ForElement o h item p x (λ g c. InBlock w g c l e) (λ g kind. InKind w g kind l e)

element_needs : (w : Model) (h : Here) (o : Outcome (List ℕ)) (item : Item) (p : Part) (x : ℕ) (k : Key) (e : Event) (q : List Step)
    → ((g : Here) (c : ClassId) → Fine (InBlock w g c) → InBlock w g c k e → BlockNeeds w g c k q) → Fine (Inner w h o item p x) → Needs e q → Inner w h o item p x k e
    → (q ≡ h.steps) ⊎ Opened (Inner w h o item p x) k q
element_needs w h (Err r) item p x k e q rec fine n s = absurd s
element_needs w h (Ok sizes) item (part.Block c) x k e q rec fine n s =
    elim (rec (entered h item (indices_at sizes x)) c (λ l p r f. fine l p r (s.0, f)) s.1) as (λ _. (q ≡ h.steps) ⊎ Opened (Inner w h (Ok sizes) item (part.Block c) x) k q) [
      | inl z ↦ inl (z.1 ∙ outer_push h.steps (record { name = item_name item; indices = indices_at sizes x }))
      | inr o ↦ inr (record { key = o.key; class = o.class; before = o.before; there = (s.0, o.there) })
    ]
element_needs w h (Ok sizes) item (part.Kind kind) x k e q rec fine n s =
    inl (kind_needs w (entered h item (indices_at sizes x)) kind k e q s.1 n ∙ outer_push h.steps (record { name = item_name item; indices = indices_at sizes x }))

role_needs : (w : Model) (h : Here) (item : Item) (r : Role) (x : ℕ) (k : Key) (e : Event) (q : List Step)
    → ((g : Here) (c : ClassId) → Fine (InBlock w g c) → InBlock w g c k e → BlockNeeds w g c k q) → Fine (InItem w h item r) → Needs e q → InItem w h item r (x ∷ k) e → ItemNeeds w h item r (x ∷ k) q
role_needs w h item role.Value x k e q rec fine n s = absurd s
role_needs w h item (role.Connector t input) x k e q rec fine n s = absurd s
role_needs w h item (role.Component p) x k e q rec fine n s =
    elim (element_needs w h (component_station w h item p) item p x k e q rec (λ l p' r f. fine (x ∷ l) p' r f) n s) as (λ _. ItemNeeds w h item (role.Component p) (x ∷ k) q) [
      | inl z ↦ inl z
      | inr o ↦ inr (record { key = x ∷ o.key; class = o.class; before = inr (refl, o.before); there = o.there })
    ]
role_needs w h item role.Other x k e q rec fine n s = absurd s

abbrev Some_item : Model → Here → ClassId → ℕ → Option Item → Family
Some_item w g c i o l e = ForItem w c i o (λ x r. InItem w g x r l e)

some_needs : (w : Model) (g : Here) (c : ClassId) (i : ℕ) (o : Option Item) (k : Key) (e : Event) (q : List Step) → ((x : Item) (r : Role) → Fine (InItem w g x r) → InItem w g x r k e → ItemNeeds w g x r k q)
    → Fine (Some_item w g c i o) → Some_item w g c i o k e → (q ≡ g.steps) ⊎ Opened (Some_item w g c i o) k q
some_needs w g c i None k e q rec fine s = absurd s
some_needs w g c i (Some x) k e q rec fine s =
    elim (rec x (role_of (declared w.files) c.index i x) (λ l p r f. fine l p r f) s) as (λ _. (q ≡ g.steps) ⊎ Opened (Some_item w g c i (Some x)) k q) [
      | inl z ↦ inl z
      | inr o ↦ inr (record { key = o.key; class = o.class; before = o.before; there = o.there })
    ]

opened_here : (w : Model) (h : Here) (c : ClassId) (q : List Step) → Fine (InBlock w h c) → q ≡ h.steps → Opens q c ≡ opens h c
opened_here w h c q f e = ap (λ (p : List Step). Opens p c) e ∙ fine_here (nat_le (length h.steps) MOST_STEPS) h.steps c TOO_MANY_OR_TOO_DEEP (f [] h.steps TOO_MANY_OR_TOO_DEEP)

mutual
  block_needs : (w : Model) (h : Here) (c : ClassId) → Fine (InBlock w h c) → (k : Key) (e : Event) (q : List Step) → Needs e q → InBlock w h c k e → BlockNeeds w h c k q
  block_needs w h c f [] e q n s = inl (opens_needs (nat_le (length h.steps) MOST_STEPS) h.steps c TOO_MANY_OR_TOO_DEEP q (at_needs e (opens h c) q s n))
  block_needs w h c f (i ∷ k) e q n s =
      elim (some_needs w (inside h c) c i (slice_get (items_of (declared w.files) c.index) i) k e q (λ x r g z. item_needs w (inside h c) x r g k e q n z) (λ l p r y. f (i ∷ l) p r y) s)
      as (λ _. BlockNeeds w h c (i ∷ k) q) [
        | inl z ↦ inr (record { key = []; class = c; before = tt; there = opened_here w h c q f z })
        | inr o ↦ inr (record { key = i ∷ o.key; class = o.class; before = inr (refl, o.before); there = o.there })
      ]

  item_needs : (w : Model) (h : Here) (x : Item) (r : Role) → Fine (InItem w h x r) → (k : Key) (e : Event) (q : List Step) → Needs e q → InItem w h x r k e → ItemNeeds w h x r k q
  item_needs w h x r f [] e q n s = inl (item_needs_itself w h x r q (at_needs e (item_event w h x r) q s n))
  item_needs w h x r f (m ∷ k) e q n s = role_needs w h x r m k e q (λ g c y z. block_needs w g c y k e q n z) f n s

model_needs : (w : Model) → Fine (InModel w) → (k : Key) (e : Event) (q : List Step) → InModel w k e → Needs e q → Opened (InModel w) k q
model_needs w f k e q s n = elim (block_needs w start (the_root w) f k e q n s) as (λ _. Opened (InModel w) k q) [
  | inl z ↦ absurd (omega (arith, z.0))
  | inr o ↦ o
]

-- ---- so it stands before it in the list of events

abbrev opened_by : Event → List (List Step)
opened_by (Fails p r) = []
opened_by Skips = []
opened_by (Opens p c) = p ∷ []
opened_by (Begins p) = []
opened_by (Stands p k v ps) = p ∷ []
opened_by (Adds p d ps) = []

abbrev opened_in : List (Key × Event) → List (List Step)
opened_in [] = []
opened_in (x ∷ xs) = opened_by x.1 ++ opened_in xs

opened_push : (xs : List (Key × Event)) (x : Key × Event) → opened_in (xs ++ x ∷ []) ≡ opened_in xs ++ opened_by x.1
opened_push [] x = append-nil (opened_by x.1)
opened_push (y ∷ ys) x = ap (λ (ps : List (List Step)). opened_by y.1 ++ ps) (opened_push ys x) ∙ sym (append_assoc (opened_by y.1) (opened_in ys) (opened_by x.1))

is_opened : (k : Key) (q : List Step) (c : ClassId) (xs : List (Key × Event)) → In {X = Key × Event} (k, Opens q c) xs → In {X = List Step} q (opened_in xs)
is_opened k q c [] m = absurd m
is_opened k q c (x ∷ xs) (inl e) = in_left q (opened_by x.1) (opened_in xs) (subst (λ (y : Key × Event). In {X = List Step} q (opened_by y.1)) e (inl refl))
is_opened k q c (x ∷ xs) (inr m) = in_right q (opened_by x.1) (opened_in xs) (is_opened k q c xs m)

earlier_in : (front more : List (Key × Event)) (k l : Key) (e f : Event) → Sorted (front ++ (k, e) ∷ more) → Before l k → In {X = Key × Event} (l, f) (front ++ (k, e) ∷ more) → In {X = Key × Event} (l, f) front
earlier_in front more k l e f s b m = elim (in_either {X = Key × Event} (l, f) front ((k, e) ∷ more) m) as (λ _. In {X = Key × Event} (l, f) front) [
  | inl a ↦ a
  | inr z ↦ elim z as (λ _. In {X = Key × Event} (l, f) front) [
    | inl same ↦ absurd (before_self l k (ap (λ (x : Key × Event). x.0) same) b)
    | inr later ↦ absurd (before_asym l k b (sorted_across (front ++ (k, e) ∷ []) more k l e f (subst (λ (zs : List (Key × Event)). Sorted zs) (sym (append_assoc front ((k, e) ∷ []) more)) s)
        (in_right {X = Key × Event} (k, e) front ((k, e) ∷ []) (inl refl)) later))
  ]
]

-- each event needs only what was opened before it
abbrev Nest : List (List Step) → List (Key × Event) → Type 0
Nest ds [] = Unit {0}
Nest ds (x ∷ xs) = ((q : List Step) → Needs x.1 q → In q ds) × Nest (ds ++ opened_by x.1) xs

nest_from : (S : Family) (front rest : List (Key × Event)) → Lists S (front ++ rest) → ((k : Key) (e : Event) (q : List Step) → S k e → Needs e q → Opened S k q) → Nest (opened_in front) rest
nest_from S front [] l f = tt
nest_from S front ((k, e) ∷ more) l f =
    let needs : (q : List Step) → Needs e q → In {X = List Step} q (opened_in front) = (λ q n.
    let o = f k e q (l.only k e (in_right {X = Key × Event} (k, e) front ((k, e) ∷ more) (inl refl))) n in
    is_opened o.key q o.class front (earlier_in front more k o.key e (Opens q o.class) l.sorted o.before (l.each o.key (Opens q o.class) o.there))) in
    let inner : Nest (opened_in (front ++ (k, e) ∷ [])) more = nest_from S (front ++ (k, e) ∷ []) more (subst (λ (zs : List (Key × Event)). Lists S zs) (sym (append_assoc front ((k, e) ∷ []) more)) l) f in
    (needs, subst (λ (ds : List (List Step)). Nest ds more) (opened_push front (k, e)) inner)

-- ---- numbers of instances

both_of : (b c : Bool) → (b && c) ≡ true → (b ≡ true) × (c ≡ true)
both_of true c h = (refl, h)
both_of false c h = cc

abbrev the_step : List ℕ → List ℕ → Step
the_step n i = record { name = n; indices = i }

step_true : (s t : Step) → same_step s t ≡ true → s ≡ t
step_true s t h = let both = both_of (bytes_eq s.name t.name) (bytes_eq s.indices t.indices) h in
    ap (λ n. the_step n s.indices) (bytes_eq-true s.name t.name both.0) ∙ ap (λ i. the_step t.name i) (bytes_eq-true s.indices t.indices both.1)

steps_true : (p q : List Step) → same_steps p q ≡ true → p ≡ q
steps_true [] [] h = refl
steps_true [] (t ∷ q) h = cc
steps_true (s ∷ p) [] h = cc
steps_true (s ∷ p) (t ∷ q) h = let both = both_of (same_step s t) (same_steps p q) h in ap (λ (x : Step). x ∷ p) (step_true s t both.0) ∙ ap (λ (r : List Step). t ∷ r) (steps_true p q both.1)

record FoundFrom (i : ℕ) (p : List Step) (xs : List Instance) (j : ℕ) : Type 0 where
  offset : ℕ
  is : j ≡ i + offset
  within : offset < length xs
  path : path_at xs offset ≡ p

number_first : (i : ℕ) (found : Option ℕ) (p : List Step) (x : Instance) (xs : List Instance) (j : ℕ) (b : Bool) → same_steps x.path.steps p ≡ b → cond b (Some i) found ≡ Some j
    → (found ≡ Some j) ⊎ FoundFrom i p (x ∷ xs) j
number_first i found p x xs j true e h = let same : i ≡ j = cc in inr (record { offset = 0; is = omega (arith, same); within = omega arith; path = steps_true x.path.steps p e })
number_first i found p x xs j false e h = inl h

number_in : (i : ℕ) (found : Option ℕ) (p : List Step) (xs : List Instance) (j : ℕ) → number_from i found p xs ≡ Some j → (found ≡ Some j) ⊎ FoundFrom i p xs j
number_in i found p [] j h = inl h
number_in i found p (x ∷ xs) j h = elim (number_in (i + 1) (cond (same_steps x.path.steps p) (Some i) found) p xs j h) as (λ _. (found ≡ Some j) ⊎ FoundFrom i p (x ∷ xs) j) [
  | inl z ↦ number_first i found p x xs j (same_steps x.path.steps p) refl z
  | inr a ↦ inr (record { offset = suc a.offset; is = omega (arith, a.is); within = omega (arith, a.within); path = a.path })
]

abbrev no_number : Option ℕ
no_number = None

none_some : (j : ℕ) → no_number ≡ Some j → ⊥
none_some j h = cc

abbrev IsNumber : List Instance → List Step → ℕ → Type 0
IsNumber xs p j = (j < length xs) × (path_at xs j ≡ p)

number_is : (xs : List Instance) (p : List Step) (j : ℕ) → number_at xs p ≡ Some j → IsNumber xs p j
number_is xs p j h = elim (number_in 0 None p xs j h) as (λ _. IsNumber xs p j) [
  | inl z ↦ absurd (none_some j z)
  | inr a ↦ (let same : a.offset ≡ j = omega (arith, a.is) in (omega (arith, same, a.within), subst (λ n. path_at xs n ≡ p) same a.path))
]

get_front : (xs : List Instance) (x : Instance) (i : ℕ) → i < length xs → slice_get (xs ++ x ∷ []) i ≡ slice_get xs i
get_front [] x i l = absurd (omega (arith, l))
get_front (y ∷ ys) x zero l = refl
get_front (y ∷ ys) x (suc i) l = get_front ys x i (omega (arith, l))

get_last : (xs : List Instance) (x : Instance) → slice_get (xs ++ x ∷ []) (length xs) ≡ Some x
get_last [] x = refl
get_last (y ∷ ys) x = get_last ys x

path_front : (xs : List Instance) (x : Instance) (i : ℕ) → i < length xs → path_at (xs ++ x ∷ []) i ≡ path_at xs i
path_front xs x i l = ap path_in (get_front xs x i l)

path_last : (xs : List Instance) (x : Instance) → path_at (xs ++ x ∷ []) (length xs) ≡ x.path.steps
path_last xs x = ap path_in (get_last xs x)

record HasNumber (xs : List Instance) (p : List Step) : Type 0 where
  number : ℕ
  is : number_at xs p ≡ Some number

number_chosen : (b : Bool) (n j : ℕ) (o : Option ℕ) (xs : List Instance) (p : List Step) → o ≡ Some j → number_at xs p ≡ cond b (Some n) o → HasNumber xs p
number_chosen true n j o xs p e h = record { number = n; is = h }
number_chosen false n j o xs p e h = record { number = j; is = h ∙ e }

number_stays : (xs : List Instance) (x : Instance) (p : List Step) → HasNumber xs p → HasNumber (xs ++ x ∷ []) p
number_stays xs x p h = number_chosen (same_steps x.path.steps p) (length xs) h.number (number_at xs p) (xs ++ x ∷ []) p h.is (number_push p xs x)

number_new : (xs : List Instance) (x : Instance) (p : List Step) → x.path.steps ≡ p → HasNumber (xs ++ x ∷ []) p
number_new xs x p e = record { number = length xs; is = number_here p xs x e }

-- ---- the state

record Linked (m : Walked) (ds : List (List Step)) (os : List Owned) : Type 0 where
  numbers : (p : List Step) → In p ds → HasNumber m.instances p
  parents : (i : ℕ) (x : Instance) → slice_get m.instances i ≡ Some x → IsPartOf m.instances i x.path.steps x.parent
  owners : (e : Element) → In e m.elements → e.instance < length m.instances
  elements : map (seen_element m.instances) m.elements ≡ os

part_stays : (xs : List Instance) (x : Instance) (i : ℕ) (p : List Step) (o : Option ℕ) → i < length xs → IsPartOf xs i p o → IsPartOf (xs ++ x ∷ []) i p o
part_stays xs x i [] o l h = h
part_stays xs x i (s ∷ rest) None l h = absurd h
part_stays xs x i (s ∷ rest) (Some j) l h = (h.0, path_front xs x j (omega (arith, l, h.0)) ∙ h.1)

part_new : (xs : List Instance) (x : Instance) (p : List Step) → ((q : List Step) → (0 < length p) × (q ≡ outer p) → HasNumber xs q) → IsPartOf (xs ++ x ∷ []) (length xs) p (parent_of xs p)
part_new xs x [] f = refl
part_new xs x (s ∷ rest) f = let n = f (outer (s ∷ rest)) (omega arith, refl) in let is = number_is xs (outer (s ∷ rest)) n.number n.is in
    subst (λ (o : Option ℕ). IsPartOf (xs ++ x ∷ []) (length xs) (s ∷ rest) o) (sym n.is) (is.0, path_front xs x n.number is.0 ∙ is.1)

some_same : (x y : Instance) → Some x ≡ Some y → x ≡ y
some_same x y h = cc

parents_grow : (xs : List Instance) (x : Instance) → ((i : ℕ) (y : Instance) → slice_get xs i ≡ Some y → IsPartOf xs i y.path.steps y.parent) → IsPartOf (xs ++ x ∷ []) (length xs) x.path.steps x.parent
    → (i : ℕ) (y : Instance) → slice_get (xs ++ x ∷ []) i ≡ Some y → IsPartOf (xs ++ x ∷ []) i y.path.steps y.parent
parents_grow xs x f new i y h = elim (cases_lt i (length xs)) as (λ _. IsPartOf (xs ++ x ∷ []) i y.path.steps y.parent) [
  | inl lt ↦ part_stays xs x i y.path.steps y.parent lt (f i y (sym (get_front xs x i lt) ∙ h))
  | inr le ↦ (let more : length (xs ++ x ∷ []) ≡ length xs + 1 = length-append xs (x ∷ []) in let within : i < length (xs ++ x ∷ []) = slice_get_within (xs ++ x ∷ []) i y h in let last : length xs ≡ i = omega (arith, more, within, le) in
      let same : x ≡ y = some_same x y (sym (get_last xs x) ∙ ap (λ n. slice_get (xs ++ x ∷ []) n) last ∙ h) in
      subst (λ (z : Instance). IsPartOf (xs ++ x ∷ []) i z.path.steps z.parent) same (subst (λ n. IsPartOf (xs ++ x ∷ []) n x.path.steps x.parent) last new))
]

seen_stay : (xs : List Instance) (x : Instance) (es : List Element) → ((e : Element) → In e es → e.instance < length xs) → map (seen_element (xs ++ x ∷ [])) es ≡ map (seen_element xs) es
seen_stay xs x [] f = refl
seen_stay xs x (e ∷ es) f =
    ap (λ (p : List Step). owned_by p e.point ∷ map (seen_element (xs ++ x ∷ [])) es) (path_front xs x e.instance (f e (inl refl)))
    ∙ ap (λ (os : List Owned). owned_by (path_at xs e.instance) e.point ∷ os) (seen_stay xs x es (λ d m. f d (inr m)))

in_numbers : (xs : List Instance) (x : Instance) (p : List Step) (ds : List (List Step)) → x.path.steps ≡ p → ((q : List Step) → In q ds → HasNumber xs q) → (q : List Step) → In q (ds ++ p ∷ []) → HasNumber (xs ++ x ∷ []) q
in_numbers xs x p ds e f q m = elim (in_either q ds (p ∷ []) m) as (λ _. HasNumber (xs ++ x ∷ []) q) [
  | inl a ↦ number_stays xs x q (f q a)
  | inr b ↦ elim b as (λ _. HasNumber (xs ++ x ∷ []) q) [
    | inl same ↦ number_new xs x q (e ∙ sym same)
    | inr none ↦ absurd none
  ]
]

linked_more : (m : Walked) (ds : List (List Step)) (os : List Owned) → Linked m ds os → Linked m (ds ++ []) (os ++ [])
linked_more m ds os h = subst (λ (es : List (List Step)). Linked m es (os ++ [])) (sym (append-nil ds)) (subst (λ (ps : List Owned). Linked m ds ps) (sym (append-nil os)) h)

linked_instance : (m : Walked) (p : List Step) (c : Content) (ds : List (List Step)) (os : List Owned) → Linked m ds os → ((q : List Step) → (0 < length p) × (q ≡ outer p) → In q ds) → Linked (with_instance m p c) (ds ++ p ∷ []) os
linked_instance m p c ds os h f = record {
  numbers = in_numbers m.instances (instance_of m.instances p c) p ds refl h.numbers;
  parents = parents_grow m.instances (instance_of m.instances p c) h.parents (part_new m.instances (instance_of m.instances p c) p (λ q n. h.numbers q (f q n)));
  owners = λ e i. let more : length (m.instances ++ instance_of m.instances p c ∷ []) ≡ length m.instances + 1 = length-append m.instances (instance_of m.instances p c ∷ []) in omega (arith, more, h.owners e i);
  elements = seen_stay m.instances (instance_of m.instances p c) m.elements h.owners ∙ h.elements;
}

in_owned : (e : Element) (n : ℕ) (ps : List Point) → In e (map (owned n) ps) → e.instance ≡ n
in_owned e n [] m = absurd m
in_owned e n (p ∷ ps) (inl h) = ap (λ (x : Element). x.instance) h
in_owned e n (p ∷ ps) (inr m) = in_owned e n ps m

seen_owned : (xs : List Instance) (n : ℕ) (d : List Step) (ps : List Point) → path_at xs n ≡ d → map (seen_element xs) (map (owned n) ps) ≡ map (owned_by d) ps
seen_owned xs n d [] e = refl
seen_owned xs n d (p ∷ ps) e = ap (λ (q : List Step). owned_by q p ∷ map (seen_element xs) (map (owned n) ps)) e ∙ ap (λ (os : List Owned). owned_by d p ∷ os) (seen_owned xs n d ps e)

linked_elements : (m : Walked) (n : ℕ) (d : List Step) (ps : List Point) (ds : List (List Step)) (os : List Owned) → Linked m ds os → IsNumber m.instances d n → Linked (with_elements m n ps) ds (os ++ map (owned_by d) ps)
linked_elements m n d ps ds os h is = record {
  numbers = h.numbers;
  parents = h.parents;
  owners = λ e i. elim (in_either e m.elements (map (owned n) ps) i) as (λ _. e.instance < length m.instances) [
    | inl a ↦ h.owners e a
    | inr b ↦ (let same : e.instance ≡ n = in_owned e n ps b in omega (arith, same, is.0))
  ];
  elements = map-append (seen_element m.instances) m.elements (map (owned n) ps) ∙ ap (λ (xs : List Owned). xs ++ map (seen_element m.instances) (map (owned n) ps)) h.elements
      ∙ ap (λ (xs : List Owned). os ++ xs) (seen_owned m.instances n d ps is.1);
}

abbrev owned_at : Event → List Owned
owned_at (Fails p r) = []
owned_at Skips = []
owned_at (Opens p c) = []
owned_at (Begins p) = []
owned_at (Stands p k v ps) = map (owned_by p) ps
owned_at (Adds p d ps) = map (owned_by d) ps

abbrev owned_all : List (Key × Event) → List Owned
owned_all [] = []
owned_all (x ∷ xs) = owned_at x.1 ++ owned_all xs

ok_case : (b : Bool) (k n : Walked) (f : Fault) → cond b (Ok k) (Err f) ≡ Ok n → k ≡ n
ok_case true k n f h = cc
ok_case false k n f h = cc

moved : (m n : Walked) (ds : List (List Step)) (os : List Owned) → m ≡ n → Linked m ds os → Linked n ds os
moved m n ds os e h = subst (λ (w : Walked). Linked w ds os) e h

owner_is : (xs : List Instance) (d : List Step) → HasNumber xs d → IsNumber xs d (owner_of xs d)
owner_is xs d h = let same : owner_of xs d ≡ h.number = ap (λ (o : Option ℕ). unwrap_or o 0) h.is in subst (λ n. IsNumber xs d n) (sym same) (number_is xs d h.number h.is)

new_number : (xs : List Instance) (x : Instance) → IsNumber (xs ++ x ∷ []) x.path.steps (length xs)
new_number xs x = let more : length (xs ++ x ∷ []) ≡ length xs + 1 = length-append xs (x ∷ []) in (omega (arith, more), path_last xs x)

nothing_owned : (m : Walked) (ds : List (List Step)) (os : List Owned) → Linked m ds os → Linked m ds (os ++ [])
nothing_owned m ds os h = subst (λ (ps : List Owned). Linked m ds ps) (sym (append-nil os)) h

nothing_opened : (m : Walked) (ds : List (List Step)) (os : List Owned) → Linked m ds os → Linked m (ds ++ []) os
nothing_opened m ds os h = subst (λ (es : List (List Step)). Linked m es os) (sym (append-nil ds)) h

one_linked : (m n : Walked) (x : Event) (ds : List (List Step)) (os : List Owned) → Linked m ds os → ((q : List Step) → Needs x q → In q ds) → step m x ≡ Ok n → Linked n (ds ++ opened_by x) (os ++ owned_at x)
one_linked m n (Fails p r) ds os h f g = cc
one_linked m n Skips ds os h f g = let same : m ≡ n = cc in moved m n _ _ same (linked_more m ds os h)
one_linked m n (Opens p c) ds os h f g = moved (with_instance m p (content.Block c)) n _ _ (ok_case (has_room m) _ n _ g) (nothing_owned _ _ _ (linked_instance m p (content.Block c) ds os h f))
one_linked m n (Begins p) ds os h f g = moved m n _ _ (ok_case (has_room m) m n _ g) (linked_more m ds os h)
one_linked m n (Stands p k v ps) ds os h f g = moved (with_elements (with_instance m p (content.Elementary k v)) (length m.instances) ps) n _ _ (ok_case (has_room_for m ps) _ n _ g)
    (linked_elements (with_instance m p (content.Elementary k v)) (length m.instances) p ps (ds ++ p ∷ []) os (linked_instance m p (content.Elementary k v) ds os h f)
    (new_number m.instances (instance_of m.instances p (content.Elementary k v))))
one_linked m n (Adds p d ps) ds os h f g = moved (with_elements m (owner_of m.instances d) ps) n _ _ (ok_case (has_room_for m ps) _ n _ g)
    (nothing_opened _ _ _ (linked_elements m (owner_of m.instances d) d ps ds os h (owner_is m.instances d (h.numbers d (f d refl)))))

more_linked : (m n : Walked) (x : Key × Event) (xs : List (Key × Event)) (ds : List (List Step)) (os : List Owned) (r : Result Walked Fault) → Linked m ds os → step m x.1 ≡ r → ((q : List Step) → Needs x.1 q → In q ds)
    → ((k : Walked) → Linked k (ds ++ opened_by x.1) (os ++ owned_at x.1) → goes step k xs ≡ Ok n → Linked n ((ds ++ opened_by x.1) ++ opened_in xs) ((os ++ owned_at x.1) ++ owned_all xs))
    → on_ok r (λ k. goes step k xs) ≡ Ok n → Linked n (ds ++ (opened_by x.1 ++ opened_in xs)) (os ++ (owned_at x.1 ++ owned_all xs))
more_linked m n x xs ds os (Ok k) h g f rec q =
    let inner : Linked n ((ds ++ opened_by x.1) ++ opened_in xs) ((os ++ owned_at x.1) ++ owned_all xs) = rec k (one_linked m k x.1 ds os h f g) q in
    subst (λ (es : List (List Step)). Linked n es (os ++ (owned_at x.1 ++ owned_all xs))) (append_assoc ds (opened_by x.1) (opened_in xs))
    (subst (λ (ps : List Owned). Linked n ((ds ++ opened_by x.1) ++ opened_in xs) ps) (append_assoc os (owned_at x.1) (owned_all xs)) inner)
more_linked m n x xs ds os (Err y) h g f rec q = cc

many_linked : (m n : Walked) (xs : List (Key × Event)) (ds : List (List Step)) (os : List Owned) → Linked m ds os → Nest ds xs → goes step m xs ≡ Ok n → Linked n (ds ++ opened_in xs) (os ++ owned_all xs)
many_linked m n [] ds os h z g = let same : m ≡ n = cc in moved m n _ _ same (linked_more m ds os h)
many_linked m n (x ∷ xs) ds os h z g = more_linked m n x xs ds os (step m x.1) h refl z.0 (λ k a b. many_linked k n xs (ds ++ opened_by x.1) (os ++ owned_at x.1) a z.1 b) g

linked_none : Linked nothing [] []
linked_none = record {
  numbers = λ p m. absurd m;
  parents = λ i x h. absurd (let none : i < length nothing.instances = slice_get_within nothing.instances i x h in omega (arith, none));
  owners = λ e m. absurd m;
  elements = refl;
}

-- ---- the instances

abbrev seen_at : Event → List Seen
seen_at (Fails p r) = []
seen_at Skips = []
seen_at (Opens p c) = instances_from (Block p c)
seen_at (Begins p) = []
seen_at (Stands p k v ps) = instances_from (Elementary p k v ps)
seen_at (Adds p d ps) = []

abbrev seen_all : List (Key × Event) → List Seen
seen_all [] = []
seen_all (x ∷ xs) = seen_at x.1 ++ seen_all xs

abbrev Sees : Walked → List Seen → Type 0
Sees m is = map seen_instance m.instances ≡ is

one_seen : (m n : Walked) (x : Event) → step m x ≡ Ok n → Sees n (map seen_instance m.instances ++ seen_at x)
one_seen m n (Fails p r) g = cc
one_seen m n Skips g = let same : m ≡ n = cc in ap (λ (w : Walked). map seen_instance w.instances) (sym same) ∙ sym (append-nil (map seen_instance m.instances))
one_seen m n (Opens p c) g = ap (λ (w : Walked). map seen_instance w.instances) (sym (ok_case (has_room m) (with_instance m p (content.Block c)) n _ g)) ∙ map-append seen_instance m.instances (instance_of m.instances p (content.Block c) ∷ [])
one_seen m n (Begins p) g = ap (λ (w : Walked). map seen_instance w.instances) (sym (ok_case (has_room m) m n _ g)) ∙ sym (append-nil (map seen_instance m.instances))
one_seen m n (Stands p k v ps) g = ap (λ (w : Walked). map seen_instance w.instances) (sym (ok_case (has_room_for m ps) (with_elements (with_instance m p (content.Elementary k v)) (length m.instances) ps) n _ g))
    ∙ map-append seen_instance m.instances (instance_of m.instances p (content.Elementary k v) ∷ [])
one_seen m n (Adds p d ps) g = ap (λ (w : Walked). map seen_instance w.instances) (sym (ok_case (has_room_for m ps) (with_elements m (owner_of m.instances d) ps) n _ g)) ∙ sym (append-nil (map seen_instance m.instances))

more_seen : (m n : Walked) (x : Key × Event) (xs : List (Key × Event)) (r : Result Walked Fault) → step m x.1 ≡ r → ((k : Walked) → goes step k xs ≡ Ok n → Sees n (map seen_instance k.instances ++ seen_all xs))
    → on_ok r (λ k. goes step k xs) ≡ Ok n → Sees n (map seen_instance m.instances ++ (seen_at x.1 ++ seen_all xs))
more_seen m n x xs (Ok k) g rec q = rec k q ∙ ap (λ (is : List Seen). is ++ seen_all xs) (one_seen m k x.1 g) ∙ append_assoc (map seen_instance m.instances) (seen_at x.1) (seen_all xs)
more_seen m n x xs (Err y) g rec q = cc

many_seen : (m n : Walked) (xs : List (Key × Event)) → goes step m xs ≡ Ok n → Sees n (map seen_instance m.instances ++ seen_all xs)
many_seen m n [] g = let same : m ≡ n = cc in ap (λ (w : Walked). map seen_instance w.instances) (sym same) ∙ sym (append-nil (map seen_instance m.instances))
many_seen m n (x ∷ xs) g = more_seen m n x xs (step m x.1) refl (λ k h. many_seen k n xs h) g

seen_same : (xs : List (Key × Event)) → seen_all xs ≡ instances_in (all_things xs)
seen_same [] = refl
seen_same ((k, Fails p r) ∷ xs) = seen_same xs
seen_same ((k, Skips) ∷ xs) = seen_same xs
seen_same ((k, Opens p c) ∷ xs) = ap (λ (ys : List Seen). instances_from (Block p c) ++ ys) (seen_same xs)
seen_same ((k, Begins p) ∷ xs) = seen_same xs
seen_same ((k, Stands p l v ps) ∷ xs) = ap (λ (ys : List Seen). instances_from (Elementary p l v ps) ++ ys) (seen_same xs)
seen_same ((k, Adds p d ps) ∷ xs) = seen_same xs

owned_same : (xs : List (Key × Event)) → owned_all xs ≡ elements_in (all_things xs)
owned_same [] = refl
owned_same ((k, Fails p r) ∷ xs) = owned_same xs
owned_same ((k, Skips) ∷ xs) = owned_same xs
owned_same ((k, Opens p c) ∷ xs) = owned_same xs
owned_same ((k, Begins p) ∷ xs) = owned_same xs
owned_same ((k, Stands p l v ps) ∷ xs) = ap (λ (ys : List Owned). map (owned_by p) ps ++ ys) (owned_same xs)
owned_same ((k, Adds p d ps) ∷ xs) = ap (λ (ys : List Owned). map (owned_by d) ps ++ ys) (owned_same xs)

all_of_run : (w : Model) (n : Walked) → Went step (InModel w) nothing n → AreAll w n
all_of_run w n v =
    let fine : Fine (InModel w) = no_fault (InModel w) n v in
    let linked : Linked n (opened_in v.entries) (owned_all v.entries) = many_linked nothing n v.entries [] [] linked_none (nest_from (InModel w) [] v.entries v.lists (model_needs w fine)) v.goes in
    record {
      things = all_things v.entries;
      lists = all_there w fine v.entries v.lists;
      instances = many_seen nothing n v.entries v.goes ∙ seen_same v.entries;
      elements = linked.elements ∙ owned_same v.entries;
      parents = linked.parents;
      owners = linked.owners;
    }

pub root_all : (w : Model) (h : Here) (c : ClassId) (m n : Walked) → h ≡ start → c.index ≡ w.root → m ≡ nothing → Went step (InBlock w h c) m n → AreAll w n
root_all w h c m n e r q v = all_of_run w n (root_went w h c m n e r q v)

pub root_fine : (w : Model) (h : Here) (c : ClassId) (m n : Walked) → h ≡ start → c.index ≡ w.root → m ≡ nothing → Went step (InBlock w h c) m n → NoneFails (InModel w)
root_fine w h c m n e r q v = no_fault (InModel w) n (root_went w h c m n e r q v)
