-- The laws of runs at instances, items and elements.
use Rattle.std.proofs.Common.{◌≡◌, ◌<◌, ◌≤◌, ℕ, ◌+◌, Bool, List, [], ◌∷◌, length, refl, sym, ap, ◌∙◌, subst, arith, Result, Ok, Err, Option, Some, None, get_or, inl, inr}
use Rattle.std.specs.List.{slice_get}
use Rattle.std.proofs.lemmas.Option.{slice_get-get_or, slice_get_past}
use Rattle.std.proofs.lemmas.Bool.{cases_lt}
use Rattle.cdl_values.specs.Values.{items_of as size_of}
use Rattle.cdl_values.specs.declared.value.ValueType.{ValueType}
use Rattle.cdl_array.specs.Outcomes.{Outcome}
use Rattle.cdl_kinds.specs.declared.kind.Kind.{Kind}
use Rattle.cdl_tree.specs.declared.class.Item.{Item}
use Rattle.cdl_scopes.specs.Classes.{declared}
use Rattle.cdl_scopes.specs.Lookup.{item_name}
use Rattle.cdl_classes.specs.declared.found.ClassId.{ClassId}
use Rattle.cdl_paths.specs.declared.path.Step.{Step}
use Rattle.cdl_params.specs.Kept.{Model}
use Rattle.cdl_stations.specs.Keys.{Key, Below, under, upto}
use Rattle.cdl_stations.specs.Runs.{Went, StopsAt, FailsAt, Runs, Takes}
use Rattle.cdl_stations.proofs.Laws.{went_step, at_under, went_one, at_one, went_like, at_like, went_all}
use Rattle.cdl_items.specs.declared.role.Part.{Part}
use Rattle.cdl_items.specs.declared.role.Part.TheVariants as part
use Rattle.cdl_items.specs.declared.role.Role.{Role}
use Rattle.cdl_items.specs.declared.role.Role.TheVariants as role
use Rattle.cdl_walk.specs.declared.walked.Walked.{Walked}
use Rattle.cdl_walk.specs.declared.walked.WalkFault.{WalkFault}
use Rattle.cdl_items.specs.Roles.{items_of, role_of}
use Rattle.cdl_walk.specs.Events.{Event, Skips, step}
use Rattle.cdl_walk.specs.Elements.{indices_at}
use Rattle.cdl_walk.specs.Faults.{Fault, named, seen, at, TellsFault}
use Rattle.cdl_walk.specs.Places.{Here, entered, inside}
use Rattle.cdl_walk.specs.Stations.{ForItem, ForPart, ForElement, InKind, InBlock, InItem, InPart, opens, begins, stands, skips, block_station, component_station, item_event}

abbrev Family : Type 1
Family = Key → Event → Type 0

-- where one event stands at the key itself, and none further in
alone_went : (S : Family) (e : Event) (a b : Walked) → S [] e → ((d : Event) → S [] d → d ≡ e) → ((k : Key) (d : Event) → S k d → Below 0 k) → step a e ≡ Ok b → Went step S a b
alone_went S e a b s u n h = went_all step S 0 a b n (went_one step S e a b s u h)

pub alone : (A : Type 0) (S : Family) (e : Event) (a b : Walked) (r : Result A WalkFault) → S [] e → ((d : Event) → S [] d → d ≡ e) → ((k : Key) (d : Event) → S k d → Below 0 k)
    → Takes seen step a e r b → Runs seen step S a r b
alone A S e a b (Ok x) s u n t = alone_went S e a b s u n t
alone A S e a b (Err f) s u n t = at_one step S e a (seen f) s u t

-- ---- instances of kinds

kind_inner : (w : Model) (h : Here) (k : Kind) (l : Key) (e : Event) → under (InKind w h k) 0 l e → Below 0 l
kind_inner w h k [] e s = tt
kind_inner w h k (j ∷ l) e s = absurd s

kind_key : (w : Model) (h : Here) (k : Kind) (l : Key) (e : Event) → InKind w h k l e → Below 1 l
kind_key w h k [] e s = tt
kind_key w h k (i ∷ []) e s = omega (arith, s.0)
kind_key w h k (i ∷ j ∷ l) e s = absurd s

kind_begins : (w : Model) (h : Here) (k : Kind) (a b : Walked) → step a (begins h) ≡ Ok b → Went step (upto (InKind w h k) 0) a b
kind_begins w h k a b e = went_one step (InKind w h k) (begins h) a b refl (λ d g. g) e

pub kind_fault : (w : Model) (h : Here) (k : Kind) (a : Walked) (o : Option Fault) → FailsAt step a (begins h) o → StopsAt step (InKind w h k) a o
kind_fault w h k a o f = at_one step (InKind w h k) (begins h) a o refl (λ d g. g) f

-- behind its beginning, what it is
pub kind_runs : (A : Type 0) (w : Model) (h : Here) (k : Kind) (a b c : Walked) (r : Result A WalkFault) → step a (begins h) ≡ Ok b → Takes seen step b (stands h k (block_station w h k)) r c
    → Runs seen step (InKind w h k) a r c
kind_runs A w h k a b c (Ok x) e t = went_all step (InKind w h k) 1 a c (kind_key w h k)
    (went_step step (InKind w h k) 0 a b c (kind_begins w h k a b e)
    (alone_went (under (InKind w h k) 0) (stands h k (block_station w h k)) b c (refl, refl) (λ d g. g.1) (kind_inner w h k) t))
kind_runs A w h k a b c (Err f) e t = at_under step (InKind w h k) 0 a b (seen f) (kind_begins w h k a b e)
    (at_one step (under (InKind w h k) 0) (stands h k (block_station w h k)) b (seen f) (refl, refl) (λ d g. g.1) t)

-- ---- instances of declared blocks

pub block_starts : (w : Model) (h : Here) (c : ClassId) (a b : Walked) → step a (opens h c) ≡ Ok b → Went step (upto (InBlock w h c) 0) a b
block_starts w h c a b e = went_one step (InBlock w h c) (opens h c) a b refl (λ d g. g) e

pub block_fault : (w : Model) (h : Here) (c : ClassId) (a : Walked) (o : Option Fault) → FailsAt step a (opens h c) o → StopsAt step (InBlock w h c) a o
block_fault w h c a o f = at_one step (InBlock w h c) (opens h c) a o refl (λ d g. g) f

there : (w : Model) (c : ClassId) (i : ℕ) (xs : List Item) (x : Item) → xs ≡ items_of (declared w.files) c.index → i < length xs → x ≡ get_or xs i x → slice_get (items_of (declared w.files) c.index) i ≡ Some x
there w c i xs x e h g = subst (λ (ys : List Item). slice_get ys i ≡ Some x) e (slice_get-get_or xs i x h ∙ ap Some (sym g))

pub block_next : (w w' : Model) (h g : Here) (c : ClassId) (i n : ℕ) (xs : List Item) (x : Item) (r : Role) (a b d : Walked) → xs ≡ items_of (declared w.files) c.index → i < length xs → x ≡ get_or xs i x
    → n ≡ i → r ≡ role_of (declared w.files) c.index n x → w' ≡ w → g ≡ inside h c
    → Went step (upto (InBlock w h c) i) a b → Went step (InItem w' g x r) b d → Went step (upto (InBlock w h c) (i + 1)) a d
block_next w w' h g c i n xs x r a b d e l is number q same at u v = went_step step (InBlock w h c) i a b d u
    (subst (λ (o : Option Item). Went step (λ k n. ForItem w c i o (λ y s. InItem w (inside h c) y s k n)) b d) (sym (there w c i xs x e l is))
    (subst (λ (s : Role). Went step (InItem w (inside h c) x s) b d) (q ∙ ap (λ m. role_of (declared w.files) c.index m x) number)
    (subst (λ (z : Model). Went step (InItem z (inside h c) x r) b d) same (subst (λ (z : Here). Went step (InItem w' z x r) b d) at v))))

pub block_stops : (w w' : Model) (h g : Here) (c : ClassId) (i n : ℕ) (xs : List Item) (x : Item) (r : Role) (a b : Walked) (o : Option Fault) → xs ≡ items_of (declared w.files) c.index → i < length xs
    → x ≡ get_or xs i x → n ≡ i → r ≡ role_of (declared w.files) c.index n x → w' ≡ w → g ≡ inside h c
    → Went step (upto (InBlock w h c) i) a b → StopsAt step (InItem w' g x r) b o → StopsAt step (InBlock w h c) a o
block_stops w w' h g c i n xs x r a b o e l is number q same at u v = at_under step (InBlock w h c) i a b o u
    (subst (λ (z : Option Item). StopsAt step (λ k n. ForItem w c i z (λ y s. InItem w (inside h c) y s k n)) b o) (sym (there w c i xs x e l is))
    (subst (λ (s : Role). StopsAt step (InItem w (inside h c) x s) b o) (q ∙ ap (λ m. role_of (declared w.files) c.index m x) number)
    (subst (λ (z : Model). StopsAt step (InItem z (inside h c) x r) b o) same (subst (λ (z : Here). StopsAt step (InItem w' z x r) b o) at v))))

block_key : (w : Model) (h : Here) (c : ClassId) (k : Key) (e : Event) → InBlock w h c k e → Below (length (items_of (declared w.files) c.index)) k
block_key w h c [] e i = tt
block_key w h c (j ∷ k) e i = elim (cases_lt j (length (items_of (declared w.files) c.index))) [
  | inl lt ↦ lt
  | inr le ↦ absurd (subst (λ (o : Option Item). ForItem w c j o (λ x r. InItem w (inside h c) x r k e)) (slice_get_past (items_of (declared w.files) c.index) j le) i)
]

pub block_all : (w : Model) (h : Here) (c : ClassId) (n : ℕ) (xs : List Item) (a b : Walked) → xs ≡ items_of (declared w.files) c.index → n ≡ length xs
    → Went step (upto (InBlock w h c) n) a b → Went step (InBlock w h c) a b
block_all w h c n xs a b e l v = let same : n ≡ length (items_of (declared w.files) c.index) = l ∙ ap length e in
    went_all step (InBlock w h c) n a b (λ k d i. subst (λ m. Below m k) (sym same) (block_key w h c k d i)) v

-- ---- items without elements

value_key : (w : Model) (h : Here) (x : Item) (k : Key) (e : Event) → InItem w h x role.Value k e → Below 0 k
value_key w h x [] e s = tt
value_key w h x (j ∷ k) e s = absurd s

pub value_runs : (A : Type 0) (w : Model) (h : Here) (x : Item) (a b : Walked) (r : Result A WalkFault) → Takes seen step a (item_event w h x role.Value) r b → Runs seen step (InItem w h x role.Value) a r b
value_runs A w h x a b r t = alone A (InItem w h x role.Value) (item_event w h x role.Value) a b r refl (λ d g. g) (value_key w h x) t

connector_key : (w : Model) (h : Here) (x : Item) (t : ValueType) (input : Bool) (k : Key) (e : Event) → InItem w h x (role.Connector t input) k e → Below 0 k
connector_key w h x t input [] e s = tt
connector_key w h x t input (j ∷ k) e s = absurd s

pub connector_runs : (A : Type 0) (w : Model) (h : Here) (x : Item) (t : ValueType) (input : Bool) (a b : Walked) (r : Result A WalkFault)
    → Takes seen step a (item_event w h x (role.Connector t input)) r b → Runs seen step (InItem w h x (role.Connector t input)) a r b
connector_runs A w h x t input a b r s = alone A (InItem w h x (role.Connector t input)) (item_event w h x (role.Connector t input)) a b r refl (λ d g. g) (connector_key w h x t input) s

other_key : (w : Model) (h : Here) (x : Item) (k : Key) (e : Event) → InItem w h x role.Other k e → Below 0 k
other_key w h x [] e s = tt
other_key w h x (j ∷ k) e s = absurd s

pub other_went : (w : Model) (h : Here) (x : Item) (a : Walked) → Went step (InItem w h x role.Other) a a
other_went w h x a = alone_went (InItem w h x role.Other) Skips a a refl (λ d g. g) (other_key w h x) refl

-- ---- components

abbrev InComponent : Model → Here → Item → Part → Family
InComponent w h x p = InItem w h x (role.Component p)

skipped : (p : List Step) (o : Outcome (List ℕ)) (sizes : List ℕ) (a : Walked) → o ≡ Ok sizes → step a (skips p o) ≡ Ok a
skipped p o sizes a h = subst (λ (z : Outcome (List ℕ)). step a (skips p z) ≡ Ok a) (sym h) refl

at_ok : (p : List Step) (o : Outcome (List ℕ)) (sizes : List ℕ) → at p o ≡ Ok sizes → o ≡ Ok sizes
at_ok p (Ok a) sizes h = cc
at_ok p (Err r) sizes h = cc

at_fault : (p : List Step) (o : Outcome (List ℕ)) (a : Walked) (f : Fault) → at p o ≡ Err f → step a (skips p o) ≡ Err f
at_fault p (Ok sizes) a f h = cc
at_fault p (Err r) a f h = cc

failed : (p : List Step) (o : Outcome (List ℕ)) (a : Walked) (f : Option Fault) → TellsFault (at p o) f → FailsAt step a (skips p o) f
failed p o a None t = tt
failed p o a (Some f) t = at_fault p o a f t

pub component_starts : (w : Model) (h : Here) (x : Item) (p : Part) (sizes : List ℕ) (a : Walked) → at (named h.steps (item_name x)) (component_station w h x p) ≡ Ok sizes
    → Went step (upto (InComponent w h x p) 0) a a
component_starts w h x p sizes a e = went_one step (InComponent w h x p) (skips (named h.steps (item_name x)) (component_station w h x p)) a a refl (λ d g. g)
    (skipped (named h.steps (item_name x)) (component_station w h x p) sizes a (at_ok (named h.steps (item_name x)) (component_station w h x p) sizes e))

pub component_fault : (w : Model) (h : Here) (x : Item) (p : Part) (a : Walked) (f : WalkFault) → TellsFault (at (named h.steps (item_name x)) (component_station w h x p)) (seen f)
    → StopsAt step (InComponent w h x p) a (seen f)
component_fault w h x p a f t = at_one step (InComponent w h x p) (skips (named h.steps (item_name x)) (component_station w h x p)) a (seen f) refl (λ d g. g)
    (failed (named h.steps (item_name x)) (component_station w h x p) a (seen f) t)

part_to : (w : Model) (g : Here) (p : Part) (k : Key) (e : Event) → InPart w g p k e → ForPart g p (λ h c. InBlock w h c k e) (λ h kind. InKind w h kind k e)
part_to w g (part.Block c) k e s = s
part_to w g (part.Kind kind) k e s = s

part_of : (w : Model) (g : Here) (p : Part) (k : Key) (e : Event) → ForPart g p (λ h c. InBlock w h c k e) (λ h kind. InKind w h kind k e) → InPart w g p k e
part_of w g (part.Block c) k e s = s
part_of w g (part.Kind kind) k e s = s

pub component_next : (w w' : Model) (h h' : Here) (item : Item) (p : Part) (sizes : List ℕ) (x : ℕ) (a b d : Walked) → at (named h.steps (item_name item)) (component_station w h item p) ≡ Ok sizes
    → x < size_of sizes → w' ≡ w → h' ≡ h → Went step (upto (InComponent w h item p) x) a b → Went step (InPart w' (entered h' item (indices_at sizes x)) p) b d
    → Went step (upto (InComponent w h item p) (x + 1)) a d
component_next w w' h h' item p sizes x a b d e l q r u v =
    let g : Here = entered h item (indices_at sizes x) in
    let inner : Went step (InPart w (entered h item (indices_at sizes x)) p) b d =
    subst (λ (z : Model). Went step (InPart z (entered h item (indices_at sizes x)) p) b d) q (subst (λ (z : Here). Went step (InPart w' (entered z item (indices_at sizes x)) p) b d) r v) in
    went_step step (InComponent w h item p) x a b d u
    (subst (λ (o : Outcome (List ℕ)). Went step (λ k s. ForElement o h item p x (λ g c. InBlock w g c k s) (λ g kind. InKind w g kind k s)) b d) (sym (at_ok (named h.steps (item_name item)) (component_station w h item p) sizes e))
    (went_like step (InPart w (entered h item (indices_at sizes x)) p) _ b d (λ k s t. (l, part_to w (entered h item (indices_at sizes x)) p k s t)) (λ k s t. part_of w (entered h item (indices_at sizes x)) p k s t.1) inner))

pub component_stops : (w w' : Model) (h h' : Here) (item : Item) (p : Part) (sizes : List ℕ) (x : ℕ) (a b : Walked) (o : Option Fault) → at (named h.steps (item_name item)) (component_station w h item p) ≡ Ok sizes
    → x < size_of sizes → w' ≡ w → h' ≡ h → Went step (upto (InComponent w h item p) x) a b → StopsAt step (InPart w' (entered h' item (indices_at sizes x)) p) b o
    → StopsAt step (InComponent w h item p) a o
component_stops w w' h h' item p sizes x a b o e l q r u v =
    let inner : StopsAt step (InPart w (entered h item (indices_at sizes x)) p) b o =
    subst (λ (z : Model). StopsAt step (InPart z (entered h item (indices_at sizes x)) p) b o) q (subst (λ (z : Here). StopsAt step (InPart w' (entered z item (indices_at sizes x)) p) b o) r v) in
    at_under step (InComponent w h item p) x a b o u
    (subst (λ (y : Outcome (List ℕ)). StopsAt step (λ k s. ForElement y h item p x (λ g c. InBlock w g c k s) (λ g kind. InKind w g kind k s)) b o) (sym (at_ok (named h.steps (item_name item)) (component_station w h item p) sizes e))
    (at_like step (InPart w (entered h item (indices_at sizes x)) p) _ b o (λ k s t. (l, part_to w (entered h item (indices_at sizes x)) p k s t)) (λ k s t. part_of w (entered h item (indices_at sizes x)) p k s t.1) inner))

component_key : (w : Model) (h : Here) (item : Item) (p : Part) (sizes : List ℕ) (n : ℕ) → component_station w h item p ≡ Ok sizes → size_of sizes ≤ n → (k : Key) (e : Event) → InComponent w h item p k e → Below n k
component_key w h item p sizes n o l [] e s = tt
component_key w h item p sizes n o l (j ∷ k) e s =
    let inner : ForElement (Ok sizes) h item p j (λ g c. InBlock w g c k e) (λ g kind. InKind w g kind k e) = subst (λ (y : Outcome (List ℕ)). ForElement y h item p j (λ g c. InBlock w g c k e) (λ g kind. InKind w g kind k e)) o s in
    omega (arith, l, inner.0)

pub component_all : (w : Model) (h : Here) (item : Item) (p : Part) (sizes : List ℕ) (n : ℕ) (a b : Walked) → at (named h.steps (item_name item)) (component_station w h item p) ≡ Ok sizes → size_of sizes ≤ n
    → Went step (upto (InComponent w h item p) n) a b → Went step (InComponent w h item p) a b
component_all w h item p sizes n a b e l v =
    went_all step (InComponent w h item p) n a b (component_key w h item p sizes n (at_ok (named h.steps (item_name item)) (component_station w h item p) sizes e) l) v

-- an item by its role, an element by its class
pub role_value : (A : Type 0) (w : Model) (h : Here) (x : Item) (q : Role) (a b : Walked) (r : Result A WalkFault) → q ≡ role.Value → Takes seen step a (item_event w h x role.Value) r b
    → Runs seen step (InItem w h x q) a r b
role_value A w h x q a b r e t = subst (λ (z : Role). Runs seen step (InItem w h x z) a r b) (sym e) (value_runs A w h x a b r t)

pub role_connector : (A : Type 0) (w : Model) (h : Here) (x : Item) (q : Role) (t : ValueType) (input : Bool) (a b : Walked) (r : Result A WalkFault) → q ≡ role.Connector t input
    → Takes seen step a (item_event w h x (role.Connector t input)) r b → Runs seen step (InItem w h x q) a r b
role_connector A w h x q t input a b r e s = subst (λ (z : Role). Runs seen step (InItem w h x z) a r b) (sym e) (connector_runs A w h x t input a b r s)

pub role_other : (w : Model) (h : Here) (x : Item) (q : Role) (a : Walked) → q ≡ role.Other → Went step (InItem w h x q) a a
role_other w h x q a e = subst (λ (z : Role). Went step (InItem w h x z) a a) (sym e) (other_went w h x a)

pub part_block : (A : Type 0) (w : Model) (h : Here) (p : Part) (c : ClassId) (a b : Walked) (r : Result A WalkFault) → p ≡ part.Block c → Runs seen step (InBlock w h c) a r b → Runs seen step (InPart w h p) a r b
part_block A w h p c a b r e v = subst (λ (z : Part). Runs seen step (InPart w h z) a r b) (sym e) v

pub part_kind : (A : Type 0) (w : Model) (h : Here) (p : Part) (k : Kind) (a b : Walked) (r : Result A WalkFault) → p ≡ part.Kind k → Runs seen step (InKind w h k) a r b → Runs seen step (InPart w h p) a r b
part_kind A w h p k a b r e v = subst (λ (z : Part). Runs seen step (InPart w h z) a r b) (sym e) v

-- behind entering
pub entered_stops : (w : Model) (g h : Here) (item : Item) (p : Part) (indices expected : List ℕ) (a : Walked) (o : Option Fault) → g ≡ entered h item indices → indices ≡ expected
    → StopsAt step (InPart w g p) a o → StopsAt step (InPart w (entered h item expected) p) a o
entered_stops w g h item p indices expected a o e i v = subst (λ (n : List ℕ). StopsAt step (InPart w (entered h item n) p) a o) i (subst (λ (z : Here). StopsAt step (InPart w z p) a o) e v)

-- with the sizes that were lent
pub sized_next : (w w' : Model) (h h' : Here) (item : Item) (p : Part) (sizes lent : List ℕ) (x : ℕ) (a b d : Walked) → at (named h.steps (item_name item)) (component_station w h item p) ≡ Ok sizes
    → lent ≡ sizes → x < size_of sizes → w' ≡ w → h' ≡ h → Went step (upto (InComponent w h item p) x) a b → Went step (InPart w' (entered h' item (indices_at lent x)) p) b d
    → Went step (upto (InComponent w h item p) (x + 1)) a d
sized_next w w' h h' item p sizes lent x a b d e same l q r u v = component_next w w' h h' item p sizes x a b d e l q r u (subst (λ (s : List ℕ). Went step (InPart w' (entered h' item (indices_at s x)) p) b d) same v)

pub sized_stops : (w w' : Model) (h h' : Here) (item : Item) (p : Part) (sizes lent : List ℕ) (x : ℕ) (a b : Walked) (o : Option Fault) → at (named h.steps (item_name item)) (component_station w h item p) ≡ Ok sizes
    → lent ≡ sizes → x < size_of sizes → w' ≡ w → h' ≡ h → Went step (upto (InComponent w h item p) x) a b → StopsAt step (InPart w' (entered h' item (indices_at lent x)) p) b o
    → StopsAt step (InComponent w h item p) a o
sized_stops w w' h h' item p sizes lent x a b o e same l q r u v = component_stops w w' h h' item p sizes x a b o e l q r u (subst (λ (s : List ℕ). StopsAt step (InPart w' (entered h' item (indices_at s x)) p) b o) same v)
