-- What the stations of the walk bring, and what is found behind them.
use Rattle.std.specs.Prelude.{ℕ, ◌+◌, ◌-◌, ◌<◌, ◌≡◌, Bool, true, false, ◌&&◌, ◌||◌, cond, nat_le, nat_lt, List, [], ◌∷◌, ◌++◌, map, length, take, Option, Some, None, unwrap_or, Result, Ok, Err}
use Rattle.std.specs.Str.{bytes_eq}
use Rattle.cdl_source.specs.declared.limits.TheConstants.{MOST_ELEMENTS, MOST_INSTANCES, MOST_STEPS}
use Rattle.cdl_source.specs.declared.rules.TheConstants.{TOO_MANY_OR_TOO_DEEP}
use Rattle.cdl_classes.specs.declared.found.ClassId.{ClassId}
use Rattle.cdl_kinds.specs.declared.kind.Kind.{Kind}
use Rattle.cdl_values.specs.declared.value.Array.{Array}
use Rattle.cdl_paths.specs.declared.path.Step.{Step}
use Rattle.cdl_stations.specs.Keys.{Key}
use Rattle.cdl_walk.specs.declared.walked.Content.{Content}
use Rattle.cdl_walk.specs.declared.walked.Content.TheVariants as content
use Rattle.cdl_walk.specs.declared.walked.Instance.{Instance}
use Rattle.cdl_walk.specs.declared.walked.Walked.{Walked}
use Rattle.cdl_walk.specs.Elements.{owned}
use Rattle.cdl_walk.specs.declared.walked.Point.{Point}
use Rattle.cdl_walk.specs.Faults.{Fault}

-- a rule that is broken at a path; nothing; an instance of a declared block; that one of a kind begins, and then what it is with its
-- ports; the elements of a connector, which stands there, of the instance at the second path
pub data Event : Type 0 where
  Fails : List Step → ℕ → Event
  Skips : Event
  Opens : List Step → ClassId → Event
  Begins : List Step → Event
  Stands : List Step → Kind → List Array → List Point → Event
  Adds : List Step → List Step → List Point → Event

abbrev pub nothing : Walked
nothing = record { instances = []; elements = [] }

-- ---- numbers of instances by their paths

abbrev pub same_step : Step → Step → Bool
same_step s t = bytes_eq s.name t.name && bytes_eq s.indices t.indices

abbrev pub same_steps : List Step → List Step → Bool
same_steps [] [] = true
same_steps [] (t ∷ ts) = false
same_steps (s ∷ ss) [] = false
same_steps (s ∷ ss) (t ∷ ts) = same_step s t && same_steps ss ts

abbrev pub number_from : ℕ → Option ℕ → List Step → List Instance → Option ℕ
number_from i found p [] = found
number_from i found p (x ∷ xs) = number_from (i + 1) (cond (same_steps x.path.steps p) (Some i) found) p xs

-- the number of the last instance at this path
abbrev pub number_at : List Instance → List Step → Option ℕ
number_at xs p = number_from 0 None p xs

-- a path without its last step
abbrev pub outer : List Step → List Step
outer p = take (length p - 1) p

-- an instance is a part of the one at its path without the last step; the root is a part of none
abbrev pub parent_of : List Instance → List Step → Option ℕ
parent_of xs [] = None
parent_of xs (s ∷ rest) = number_at xs (outer (s ∷ rest))

abbrev pub owner_of : List Instance → List Step → ℕ
owner_of xs p = unwrap_or (number_at xs p) 0

abbrev pub instance_of : List Instance → List Step → Content → Instance
instance_of xs p c = record { path = record { steps = p }; parent = parent_of xs p; content = c }

abbrev pub with_instance : Walked → List Step → Content → Walked
with_instance w p c = record { instances = w.instances ++ instance_of w.instances p c ∷ []; elements = w.elements }

abbrev pub with_elements : Walked → ℕ → List Point → Walked
with_elements w i points = record { instances = w.instances; elements = w.elements ++ map (owned i) points }

abbrev pub has_room : Walked → Bool
has_room w = nat_lt (length w.instances) MOST_INSTANCES

abbrev pub has_room_for : Walked → List Point → Bool
has_room_for w points = nat_le (length w.elements + length points) MOST_ELEMENTS

abbrev pub is_too_much : List Step → Walked → Bool
is_too_much p w = nat_lt MOST_STEPS (length p) || nat_le MOST_INSTANCES (length w.instances)

abbrev pub are_too_many : Walked → List Point → Bool
are_too_many w points = nat_lt MOST_ELEMENTS (length points) || nat_lt (MOST_ELEMENTS - length points) (length w.elements)

-- what is found behind an event, or the rule that it breaks
abbrev pub step : Walked → Event → Result Walked Fault
step w (Fails p r) = Err (p, r)
step w Skips = Ok w
step w (Opens p c) = cond (has_room w) (Ok (with_instance w p (content.Block c))) (Err (p, TOO_MANY_OR_TOO_DEEP))
step w (Begins p) = cond (has_room w) (Ok w) (Err (p, TOO_MANY_OR_TOO_DEEP))
step w (Stands p k v points) = cond (has_room_for w points) (Ok (with_elements (with_instance w p (content.Elementary k v)) (length w.instances) points)) (Err (p, TOO_MANY_OR_TOO_DEEP))
step w (Adds p d points) = cond (has_room_for w points) (Ok (with_elements w (owner_of w.instances d) points)) (Err (p, TOO_MANY_OR_TOO_DEEP))

-- how many instances and elements an event brings
abbrev pub instances_in : Event → ℕ
instances_in (Fails p r) = 0
instances_in Skips = 0
instances_in (Opens p c) = 1
instances_in (Begins p) = 0
instances_in (Stands p k v points) = 1
instances_in (Adds p d points) = 0

abbrev pub elements_in : Event → ℕ
elements_in (Fails p r) = 0
elements_in Skips = 0
elements_in (Opens p c) = 0
elements_in (Begins p) = 0
elements_in (Stands p k v points) = length points
elements_in (Adds p d points) = length points

abbrev pub instances_of : List (Key × Event) → ℕ
instances_of [] = 0
instances_of (x ∷ xs) = instances_in x.1 + instances_of xs

abbrev pub elements_of : List (Key × Event) → ℕ
elements_of [] = 0
elements_of (x ∷ xs) = elements_in x.1 + elements_of xs

-- The rule that an event breaks behind these. C20 counts the instances and the elements of all earlier stations and of this one.
abbrev pub Bad : List (Key × Event) → Event → Fault → Type 0
Bad xs (Fails p r) f = f ≡ (p, r)
Bad xs Skips f = ⊥
Bad xs (Opens p c) f = (f ≡ (p, TOO_MANY_OR_TOO_DEEP)) × (MOST_INSTANCES < instances_of xs + 1)
Bad xs (Begins p) f = (f ≡ (p, TOO_MANY_OR_TOO_DEEP)) × (MOST_INSTANCES < instances_of xs + 1)
Bad xs (Stands p k v points) f = (f ≡ (p, TOO_MANY_OR_TOO_DEEP)) × (MOST_ELEMENTS < elements_of xs + length points)
Bad xs (Adds p d points) f = (f ≡ (p, TOO_MANY_OR_TOO_DEEP)) × (MOST_ELEMENTS < elements_of xs + length points)
