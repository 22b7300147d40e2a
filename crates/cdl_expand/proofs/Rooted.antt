-- The root and each instance that has parts are of declared blocks.
use Rattle.std.proofs.Common.{◌≡◌, ◌⊎◌, false, List, [], ◌∷◌, Some, None, slice_get, refl, sym, ap, ◌∙◌, subst, inl, inr}
use Rattle.cdl_network.specs.Lists.{In}
use Rattle.cdl_classes.specs.declared.found.ClassId.{ClassId}
use Rattle.cdl_paths.specs.declared.path.Step.{Step}
use Rattle.cdl_params.specs.Kept.{Model}
use Rattle.cdl_stations.specs.Keys.{Key, Lists, In as InKeys}
use Rattle.cdl_stations.proofs.Grown.{in_left, in_right, in_either}
use Rattle.cdl_walk.specs.declared.walked.Content.TheVariants as content
use Rattle.cdl_walk.specs.Events.{outer}
use Rattle.cdl_walk.specs.Instances.{Thing, Block, Elementary, Elements, Seen, IsThing, instances_from, instances_in}
use Rattle.cdl_walk.specs.Stations.{the_root}
use Rattle.cdl_model.specs.Apart.{AreApart}
use Rattle.cdl_model.specs.Networks.{parent_path, content_at, is_elementary}
use Rattle.cdl_model.specs.Parts.{Unfolding, AreParts}
use Rattle.cdl_model.proofs.Keyed.{Marks}
use Rattle.cdl_model.proofs.Places.{content_there}
use Rattle.cdl_expand.proofs.Things.{Things, block_of_part}
use Rattle.cdl_expand.proofs.Walking.{of_keys, to_keys}

abbrev pub block_seen : List Step → ClassId → Seen
block_seen p c = record { path = p; content = content.Block c }

-- ---- the root stands first

abbrev root_entry : ClassId → Key × Thing
root_entry c = ([], Block [] c)

first_entry : (w : Model) (xs : Things) → Lists (IsThing w [] (the_root w)) xs → (rest : Things) × (xs ≡ root_entry (the_root w) ∷ rest)
first_entry w [] l = absurd (l.each [] (Block [] (the_root w)) refl)
first_entry w (x ∷ xs) l = by_place (l.each [] (Block [] (the_root w)) refl)
  where
    by_place : InKeys {X = Key × Thing} ([], Block [] (the_root w)) (x ∷ xs) → (rest : Things) × (x ∷ xs ≡ root_entry (the_root w) ∷ rest)
    by_place (inl e) = (xs, ap (λ (z : Key × Thing). z ∷ xs) (sym e))
    by_place (inr i) = absurd (l.sorted.0 [] (Block [] (the_root w)) i)

pub root_first : (w : Model) (u : Unfolding) → AreParts w u → slice_get u.instances 0 ≡ Some (block_seen [] (the_root w))
root_first w u r =
    let f = first_entry w r.things r.lists in
    ap (λ (l : List Seen). slice_get l 0) (r.instances ∙ ap instances_in f.1)

-- ---- instances and things

-- the thing of an instance
pub record ThingOf (xs : Things) (s : Seen) : Type 0 where
  pub key : Key
  pub thing : Thing
  pub there : InKeys {X = Key × Thing} (key, thing) xs
  pub seen : InKeys s (instances_from thing)

pub thing_of : (xs : Things) (s : Seen) → InKeys s (instances_in xs) → ThingOf xs s
thing_of [] s i = absurd i
thing_of ((k, t) ∷ xs) s i = elim (in_either s (instances_from t) (instances_in xs) i) as (λ _. ThingOf ((k, t) ∷ xs) s) [
  | inl a ↦ record { key = k; thing = t; there = inl refl; seen = a }
  | inr b ↦ (let r = thing_of xs s b in record { key = r.key; thing = r.thing; there = inr r.there; seen = r.seen })
]

pub marks_path : (t : Thing) (s : Seen) → InKeys s (instances_from t) → Marks t s.path None
marks_path (Block p c) s (inl e) = ap (λ (z : Seen). z.path) e
marks_path (Block p c) s (inr h) = absurd h
marks_path (Elementary p k v ps) s (inl e) = ap (λ (z : Seen). z.path) e
marks_path (Elementary p k v ps) s (inr h) = absurd h
marks_path (Elements p ps) s h = absurd h

-- a thing among them brings its instance
pub instance_there : (xs : Things) (k : Key) (t : Thing) (s : Seen) → InKeys {X = Key × Thing} (k, t) xs → InKeys s (instances_from t) → InKeys s (instances_in xs)
instance_there [] k t s i h = absurd i
instance_there (x ∷ xs) k t s (inl e) h = in_left s (instances_from x.1) (instances_in xs) (subst (λ (z : Key × Thing). InKeys s (instances_from z.1)) e h)
instance_there (x ∷ xs) k t s (inr i) h = in_right s (instances_from x.1) (instances_in xs) (instance_there xs k t s i h)

module _ (w : Model) (u : Unfolding) (r : AreParts w u) (a : AreApart u) where
  pub thing_at : (s : Seen) → In s u.instances → ThingOf r.things s
  thing_at s i = thing_of r.things s (subst (λ (l : List Seen). InKeys s l) r.instances (to_keys s u.instances i))

  pub block_listed : (k : Key) (q : List Step) (d : ClassId) → IsThing w [] (the_root w) k (Block q d) → In (block_seen q d) u.instances
  block_listed k q d s =
      subst (λ (l : List Seen). In (block_seen q d) l) (sym r.instances)
      (of_keys (block_seen q d) (instances_in r.things) (instance_there r.things k (Block q d) (block_seen q d) (r.lists.each k (Block q d) s) (inl refl)))

  block_plain : (q : List Step) (d : ClassId) → In (block_seen q d) u.instances → is_elementary (content_at u.instances q) ≡ false
  block_plain q d i = ap is_elementary (content_there u.instances (block_seen q d) a.instances i)

  -- what an instance is a part of
  pub parent_block : (s : Seen) (q : List Step) → In s u.instances → parent_path s.path ≡ Some q → is_elementary (content_at u.instances q) ≡ false
  parent_block s q i e =
      let t = thing_at s i in
      by_part (block_of_part w t.key [] s.path (the_root w) t.thing (marks_path t.thing s t.seen) (r.lists.only t.key t.thing t.there)) e
    where
      no_parent : (p : List Step) → p ≡ [] → parent_path p ≡ Some q → ⊥
      no_parent [] f g = cc
      no_parent (x ∷ p) f g = cc

      outer_is : (p : List Step) → parent_path p ≡ Some q → outer p ≡ q
      outer_is [] g = cc
      outer_is (x ∷ p) g = cc

      by_part : (s.path ≡ []) ⊎ ((key : Key) × (d : ClassId) × IsThing w [] (the_root w) key (Block (outer s.path) d)) → parent_path s.path ≡ Some q → is_elementary (content_at u.instances q) ≡ false
      by_part (inl f) g = absurd (no_parent s.path f g)
      by_part (inr b) g = ap (λ p. is_elementary (content_at u.instances p)) (sym (outer_is s.path g)) ∙ block_plain (outer s.path) b.1 (block_listed b.0 (outer s.path) b.1 b.2)
