-- The stations of statements rest on the paths of instances and on what these are.
use Rattle.std.proofs.Common.{◌≡◌, List, [], ◌∷◌, map, Option, Some, None, slice_get, sym, ap, ◌∙◌, subst}
use Rattle.std.specs.Prelude.{option_map}
use Rattle.std.proofs.lemmas.Option.{slice_get-map}
use Rattle.cdl_params.specs.Kept.{Model}
use Rattle.cdl_stations.specs.FirstBroken.{First, IsBroken}
use Rattle.cdl_stations.specs.Keys.{Key, to}
use Rattle.cdl_stations.proofs.Grown.{lists_like}
use Rattle.cdl_stations.proofs.Unique.{lists_same}
use Rattle.cdl_walk.specs.declared.walked.Content.{Content}
use Rattle.cdl_walk.specs.declared.walked.Content.TheVariants as content
use Rattle.cdl_walk.specs.declared.walked.Instance.{Instance}
use Rattle.cdl_walk.specs.Instances.{Seen, IsThing, instances_in, seen_instance}
use Rattle.cdl_walk.specs.Stations.{the_root}
use Rattle.cdl_statements.specs.Events.{Event}
use Rattle.cdl_statements.specs.Places.{scope_of}
use Rattle.cdl_statements.specs.Stations.{ForSome, InScope, InContent, InInstance, InModel}
use Rattle.cdl_expand.specs.Expanded.{AreInstances}

some_seen : (x y : Seen) → Some x ≡ Some y → x ≡ y
some_seen x y e = cc

no_seen : (x : Seen) → Some x ≡ None → ⊥
no_seen x e = cc

module _ (w : Model) where
  same_path : (x y : Instance) (c : Content) (k : Key) (e : Event) → x.path.steps ≡ y.path.steps → InContent w x c k e → InContent w y c k e
  same_path x y (content.Block c) k e q s = subst (λ p. InScope w (scope_of w p c) k e) q s
  same_path x y (content.Elementary kind v) k e q s = absurd s

  same_instance : (x y : Instance) (k : Key) (e : Event) → seen_instance x ≡ seen_instance y → InInstance w x k e → InInstance w y k e
  same_instance x y k e q s = subst (λ c. InContent w y c k e) (ap (λ (z : Seen). z.content) q) (same_path x y x.content k e (ap (λ (z : Seen). z.path) q) s)

  at_same : (o r : Option Instance) (k : Key) (e : Event) → option_map seen_instance o ≡ option_map seen_instance r → ForSome o (λ x. InInstance w x k e) → ForSome r (λ x. InInstance w x k e)
  at_same None r k e q s = absurd s
  at_same (Some x) None k e q s = absurd (no_seen (seen_instance x) q)
  at_same (Some x) (Some y) k e q s = same_instance x y k e (some_seen (seen_instance x) (seen_instance y) q) s

  pub same_stations : (xs ys : List Instance) → map seen_instance xs ≡ map seen_instance ys → (k : Key) (e : Event) → InModel w xs k e → InModel w ys k e
  same_stations xs ys q [] e s = s
  same_stations xs ys q (i ∷ k) e s = at_same (slice_get xs i) (slice_get ys i) k e
      (sym (slice_get-map seen_instance xs i) ∙ ap (λ (l : List Seen). slice_get l i) q ∙ slice_get-map seen_instance ys i) s

  pub same_instances : (xs ys : List Instance) → AreInstances w xs → AreInstances w ys → map seen_instance xs ≡ map seen_instance ys
  same_instances xs ys a b = a.seen ∙ ap instances_in (lists_same (IsThing w [] (the_root w)) a.things b.things a.lists b.lists) ∙ sym b.seen

-- one family for another that says the same
module _ {E F : Type 0} (Bad : List (Key × E) → E → F → Type 0) (S T : Key → E → Type 0) (f : (k : Key) (e : E) → S k e → T k e) (g : (k : Key) (e : E) → T k e → S k e) where
  pub broken_like : (k : Key) (x : F) → IsBroken Bad S k x → IsBroken Bad T k x
  broken_like k x b = record { earlier = b.earlier; event = b.event; lists = lists_like (to S k) (to T k) _ (λ j e h. (h.0, f j e h.1)) (λ j e h. (h.0, g j e h.1)) b.lists; bad = b.bad }

module _ {E F : Type 0} (Bad : List (Key × E) → E → F → Type 0) (S T : Key → E → Type 0) (f : (k : Key) (e : E) → S k e → T k e) (g : (k : Key) (e : E) → T k e → S k e) where
  pub first_like : (x : F) → First (IsBroken Bad S) x → First (IsBroken Bad T) x
  first_like x a = record {
    key = a.key;
    broken = broken_like Bad S T f g a.key x a.broken;
    least = λ k y h b. a.least k y h (broken_like Bad T S g f k y b);
    alone = λ y b. a.alone y (broken_like Bad T S g f a.key y b);
  }
