-- Wires aren't too many where no rule of statements is broken.
use Rattle.std.proofs.Common.{◌≡◌, ◌+◌, ◌≤◌, List, [], ◌∷◌, ◌++◌, length, length-append, append_assoc, refl, sym, ap, ◌∙◌, subst, arith}
use Rattle.std.proofs.lemmas.List.{append-nil}
use Rattle.cdl_source.specs.declared.limits.TheConstants.{MOST_WIRES}
use Rattle.cdl_source.specs.declared.rules.TheConstants.{TOO_MANY_WIRES}
use Rattle.cdl_source.proofs.Cases.{by_lt}
use Rattle.cdl_stations.specs.FirstBroken.{IsBroken, NoneBroken}
use Rattle.cdl_stations.specs.Keys.{Key, Lists}
use Rattle.cdl_stations.proofs.Unique.{lists_front}
use Rattle.cdl_statements.specs.Directory.{NamedWire}
use Rattle.cdl_statements.specs.Events.{Event, Fails, Skips, Turns, Wires, Bad, wires_in, wires_of}
use Rattle.cdl_statements.specs.Places.{Spot, Fault}

abbrev Events : Type 0
Events = List (Key × Event)

wires_both : (xs ys : Events) → wires_of (xs ++ ys) ≡ wires_of xs ++ wires_of ys
wires_both [] ys = refl
wires_both (x ∷ xs) ys = ap (λ (l : List NamedWire). wires_in x.1 ++ l) (wires_both xs ys) ∙ sym (append_assoc (wires_in x.1) (wires_of xs) (wires_of ys))

count_both : (xs : Events) (k : Key) (e : Event) → length (wires_of (xs ++ (k, e) ∷ [])) ≡ length (wires_of xs) + length (wires_in e)
count_both xs k e = ap length (wires_both xs ((k, e) ∷ []) ∙ ap (λ (l : List NamedWire). wires_of xs ++ l) (append-nil (wires_in e))) ∙ length-append (wires_of xs) (wires_in e)

abbrev too_many : Spot → Fault
too_many at = (at, TOO_MANY_WIRES)

-- no event of the list is bad behind those before it
module _ (S : Key → Event → Type 0) (all : Events) (l : Lists S all) (n : NoneBroken (IsBroken Bad S)) where
  not_bad : (front rest : Events) (k : Key) (e : Event) (f : Fault) → all ≡ front ++ (k, e) ∷ rest → Bad front e f → ⊥
  not_bad front rest k e f q b =
      let whole : all ≡ (front ++ (k, e) ∷ []) ++ rest = q ∙ sym (append_assoc front ((k, e) ∷ []) rest) in
      n.none k f (record {
        earlier = front;
        event = e;
        lists = lists_front S S front rest k e (λ j d o s. s) (λ j d s. s) (subst (λ (zs : Events). Lists S zs) whole l);
        bad = b;
      })

  one_more : (front rest : Events) (k : Key) (e : Event) → all ≡ front ++ (k, e) ∷ rest → length (wires_of front) ≤ MOST_WIRES → length (wires_of front) + length (wires_in e) ≤ MOST_WIRES
  one_more front rest k (Fails at r) q h = omega (arith, h)
  one_more front rest k Skips q h = omega (arith, h)
  one_more front rest k (Turns at m) q h = omega (arith, h)
  one_more front rest k (Wires at ws) q h = by_lt MOST_WIRES (length (wires_of front) + length ws)
      (λ m. absurd (not_bad front rest k (Wires at ws) (too_many at) q (refl, m)))
      (λ m. m)

  so_far : (front rest : Events) → all ≡ front ++ rest → length (wires_of front) ≤ MOST_WIRES → length (wires_of all) ≤ MOST_WIRES
  so_far front [] q h = subst (λ (zs : Events). length (wires_of zs) ≤ MOST_WIRES) (sym (q ∙ append-nil front)) h
  so_far front ((k, e) ∷ rest) q h =
      let more : length (wires_of (front ++ (k, e) ∷ [])) ≤ MOST_WIRES = subst (λ m. m ≤ MOST_WIRES) (sym (count_both front k e)) (one_more front rest k e q h) in
      so_far (front ++ (k, e) ∷ []) rest (q ∙ sym (append_assoc front ((k, e) ∷ []) rest)) more

  pub few_wires : length (wires_of all) ≤ MOST_WIRES
  few_wires = so_far [] all refl (omega arith)
