-- One law for each turn of a loop over numbers, whatever the events are.
use Rattle.std.proofs.Common.{◌≡◌, ℕ, ◌+◌, List, [], ◌∷◌, ◌++◌, refl, sym, ap, ◌∙◌, subst, append_assoc, Result, Ok, Err}
use Rattle.cdl_stations.specs.Keys.{Key, Lists, Below, under, upto, to}
use Rattle.std.proofs.Common.{Option, Some, None}
use Rattle.cdl_stations.specs.Runs.{on_ok, goes, Went, Stops, StopsAt, FailsAt}
use Rattle.cdl_stations.proofs.Grown.{with_head, lists_step, lists_to, head_both, lists_nothing, lists_one, lists_root, lists_like}

module _ {M E F : Type 0} (step : M → E → Result M F) where
  both_at : (xs ys : List (Key × E)) (r : Result M F) (b : M) → ((n : M) → goes step n xs ≡ Ok b → goes step n (xs ++ ys) ≡ goes step b ys)
      → on_ok r (λ n. goes step n xs) ≡ Ok b → on_ok r (λ n. goes step n (xs ++ ys)) ≡ goes step b ys
  both_at xs ys (Ok n) b f h = f n h
  both_at xs ys (Err e) b f h = cc

  pub goes_both : (xs ys : List (Key × E)) (a b : M) → goes step a xs ≡ Ok b → goes step a (xs ++ ys) ≡ goes step b ys
  goes_both [] ys a b h = cc
  goes_both (x ∷ xs) ys a b h = both_at xs ys (step a x.1) b (λ n. goes_both xs ys n b) h

  head_at : (r : Result M F) (f g : M → Result M F) → ((n : M) → f n ≡ g n) → on_ok r f ≡ on_ok r g
  head_at (Ok n) f g h = h n
  head_at (Err e) f g h = refl

  goes_head : (i : ℕ) (zs : List (Key × E)) (a : M) → goes step a (with_head i zs) ≡ goes step a zs
  goes_head i [] a = refl
  goes_head i (z ∷ zs) a = head_at (step a z.1) (λ n. goes step n (with_head i zs)) (λ n. goes step n zs) (λ n. goes_head i zs n)

  pub went_step : (S : Key → E → Type 0) (i : ℕ) (a b c : M) → Went step (upto S i) a b → Went step (under S i) b c → Went step (upto S (i + 1)) a c
  went_step S i a b c v w = record {
    entries = v.entries ++ with_head i w.entries;
    lists = lists_step S i v.entries w.entries v.lists w.lists;
    goes = goes_both v.entries (with_head i w.entries) a b v.goes ∙ goes_head i w.entries b ∙ w.goes;
  }

  pub stops_under : (S : Key → E → Type 0) (i : ℕ) (a b : M) (f : F) → Went step (upto S i) a b → Stops step (under S i) b f → Stops step S a f
  stops_under S i a b f v w = record {
    entries = v.entries ++ with_head i w.entries;
    at = i ∷ w.at;
    event = w.event;
    lists = subst (λ (zs : List (Key × E)). Lists (to S (i ∷ w.at)) zs) (ap (λ (zs : List (Key × E)). v.entries ++ zs) (head_both i w.entries ((w.at, w.event) ∷ [])) ∙ sym (append_assoc v.entries (with_head i w.entries) ((i ∷ w.at, w.event) ∷ [])))
        (lists_to S i w.at v.entries (w.entries ++ (w.at, w.event) ∷ []) v.lists w.lists);
    state = w.state;
    goes = goes_both v.entries (with_head i w.entries) a b v.goes ∙ goes_head i w.entries b ∙ w.goes;
    fails = w.fails;
  }

  -- what is at the key itself
  pub went_nothing : (S : Key → E → Type 0) (a : M) → ((e : E) → S [] e → ⊥) → Went step (upto S 0) a a
  went_nothing S a n = record { entries = []; lists = lists_nothing S n; goes = refl }

  one_goes : (e : E) (a b : M) → step a e ≡ Ok b → goes step a (([], e) ∷ []) ≡ Ok b
  one_goes e a b h = rw h refl

  pub went_one : (S : Key → E → Type 0) (e : E) (a b : M) → S [] e → ((d : E) → S [] d → d ≡ e) → step a e ≡ Ok b → Went step (upto S 0) a b
  went_one S e a b s u h = record { entries = ([], e) ∷ []; lists = lists_one S e s u; goes = one_goes e a b h }

  pub stops_one : (S : Key → E → Type 0) (e : E) (a : M) (f : F) → S [] e → ((d : E) → S [] d → d ≡ e) → step a e ≡ Err f → Stops step S a f
  stops_one S e a f s u h = record { entries = []; at = []; event = e; lists = lists_root S e s u; state = a; goes = refl; fails = h }

  -- one family for another that says the same
  pub went_like : (S T : Key → E → Type 0) (a b : M) → ((k : Key) (e : E) → S k e → T k e) → ((k : Key) (e : E) → T k e → S k e) → Went step S a b → Went step T a b
  went_like S T a b f g w = record { entries = w.entries; lists = lists_like S T w.entries f g w.lists; goes = w.goes }

  pub stops_like : (S T : Key → E → Type 0) (a : M) (x : F) → ((k : Key) (e : E) → S k e → T k e) → ((k : Key) (e : E) → T k e → S k e) → Stops step S a x → Stops step T a x
  stops_like S T a x f g w = record {
    entries = w.entries;
    at = w.at;
    event = w.event;
    state = w.state;
    goes = w.goes;
    fails = w.fails;
    lists = lists_like (to S w.at) (to T w.at) _ (λ k e h. (h.0, f k e h.1)) (λ k e h. (h.0, g k e h.1)) w.lists;
  }

  -- where no key goes further
  pub went_all : (S : Key → E → Type 0) (n : ℕ) (a b : M) → ((k : Key) (e : E) → S k e → Below n k) → Went step (upto S n) a b → Went step S a b
  went_all S n a b f w = went_like (upto S n) S a b (λ k e h. h.1) (λ k e h. (f k e h, h)) w

  -- the same of faults that may be hidden
  pub at_under : (S : Key → E → Type 0) (i : ℕ) (a b : M) (o : Option F) → Went step (upto S i) a b → StopsAt step (under S i) b o → StopsAt step S a o
  at_under S i a b None v w = tt
  at_under S i a b (Some f) v w = stops_under S i a b f v w

  pub at_one : (S : Key → E → Type 0) (e : E) (a : M) (o : Option F) → S [] e → ((d : E) → S [] d → d ≡ e) → FailsAt step a e o → StopsAt step S a o
  at_one S e a None s u h = tt
  at_one S e a (Some f) s u h = stops_one S e a f s u h

  pub at_like : (S T : Key → E → Type 0) (a : M) (o : Option F) → ((k : Key) (e : E) → S k e → T k e) → ((k : Key) (e : E) → T k e → S k e) → StopsAt step S a o → StopsAt step T a o
  at_like S T a None f g w = tt
  at_like S T a (Some x) f g w = stops_like S T a x f g w
