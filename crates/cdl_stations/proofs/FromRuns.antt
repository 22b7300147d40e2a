-- From a run of the machine to the first broken rule.
use Rattle.std.proofs.Common.{◌≡◌, List, [], ◌∷◌, ◌++◌, refl, sym, ap, ◌∙◌, subst, inl, inr, ◌⊎◌, append_assoc, Result, Ok, Err}
use Rattle.std.proofs.lemmas.List.{same_from_push}
use Rattle.cdl_stations.specs.Keys.{Key, Before, In, Lists, to}
use Rattle.cdl_stations.specs.Runs.{on_ok, goes, Went, Stops}
use Rattle.cdl_stations.specs.FirstBroken.{IsBroken, NoneBroken, First, Agrees}
use Rattle.cdl_stations.proofs.Grown.{in_left, in_right, in_either}
use Rattle.cdl_stations.proofs.Unique.{before_self, before_trans, lists_same, lists_front, sorted_across, sorted_front}

nil_snoc : {X : Type 0} (ys : List X) (y : X) → [] ≡ ys ++ y ∷ [] → ⊥
nil_snoc [] y e = cc
nil_snoc (z ∷ zs) y e = cc

pub record Splits {X : Type 0} (y : X) (xs : List X) : Type 0 where
  pub front : List X
  pub rest : List X
  pub are : xs ≡ front ++ y ∷ rest

pub split : {X : Type 0} (y : X) (xs : List X) → In y xs → Splits y xs
split y [] h = absurd h
split y (x ∷ xs) (inl e) = record { front = []; rest = xs; are = ap (λ z. z ∷ xs) (sym e) }
split y (x ∷ xs) (inr h) = let s = split y xs h in record { front = x ∷ s.front; rest = s.rest; are = ap (λ zs. x ∷ zs) s.are }

module _ {M E F : Type 0} (step : M → E → Result M F) where
  pub record Halves (xs ys : List (Key × E)) (a c : M) : Type 0 where
    pub between : M
    pub first : goes step a xs ≡ Ok between
    pub second : goes step between ys ≡ Ok c

  halves_at : (x : Key × E) (xs ys : List (Key × E)) (a c : M) (r : Result M F) → step a x.1 ≡ r → ((n : M) → goes step n (xs ++ ys) ≡ Ok c → Halves xs ys n c) → on_ok r (λ n. goes step n (xs ++ ys)) ≡ Ok c → Halves (x ∷ xs) ys a c
  halves_at x xs ys a c (Ok n) e f h = let both = f n h in record { between = both.between; first = rw e both.first; second = both.second }
  halves_at x xs ys a c (Err r) e f h = cc

  pub halves : (xs ys : List (Key × E)) (a c : M) → goes step a (xs ++ ys) ≡ Ok c → Halves xs ys a c
  halves [] ys a c h = record { between = a; first = refl; second = h }
  halves (x ∷ xs) ys a c h = halves_at x xs ys a c (step a x.1) refl (λ n. halves xs ys n c) h

  first_ok : (r : Result M F) (f : M → Result M F) (c : M) (g : F) → on_ok r f ≡ Ok c → r ≡ Err g → ⊥
  first_ok (Ok n) f c g h e = cc
  first_ok (Err x) f c g h e = cc

  -- an event among those that went isn't bad
  not_bad : (start : M) (Bad : List (Key × E) → E → F → Type 0) (S T : Key → E → Type 0) (xs : List (Key × E)) (c : M) (k : Key) (f : F) → Agrees step start Bad → goes step start xs ≡ Ok c
      → Lists T xs → ((l : Key) (e : E) → Before l k ⊎ (l ≡ k) → S l e → T l e) → ((l : Key) (e : E) → T l e → S l e) → IsBroken Bad S k f → ⊥
  not_bad start Bad S T xs c k f a h l p q b =
      let s : S k b.event = (b.lists.only k b.event (in_right {X = Key × E} (k, b.event) b.earlier ((k, b.event) ∷ []) (inl refl))).1 in
      let at : Splits {X = Key × E} (k, b.event) xs = split {X = Key × E} (k, b.event) xs (l.each k b.event (p k b.event (inr refl) s)) in
      let whole : xs ≡ (at.front ++ (k, b.event) ∷ []) ++ at.rest = at.are ∙ sym (append_assoc at.front ((k, b.event) ∷ []) at.rest) in
      let front : Lists (to S k) (at.front ++ (k, b.event) ∷ []) = lists_front S T at.front at.rest k b.event p q (subst (λ (zs : List (Key × E)). Lists T zs) whole l) in
      let same : (b.earlier ≡ at.front) × ((k, b.event) ≡ (k, b.event)) = same_from_push b.earlier at.front (k, b.event) (k, b.event) (lists_same (to S k) _ _ b.lists front) in
      let both : Halves at.front ((k, b.event) ∷ at.rest) start c = halves at.front ((k, b.event) ∷ at.rest) start c (subst (λ (zs : List (Key × E)). goes step start zs ≡ Ok c) at.are h) in
      first_ok (step both.between b.event) (λ n. goes step n at.rest) c f both.second
      (a.fails at.front both.between b.event f both.first (subst (λ (zs : List (Key × E)). Bad zs b.event f) same.0 b.bad))

  pub none_of_went : (start : M) (Bad : List (Key × E) → E → F → Type 0) (S : Key → E → Type 0) (c : M) → Agrees step start Bad → Went step S start c → NoneBroken (IsBroken Bad S)
  none_of_went start Bad S c a w = record { none = λ k f b. not_bad start Bad S S w.entries c k f a w.goes w.lists (λ l e o s. s) (λ l e s. s) b }

  closer : (S : Key → E → Type 0) (k at : Key) → Before k at → (l : Key) (e : E) → Before l k ⊎ (l ≡ k) → S l e → (Before l at ⊎ (l ≡ at)) × S l e
  closer S k at h l e (inl b) s = (inl (before_trans l k at b h), s)
  closer S k at h l e (inr q) s = (inl (subst (λ (x : Key). Before x at) (sym q) h), s)

  err_same : (r : Result M F) (f g : F) → r ≡ Err f → r ≡ Err g → g ≡ f
  err_same r f g h i = cc

  alone_at : (start : M) (Bad : List (Key × E) → E → F → Type 0) (S : Key → E → Type 0) (f g : F) → Agrees step start Bad → (w : Stops step S start f) → IsBroken Bad S w.at g → g ≡ f
  alone_at start Bad S f g a w b =
      let same : (b.earlier ≡ w.entries) × ((w.at, b.event) ≡ (w.at, w.event)) = same_from_push b.earlier w.entries (w.at, b.event) (w.at, w.event) (lists_same (to S w.at) _ _ b.lists w.lists) in
      let event : b.event ≡ w.event = ap (λ (z : Key × E). z.1) same.1 in
      err_same (step w.state w.event) f g w.fails (a.fails w.entries w.state w.event g w.goes
      (subst (λ (e : E). Bad w.entries e g) event (subst (λ (zs : List (Key × E)). Bad zs b.event g) same.0 b.bad)))

  inner_each : (S : Key → E → Type 0) (at : Key) (xs : List (Key × E)) (d : E) → Lists (to S at) (xs ++ (at, d) ∷ []) → (l : Key) (e : E) → Before l at × S l e → In {X = Key × E} (l, e) xs
  inner_each S at xs d a l e h = elim (in_either {X = Key × E} (l, e) xs ((at, d) ∷ []) (a.each l e (inl h.0, h.1))) as (λ _. In {X = Key × E} (l, e) xs) [
    | inl m ↦ m
    | inr m ↦ elim m as (λ _. In {X = Key × E} (l, e) xs) [ inl q ↦ absurd (before_self l at (ap (λ (z : Key × E). z.0) q) h.0) | inr n ↦ absurd n ]
  ]

  inner : (S : Key → E → Type 0) (at : Key) (xs : List (Key × E)) (d : E) → Lists (to S at) (xs ++ (at, d) ∷ []) → Lists (λ l e. Before l at × S l e) xs
  inner S at xs d a = record {
    each = inner_each S at xs d a;
    only = λ l e h. (sorted_across xs ((at, d) ∷ []) l at e d a.sorted h (inl refl), (a.only l e (in_left {X = Key × E} (l, e) xs ((at, d) ∷ []) h)).1);
    sorted = sorted_front xs ((at, d) ∷ []) a.sorted;
  }

  pub first_of_stops : (start : M) (Bad : List (Key × E) → E → F → Type 0) (S : Key → E → Type 0) (f : F) → Agrees step start Bad → Stops step S start f → First (IsBroken Bad S) f
  first_of_stops start Bad S f a w = record {
    key = w.at;
    broken = record { earlier = w.entries; event = w.event; lists = w.lists; bad = a.bad w.entries w.state w.event f w.goes w.fails };
    least = λ k g h b. not_bad start Bad S (λ l e. Before l w.at × S l e) w.entries w.state k g a w.goes (inner S w.at w.entries w.event w.lists)
        (λ l e o s. (elim o as (λ _. Before l w.at) [ inl p ↦ before_trans l k w.at p h | inr q ↦ subst (λ (x : Key). Before x w.at) (sym q) h ], s)) (λ l e s. s.1) b;
    alone = λ g b. alone_at start Bad S f g a w b;
  }
