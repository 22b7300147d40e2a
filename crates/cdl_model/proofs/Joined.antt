-- Lists in which no item stands twice.
use Rattle.std.proofs.Common.{◌≡◌, ◌⊎◌, ℕ, zero, suc, ◌<◌, Bool, cond, List, [], ◌∷◌, ◌++◌, map, filter, refl, sym, ap, ◌∙◌, subst, arith, inl, inr}
use Rattle.std.proofs.lemmas.List.{map-append}
use Rattle.cdl_source.proofs.Cases.{by_bool}
use Rattle.cdl_network.specs.Lists.{Apart, In}
use Rattle.cdl_network.proofs.Inside.{in_filter}
use Rattle.cdl_network.proofs.Renaming.{in_map, of_map}
use Rattle.cdl_stations.specs.Keys.{In as InKeys}
use Rattle.cdl_walk.specs.Elements.{tabulate}

module _ {A : Type 0} where
  pub in_left : (x : A) (xs ys : List A) → In x xs → In x (xs ++ ys)
  in_left x [] ys h = absurd h
  in_left x (y ∷ xs) ys (inl e) = inl e
  in_left x (y ∷ xs) ys (inr h) = inr (in_left x xs ys h)

  pub in_right : (x : A) (xs ys : List A) → In x ys → In x (xs ++ ys)
  in_right x [] ys h = h
  in_right x (y ∷ xs) ys h = inr (in_right x xs ys h)

  pub in_either : (x : A) (xs ys : List A) → In x (xs ++ ys) → In x xs ⊎ In x ys
  in_either x [] ys h = inr h
  in_either x (y ∷ xs) ys (inl e) = inl (inl e)
  in_either x (y ∷ xs) ys (inr h) = elim (in_either x xs ys h) as (λ _. In x (y ∷ xs) ⊎ In x ys) [ inl a ↦ inl (inr a) | inr b ↦ inr b ]

  -- none of the first stands among the second
  pub apart_append : (xs ys : List A) → Apart xs → Apart ys → ((x : A) → In x xs → In x ys → ⊥) → Apart (xs ++ ys)
  apart_append [] ys a b f = b
  apart_append (x ∷ xs) ys a b f = (
    λ i. elim (in_either x xs ys i) as (λ _. ⊥) [ inl h ↦ a.0 h | inr h ↦ f x (inl refl) h ],
    apart_append xs ys a.1 b (λ y i j. f y (inr i) j),
  )

  pub apart_left : (xs ys : List A) → Apart (xs ++ ys) → Apart xs
  apart_left [] ys a = tt
  apart_left (x ∷ xs) ys a = (λ i. a.0 (in_left x xs ys i), apart_left xs ys a.1)

  pub apart_right : (xs ys : List A) → Apart (xs ++ ys) → Apart ys
  apart_right [] ys a = a
  apart_right (x ∷ xs) ys a = apart_right xs ys a.1

  pub apart_across : (xs ys : List A) (x : A) → Apart (xs ++ ys) → In x xs → In x ys → ⊥
  apart_across [] ys x a i j = i
  apart_across (y ∷ xs) ys x a (inl e) j = a.0 (in_right y xs ys (subst (λ z. In z ys) e j))
  apart_across (y ∷ xs) ys x a (inr i) j = apart_across xs ys x a.1 i j

  pub of_keys : (x : A) (xs : List A) → InKeys x xs → In x xs
  of_keys x [] h = h
  of_keys x (y ∷ xs) (inl e) = inl e
  of_keys x (y ∷ xs) (inr h) = inr (of_keys x xs h)

module _ {A B : Type 0} where
  pub apart_filter : (f : A → Bool) (g : A → B) (xs : List A) → Apart (map g xs) → Apart (map g (filter f xs))
  apart_filter f g [] a = tt
  apart_filter f g (x ∷ xs) a = by_bool (f x)
      (λ t. subst (λ b. Apart (map g (cond b (x ∷ filter f xs) (filter f xs)))) (sym t) (
        λ i. let z = of_map g (g x) (filter f xs) i in a.0 (subst (λ y. In y (map g xs)) (sym z.2) (in_map g z.0 xs (in_filter f z.0 xs z.1))),
        apart_filter f g xs a.1,
      ))
      (λ t. subst (λ b. Apart (map g (cond b (x ∷ filter f xs) (filter f xs)))) (sym t) (apart_filter f g xs a.1))

  pub of_tabulate : (g : A → B) (n : ℕ) (f : ℕ → A) (y : B) → In y (map g (tabulate n f)) → (k : ℕ) × (k < n) × (y ≡ g (f k))
  of_tabulate g zero f y i = absurd i
  of_tabulate g (suc n) f y i =
      elim (in_either y (map g (tabulate n f)) (g (f n) ∷ []) (subst (λ l. In y l) (map-append g (tabulate n f) (f n ∷ [])) i)) as (λ _. (k : ℕ) × (k < suc n) × (y ≡ g (f k))) [
        | inl a ↦ (let z = of_tabulate g n f y a in (z.0, omega (arith, z.1), z.2))
        | inr b ↦ elim b as (λ _. (k : ℕ) × (k < suc n) × (y ≡ g (f k))) [ inl e ↦ (n, omega arith, e) | inr none ↦ absurd none ]
      ]

  pub apart_tabulate : (g : A → B) (n : ℕ) (f : ℕ → A) → ((x y : ℕ) → x < n → y < n → g (f x) ≡ g (f y) → x ≡ y) → Apart (map g (tabulate n f))
  apart_tabulate g zero f h = tt
  apart_tabulate g (suc n) f h = subst (λ l. Apart l) (sym (map-append g (tabulate n f) (f n ∷ [])))
      (apart_append (map g (tabulate n f)) (g (f n) ∷ []) (apart_tabulate g n f (λ x y a b e. h x y (omega (arith, a)) (omega (arith, b)) e)) ((λ i. i), tt) last)
    where
      last : (y : B) → In y (map g (tabulate n f)) → In y (g (f n) ∷ []) → ⊥
      last y i (inl e) = let z = of_tabulate g n f y i in let same : z.0 ≡ n = h z.0 n (omega (arith, z.1)) (omega arith) (sym z.2 ∙ e) in omega (arith, z.1, same)
      last y i (inr none) = none

pub map_map : {A B C : Type 0} (f : A → B) (g : B → C) (xs : List A) → map g (map f xs) ≡ map (λ x. g (f x)) xs
map_map f g [] = refl
map_map f g (x ∷ xs) = ap (λ l. g (f x) ∷ l) (map_map f g xs)
