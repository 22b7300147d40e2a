-- From what code does: windows of ports, counts, the first by its place.
use Rattle.std.proofs.Common.{ℕ, zero, suc, ◌+◌, ◌-◌, ◌<◌, ◌≤◌, ◌≡◌, ◌==◌, ◌&&◌, refl, ap, ◌∙◌, arith, Bool, true, false, cond, inl, inr, List, [], ◌∷◌, ◌++◌, filter, length, Option, Some, None, slice_get}
use Rattle.cdl_source.proofs.Cases.{by_bool}
use Rattle.std.specs.Prelude.{count_by}
use Rattle.std.proofs.lemmas.Bool.{eqb-true, eqb-false}
use Rattle.std.proofs.lemmas.List.Recursion.{is_count_by}
use Rattle.cdl_network.specs.Closed.{Closed}
use Rattle.cdl_network.specs.Dependence.{Determines}
use Rattle.cdl_network.specs.Lists.{Apart, In, Tells, count, first_of, first_that, found, number, numbers}
use Rattle.cdl_network.specs.Network.{Network}
use Rattle.cdl_network.specs.Planned.{Ordered}
use Rattle.cdl_network.proofs.Inside.{origin_inside}
use Rattle.cdl_network.proofs.Checking.{slice_in}
use Rattle.cdl_network.proofs.Numbers.{number_place}
use Rattle.std.proofs.lemmas.Option.{slice_get_within}
use Rattle.std.proofs.lemmas.List.Elements.{filter-append}
use Rattle.std.proofs.lemmas.List.{append-nil}

pub numbers_split : (a n b c : ℕ) → n ≡ b + c → numbers a n ≡ numbers a b ++ numbers (a + b) c
numbers_split a n zero c e = let x : n ≡ c = omega arith in let y : a ≡ a + 0 = omega arith in ap (numbers a) x ∙ ap (λ z. numbers z c) y
numbers_split a zero (suc b) c e = absurd (omega arith)
numbers_split a (suc n) (suc b) c e =
    let h : n ≡ b + c = omega arith in
    let y : suc a + b ≡ a + suc b = omega arith in
    ap (λ l. a ∷ l) (numbers_split (suc a) n b c h ∙ ap (λ z. numbers (suc a) b ++ numbers z c) y)

pub in_numbers : (a n x : ℕ) → In x (numbers a n) → (a ≤ x) × (x < a + n)
in_numbers a zero x i = absurd i
in_numbers a (suc n) x (inl e) = (omega arith, omega arith)
in_numbers a (suc n) x (inr i) = let r = in_numbers (suc a) n x i in (omega (arith, r.0), omega (arith, r.1))

cond_append : {A : Type 0} (t : Bool) (x : A) (xs ys : List A) → cond t (x ∷ (xs ++ ys)) (xs ++ ys) ≡ cond t (x ∷ xs) xs ++ ys
cond_append true x xs ys = refl
cond_append false x xs ys = refl

pub filter_no : {A : Type 0} (f : A → Bool) (xs : List A) → ((x : A) → In x xs → f x ≡ false) → filter f xs ≡ []
filter_no f [] h = refl
filter_no f (x ∷ xs) h =
    let a = h x (inl refl) in
    let r = filter_no f xs (λ y i. h y (inr i)) in
    rw (a, r) refl

pub filter_like : {A : Type 0} (f g : A → Bool) (xs : List A) → ((x : A) → In x xs → f x ≡ g x) → filter f xs ≡ filter g xs
filter_like f g [] h = refl
filter_like f g (x ∷ xs) h =
    let a = h x (inl refl) in
    let r = filter_like f g xs (λ y i. h y (inr i)) in
    rw (a, r) refl

filter_all : {A : Type 0} (f : A → Bool) (xs : List A) → ((x : A) → In x xs → f x ≡ true) → filter f xs ≡ xs
filter_all f [] h = refl
filter_all f (x ∷ xs) h =
    let a = h x (inl refl) in
    let r = filter_all f xs (λ y i. h y (inr i)) in
    rw (a, r) refl

-- the first so many numbers pass, and no other
pub filter_front : (q : ℕ → Bool) (s n a b : ℕ) → n ≡ a + b → ((x : ℕ) → s ≤ x → x < s + a → q x ≡ true) → ((x : ℕ) → s + a ≤ x → x < s + a + b → q x ≡ false) → filter q (numbers s n) ≡ numbers s a
filter_front q s n a b e some none =
    let front = filter_all q (numbers s a) (λ x i. let r = in_numbers s a x i in some x r.0 r.1) in
    let back = filter_no q (numbers (s + a) b) (λ x i. let r = in_numbers (s + a) b x i in none x r.0 r.1) in
    ap (filter q) (numbers_split s n a b e) ∙ filter-append q (numbers s a) (numbers (s + a) b) ∙ ap (λ l. l ++ filter q (numbers (s + a) b)) front ∙ ap (λ l. numbers s a ++ l) back ∙ append-nil (numbers s a)

-- those behind the first so many numbers pass, and no other
pub filter_back : (q : ℕ → Bool) (s n a b : ℕ) → n ≡ a + b → ((x : ℕ) → s ≤ x → x < s + a → q x ≡ false) → ((x : ℕ) → s + a ≤ x → x < s + a + b → q x ≡ true) → filter q (numbers s n) ≡ numbers (s + a) b
filter_back q s n a b e none some =
    let front = filter_no q (numbers s a) (λ x i. let r = in_numbers s a x i in none x r.0 r.1) in
    let back = filter_all q (numbers (s + a) b) (λ x i. let r = in_numbers (s + a) b x i in some x r.0 r.1) in
    ap (filter q) (numbers_split s n a b e) ∙ filter-append q (numbers s a) (numbers (s + a) b) ∙ ap (λ l. l ++ filter q (numbers (s + a) b)) front ∙ back

-- what p picks is a window
pub window : (p q : ℕ → Bool) (len first size : ℕ) → first + size ≤ len → ((x : ℕ) → x < first → p x ≡ false) → ((x : ℕ) → first ≤ x → x < first + size → p x ≡ true) → ((x : ℕ) → first + size ≤ x → x < len → p x ≡ false) → filter (λ x. p x && q x) (numbers 0 len) ≡ filter q (numbers first size)
window p q len first size l before inside after =
    let rest : ℕ = len - (first + size) in
    let f : ℕ → Bool = λ x. p x && q x in
    let e : len ≡ first + (size + rest) = omega arith in
    let split : numbers 0 len ≡ numbers 0 first ++ (numbers first size ++ numbers (first + size) rest) =
    numbers_split 0 len first (size + rest) e ∙ (let z : 0 + first ≡ first = omega arith in ap (λ y. numbers 0 first ++ numbers y (size + rest)) z) ∙ ap (λ l. numbers 0 first ++ l) (numbers_split first (size + rest) size rest refl) in
    let no_before : filter f (numbers 0 first) ≡ [] = filter_no f (numbers 0 first) (λ x i. let r = in_numbers 0 first x i in ap (λ b. b && q x) (before x (omega (arith, r.1)))) in
    let here : filter f (numbers first size) ≡ filter q (numbers first size) = filter_like f q (numbers first size) (λ x i. let r = in_numbers first size x i in ap (λ b. b && q x) (inside x r.0 r.1)) in
    let no_after : filter f (numbers (first + size) rest) ≡ [] = filter_no f (numbers (first + size) rest) (λ x i. let r = in_numbers (first + size) rest x i in ap (λ b. b && q x) (after x r.0 (omega (arith, r.1)))) in
    ap (filter f) split ∙ filter-append f (numbers 0 first) _ ∙ ap (λ l. l ++ filter f (numbers first size ++ numbers (first + size) rest)) no_before
    ∙ filter-append f (numbers first size) (numbers (first + size) rest) ∙ ap (λ l. filter f (numbers first size) ++ l) no_after ∙ ends (filter f (numbers first size)) ∙ here
  where
    ends : (l : List ℕ) → l ++ [] ≡ l
    ends [] = refl
    ends (x ∷ l) = ap (λ z. x ∷ z) (ends l)

-- std's count
pub count_is : {A : Type 0} (f : A → Bool) (xs : List A) → count f xs ≡ count_by f xs
count_is f xs = is_count_by (count f) f refl (λ y ys. let e : suc (count f ys) ≡ 1 + count f ys = omega arith in ap (λ m. cond (f y) m (count f ys)) e) xs

-- the first, by its place
pub first_at : {A F : Type 0} (f : A → Option F) (xs : List A) (k : ℕ) (x : A) (r : F) → slice_get xs k ≡ Some x → f x ≡ Some r → ((j : ℕ) (y : A) → j < k → slice_get xs j ≡ Some y → f y ≡ None) → first_of f xs ≡ Some (x, r)
first_at f [] k x r e g h = absurd (cc)
first_at f (y ∷ ys) zero x r e g h = let q : y ≡ x = cc in ap (λ z. found z (f z) (first_of f ys)) q ∙ ap (λ o. found x o (first_of f ys)) g
first_at f (y ∷ ys) (suc k) x r e g h =
    let n = h 0 y (omega arith) refl in
    ap (λ o. found y o (first_of f ys)) n ∙ first_at f ys k x r e g (λ j z l s. h (suc j) z (omega arith) s)

pub first_not : {A F : Type 0} (f : A → Option F) (xs : List A) → ((j : ℕ) (y : A) → slice_get xs j ≡ Some y → f y ≡ None) → first_of f xs ≡ None
first_not f [] h = refl
first_not f (y ∷ ys) h = ap (λ o. found y o (first_of f ys)) (h 0 y refl) ∙ first_not f ys (λ j z s. h (suc j) z s)

pub first_number : (f : ℕ → Bool) (a n i : ℕ) → a ≤ i → i < a + n → f i ≡ true → ((j : ℕ) → a ≤ j → j < i → f j ≡ false) → first_that f (numbers a n) ≡ Some i
first_number f a zero i l m h g = absurd (omega arith)
first_number f a (suc n) i l m h g = by_bool (a == i)
    (λ e. let q = eqb-true a i e in ap (λ z. cond (f z) (Some z) (first_that f (numbers (suc a) n))) q ∙ ap (λ b. cond b (Some i) (first_that f (numbers (suc a) n))) h)
    (λ e. let lt : suc a ≤ i = below a i l e in
    let none : f a ≡ false = g a (omega arith) lt in
    ap (λ b. cond b (Some a) (first_that f (numbers (suc a) n))) none ∙ first_number f (suc a) n i lt (omega arith) h (λ j x y. g j (omega arith) y))
  where
    below : (a i : ℕ) → a ≤ i → (a == i) ≡ false → suc a ≤ i
    below a i l e = let d : a ≡ i → ⊥ = eqb-false a i e in omega arith

pub no_number : (f : ℕ → Bool) (a n : ℕ) → ((j : ℕ) → a ≤ j → j < a + n → f j ≡ false) → first_that f (numbers a n) ≡ None
no_number f a zero g = refl
no_number f a (suc n) g =
    ap (λ b. cond b (Some a) (first_that f (numbers (suc a) n))) (g a (omega arith) (omega arith))
    ∙ no_number f (suc a) n (λ j x y. g j (omega arith) (omega arith))

-- numbers, by their places
pub slice_numbers : (a n k : ℕ) → k < n → slice_get (numbers a n) k ≡ Some (a + k)
slice_numbers a zero k h = absurd (omega arith)
slice_numbers a (suc n) zero h = let e : a ≡ a + 0 = omega arith in ap Some e
slice_numbers a (suc n) (suc k) h = let e : suc a + k ≡ a + suc k = omega arith in slice_numbers (suc a) n k (omega arith) ∙ ap Some e

pub of_slice_numbers : (a n k x : ℕ) → slice_get (numbers a n) k ≡ Some x → x ≡ a + k
of_slice_numbers a zero k x e = absurd (cc)
of_slice_numbers a (suc n) zero x e = let h : a ≡ x = cc in omega arith
of_slice_numbers a (suc n) (suc k) x e = let h = of_slice_numbers (suc a) n k x e in omega arith

-- an order of the elements, by places: each stands behind all that determines it
pub ordered_places : {I E : Type 0} (n : Network I E) (plan : List E) → Tells n.same_element → Closed n → Apart plan → ((x : E) → In x n.elements → In x plan) → ((i : ℕ) (s x : E) → slice_get plan i ≡ Some x → Determines n s x → (j : ℕ) × (j < i) × (slice_get plan j ≡ Some s)) → Ordered n (number n.same_element plan) (length plan)
ordered_places n plan t c a each behind = record {
  below = λ x i.
      let k = slice_in x plan (each x i) in
      let e = number_place n.same_element plan k.0 x t a k.1 in
      let l = slice_get_within plan k.0 x k.1 in
      omega arith;
  falls = λ s x d.
      let k = slice_in x plan (each x (origin_inside n x d.0 c d.1)) in
      let e = number_place n.same_element plan k.0 x t a k.1 in
      let j = behind k.0 s x k.1 d in
      let f = number_place n.same_element plan j.0 s t a j.2 in
      omega (arith, e, f, j.1);
}
