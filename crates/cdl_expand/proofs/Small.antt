-- The sizes of what is declared are small.
use Rattle.std.proofs.Common.{◌≡◌, ℕ, ℤ, pos, negsuc, ◌≤◌, Bool, true, false, cond, List, [], ◌∷◌, length, Option, Some, None, Ok, Err, refl, sym, ap, ◌∙◌, subst, arith, inl, inr}
use Rattle.std.specs.Prelude.{◌&&◌, nat_le, unsigned_abs}
use Rattle.std.specs.Int.RustNames.{int_le}
use Rattle.std.proofs.lemmas.Bool.{leb-true, false≢true}
use Rattle.cdl_source.specs.declared.limits.TheConstants.{LARGEST_SIZE, MOST_ITEMS, MOST_LINKS}
use Rattle.cdl_source.specs.declared.rules.TheConstants.{SIZE_OUT_OF_RANGE, WRONG_SHAPE}
use Rattle.cdl_values.specs.declared.value.Array.{Array}
use Rattle.cdl_values.specs.declared.value.Value.{Value}
use Rattle.cdl_values.specs.declared.value.Value.TheVariants as value
use Rattle.cdl_values.specs.Values.{items_of}
use Rattle.cdl_array.specs.Outcomes.{Outcome, then_to, holds_or, some_or}
use Rattle.cdl_array.specs.Scalars.{scalar_of}
use Rattle.cdl_array.specs.Sizes.{size_value, size_of, count_of}
use Rattle.cdl_network.specs.Lists.{In}
use Rattle.cdl_tree.specs.declared.class.Dim.{Dim}
use Rattle.cdl_tree.specs.declared.class.Dim.TheVariants as dim
use Rattle.cdl_tree.specs.declared.class.Item.{Item}
use Rattle.cdl_tree.specs.declared.expr.Expr.{Expr}
use Rattle.cdl_paths.specs.declared.path.Step.{Step}
use Rattle.cdl_params.specs.Kept.{Model, classes}
use Rattle.cdl_worth.specs.Sizes.{dim_size, dim_sizes, known, counted, sizes_of}
use Rattle.cdl_worth.specs.Values.{dims as dims_by, evaluate}
use Rattle.cdl_walk.specs.Instances.{elements}
use Rattle.cdl_walk.specs.Stations.{no_element}
use Rattle.cdl_walk.specs.Worth.{dims, present}
use Rattle.cdl_expand.proofs.Whole.{AreSmall}

module _ {A B : Type 0} where
  then_parts : (o : Outcome A) (f : A → Outcome B) (b : B) → then_to o f ≡ Ok b → (a : A) × (o ≡ Ok a) × (f a ≡ Ok b)
  then_parts (Ok a) f b h = (a, refl, h)
  then_parts (Err r) f b h = absurd (cc)

module _ {A : Type 0} where
  held : (b : Bool) (r : ℕ) (x a : A) → holds_or b r (Ok x) ≡ Ok a → (b ≡ true) × (x ≡ a)
  held true r x a h = (refl, cc)
  held false r x a h = absurd (cc)

both : (b c : Bool) → (b && c) ≡ true → (b ≡ true) × (c ≡ true)
both true c h = (refl, h)
both false c h = absurd (false≢true h)

whole_small : (z : ℤ) → (int_le (pos 0) z && int_le z (pos LARGEST_SIZE)) ≡ true → unsigned_abs z ≤ LARGEST_SIZE
whole_small (pos n) h = leb-true n LARGEST_SIZE (both (int_le (pos 0) (pos n)) (int_le (pos n) (pos LARGEST_SIZE)) h).1
whole_small (negsuc n) h = absurd (false≢true h)

value_small : (v : Value) (n : ℕ) → size_value v ≡ Ok n → n ≤ LARGEST_SIZE
unfolding size_value
value_small (value.Integer z) n h =
    let t = held (int_le (pos 0) z && int_le z (pos LARGEST_SIZE)) SIZE_OUT_OF_RANGE (unsigned_abs z) n h in
    subst (λ k. k ≤ LARGEST_SIZE) t.1 (whole_small z t.0)
value_small (value.Boolean b) n h = absurd (cc)
value_small (value.Real z) n h = absurd (cc)
value_small (value.Str t) n h = absurd (cc)
value_small (value.Enumeration c o) n h = absurd (cc)

scalar_small : (o : Option Value) (n : ℕ) → some_or o WRONG_SHAPE size_value ≡ Ok n → n ≤ LARGEST_SIZE
scalar_small None n h = absurd (cc)
scalar_small (Some v) n h = value_small v n h

abbrev some_size : ℕ → Outcome (Option ℕ)
some_size n = Ok (Some n)

-- the sizes that are known are small
abbrev EachSmall : List (Option ℕ) → Type 0
EachSmall ws = (n : ℕ) → In n (known ws) → n ≤ LARGEST_SIZE

more_small : (w : Option ℕ) (ws : List (Option ℕ)) → ((n : ℕ) → w ≡ Some n → n ≤ LARGEST_SIZE) → EachSmall ws → EachSmall (w ∷ ws)
more_small None ws f g n i = g n i
more_small (Some m) ws f g n (inl e) = subst (λ k. k ≤ LARGEST_SIZE) (sym e) (f m refl)
more_small (Some m) ws f g n (inr i) = g n i

abbrev no_size : Outcome (Option ℕ)
no_size = Ok None

none_some : (o : Option ℕ) (k : ℕ) → no_size ≡ Ok o → o ≡ Some k → ⊥
none_some o k f g = cc

dim_small : (worth : Expr → Outcome Array) (d : Dim) (w : Option ℕ) → dim_size worth d ≡ Ok w → (n : ℕ) → w ≡ Some n → n ≤ LARGEST_SIZE
dim_small worth dim.Any w h n e = absurd (none_some w n h e)
dim_small worth (dim.Size x) w h n e =
    let a = then_parts (worth x) (λ b. then_to (size_of b) (λ k. some_size k)) w h in
    let b = then_parts (size_of a.0) (λ k. some_size k) w a.2 in
    let same : b.0 ≡ n = size_same b.0 w n b.2 e in
    subst (λ k. k ≤ LARGEST_SIZE) same (scalar_small (scalar_of a.0) b.0 b.1)
  where
    size_same : (k : ℕ) (o : Option ℕ) (m : ℕ) → some_size k ≡ Ok o → o ≡ Some m → k ≡ m
    size_same k o m f g = cc

abbrev the_sizes : List (Option ℕ) → Outcome (List (Option ℕ))
the_sizes ws = Ok ws

sizes_same : (xs ys : List (Option ℕ)) → the_sizes xs ≡ the_sizes ys → xs ≡ ys
sizes_same xs ys e = cc

dims_each : (worth : Expr → Outcome Array) (ds : List Dim) (ws : List (Option ℕ)) → dim_sizes worth ds ≡ Ok ws → EachSmall ws
dims_each worth [] ws h = subst (λ (l : List (Option ℕ)). EachSmall l) (sizes_same [] ws h) (λ n i. absurd i)
dims_each worth (d ∷ ds) ws h =
    let a = then_parts (dim_size worth d) (λ w. then_to (dim_sizes worth ds) (λ vs. the_sizes (w ∷ vs))) ws h in
    let b = then_parts (dim_sizes worth ds) (λ vs. the_sizes (a.0 ∷ vs)) ws a.2 in
    subst (λ (l : List (Option ℕ)). EachSmall l) (sizes_same (a.0 ∷ b.0) ws b.2) (more_small a.0 b.0 (dim_small worth d a.0 a.1) (dims_each worth ds b.0 b.1))

counted_small : (b : Bool) (s : List ℕ) (n : ℕ) → nat_le (length s) 2 ≡ b → holds_or b WRONG_SHAPE (count_of s) ≡ Ok n → (length s ≤ 2) × (items_of s ≤ MOST_ITEMS)
counted_small true s n e h = (leb-true (length s) 2 e, leb-true (items_of s) MOST_ITEMS (held (nat_le (items_of s) MOST_ITEMS) SIZE_OUT_OF_RANGE (items_of s) n h).0)
counted_small false s n e h = absurd (cc)

abbrev the_list : List ℕ → Outcome (List ℕ)
the_list s = Ok s

list_same : (xs ys : List ℕ) → the_list xs ≡ the_list ys → xs ≡ ys
list_same xs ys e = cc

sizes_small : (worth : Expr → Outcome Array) (ds : List Dim) (s : List ℕ) → sizes_of worth ds ≡ Ok s → AreSmall s
sizes_small worth ds s h =
    let a = then_parts (then_to (dim_sizes worth ds) (λ ws. then_to (counted (known ws)) (λ n. the_sizes ws))) (λ ws. the_list (known ws)) s h in
    let b = then_parts (dim_sizes worth ds) (λ ws. then_to (counted (known ws)) (λ n. the_sizes ws)) a.0 a.1 in
    let c = then_parts (counted (known b.0)) (λ n. the_sizes b.0) a.0 b.2 in
    let same : known b.0 ≡ s = ap known (sizes_same b.0 a.0 c.2) ∙ list_same (known a.0) s a.2 in
    let t = counted_small (nat_le (length (known b.0)) 2) (known b.0) c.0 refl c.1 in
    subst (λ (l : List ℕ). AreSmall l) same (record { few = t.0; each = dims_each worth ds b.0 b.1; items = t.1 })

pub dims_small : (w : Model) (p : List Step) (item : Item) (s : List ℕ) → dims w p item ≡ Ok s → AreSmall s
unfolding dims_by
dims_small w p item s h = sizes_small (evaluate (classes w) MOST_LINKS w.root p []) item.dims s h

zero_small : AreSmall (0 ∷ [])
zero_small = record { few = omega arith; each = λ n i. zero_only n i; items = omega arith }
  where
    zero_only : (n : ℕ) → In n (0 ∷ []) → n ≤ LARGEST_SIZE
    zero_only n (inl e) = omega (arith, e)
    zero_only n (inr i) = absurd i

chosen_small : (o : Outcome Bool) (z : Outcome (List ℕ)) (s : List ℕ) → ((n : List ℕ) → z ≡ Ok n → AreSmall n) → then_to o (λ there. cond there z no_element) ≡ Ok s → AreSmall s
chosen_small (Err r) z s f e = absurd (cc)
chosen_small (Ok true) z s f e = f s e
chosen_small (Ok false) z s f e = subst (λ (l : List ℕ). AreSmall l) (list_same (0 ∷ []) s e) zero_small

pub elements_small : (w : Model) (p : List Step) (item : Item) (s : List ℕ) → elements w p item ≡ Ok s → AreSmall s
elements_small w p item s e = chosen_small (present w p item) (dims w p item) s (λ n g. dims_small w p item n g) e
