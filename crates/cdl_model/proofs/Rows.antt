-- What holds of the rows of the kinds.
use Rattle.std.proofs.Common.{◌≡◌, ℕ, ℤ, Bool, true, false, cond, List, [], ◌∷◌, ◌++◌, map, Some, refl, sym, ◌∙◌, inl, inr}
use Rattle.std.specs.Str.{bytes_eq}
use Rattle.std.proofs.lemmas.Bool.{false≢true}
use Rattle.cdl_source.proofs.Options.{bytes_eq-same}
use Rattle.cdl_kinds.specs.declared.kind.Kind.{Kind}
use Rattle.cdl_kinds.specs.declared.kind.Kind.TheVariants as kind
use Rattle.cdl_kinds.specs.Meanings.{meaning}
use Rattle.cdl_kinds.specs.Table.{Group, row}
use Rattle.cdl_network.specs.Lists.{Apart, In}
use Rattle.cdl_values.specs.declared.value.Array.{Array}
use Rattle.cdl_values.specs.History.{History, word}
use Rattle.cdl_values.specs.Values.{real_at}
use Rattle.cdl_kinds.specs.Meaning.Discrete.{sampled, samples, second_or}

-- no name stands twice, as a test
abbrev is_new : List ℕ → List (List ℕ) → Bool
is_new x [] = true
is_new x (y ∷ ys) = cond (bytes_eq x y) false (is_new x ys)

abbrev are_new : List (List ℕ) → Bool
are_new [] = true
are_new (x ∷ xs) = cond (is_new x xs) (are_new xs) false

cond_no : (b c : Bool) → cond b false c ≡ true → (b ≡ false) × (c ≡ true)
cond_no true c h = absurd (false≢true h)
cond_no false c h = (refl, h)

cond_and : (b c : Bool) → cond b c false ≡ true → (b ≡ true) × (c ≡ true)
cond_and true c h = (refl, h)
cond_and false c h = absurd (false≢true h)

new_out : (x : List ℕ) (xs : List (List ℕ)) → is_new x xs ≡ true → In x xs → ⊥
new_out x [] h i = i
new_out x (y ∷ ys) h (inl e) = let p = cond_no (bytes_eq x y) (is_new x ys) h in false≢true (sym p.0 ∙ bytes_eq-same x y e)
new_out x (y ∷ ys) h (inr i) = let p = cond_no (bytes_eq x y) (is_new x ys) h in new_out x ys p.1 i

new_apart : (xs : List (List ℕ)) → are_new xs ≡ true → Apart xs
new_apart [] h = tt
new_apart (x ∷ xs) h = let p = cond_and (is_new x xs) (are_new xs) h in (λ i. new_out x xs p.0 i, new_apart xs p.1)

abbrev pub group_names : List Group → List (List ℕ)
group_names gs = map (λ (g : Group). g.name) gs

names_new : (k : Kind) → are_new (group_names ((row k).ins ++ (row k).outs)) ≡ true
names_new kind.LogicalAnd = refl
names_new k = refl

-- the names of the ports of a kind differ
pub ports_apart : (k : Kind) → Apart (group_names ((row k).ins ++ (row k).outs))
ports_apart k = new_apart (group_names ((row k).ins ++ (row k).outs)) (names_new k)

second_same : (start : ℤ) (b : Bool) (w z : ℤ) (us : List ℤ) → Some (second_or start (cond b (w ∷ us) us) ∷ []) ≡ Some (second_or start (cond b (z ∷ us) us) ∷ [])
second_same start true w z us = refl
second_same start false w z us = refl

-- a kind whose inputs aren't direct gives the same for all of them
pub late_alone : (k : Kind) (v : List Array) (h : History) (now : ℤ) (xs ys : List ℤ) → (row k).direct ≡ false → meaning k v h now xs ≡ meaning k v h now ys
late_alone kind.LogicalPre v h now xs ys d = refl
late_alone kind.DiscreteUnitDelay v h now xs ys d = second_same (real_at v 1) (samples (real_at v 0) h now) (word xs 0) (word ys 0) (sampled (real_at v 0) h)
late_alone k v h now xs ys d = absurd (false≢true (sym d))
