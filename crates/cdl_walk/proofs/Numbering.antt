-- The numbers of the instances of which the walk is inside.
use Rattle.std.proofs.Common.{◌≡◌, ◌<◌, ◌≤◌, ℕ, suc, ◌+◌, ◌-◌, Bool, true, false, cond, List, [], ◌∷◌, ◌++◌, length, take, refl, sym, ap, ◌∙◌, subst, arith, Option, Some, None, Result, Ok, Err, inl, inr, length-append}
use Rattle.std.specs.Prelude.{OnOk, ◌&&◌, nat_lt, unwrap_or}
use Rattle.std.specs.List.{slice_get}
use Rattle.std.specs.Str.{bytes_eq}
use Rattle.std.proofs.lemmas.Option.{slice_get-get_or, slice_get_past}
use Rattle.std.proofs.lemmas.List.{length-take-le, take_all, take-append-le}
use Rattle.cdl_source.proofs.Options.{bytes_eq-same}
use Rattle.cdl_tree.specs.declared.class.Item.{Item}
use Rattle.cdl_scopes.specs.Lookup.{item_name}
use Rattle.cdl_stations.specs.Runs.{Takes}
use Rattle.cdl_walk.specs.declared.walked.WalkFault.{WalkFault}
use Rattle.std.proofs.lemmas.Bool.{cases_lt}
use Rattle.std.proofs.lemmas.Bool.Decides.{nat_tests}
use Rattle.cdl_source.specs.declared.limits.TheConstants.{MOST_INSTANCES}
use Rattle.std.proofs.Math.ListN.{get_or-append}
use Rattle.std.proofs.Math.Seq.{get_or-append_seam}
use Rattle.cdl_classes.specs.declared.found.ClassId.{ClassId}
use Rattle.cdl_kinds.specs.declared.kind.Kind.{Kind}
use Rattle.cdl_paths.specs.declared.path.Step.{Step}
use Rattle.cdl_walk.specs.declared.walked.Content.TheVariants as content
use Rattle.cdl_walk.specs.declared.walked.Instance.{Instance}
use Rattle.cdl_walk.specs.declared.walked.KindInstance.{KindInstance}
use Rattle.cdl_walk.specs.declared.walked.Walked.{Walked}
use Rattle.cdl_walk.specs.Events.{Fails, Opens, same_step, same_steps, number_from, number_at, parent_of, owner_of, instance_of, with_instance, has_room, has_room_for, step}
use Rattle.cdl_walk.specs.Faults.{Fault, seen}
use Rattle.cdl_walk.specs.inner.Numbers.{AreNumbers, IsDeeper}
use Rattle.cdl_walk.specs.Places.{Here, entered}
use Rattle.cdl_walk.specs.Stations.{opens, stands}

abbrev depth_of : Instance → ℕ
depth_of x = length x.path.steps

both_true : (b c : Bool) → b ≡ true → c ≡ true → (b && c) ≡ true
both_true b c e f = rw (e, f) refl

second_false : (b c : Bool) → c ≡ false → (b && c) ≡ false
second_false true c h = h
second_false false c h = refl

same_self : (p : List Step) → same_steps p p ≡ true
same_self [] = refl
same_self (s ∷ rest) = both_true (same_step s s) (same_steps rest rest) (both_true (bytes_eq s.name s.name) (bytes_eq s.indices s.indices) (bytes_eq-same s.name s.name refl) (bytes_eq-same s.indices s.indices refl)) (same_self rest)

pub same_of : (p q : List Step) → p ≡ q → same_steps p q ≡ true
same_of p q e = subst (λ (z : List Step). same_steps p z ≡ true) e (same_self p)

-- a path with more steps is another
longer_differs : (p q : List Step) → length q < length p → same_steps p q ≡ false
longer_differs [] q l = absurd (omega (arith, l))
longer_differs (s ∷ rest) [] l = refl
longer_differs (s ∷ rest) (t ∷ more) l = second_false (same_step s t) (same_steps rest more) (longer_differs rest more (omega (arith, l)))

number_from_push : (i : ℕ) (found : Option ℕ) (p : List Step) (xs : List Instance) (x : Instance) → number_from i found p (xs ++ x ∷ []) ≡ cond (same_steps x.path.steps p) (Some (i + length xs)) (number_from i found p xs)
number_from_push i found p [] x = let none : i + 0 ≡ i = omega arith in ap (λ n. cond (same_steps x.path.steps p) (Some n) found) (sym none)
number_from_push i found p (y ∷ ys) x =
    let one : i + 1 + length ys ≡ i + suc (length ys) = omega arith in
    number_from_push (i + 1) (cond (same_steps y.path.steps p) (Some i) found) p ys x
    ∙ ap (λ n. cond (same_steps x.path.steps p) (Some n) (number_from (i + 1) (cond (same_steps y.path.steps p) (Some i) found) p ys)) one

pub number_push : (p : List Step) (xs : List Instance) (x : Instance) → number_at (xs ++ x ∷ []) p ≡ cond (same_steps x.path.steps p) (Some (length xs)) (number_at xs p)
number_push p xs x = let none : 0 + length xs ≡ length xs = omega arith in number_from_push 0 None p xs x ∙ ap (λ n. cond (same_steps x.path.steps p) (Some n) (number_at xs p)) none

pub number_here : (p : List Step) (xs : List Instance) (x : Instance) → x.path.steps ≡ p → number_at (xs ++ x ∷ []) p ≡ Some (length xs)
number_here p xs x e = number_push p xs x ∙ ap (λ (b : Bool). cond b (Some (length xs)) (number_at xs p)) (same_of x.path.steps p e)

number_other : (p : List Step) (xs : List Instance) (x : Instance) → length p < depth_of x → number_at (xs ++ x ∷ []) p ≡ number_at xs p
number_other p xs x l = number_push p xs x ∙ ap (λ (b : Bool). cond b (Some (length xs)) (number_at xs p)) (longer_differs x.path.steps p l)

-- one more instance changes nothing above it
pub push_deeper : (xs : List Instance) (x : Instance) → length xs < MOST_INSTANCES → IsDeeper (depth_of x) xs (xs ++ x ∷ [])
push_deeper xs x room = record {
  same = λ p l. number_other p xs x l;
  few = λ l. (let more : length (xs ++ x ∷ []) ≡ length xs + 1 = length-append xs (x ∷ []) in omega (arith, more, room));
}

deep_front : (d j : ℕ) (p : List Step) → j < d → length (take j p) < d
deep_front d j p l = elim (cases_lt (length p) j) as (λ _. length (take j p) < d) [
  | inl lt ↦ (let whole : take j p ≡ p = take_all j p (omega (arith, lt)) in subst (λ (q : List Step). length q < d) (sym whole) (omega (arith, lt, l)))
  | inr le ↦ (let short : length (take j p) ≡ j = length-take-le j p le in omega (arith, short, l))
]

pub numbers_deeper : (ns : List ℕ) (d : ℕ) (p : List Step) (olds news : List Instance) → AreNumbers ns d p olds → IsDeeper d olds news → AreNumbers ns d p news
numbers_deeper ns d p olds news a b = record { count = a.count; each = λ j l. b.same (take j p) (deep_front d j p l) ∙ a.each j l }

pub deeper_same : (d : ℕ) (xs : List Instance) → IsDeeper d xs xs
deeper_same d xs = record { same = λ p l. refl; few = λ l. l }

pub deeper_equal : (d : ℕ) (xs ys : List Instance) → ys ≡ xs → IsDeeper d xs ys
deeper_equal d xs ys e = subst (λ zs. IsDeeper d xs zs) (sym e) (deeper_same d xs)

-- an answer that leaves the instances as they are
pub kept_deeper : {A : Type 0} (d : ℕ) (xs : List Instance) (r : Result A WalkFault) → OnOk r (IsDeeper d xs xs)
kept_deeper d xs (Ok x) = deeper_same d xs
kept_deeper d xs (Err f) = tt

pub equal_deeper : {A : Type 0} (d : ℕ) (xs ys : List Instance) (r : Result A WalkFault) → OnOk r (ys ≡ xs) → OnOk r (IsDeeper d xs ys)
equal_deeper d xs ys (Ok x) e = deeper_equal d xs ys e
equal_deeper d xs ys (Err f) e = tt

pub deeper_both : (d : ℕ) (xs ys zs : List Instance) → IsDeeper d xs ys → IsDeeper d ys zs → IsDeeper d xs zs
deeper_both d xs ys zs a b = record { same = λ p l. b.same p l ∙ a.same p l; few = λ l. b.few (a.few l) }

pub deeper_less : (d e : ℕ) (xs ys : List Instance) → e ≤ d → IsDeeper d xs ys → IsDeeper e xs ys
deeper_less d e xs ys h a = record { same = λ p l. a.same p (omega (arith, h, l)); few = a.few }

get_front : (ns : List ℕ) (n j : ℕ) → j < length ns → slice_get (ns ++ n ∷ []) j ≡ slice_get ns j
get_front ns n j l = slice_get-get_or (ns ++ n ∷ []) j 0 (let more : length (ns ++ n ∷ []) ≡ length ns + 1 = length-append ns (n ∷ []) in omega (arith, more, l))
    ∙ ap Some (get_or-append ns (n ∷ []) 0 j l) ∙ sym (slice_get-get_or ns j 0 l)

get_last : (ns : List ℕ) (n : ℕ) → slice_get (ns ++ n ∷ []) (length ns) ≡ Some n
get_last ns n = slice_get-get_or (ns ++ n ∷ []) (length ns) 0 (let more : length (ns ++ n ∷ []) ≡ length ns + 1 = length-append ns (n ∷ []) in omega (arith, more)) ∙ ap Some (get_or-append_seam ns n [] 0)

push_each : (ns : List ℕ) (d : ℕ) (p : List Step) (xs : List Instance) (x : Instance) → x.path.steps ≡ p → length p ≡ d → AreNumbers ns d p xs → (j : ℕ) → j < d + 1
    → number_at (xs ++ x ∷ []) (take j p) ≡ slice_get (ns ++ length xs ∷ []) j
push_each ns d p xs x e k a j l = elim (cases_lt j d) as (λ _. number_at (xs ++ x ∷ []) (take j p) ≡ slice_get (ns ++ length xs ∷ []) j) [
  | inl lt ↦ (let inner : j < length ns = omega (arith, a.count, lt) in let depth : depth_of x ≡ d = ap length e ∙ k in let short : length (take j p) < d = deep_front d j p lt in let below : length (take j p) < depth_of x = omega (arith, depth, short) in
      number_other (take j p) xs x below ∙ a.each j lt ∙ sym (get_front ns (length xs) j inner))
  | inr le ↦ (let same : length ns ≡ j = omega (arith, a.count, le, l) in let whole : length p ≤ j = omega (arith, k, le) in
      number_here (take j p) xs x (e ∙ sym (take_all j p whole)) ∙ sym (get_last ns (length xs)) ∙ ap (λ n. slice_get (ns ++ length xs ∷ []) n) same)
]

-- an instance with this many steps, and its number
pub push_numbers : (ns : List ℕ) (d : ℕ) (p : List Step) (xs : List Instance) (x : Instance) → x.path.steps ≡ p → length p ≡ d → AreNumbers ns d p xs → AreNumbers (ns ++ length xs ∷ []) (d + 1) p (xs ++ x ∷ [])
push_numbers ns d p xs x e k a = record {
  count = length-append ns (length xs ∷ []) ∙ ap (λ n. n + 1) a.count;
  each = push_each ns d p xs x e k a;
}

-- the last number is that of the outer instance, or of the one here
pub parent_is : (ns : List ℕ) (p : List Step) (xs : List Instance) → AreNumbers ns (length p) p xs → slice_get ns (length ns - 1) ≡ parent_of xs p
parent_is ns [] xs a = slice_get_past ns (length ns - 1) (omega (arith, a.count))
parent_is ns (s ∷ rest) xs a = let same : length ns - 1 ≡ length (s ∷ rest) - 1 = ap (λ n. n - 1) a.count in
    ap (λ n. slice_get ns n) same ∙ sym (a.each (length (s ∷ rest) - 1) (omega arith))

pub owner_is : (ns : List ℕ) (p : List Step) (xs : List Instance) → AreNumbers ns (length p + 1) p xs → unwrap_or (slice_get ns (length ns - 1)) 0 ≡ owner_of xs p
owner_is ns p xs a = let same : length ns - 1 ≡ length p = omega (arith, a.count) in let whole : take (length p) p ≡ p = take_all (length p) p (omega arith) in
    ap (λ (o : Option ℕ). unwrap_or o 0) (ap (λ n. slice_get ns n) same ∙ sym (a.each (length p) (omega arith)) ∙ ap (λ (q : List Step). number_at xs q) whole)

-- inside an element of a component
pub entered_numbers : (h g : Here) (item : Item) (indices ns ms : List ℕ) (xs : List Instance) → g ≡ entered h item indices → ms ≡ ns → AreNumbers ns (length h.steps + 1) h.steps xs → AreNumbers ms (length g.steps) g.steps xs
entered_numbers h g item indices ns ms xs e s a =
    let more : length (h.steps ++ (record { name = item_name item; indices = indices }) ∷ []) ≡ length h.steps + 1 = length-append h.steps ((record { name = item_name item; indices = indices }) ∷ []) in
    subst (λ (z : Here). AreNumbers ms (length z.steps) z.steps xs) (sym e) (subst (λ (z : List ℕ). AreNumbers z (length (h.steps ++ (record { name = item_name item; indices = indices }) ∷ [])) (h.steps ++ (record { name = item_name item; indices = indices }) ∷ []) xs) (sym s) (record {
      count = a.count ∙ sym more;
      each = λ j l. let inner : j < length h.steps + 1 = omega (arith, more, l) in
          ap (λ (q : List Step). number_at xs q) (take-append-le j h.steps ((record { name = item_name item; indices = indices }) ∷ []) (omega (arith, inner))) ∙ a.each j inner;
    }))

-- what is found behind an event that goes
ok_case : {A : Type 0} (b : Bool) (k n : A) (f : Fault) → cond b (Ok k) (Err f) ≡ Ok n → k ≡ n
ok_case true k n f h = cc
ok_case false k n f h = cc

opens_at : (t : Bool) (p : List Step) (c : ClassId) (r : ℕ) (a b : Walked) → step a (cond t (Opens p c) (Fails p r)) ≡ Ok b → with_instance a p (content.Block c) ≡ b
opens_at true p c r a b h = ok_case (has_room a) _ b _ h
opens_at false p c r a b h = cc

pub opens_is : (h : Here) (c : ClassId) (a b : Walked) → step a (opens h c) ≡ Ok b → with_instance a h.steps (content.Block c) ≡ b
opens_is h c a b e = opens_at _ h.steps c _ a b e

-- inside an element of a component
pub entered_deeper : (h g : Here) (item : Item) (indices : List ℕ) (xs ys : List Instance) → g ≡ entered h item indices → IsDeeper (length g.steps) xs ys → IsDeeper (length h.steps + 1) xs ys
entered_deeper h g item indices xs ys e d =
    let more : length (h.steps ++ (record { name = item_name item; indices = indices }) ∷ []) ≡ length h.steps + 1 = length-append h.steps ((record { name = item_name item; indices = indices }) ∷ []) in
    subst (λ (n : ℕ). IsDeeper n xs ys) (ap (λ (z : Here). length z.steps) e ∙ more) d

room_case : {A : Type 0} (b : Bool) (k n : A) (f : Fault) → cond b (Ok k) (Err f) ≡ Ok n → b ≡ true
room_case true k n f h = refl
room_case false k n f h = cc

room_at : (t : Bool) (p : List Step) (c : ClassId) (r : ℕ) (a b : Walked) → step a (cond t (Opens p c) (Fails p r)) ≡ Ok b → has_room a ≡ true
room_at true p c r a b h = room_case (has_room a) _ b _ h
room_at false p c r a b h = cc

is_below : (m n : ℕ) → nat_lt m n ≡ true → m < n
is_below m n h = grind (arith, nat_tests, h)

opened_room : (h : Here) (c : ClassId) (a b : Walked) → step a (opens h c) ≡ Ok b → length a.instances < MOST_INSTANCES
opened_room h c a b e = is_below (length a.instances) MOST_INSTANCES (room_at _ h.steps c _ a b e)

pub opened_deeper : (h : Here) (c : ClassId) (a b : Walked) → step a (opens h c) ≡ Ok b → IsDeeper (length h.steps) a.instances b.instances
opened_deeper h c a b e = subst (λ (w : Walked). IsDeeper (length h.steps) a.instances w.instances) (opens_is h c a b e) (push_deeper a.instances (instance_of a.instances h.steps (content.Block c)) (opened_room h c a b e))

pub opened_numbers : (h : Here) (c : ClassId) (ns : List ℕ) (a b : Walked) → step a (opens h c) ≡ Ok b → AreNumbers ns (length h.steps) h.steps a.instances
    → AreNumbers (ns ++ length a.instances ∷ []) (length h.steps + 1) h.steps b.instances
opened_numbers h c ns a b e n = subst (λ (w : Walked). AreNumbers (ns ++ length a.instances ∷ []) (length h.steps + 1) h.steps w.instances) (opens_is h c a b e)
    (push_numbers ns (length h.steps) h.steps a.instances (instance_of a.instances h.steps (content.Block c)) refl refl n)

pub stood_deeper : (h : Here) (k : Kind) (r : Result KindInstance Fault) (a b : Walked) → length a.instances < MOST_INSTANCES → step a (stands h k r) ≡ Ok b → IsDeeper (length h.steps) a.instances b.instances
stood_deeper h k (Err f) a b room e = cc
stood_deeper h k (Ok x) a b room e = subst (λ (w : Walked). IsDeeper (length h.steps) a.instances w.instances) (ok_case (has_room_for a x.points) _ b _ e)
    (push_deeper a.instances (instance_of a.instances h.steps (content.Elementary k x.params)) room)

pub settled_deeper : (A : Type 0) (h : Here) (k : Kind) (o : Result KindInstance Fault) (r : Result A WalkFault) (a b : Walked) → length a.instances < MOST_INSTANCES → Takes seen step a (stands h k o) r b
    → OnOk r (IsDeeper (length h.steps) a.instances b.instances)
settled_deeper A h k o (Ok x) a b room t = stood_deeper h k o a b room t
settled_deeper A h k o (Err f) a b room t = tt

pub no_numbers : AreNumbers [] 0 [] []
no_numbers = record { count = refl; each = λ d l. absurd (omega (arith, l)) }

-- behind a part that goes on further in
pub moved_deeper : (h g : Here) (c : ClassId) (xs ys : List Instance) → g ≡ h → IsDeeper (length g.steps + 1) xs ys → IsDeeper (length h.steps + 1) xs ys
moved_deeper h g c xs ys e d = subst (λ (z : Here). IsDeeper (length z.steps + 1) xs ys) e d
