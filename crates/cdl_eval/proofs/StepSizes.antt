-- The sizes of the steps of a place begin with those of each shorter one.
use Rattle.std.proofs.Common.{◌≡◌, ℕ, zero, suc, ◌+◌, ◌-◌, ◌<◌, Bool, cond, ◌≤◌, List, [], ◌∷◌, ◌++◌, length, take, drop, refl, sym, ap, ◌∙◌, subst, arith, append_assoc, Option, Some, None, get_or, Result, Ok, Err, inl, inr, option_map}
use Rattle.std.proofs.lemmas.List.{append-nil, take_all, length-take-le}
use Rattle.std.proofs.lemmas.Bool.{cases_lt}
use Rattle.cdl_source.specs.declared.limits.TheConstants.{MOST_LINKS}
use Rattle.cdl_source.specs.declared.rules.TheConstants.{UNKNOWN_NAME}
use Rattle.cdl_values.specs.declared.value.Array.{Array}
use Rattle.cdl_tree.specs.declared.expr.Expr.{Expr}
use Rattle.cdl_tree.specs.declared.class.Item.{Item}
use Rattle.cdl_tree.specs.declared.class.Modifier.{Modifier}
use Rattle.cdl_array.specs.Outcomes.{Answers, Outcome}
use Rattle.cdl_array.specs.declared.fault.EvalFault.{EvalFault}
use Rattle.cdl_scopes.specs.Classes.{Declared}
use Rattle.cdl_paths.specs.declared.path.Step.{Step}
use Rattle.cdl_paths.specs.Members.{Declaration}
use Rattle.cdl_paths.specs.Bindings.{the_given}
use Rattle.cdl_worth.specs.Expressions.{eval}
use Rattle.cdl_worth.specs.Sizes.{member_sizes, sizes_of, gather}
use Rattle.cdl_worth.specs.Values.{Steps, StepSizes, link, member_at, names, names_at, sizes, sizes_from, step_size, written}
use Rattle.cdl_eval.proofs.Rows.{from_place, with, gather_more, gather_fault, gather_few, gather_end}

long : (ds : List Declared) (r : ℕ) (ss : StepSizes) (p xs : Steps) → length (sizes_from ds r ss p xs) ≡ length xs
long ds r ss p [] = refl
long ds r ss p (x ∷ xs) = ap suc (long ds r (ss ++ step_size ds r ss p x.name ∷ []) (p ++ x ∷ []) xs)

both : (ds : List Declared) (r : ℕ) (ss : StepSizes) (p xs ys : Steps)
    → sizes_from ds r ss p (xs ++ ys) ≡ sizes_from ds r ss p xs ++ sizes_from ds r (ss ++ sizes_from ds r ss p xs) (p ++ xs) ys
both ds r ss p [] ys = rw (append-nil p, append-nil ss) refl
both ds r ss p (x ∷ xs) ys = ap (λ (zs : StepSizes). step_size ds r ss p x.name ∷ zs)
    (both ds r (ss ++ step_size ds r ss p x.name ∷ []) (p ++ x ∷ []) xs ys ∙ rw (append_assoc p (x ∷ []) xs, append_assoc ss (step_size ds r ss p x.name ∷ []) (sizes_from ds r (ss ++ step_size ds r ss p x.name ∷ []) (p ++ x ∷ []) xs)) refl)

take_front : {X : Type 0} (xs ys : List X) (n : ℕ) → length xs ≡ n → take n (xs ++ ys) ≡ xs
take_front [] ys n e = rw (sym e) refl
take_front (x ∷ xs) ys zero e = cc
take_front (x ∷ xs) ys (suc n) e = ap (λ zs. x ∷ zs) (take_front xs ys n (omega (arith, e)))

drop_front : {X : Type 0} (xs ys : List X) (n : ℕ) → length xs ≡ n → drop n (xs ++ ys) ≡ ys
drop_front [] ys n e = rw (sym e) refl
drop_front (x ∷ xs) ys zero e = cc
drop_front (x ∷ xs) ys (suc n) e = drop_front xs ys n (omega (arith, e))

whole : {X : Type 0} (xs : List X) (n : ℕ) → take n xs ++ drop n xs ≡ xs
whole [] zero = refl
whole [] (suc n) = refl
whole (x ∷ xs) zero = refl
whole (x ∷ xs) (suc n) = ap (λ zs. x ∷ zs) (whole xs n)

-- the sizes of a place, cut at a step
cut : (ds : List Declared) (r : ℕ) (p : Steps) (n : ℕ) → sizes ds r p ≡ sizes ds r (take n p) ++ sizes_from ds r (sizes ds r (take n p)) (take n p) (drop n p)
unfolding sizes
cut ds r p n = ap (λ (q : Steps). sizes_from ds r [] [] q) (sym (whole p n)) ∙ both ds r [] [] (take n p) (drop n p)

all_long : (ds : List Declared) (r : ℕ) (p : Steps) → length (sizes ds r p) ≡ length p
unfolding sizes
all_long ds r p = long ds r [] [] p

sizes_long : (ds : List Declared) (r : ℕ) (p : Steps) (n : ℕ) → n ≤ length p → length (sizes ds r (take n p)) ≡ n
sizes_long ds r p n h = all_long ds r (take n p) ∙ length-take-le n p h

pub sizes_take : (ds : List Declared) (r : ℕ) (p : Steps) (n : ℕ) → sizes ds r (take n p) ≡ take n (sizes ds r p)
sizes_take ds r p n = elim (cases_lt (length p) n) [
  | inl lt ↦ (let short : length p ≤ n = omega arith in let same : length (sizes ds r p) ≡ length p = all_long ds r p in let few : length (sizes ds r p) ≤ n = omega (arith, same, short) in rw (take_all n p short, take_all n (sizes ds r p) few) refl)
  | inr le ↦ sym (ap (λ (ss : StepSizes). take n ss) (cut ds r p n) ∙ take_front (sizes ds r (take n p)) _ n (sizes_long ds r p n le))
]

sizes_drop : (ds : List Declared) (r : ℕ) (p : Steps) (n : ℕ) → n ≤ length p → drop n (sizes ds r p) ≡ sizes_from ds r (sizes ds r (take n p)) (take n p) (drop n p)
sizes_drop ds r p n h = ap (λ (ss : StepSizes). drop n ss) (cut ds r p n) ∙ drop_front (sizes ds r (take n p)) _ n (sizes_long ds r p n h)

drop_tail : {X : Type 0} (xs ys : List X) (n : ℕ) (x : X) → drop n xs ≡ x ∷ ys → drop (n + 1) xs ≡ ys
drop_tail [] ys zero x e = cc
drop_tail [] ys (suc n) x e = cc
drop_tail (z ∷ zs) ys zero x e = cc
drop_tail (z ∷ zs) ys (suc n) x e = let same : suc n + 1 ≡ suc (n + 1) = omega arith in rw same (drop_tail zs ys n x e)

-- the sizes from a step on
next_size : (ds : List Declared) (r : ℕ) (p : Steps) (n : ℕ) (s : Step) → n < length p → s ≡ get_or p n s
    → drop n (sizes ds r p) ≡ step_size ds r (sizes ds r (take n p)) (take n p) s.name ∷ drop (n + 1) (sizes ds r p)
next_size ds r p n s h e =
    let here : drop n (sizes ds r p) ≡ sizes_from ds r (sizes ds r (take n p)) (take n p) (s ∷ drop (n + 1) p) =
    sizes_drop ds r p n (omega arith) ∙ ap (λ (q : Steps). sizes_from ds r (sizes ds r (take n p)) (take n p) q) (from_place p n s h e) in
    here ∙ ap (λ (ss : StepSizes). step_size ds r (sizes ds r (take n p)) (take n p) s.name ∷ ss) (sym (drop_tail (sizes ds r p) _ n _ here))

sizes_past : (ds : List Declared) (r : ℕ) (p : Steps) (n : ℕ) → length p ≤ n → length (sizes ds r p) ≤ n
sizes_past ds r p n h = let same : length (sizes ds r p) ≡ length p = all_long ds r p in omega (arith, same, h)

-- sizes that are gathered, step by step
pub gathered_more : (ds : List Declared) (r : ℕ) (p : Steps) (outs : List Bool) (from step : ℕ) (out : Bool) (s : Step) (got new ns : List ℕ) (o : Outcome (List ℕ)) → from ≤ step → step < length p → s ≡ get_or p step s → step - from < length outs → out ≡ get_or outs (step - from) out
    → cond out (Ok []) (step_size ds r (sizes ds r (take step p)) (take step p) s.name) ≡ Ok ns → new ≡ got ++ ns → with got (gather (drop (step - from) outs) (drop step (sizes ds r p))) ≡ o
    → with new (gather (drop (step + 1 - from) outs) (drop (step + 1) (sizes ds r p))) ≡ o
gathered_more ds r p outs from step out s got new ns o b l e m f h q k =
    let next : step + 1 - from ≡ step - from + 1 = omega (arith, b) in
    rw (next, q) (gather_more outs (sizes ds r p) (step - from) step out (step_size ds r (sizes ds r (take step p)) (take step p) s.name) got ns o m f (next_size ds r p step s l e) h k)

pub gathered_fault : (ds : List Declared) (r : ℕ) (p : Steps) (outs : List Bool) (from step : ℕ) (out : Bool) (s : Step) (got : List ℕ) (o : Outcome (List ℕ)) (fault : EvalFault) → step < length p → s ≡ get_or p step s → step - from < length outs → out ≡ get_or outs (step - from) out
    → Answers {A = List ℕ} (cond out (Ok []) (step_size ds r (sizes ds r (take step p)) (take step p) s.name)) (Err fault) → with got (gather (drop (step - from) outs) (drop step (sizes ds r p))) ≡ o
    → Answers {A = List ℕ} o (Err fault)
gathered_fault ds r p outs from step out s got o fault l e m f h k =
    gather_fault outs (sizes ds r p) (step - from) step out (step_size ds r (sizes ds r (take step p)) (take step p) s.name) got o fault m f (next_size ds r p step s l e) h k

pub gathered_few : (ds : List Declared) (r : ℕ) (p : Steps) (outs : List Bool) (k step : ℕ) (got : List ℕ) (o : Outcome (List ℕ)) → length outs ≤ k → with got (gather (drop k outs) (drop step (sizes ds r p))) ≡ o → o ≡ Ok got
gathered_few ds r p outs k step got o l h = gather_few outs (sizes ds r p) k step got o l h

pub gathered_end : (ds : List Declared) (r : ℕ) (p : Steps) (outs : List Bool) (k step : ℕ) (got : List ℕ) (o : Outcome (List ℕ)) → length p ≤ step → with got (gather (drop k outs) (drop step (sizes ds r p))) ≡ o → o ≡ Ok got
gathered_end ds r p outs k step got o l h = gather_end outs (sizes ds r p) k step got o (sizes_past ds r p step l) h

-- an expression at the place of its giver
pub at_written : (ds : List Declared) (d r : ℕ) (p : Steps) (k : ℕ) (args : List Modifier) (e : Expr) (x : Result Array EvalFault)
    → Answers (eval (names_at ds d r (take k p) []) e) x → Answers (written ds (link ds d) r (sizes ds r p) p (the_given k args e)) x
at_written ds d r p k args e x h = subst (λ (ss : StepSizes). Answers (eval (names ds (link ds d) r ss (take k p) []) e) x) (sizes_take ds r p k) h

-- ---- the sizes of one step

member_some : (worth : Expr → Outcome Array) (o : Option Declaration) (x : Item) (a : Result (List ℕ) EvalFault) → option_map (λ (m : Declaration). m.item) o ≡ Some x → Answers (sizes_of worth x.dims) a → Answers (member_sizes worth o) a
member_some worth None x a e h = cc
member_some worth (Some m) x a e h = let same : x ≡ m.item = cc in subst (λ (y : Item). Answers (sizes_of worth y.dims) a) same h

member_none : (worth : Expr → Outcome Array) (o : Option Declaration) → option_map (λ (m : Declaration). m.item) o ≡ None → member_sizes worth o ≡ Err UNKNOWN_NAME
member_none worth None e = refl
member_none worth (Some m) e = cc

pub step_some : (ds : List Declared) (r : ℕ) (q : Steps) (n : List ℕ) (x : Item) (a : Result (List ℕ) EvalFault) → option_map (λ (m : Declaration). m.item) (member_at ds r q n) ≡ Some x
    → Answers (sizes_of (λ e. eval (names_at ds MOST_LINKS r q []) e) x.dims) a → Answers (step_size ds r (sizes ds r q) q n) a
unfolding step_size
step_some ds r q n x a e h = member_some (λ e. eval (names_at ds MOST_LINKS r q []) e) (member_at ds r q n) x a e h

pub step_none : (ds : List Declared) (r : ℕ) (q : Steps) (n : List ℕ) → option_map (λ (m : Declaration). m.item) (member_at ds r q n) ≡ None → step_size ds r (sizes ds r q) q n ≡ Err UNKNOWN_NAME
unfolding step_size
step_none ds r q n e = member_none (λ e. eval (names_at ds MOST_LINKS r q []) e) (member_at ds r q n) e
