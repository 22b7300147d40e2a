use Rattle.std.proofs.Common.{◌≡◌, ◌++◌, ◌∷◌, ◌∙◌, ◌-◌, ◌+◌, ◌≤◌, [], ℕ, List, Some, ap, sym, subst, arith, append_assoc, take, drop}
use Rattle.std.specs.List.{slice_get}
use Rattle.cdl_tree.specs.declared.class.FileTree.{FileTree}
use Rattle.cdl_scopes.specs.Classes.{Full, declared}
use Rattle.cdl_scopes.specs.Lookup.{library}
use Rattle.cdl_scopes.specs.inner.Gathered.{IsGathered}
use Rattle.cdl_scopes.specs.Classes.{cut}
use Rattle.cdl_scopes.proofs.Cuts.{onto, onto_none, at_point, at_other, at_end, no_more}
use Rattle.cdl_scopes.proofs.full_name.name_at.Goals.{then-path-i-eq46+in-Some, else-path-i-eq46}
use Rattle.cdl_scopes.proofs.full_name.name_at.Goals as goal

pub loop-i-init : goal.loop-i-init
loop-i-init c = (omega arith, λ files h. ([], h.names.numbers.top, sym (onto_none (cut c.args.path.now))))

pub returns-in-None-clause-none : goal.returns-in-None-clause-none
returns-in-None-clause-none c = λ files h m at.
    let k = c.loop-i.invariant.1 files h in
    let here = k.2 ∙ ap (λ (r : Full). k.0 ++ r) (at_point c.args.path.now c.loop-i.start c.loop-i.i (omega arith) c.if-path-i-eq46.true) in
    no_more files c.args.all.now h k.0 (take (c.loop-i.i - c.loop-i.start) (drop c.loop-i.start c.args.path.now)) _ (c.in-None.ensures.none files h k.0 k.1) m (at ∙ ap (λ r. Some r) here)

abbrev SoFar : (c : goal.Joined-path-i-eq46) → ℕ → ℕ → Type 0
SoFar c scope start =
    (start ≤ c.loop-i.i + 1)
    × ((files : List FileTree) (h : IsGathered files c.args.all.now library (declared files))
    → (q : Full) × (slice_get h.names.paths scope ≡ Some q) × (cut c.args.path.now ≡ q ++ onto (take (c.loop-i.i + 1 - start) (drop start c.args.path.now)) (cut (drop (c.loop-i.i + 1) c.args.path.now))))

pub loop-i-preserved : goal.loop-i-preserved
loop-i-preserved c =
    elim c.if-path-i-eq46.branch [
      | then-path-i-eq46+in-Some w ↦
          let far : SoFar c w.in-Some.name (c.loop-i.i + 1) = (
            omega arith,
            λ files h.
                let k = c.loop-i.invariant.1 files h in
                let w-is = take (c.loop-i.i - c.loop-i.start) (drop c.loop-i.start c.args.path.now) in (
                  k.0 ++ w-is ∷ [],
                  w.in-Some.ensures.some files h k.0 k.1,
                  k.2 ∙ ap (λ (r : Full). k.0 ++ r) (at_point c.args.path.now c.loop-i.start c.loop-i.i (omega arith) w.if-path-i-eq46.true) ∙ sym (append_assoc k.0 (w-is ∷ []) _),
                ),
          ) in
          subst (λ n. SoFar c n c.if-path-i-eq46.start) (sym w.scope-is) (subst (λ n. SoFar c w.in-Some.name n) (sym w.start-is) far)
      | else-path-i-eq46 w ↦
          let far : SoFar c c.loop-i.scope c.loop-i.start = (
            omega (arith, c.loop-i.invariant.0),
            λ files h.
                let k = c.loop-i.invariant.1 files h in
                (k.0, k.1, k.2 ∙ ap (λ (r : Full). k.0 ++ r) (at_other c.args.path.now c.loop-i.start c.loop-i.i c.loop-i.invariant.0 (omega arith) w.if-path-i-eq46.false)),
          ) in
          subst (λ n. SoFar c n c.if-path-i-eq46.start) (sym w.scope-is) (subst (λ n. SoFar c c.loop-i.scope n) (sym w.start-is) far)
    ]

pub returns-in-Some-name_in-clause-some : goal.returns-in-Some-name_in-clause-some
returns-in-Some-name_in-clause-some c = λ files h.
    let k = c.loop-i.invariant.1 files h in
    c.in-Some-name_in.ensures.some files h k.0 k.1 ∙ ap (λ r. Some r) (sym (k.2 ∙ ap (λ (r : Full). k.0 ++ r) (at_end c.args.path.now c.loop-i.start c.loop-i.i (omega arith))))

pub returns-in-None-name_in-clause-none : goal.returns-in-None-name_in-clause-none
returns-in-None-name_in-clause-none c = λ files h m at.
    let k = c.loop-i.invariant.1 files h in
    c.in-None-name_in.ensures.none files h k.0 k.1 m (at ∙ ap (λ r. Some r) (k.2 ∙ ap (λ (r : Full). k.0 ++ r) (at_end c.args.path.now c.loop-i.start c.loop-i.i (omega arith))))
