use Rattle.std.proofs.Common.{◌≡◌, ◌∙◌, ◌||◌, ◌+◌, List, Bool, false, Some, length, nat_eq, sym, ap, subst, refl, arith, length-append}
use Rattle.std.specs.Prelude.{unwrap_or}
use Rattle.std.specs.List.{slice_get}
use Rattle.std.proofs.lemmas.Option.{slice_get_read, slice_get_within}
use Rattle.cdl_scopes.specs.declared.names.Node.{Node}
use Rattle.cdl_scopes.proofs.Passing.{flag_is, Flags, flags_more}
use Rattle.cdl_scopes.proofs.scopes.in_library.Goals as goal

pub loop-scope-preserved : goal.loop-scope-preserved
loop-scope-preserved c =
    let all = c.args.all.now in
    let here : slice_get c.deref-node-items.result.now c.loop-scope.scope ≡ Some c.node-item.result =
    slice_get_read c.deref-node-items.result.now _ c.loop-scope.scope c.node-item.result refl (omega arith) c.node-item.is in
    let node : slice_get c.args.all.now.nodes.items c.loop-scope.scope ≡ Some c.node-item.result = ap (λ (ns : List Node). slice_get ns c.loop-scope.scope) (sym c.deref-node-items.ensures.value) ∙ here in
    let P : List Bool → Type 0 = λ bs. Flags c.args.files.now c.args.all.now bs (c.loop-scope.scope + 1) in (
      omega (arith, c.loop-scope.invariant.0, ap length c.in_ok-push.ensures.items, length-append {A = Bool}),
      subst P (sym c.in_ok-push.ensures.items)
          (flags_more c.args.files.now c.args.all.now c.loop-scope.known.items c.loop-scope.scope c.is_in_library-flag.result c.loop-scope.invariant.0 c.loop-scope.invariant.1
          (λ h q at.
          c.is_in_library-flag.ensures
          ∙ ap (λ (bs : List Bool). nat_eq c.loop-scope.scope c.args.all.now.cdl || (nat_eq c.loop-scope.scope c.args.all.now.modelica || unwrap_or (slice_get bs c.node-item.result.parent) false)) c.as_slice.ensures.value
          ∙ flag_is c.args.files.now c.args.all.now h c.loop-scope.scope c.node-item.result q c.loop-scope.known.items node at (sym c.loop-scope.invariant.0) (c.loop-scope.invariant.1 h))),
    )

pub returns : goal.returns
returns c = λ h n q at.
    c.loop-scope.invariant.1 h n q (omega (arith, slice_get_within h.names.paths n q at, h.names.numbers.size, ap length c.deref-node-items.ensures.value)) at
