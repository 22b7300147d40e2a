use Rattle.std.proofs.Common.{◌≡◌, ◌∙◌, sym, refl, Some, length, arith}
use Rattle.std.specs.List.{slice_get}
use Rattle.std.proofs.lemmas.Option.{slice_get_read}
use Rattle.cdl_scopes.proofs.Growth.{there, added}
use Rattle.cdl_scopes.proofs.names.number_name.Goals as goal

pub returns-in-Some : goal.returns-in-Some
returns-in-Some c = λ whole q h b.
    let node : slice_get c.args.nodes.now.items c.args.scope ≡ Some c.index.result.now =
    slice_get_read c.args.nodes.now.items _ c.args.scope c.index.result.now refl (omega arith) c.index.ensures in
    there c.args.nodes.now.items whole h c.index.result.now c.args.scope c.in-Some.number q c.args.part.now node b (sym c.child.ensures ∙ c.in-Some.is)

pub returns : goal.returns
returns c = λ whole q h b.
    let node : slice_get c.args.nodes.now.items c.args.scope ≡ Some c.index.result.now =
    slice_get_read c.args.nodes.now.items _ c.args.scope c.index.result.now refl (omega arith) c.index.ensures in
    let counted : c.len-number.result ≡ length c.args.nodes.now.items = omega arith in
    added c.args.nodes.now.items c.add_name.new.nodes.items whole h c.args.scope c.len-number.result q c.args.part.now b counted (c.in_ok-add_name.ensures h.paths q h.numbers b (λ m e. cc (h.numbers.finds c.args.scope m c.index.result.now q c.args.part.now node b e, c.child.ensures, c.in_default.is)))
