use Rattle.std.proofs.Common.{◌≡◌, ◌∙◌, sym, refl, ap, ◌+◌, length, Some, inl, inr, arith, length-append}
use Rattle.std.specs.List.{slice_get}
use Rattle.std.proofs.lemmas.Option.{slice_get_read}
use Rattle.cdl_scopes.specs.declared.names.Node.{Node}
use Rattle.cdl_scopes.proofs.Lists.{get_pushed}
use Rattle.cdl_scopes.proofs.NameLaws.{numbers-added, changed}
use Rattle.cdl_scopes.proofs.names.add_name.Goals as goal

pub returns : goal.returns
returns c = λ paths q h here fresh.
    let counted : c.len-number.result ≡ length c.args.nodes.now.items = omega arith in
    let long : length c.push.new.self.items ≡ length c.args.nodes.now.items + 1 = omega (arith, ap length c.in_ok-push.ensures.items, length-append {A = Node}) in
    let read : slice_get c.push.new.self.items c.args.scope ≡ Some c.index_mut-around.result.now =
    slice_get_read c.push.new.self.items _ c.args.scope c.index_mut-around.result.now refl (omega arith) c.index_mut-around.ensures.value in
    let old : slice_get c.args.nodes.now.items c.args.scope ≡ Some c.index_mut-around.result.now =
    elim (get_pushed c.args.nodes.now.items _ _ c.args.scope (sym (ap (λ xs. slice_get xs c.args.scope) c.in_ok-push.ensures.items) ∙ read)) [
      | inl there ↦ there
      | inr last ↦ absurd (omega (arith, last.0))
    ] in
    numbers-added c.args.nodes.now.items _ c.args.scope c.args.part.now c.index_mut-around.result.now paths q
    (changed c.args.nodes.now.items c.push.new.self.items c.args.scope c.len-number.result c.args.part.now c.index_mut-around.result.now _ c.insert.new.self c.in_ok-key.key old c.in_ok-push.ensures.items refl c.new.ensures.empty c.in_ok-insert.ensures.entries c.in_ok-key.ensures.items counted)
    h here fresh
