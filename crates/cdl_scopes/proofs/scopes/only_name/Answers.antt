use Rattle.std.proofs.Common.{◌∙◌, sym, ap}
use Rattle.std.specs.Str.{bytes_eq}
use Rattle.cdl_scopes.proofs.Passing.{only_entry}
use Rattle.cdl_scopes.proofs.scopes.only_name.Goals as goal

pub returns-in-Some : goal.returns-in-Some
returns-in-Some c = λ x miss.
    only_entry c.args.node.now.children.entries c.in-Some.name.now c.in-Some.number.now x (sym c.len.ensures.len ∙ c.if-len-ne1.false) c.in-Some.ensures.first
    (ap (λ z. bytes_eq x z) (sym c.as_slice.ensures.value) ∙ miss)
