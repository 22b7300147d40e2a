use Rattle.std.proofs.Common.{◌∙◌, sym, ap, refl}
use Rattle.std.specs.Map.{lookup}
use Rattle.cdl_scopes.proofs.Entries.{at, lookup-insert}
use Rattle.cdl_scopes.proofs.Firsts.{named_again, named_new}
use Rattle.cdl_scopes.specs.Entries.{entry}
use Rattle.cdl_scopes.proofs.members.index_name.Goals as goal

pub returns-then-contains_key : goal.returns-then-contains_key
returns-then-contains_key c = λ names size h x.
    named_again (entry c.args.first.now) names c.args.name.now h (sym c.contains_key.ensures ∙ c.if-contains_key.true) x

pub returns : goal.returns
returns c = λ names size h x.
    named_new (entry c.args.first.now) (entry c.insert.new.self) names c.args.name.now c.args.number h (sym c.contains_key.ensures ∙ c.if-contains_key.false) size
    (λ y. ap (lookup (at y)) c.in_ok-insert.ensures.entries ∙ lookup-insert c.args.first.now.entries c.in_ok-key.key c.args.number y ∙ rw c.in_ok-key.ensures.items refl) x
