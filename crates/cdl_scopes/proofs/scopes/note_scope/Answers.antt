use Rattle.std.proofs.Common.{◌∙◌, sym, ap, refl}
use Rattle.std.specs.Map.{lookup}
use Rattle.cdl_scopes.specs.Entries.{entry}
use Rattle.cdl_scopes.proofs.Entries.{at, lookup-insert}
use Rattle.cdl_scopes.proofs.Passing.{noted_again, noted_new}
use Rattle.cdl_scopes.proofs.scopes.note_scope.Goals as goal

pub returns-then-contains_key : goal.returns-then-contains_key
returns-then-contains_key c = λ x. noted_again (entry c.args.row.now) c.args.name.now c.args.scope (sym c.contains_key.ensures ∙ c.if-contains_key.true) x

pub returns : goal.returns
returns c = λ x.
    noted_new (entry c.args.row.now) (entry c.insert.new.self) c.args.name.now c.args.scope (sym c.contains_key.ensures ∙ c.if-contains_key.false)
    (λ y. ap (lookup (at y)) c.in_ok-insert.ensures.entries ∙ lookup-insert c.args.row.now.entries c.in_ok-key.key c.args.scope y ∙ rw c.in_ok-key.ensures.items refl) x
