use Rattle.std.proofs.Common.{◌≡◌, ℕ, List, Some, None, sym, ap, subst, ◌∙◌}
use Rattle.std.specs.Prelude.{slice_get}
use Rattle.std.specs.Option.{option_copied}
use Rattle.cdl_scopes.specs.Entries.{entry}
use Rattle.cdl_statements.specs.Complete.{Stands}
use Rattle.cdl_statements.specs.Directory.{Directory}
use Rattle.cdl_joins.specs.Sides.{element}
use Rattle.cdl_statements.proofs.Keys.{number_is, has_number}
use Rattle.cdl_statements.proofs.directory.Directory.number.Goals as goal

pub unreachable-requires : goal.unreachable-requires
unreachable-requires c = has_number c.self.inside.instances.now c.self.inside.elements.now c.self.inside.paths c.self.inside.numbers c.self.invariant c.args.path.now c.args.name.now c.args.indices.now
    (subst (λ (d : Directory). Stands d.names (element c.args.path.now c.args.name.now c.args.indices.now)) (sym c.self.view_is) c.requires)
    (subst (λ (y : List ℕ). entry c.self.inside.numbers y ≡ None) (c.as_slice.ensures.value ∙ c.in_ok-key.ensures) (sym c.get.ensures.value ∙ ap option_copied c.in-None.is))

pub returns : goal.returns
returns c = subst (λ (d : Directory). slice_get d.names c.in-Some.number.now ≡ Some (element c.args.path.now c.args.name.now c.args.indices.now)) c.self.view_is
    (number_is c.self.inside.instances.now c.self.inside.elements.now c.self.inside.paths c.self.inside.numbers c.self.invariant c.args.path.now c.args.name.now c.args.indices.now c.in-Some.number.now
    (subst (λ (d : Directory). Stands d.names (element c.args.path.now c.args.name.now c.args.indices.now)) (sym c.self.view_is) c.requires)
    (subst (λ (y : List ℕ). entry c.self.inside.numbers y ≡ Some c.in-Some.number.now) (c.as_slice.ensures.value ∙ c.in_ok-key.ensures) (sym c.get.ensures.value ∙ ap option_copied c.in-Some.is)))
