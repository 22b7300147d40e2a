-- The verdicts of heads and occurrences: the first that applies.
use Rattle.std.specs.Prelude.{ℕ, ℤ, pos, ◌+ℤ◌, ◌-ℤ◌, ◌&&◌, cond, List, [], ◌∷◌, ◌++◌, Option, Some, None, unsigned_abs, int_le}
use Rattle.cdl_source.specs.declared.rules.TheConstants.{NO_SUCH_CONNECTOR, WRONG_SUBSCRIPT, SHAPES_DIFFER}
use Rattle.cdl_tree.specs.declared.class.Connect.{Connect}
use Rattle.cdl_tree.specs.declared.class.Loop.{Loop}
use Rattle.cdl_scopes.specs.Classes.{declared}
use Rattle.cdl_classes.specs.declared.found.ClassId.{ClassId}
use Rattle.cdl_paths.specs.declared.path.Local.{Local}
use Rattle.cdl_paths.specs.declared.path.Step.{Step}
use Rattle.cdl_params.specs.Kept.{Model}
use Rattle.cdl_joins.specs.declared.sides.Owners.{Owners}
use Rattle.cdl_joins.specs.declared.sides.Side.{Side}
use Rattle.cdl_joins.specs.declared.verdicts.Verdict.{Verdict}
use Rattle.cdl_joins.specs.declared.verdicts.Verdict.TheVariants.{Breaks, Dropped, Joins}
use Rattle.cdl_joins.specs.Integers.{integer}
use Rattle.cdl_joins.specs.Ends.{End, end_of}
use Rattle.cdl_joins.specs.Sides.{stands, owners, all_have, side, fit}

-- C42
abbrev pub joined : Option Side → Option Side → Verdict
joined None r = Breaks WRONG_SUBSCRIPT
joined (Some l) None = Breaks WRONG_SUBSCRIPT
joined (Some l) (Some r) = cond (fit l r) (Joins l r) (Breaks SHAPES_DIFFER)

-- C41 of connectors
abbrev pub with_connectors : Model → List Step → List Local → End → End → Owners → Owners → Verdict
with_connectors w p locals l r a b = joined (side w p locals l a) (side w p locals r b)

-- where a selected component lacks the connector, it is dropped
abbrev pub with_owners : Model → List Step → List Local → End → End → Option Owners → Option Owners → Verdict
with_owners w p locals l r None b = Breaks WRONG_SUBSCRIPT
with_owners w p locals l r (Some a) None = Breaks WRONG_SUBSCRIPT
with_owners w p locals l r (Some a) (Some b) =
    cond (all_have w l.connector a.paths && all_have w r.connector b.paths) (with_connectors w p locals l r a b) Dropped

-- C41 of components
abbrev pub with_components : Model → List Step → List Local → End → End → Verdict
with_components w p locals l r = with_owners w p locals l r (owners w p locals l.component) (owners w p locals r.component)

-- where an own connector or a component isn't there, it is dropped
abbrev pub with_ends : Model → List Step → List Local → Option End → Option End → Verdict
with_ends w p locals None r = Breaks NO_SUCH_CONNECTOR
with_ends w p locals (Some l) None = Breaks NO_SUCH_CONNECTOR
with_ends w p locals (Some l) (Some r) =
    cond (stands w p l && stands w p r) (with_components w p locals l r) Dropped

-- the verdict of an occurrence in an instance of a declared block: first C40
abbrev pub verdict : Model → List Step → ClassId → List Local → Connect → Verdict
verdict w p c locals x = with_ends w p locals (end_of (declared w.files) c x.left.parts) (end_of (declared w.files) c x.right.parts)

-- ---- heads

abbrev pub both : Option ℤ → Option ℤ → Option (ℤ × ℤ)
both None b = None
both (Some a) None = None
both (Some a) (Some b) = Some (a, b)

-- the bounds of a loop; none where one isn't a scalar Integer
abbrev pub bounds : Model → List Step → List Local → Loop → Option (ℤ × ℤ)
bounds w p locals l = both (integer w p locals l.low) (integer w p locals l.high)

-- how many turns a loop takes from one number to another
abbrev pub turns : ℤ → ℤ → ℕ
turns a b = cond (int_le a b) (unsigned_abs (b +ℤ pos 1 -ℤ a)) 0

-- the index of a loop has this value
abbrev pub with_local : List Local → Loop → ℤ → List Local
with_local locals l v = locals ++ (record { name = l.index.text; value = v }) ∷ []
