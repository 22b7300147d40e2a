-- What names and expressions are worth at a place, which has so many links left.
use Rattle.std.specs.Prelude.{ℕ, ◌+◌, ◌*◌, List, length}
use Rattle.cdl_source.specs.declared.limits.TheConstants.{MOST_LINKS}
use Rattle.cdl_values.specs.declared.value.Array.{Array}
use Rattle.cdl_tree.specs.declared.name.Name.{Name}
use Rattle.cdl_tree.specs.declared.expr.Expr.{Expr}
use Rattle.cdl_tree.specs.declared.class.FileTree.{FileTree}
use Rattle.cdl_scopes.specs.Classes.{declared}
use Rattle.cdl_array.specs.Outcomes.{Outcome}
use Rattle.cdl_paths.specs.declared.path.Local.{Local}
use Rattle.cdl_worth.specs.Expressions.{eval}
use Rattle.cdl_worth.specs.Values.{Link, StepSizes, link, sizes, names_at}
use Rattle.cdl_eval.specs.declared.place.Place.{Place}

-- shorter places first, then fewer links
unfoldable pub weight : ℕ → ℕ → ℕ
weight links steps = (MOST_LINKS + 1) * steps + links

abbrev pub weight_of : Place → ℕ
weight_of p = weight p.links (length p.steps.now)

-- what links lead to
abbrev pub link_of : List FileTree → Place → Link
link_of files p = link (declared files) p.links

abbrev pub sizes_of_steps : List FileTree → Place → StepSizes
sizes_of_steps files p = sizes (declared files) p.start.index p.steps.now

abbrev pub names_of : List FileTree → Place → List Local → Name → Outcome Array
names_of files p locals = names_at (declared files) p.links p.start.index p.steps.now locals

abbrev pub worth_at : List FileTree → Place → List Local → Expr → Outcome Array
worth_at files p locals e = eval (names_of files p locals) e
