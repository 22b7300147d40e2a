use Rattle.std.proofs.Common.{◌≡◌, ◌∙◌, List, length, ap, arith}
use Rattle.cdl_tree.specs.declared.class.FileTree.{FileTree}
use Rattle.cdl_scopes.specs.Classes.{declared}
use Rattle.cdl_scopes.specs.inner.Gathered.{IsShown}
use Rattle.cdl_scopes.proofs.Lists.{zip_length}
use Rattle.cdl_scopes.proofs.Meanings.{counted}
use Rattle.cdl_scopes.proofs.table.DeclaredClasses.len.Goals as goal

pub returns-clause-count : goal.returns-clause-count
returns-clause-count c =
    let g = c.self.invariant.gathered in
    let size : length c.self.inside.classes.list.items ≡ length (declared c.self.inside.files) = zip_length (IsShown g.names.paths c.self.inside.files) c.self.inside.classes.list.items (declared c.self.inside.files) g.shown in
    let counted : c.len.result ≡ length c.self.inside.classes.list.items = omega arith in
    counted ∙ size ∙ ap (λ (fs : List FileTree). length (declared fs)) c.self.view_is

pub returns-clause-small : goal.returns-clause-small
returns-clause-small c =
    let g = c.self.invariant.gathered in
    let size : length c.self.inside.classes.list.items ≡ length (declared c.self.inside.files) = zip_length (IsShown g.names.paths c.self.inside.files) c.self.inside.classes.list.items (declared c.self.inside.files) g.shown in
    omega (arith, size, counted (declared c.self.inside.files), c.self.invariant.few)
