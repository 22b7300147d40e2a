-- How many names declarations and statements have: each declared name, each index of a loop, each part of an end of a connect statement,
-- and those in their expressions and arguments.
use Rattle.std.specs.Prelude.{ℕ, suc, ◌+◌, List, map}
use Rattle.cdl_tree.specs.declared.class.Dim.{Dim}
use Rattle.cdl_tree.specs.declared.class.Dim.TheVariants as dim
use Rattle.cdl_tree.specs.declared.class.Item.{Item}
use Rattle.cdl_tree.specs.declared.class.Part.{Part}
use Rattle.cdl_tree.specs.declared.class.Ref.{Ref}
use Rattle.cdl_tree.specs.declared.class.Sub.{Sub}
use Rattle.cdl_tree.specs.declared.class.Sub.TheVariants as sub
use Rattle.cdl_tree.specs.declared.class.Connect.{Connect}
use Rattle.cdl_tree.specs.declared.class.Statement.{Statement, fold-Statement}
use Rattle.cdl_tree.specs.declared.class.Statement.TheOpen.{Statement-F, Loop-F}
use Rattle.cdl_expressions.specs.Names.{total, names_in, names_of_value, names_of_modifier}

-- the names of all of them
abbrev pub names_of : {A : Type 0} → (A → ℕ) → List A → ℕ
names_of f xs = total (map f xs)

abbrev pub names_of_dim : Dim → ℕ
names_of_dim dim.Any = 0
names_of_dim (dim.Size e) = names_in e

abbrev pub names_of_item : Item → ℕ
names_of_item x = suc (names_of names_of_dim x.dims + (names_of names_of_modifier x.args + (names_of_value x.value + names_of_value x.condition)))

abbrev pub names_of_sub : Sub → ℕ
names_of_sub sub.All = 0
names_of_sub (sub.One e) = names_in e
names_of_sub (sub.Range l h) = names_in l + names_in h

abbrev pub names_of_part : Part → ℕ
names_of_part x = suc (names_of names_of_sub x.subs)

abbrev pub names_of_ref : Ref → ℕ
names_of_ref r = names_of names_of_part r.parts

abbrev pub names_of_connect : Connect → ℕ
names_of_connect c = names_of_ref c.left + names_of_ref c.right

abbrev pub statement_names : Statement-F ℕ ℕ → ℕ
statement_names (Statement-F.Connect c) = names_of_connect c
statement_names (Statement-F.Loop l) = l

abbrev pub loop_names : Loop-F ℕ ℕ → ℕ
loop_names l = suc (names_in l.low + (names_in l.high + total l.body))

unfoldable pub names_of_statement : Statement → ℕ
names_of_statement = fold-Statement ℕ ℕ statement_names loop_names
