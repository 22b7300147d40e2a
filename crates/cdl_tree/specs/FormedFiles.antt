-- What holds of every file that a text has, and of what can be printed: its identifiers and its expressions are formed, and no list
-- that the grammar wants to have an item is empty.
use Rattle.std.specs.Prelude.{Bool, true, ◌&&◌, List, Option, Some, None}
use Rattle.std.specs.List.{list_all}
use Rattle.cdl_tree.specs.declared.name.Name.{Name}
use Rattle.cdl_tree.specs.declared.expr.Expr.{Expr}
use Rattle.cdl_tree.specs.declared.class.Dim.{Dim}
use Rattle.cdl_tree.specs.declared.class.Dim.TheVariants as dim
use Rattle.cdl_tree.specs.declared.class.Modifier.{Modifier, fold-Modifier}
use Rattle.cdl_tree.specs.declared.class.Modifier.TheOpen.{Modifier-F}
use Rattle.cdl_tree.specs.declared.class.Item.{Item}
use Rattle.cdl_tree.specs.declared.class.Part.{Part}
use Rattle.cdl_tree.specs.declared.class.Ref.{Ref}
use Rattle.cdl_tree.specs.declared.class.Sub.{Sub}
use Rattle.cdl_tree.specs.declared.class.Sub.TheVariants as sub
use Rattle.cdl_tree.specs.declared.class.Connect.{Connect}
use Rattle.cdl_tree.specs.declared.class.Statement.{Statement, fold-Statement}
use Rattle.cdl_tree.specs.declared.class.Statement.TheOpen.{Statement-F, Loop-F}
use Rattle.cdl_tree.specs.declared.class.ClassTree.{ClassTree, fold-ClassTree}
use Rattle.cdl_tree.specs.declared.class.ClassTree.TheOpen.{ClassTree-F}
use Rattle.cdl_tree.specs.declared.class.FileTree.{FileTree}
use Rattle.cdl_tree.specs.Proper.{is_some, all_of}
use Rattle.cdl_tree.specs.Formed.{formed_ident, formed_name, is_formed}

-- the expression, where there is one
abbrev pub formed_value : Option Expr → Bool
formed_value None = true
formed_value (Some e) = is_formed e

abbrev pub formed_dim : Dim → Bool
formed_dim dim.Any = true
formed_dim (dim.Size e) = is_formed e

abbrev pub all_inside : Option (List Bool) → Bool
all_inside None = true
all_inside (Some bs) = all_of bs

abbrev pub modifier_step : Modifier-F Bool → Bool
modifier_step m = formed_ident m.name && (all_inside m.args && formed_value m.value)

unfoldable pub formed_modifier : Modifier → Bool
formed_modifier = fold-Modifier Bool modifier_step

abbrev pub formed_item : Item → Bool
formed_item x =
    formed_name x.class
    && (formed_ident x.name && (list_all formed_dim x.dims && (list_all formed_modifier x.args && (formed_value x.value && formed_value x.condition))))

abbrev pub formed_sub : Sub → Bool
formed_sub sub.All = true
formed_sub (sub.One e) = is_formed e
formed_sub (sub.Range l h) = is_formed l && is_formed h

abbrev pub formed_part : Part → Bool
formed_part x = formed_ident x.name && list_all formed_sub x.subs

abbrev pub formed_ref : Ref → Bool
formed_ref r = is_some r.parts && list_all formed_part r.parts

abbrev pub formed_connect : Connect → Bool
formed_connect c = formed_ref c.left && formed_ref c.right

abbrev pub statement_step : Statement-F Bool Bool → Bool
statement_step (Statement-F.Connect c) = formed_connect c
statement_step (Statement-F.Loop l) = l

abbrev pub loop_step : Loop-F Bool Bool → Bool
loop_step l = formed_ident l.index && (is_formed l.low && (is_formed l.high && all_of l.body))

unfoldable pub formed_statement : Statement → Bool
formed_statement = fold-Statement Bool Bool statement_step loop_step

abbrev pub class_step : ClassTree-F Bool → Bool
class_step (ClassTree-F.Block name items statements span) = formed_ident name && (list_all formed_item items && list_all formed_statement statements)
class_step (ClassTree-F.Package name classes constants span) = formed_ident name && (all_of classes && list_all formed_item constants)
class_step (ClassTree-F.Enumeration name literals span) = formed_ident name && (is_some literals && list_all formed_ident literals)

unfoldable pub formed_class : ClassTree → Bool
formed_class = fold-ClassTree Bool class_step

abbrev pub formed_within : Option Name → Bool
formed_within None = true
formed_within (Some n) = formed_name n

unfoldable pub formed_file : FileTree → Bool
formed_file f = formed_within f.within && (is_some f.classes && list_all formed_class f.classes)
