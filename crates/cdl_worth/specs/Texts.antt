-- Texts: of values, and of units.
use Rattle.std.specs.Prelude.{◌≤◌, Bool, List, length, IsUtf8, All}
use Rattle.std.specs.List.{list_all}
use Rattle.cdl_source.specs.declared.limits.TheConstants.{LONGEST_UNIT}
use Rattle.cdl_values.specs.declared.value.Array.{Array}
use Rattle.cdl_values.specs.declared.value.Value.{Value}
use Rattle.cdl_values.specs.declared.value.Value.TheVariants as value
use Rattle.cdl_tree.specs.FormedFiles.{formed_class}
use Rattle.cdl_scopes.specs.Classes.{Declared}

-- a String is UTF-8
abbrev pub IsText : Value → Type 0
IsText (value.Str t) = IsUtf8 t
IsText (value.Boolean b) = Unit {0}
IsText (value.Integer z) = Unit {0}
IsText (value.Real q) = Unit {0}
IsText (value.Enumeration c o) = Unit {0}

-- each String of an array is
abbrev pub HasTexts : Array → Type 0
HasTexts a = All IsText a.items

-- as a unit a String also has at most 64 bytes
abbrev pub IsUnit : Value → Type 0
IsUnit (value.Str t) = IsUtf8 t × (length t ≤ LONGEST_UNIT)
IsUnit (value.Boolean b) = Unit {0}
IsUnit (value.Integer z) = Unit {0}
IsUnit (value.Real q) = Unit {0}
IsUnit (value.Enumeration c o) = Unit {0}

abbrev pub HasUnits : Array → Type 0
HasUnits a = All IsUnit a.items

-- declared classes that are formed, as those of texts are
abbrev pub are_formed : List Declared → Bool
are_formed ds = list_all (λ (d : Declared). formed_class d.tree) ds
