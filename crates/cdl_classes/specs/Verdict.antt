-- Which rule on classes is broken first.
use Rattle.std.specs.Prelude.{◌≡◌, ◌⊎◌, ℕ, true, List, []}
use Rattle.cdl_source.specs.declared.place.Place.{Place}
use Rattle.cdl_source.specs.declared.rules.TheConstants.{DECLARED_TWICE, NAME_NOT_FREE, NAME_NOT_FOUND, NOT_SUPPORTED}
use Rattle.cdl_tree.specs.declared.class.FileTree.{FileTree}
use Rattle.cdl_classes.specs.declared.table.ClassFault.{ClassFault}
use Rattle.cdl_classes.specs.declared.table.ClassFault.TheVariants.{Rule, OutOfMemory}
use Rattle.cdl_scopes.specs.Classes.{Declared, declared}
use Rattle.cdl_classes.specs.Places.{not_after, In}
use Rattle.cdl_classes.specs.Rules.{broken_10, broken_11, broken_12, broken_13}

-- the first of these places, by file, then by byte
pub record IsFirst (places : List Place) (p : Place) : Type 0 where
  pub is_one : In p places
  pub first : (q : Place) → In q places → not_after p q ≡ true

-- none of the rules is broken
pub record IsUnbroken (ds : List Declared) : Type 0 where
  pub twice : broken_10 ds ≡ []
  pub taken : broken_11 ds ≡ []
  pub missing : broken_12 ds ≡ []
  pub unsupported : broken_13 ds ≡ []

-- this rule is broken first, at this place: a rule counts only where none of a lower number is broken
abbrev pub BreaksFirst : List Declared → ℕ → Place → Type 0
BreaksFirst ds rule p =
    ((rule ≡ DECLARED_TWICE) × IsFirst (broken_10 ds) p)
    ⊎ (((rule ≡ NAME_NOT_FREE) × (broken_10 ds ≡ []) × IsFirst (broken_11 ds) p)
    ⊎ (((rule ≡ NAME_NOT_FOUND) × (broken_10 ds ≡ []) × (broken_11 ds ≡ []) × IsFirst (broken_12 ds) p)
    ⊎ ((rule ≡ NOT_SUPPORTED) × (broken_10 ds ≡ []) × (broken_11 ds ≡ []) × (broken_12 ds ≡ []) × IsFirst (broken_13 ds) p)))

abbrev pub Refuses : List FileTree → ClassFault → Type 0
Refuses files (Rule rule place) = BreaksFirst (declared files) rule place
Refuses files OutOfMemory = Unit {0}
