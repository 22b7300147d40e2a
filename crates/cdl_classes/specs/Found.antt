-- What is found, as callers see it.
use Rattle.std.specs.Prelude.{◌+◌, ℕ, true, false, ◌&&◌, List, [], ◌∷◌, ◌++◌, codes, if◌then◌else◌, Option, Some, None}
use Rattle.std.specs.Str.{bytes_eq}
use Rattle.cdl_kinds.specs.declared.kind.Kind.{Kind}
use Rattle.cdl_kinds.specs.Names.{kinds, found}
use Rattle.cdl_values.specs.declared.value.ValueType.TheVariants as type
use Rattle.cdl_classes.specs.declared.found.Found.{Found}
use Rattle.cdl_classes.specs.declared.found.Found.TheVariants as it
use Rattle.cdl_classes.specs.declared.found.ValueFound.{ValueFound}
use Rattle.cdl_classes.specs.declared.found.ValueFound.TheVariants as value
use Rattle.cdl_scopes.specs.Classes.{Full}
use Rattle.cdl_scopes.specs.Lookup.{Entity, a_class, a_package, in_cdl, in_modelica, a_type, a_constant, a_literal}

-- identifiers, each with a point before it
abbrev pub pointed : Full → List ℕ
pointed [] = []
pointed (x ∷ rest) = 46 ∷ (x ++ pointed rest)

-- identifiers with points between them
abbrev pub joined : Full → List ℕ
joined [] = []
joined (x ∷ rest) = x ++ pointed rest

abbrev pub connector_named : List ℕ → Option Found
connector_named x =
    if bytes_eq x (codes "BooleanInput") then Some (it.Connector type.Boolean true)
    else (if bytes_eq x (codes "BooleanOutput") then Some (it.Connector type.Boolean false)
    else (if bytes_eq x (codes "IntegerInput") then Some (it.Connector type.Integer true)
    else (if bytes_eq x (codes "IntegerOutput") then Some (it.Connector type.Integer false)
    else (if bytes_eq x (codes "RealInput") then Some (it.Connector type.Real true)
    else (if bytes_eq x (codes "RealOutput") then Some (it.Connector type.Real false) else None)))))

-- the six connectors stand in `Interfaces`
abbrev pub connector_at : Full → Option Found
connector_at [] = None
connector_at (i ∷ []) = None
connector_at (i ∷ x ∷ []) = if bytes_eq i (codes "Interfaces") then connector_named x else None
connector_at (i ∷ x ∷ y ∷ rest) = None

abbrev pub or_kind : Option Found → Option Kind → Found
or_kind (Some f) k = f
or_kind None (Some k) = it.Kind k
or_kind None None = it.Unsupported

-- a name below `Buildings.Controls.OBC.CDL`: a connector, a kind, or nothing that is supported
abbrev pub cdl_found : Full → Found
cdl_found below = or_kind (connector_at below) (found (joined below) kinds)

-- a name below `Modelica`: `Units.SI.X` and `SIunits.X` are Real, for any X
abbrev pub modelica_found : Full → Found
modelica_found [] = it.Unsupported
modelica_found (a ∷ []) = it.Unsupported
modelica_found (a ∷ b ∷ []) = if bytes_eq a (codes "SIunits") then it.Scalar type.Real else it.Unsupported
modelica_found (a ∷ b ∷ c ∷ []) = if bytes_eq a (codes "Units") && bytes_eq b (codes "SI") then it.Scalar type.Real else it.Unsupported
modelica_found (a ∷ b ∷ c ∷ d ∷ rest) = it.Unsupported

abbrev pub found_of : Entity → Option Found
found_of (a_class i) = Some (it.Class (record { index = i }))
found_of (a_package q) = Some it.Package
found_of (in_cdl below) = Some (cdl_found below)
found_of (in_modelica below) = Some (modelica_found below)
found_of (a_type t) = Some (it.Scalar t)
found_of (a_constant p i) = None
found_of (a_literal c k) = None

-- a value name is found only where it ends at a constant or a literal; literals are counted from 1
abbrev pub value_of : Entity → Option ValueFound
value_of (a_class i) = None
value_of (a_package q) = None
value_of (in_cdl below) = None
value_of (in_modelica below) = None
value_of (a_type t) = None
value_of (a_constant p i) = Some (value.Constant (record { index = p }) i)
value_of (a_literal c k) = Some (value.Literal (record { index = c }) (k + 1))
