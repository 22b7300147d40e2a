-- The parameters of the kinds that break loops fit.
use Rattle.std.proofs.Common.{zero, suc, [], ◌∷◌, refl, arith}
use Rattle.std.specs.Prelude.{pos, false, All}
use Rattle.cdl_kinds.specs.declared.kind.Kind.TheVariants.{LogicalPre, DiscreteUnitDelay}
use Rattle.cdl_values.specs.declared.value.Value.{Value}
use Rattle.cdl_values.specs.declared.value.Value.TheVariants.{Boolean, Real}
use Rattle.cdl_values.specs.declared.value.ValueType.{ValueType}
use Rattle.cdl_values.specs.declared.value.ValueType.TheVariants.{Boolean as BooleanType, Real as RealType}
use Rattle.cdl_kinds.specs.Conditions.{Fits}
use Rattle.cdl_values.specs.Values.{IsOf}

one_each : (t : ValueType) (x : Value) → IsOf t x → All (IsOf t) (x ∷ [])
one_each t x h zero d l = h
one_each t x h (suc k) d l = absurd (omega arith)

pub pre_fits : Fits LogicalPre (record { value_type = BooleanType; shape = []; items = Boolean false ∷ [] } ∷ [])
pre_fits = record {
  rows = (record { value_type = refl; shape = refl; array = record { sizes = omega arith; count = refl; each = one_each BooleanType (Boolean false) tt } }, tt);
}

pub unit_delay_fits : Fits DiscreteUnitDelay (record { value_type = RealType; shape = []; items = Real (pos 1) ∷ [] } ∷ record { value_type = RealType; shape = []; items = Real (pos 0) ∷ [] } ∷ [])
unit_delay_fits = record {
  rows = (
    record { value_type = refl; shape = refl; array = record { sizes = omega arith; count = refl; each = one_each RealType (Real (pos 1)) (omega arith) } },
    (record { value_type = refl; shape = refl; array = record { sizes = omega arith; count = refl; each = one_each RealType (Real (pos 0)) (omega arith) } }, tt),
  );
}
