-- Holds by their fields.
use Rattle.std.specs.Prelude.{ℤ, Bool, true, false, cond, Option, Some, None}
use Rattle.cdl_kinds.specs.Meaning.Timers.{Held}

-- y and when it changed last, none before the first tick
abbrev pub held_with : Bool → Option ℤ → Option Held
held_with y None = None
held_with y (Some time) = Some (record { on = y; changed = time })

-- y where it may change, or may not
abbrev pub held_as : Bool → Held → ℤ → Bool → Held
held_as may y now u = cond may (cond u (cond y.on y (record { on = true; changed = now })) (cond y.on (record { on = false; changed = now }) y)) y
