-- What blocks mean that look at Booleans and at those before.
use Rattle.std.specs.Prelude.{Bool, true, false, cond, not, ◌&&◌, [], ◌∷◌, Some}
use Rattle.cdl_values.specs.History.{History, Meaning, tick, word, bit, is_on, flag, before, starts}
use Rattle.cdl_kinds.specs.Meaning.Gates.{just_one}

abbrev pub is_edge : Bool → Bool → Bool
is_edge u p = u && not p

abbrev pub is_falling : Bool → Bool → Bool
is_falling u p = p && not u

abbrev pub is_change : Bool → Bool → Bool
is_change u p = just_one u p

-- a function of u and of the u before, or of this Boolean at the first tick
abbrev pub edge : (Bool → Bool → Bool) → Bool → Meaning
edge f start h now x = flag (f (is_on (word x 0)) (is_on (before (bit start) 0 h)))

-- the u before, or this Boolean at the first tick
abbrev pub pre : Bool → Meaning
pre start h now x = Some (before (bit start) 0 h ∷ [])

-- y of a Latch at the latest tick, false before any: false if clr, else true if u starts, else as before
abbrev pub latched : History → Bool
latched [] = false
latched (t ∷ h) = cond (is_on (word t.ins 1)) false (cond (starts h t.ins 0) true (latched h))

abbrev pub latch : Meaning
latch h now x = flag (latched (tick now x ∷ h))

-- y of a Toggle at the latest tick, false before any: false if clr, else the other value if u starts, else as before
abbrev pub toggled : History → Bool
toggled [] = false
toggled (t ∷ h) = cond (is_on (word t.ins 1)) false (cond (starts h t.ins 0) (not (toggled h)) (toggled h))

abbrev pub toggle : Meaning
toggle h now x = flag (toggled (tick now x ∷ h))
