-- What gates and switches mean: the outputs rest on the inputs of the same tick alone.
use Rattle.std.specs.Prelude.{Bool, cond, not, ◌&&◌, ◌||◌, [], ◌∷◌, Some}
use Rattle.std.specs.List.{list_all, list_any}
use Rattle.cdl_values.specs.History.{Meaning, word, is_on, flag}

abbrev pub both : Bool → Bool → Bool
both a b = a && b

abbrev pub either : Bool → Bool → Bool
either a b = a || b

abbrev pub not_both : Bool → Bool → Bool
not_both a b = not (a && b)

abbrev pub neither : Bool → Bool → Bool
neither a b = not (a || b)

abbrev pub just_one : Bool → Bool → Bool
just_one a b = cond a (not b) b

-- a function of two Booleans
abbrev pub gate : (Bool → Bool → Bool) → Meaning
gate f h now x = flag (f (is_on (word x 0)) (is_on (word x 1)))

abbrev pub negation : Meaning
negation h now x = flag (not (is_on (word x 0)))

-- all of the inputs
abbrev pub all_on : Meaning
all_on h now x = flag (list_all is_on x)

-- at least one of the inputs
abbrev pub any_on : Meaning
any_on h now x = flag (list_any is_on x)

-- u1 if u2, else u3
abbrev pub switch : Meaning
switch h now x = Some (cond (is_on (word x 1)) (word x 0) (word x 2) ∷ [])
