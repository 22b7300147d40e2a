-- Places in order: by file, then by byte.
use Rattle.std.specs.Prelude.{◌≡◌, ◌⊎◌, Bool, ◌&&◌, ◌||◌, ◌==◌, nat_lt, nat_le, List, [], ◌∷◌, if◌then◌else◌, Option, Some, None}
use Rattle.cdl_source.specs.declared.place.Place.{Place}

abbrev pub not_after : Place → Place → Bool
not_after p q = nat_lt p.file q.file || ((p.file == q.file) && nat_le p.byte q.byte)

-- of two places the one that stands first, and the one that stands last
abbrev pub soonest : Place → Place → Place
soonest p q = if not_after p q then p else q

abbrev pub latest : Place → Place → Place
latest p q = if not_after p q then q else p

abbrev pub sooner : Option Place → Place → Option Place
sooner None q = Some q
sooner (Some p) q = Some (soonest p q)

-- the first of these places, where one is known already
abbrev pub least : Option Place → List Place → Option Place
least first [] = first
least first (p ∷ ps) = least (sooner first p) ps

abbrev pub In : Place → List Place → Type 0
In p [] = ⊥
In p (q ∷ qs) = (p ≡ q) ⊎ In p qs
