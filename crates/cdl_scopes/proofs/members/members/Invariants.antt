use Rattle.std.proofs.Common.{◌≡◌, ◌++◌, ℕ, List, map, take}
use Rattle.cdl_scopes.specs.Classes.{text_of}
use Rattle.cdl_scopes.specs.Lookup.{first_named, item_name}
use Rattle.cdl_scopes.specs.Entries.{entry}
use Rattle.cdl_scopes.proofs.members.members.Given as goal

abbrev pub invariant-loop-i : goal.invariant-loop-i
invariant-loop-i l = (x : List ℕ) → entry l.first x ≡ first_named x (map item_name (take l.i l.items))

abbrev pub invariant-loop-i-2 : goal.invariant-loop-i-2
invariant-loop-i-2 l = (x : List ℕ) → entry l.first x ≡ first_named x (map item_name l.items ++ map text_of (take l.i l.literals))
