-- The files that a store in memory keeps, latest first.
use Rattle.std.specs.Prelude.{ℕ, List, [], ◌∷◌, drop, Option, Some, None, if◌then◌else◌, slice_get}
use Rattle.std.specs.FinMap.{empty, insert}
use Rattle.std.specs.Option.{option_map_or}
use Rattle.std.specs.Str.{bytes_eq}
use Rattle.cdl_source.specs.Memory.{Folder}
use Rattle.cdl_source.specs.Outside.{Contents}
use Rattle.cdl_source.specs.declared.mem_files.Named.{Named}

-- the files as a store tells them
abbrev pub listed : List Named → Folder
listed [] = empty
listed (f ∷ fs) = insert (listed fs) f.name f.bytes

-- the bytes of the first file of each name
abbrev pub first_of : List Named → Contents
first_of [] name = None
first_of (f ∷ fs) name = if bytes_eq name f.name then Some f.bytes else first_of fs name

-- what is left of the file that was begun last
abbrev pub rest_of : List Named → Option ℕ → ℕ → List ℕ
rest_of files None at = []
rest_of files (Some i) at = option_map_or (λ f. drop at f.bytes) (slice_get files i) []
