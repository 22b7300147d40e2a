-- Looking up a name in the files of a store, as they were put and as the store tells them.
use Rattle.std.proofs.Common.{◌≡◌, ℕ, List, [], ◌∷◌, Some, ◌∙◌, ap}
use Rattle.std.specs.Prelude.{if◌then◌else◌}
use Rattle.std.specs.Cmp.Lexicographic.{slice_cmp}
use Rattle.std.specs.FinMap.{get, get-empty, get-insert}
use Rattle.std.specs.Ordering.{nat_cmp}
use Rattle.std.specs.Str.{bytes_eq}
use Rattle.std.proofs.lemmas.Cmp.{nat_list_cmp_total}
use Rattle.std.proofs.lemmas.Map.Text.{is_eq-slice_cmp}
use Rattle.cdl_source.specs.inner.Stored.{listed, first_of}
use Rattle.cdl_source.specs.declared.mem_files.Named.{Named}

-- what a store tells of a name is what was put last
pub get-listed : (fs : List Named) (name : List ℕ) → get (listed fs) name ≡ first_of fs name
get-listed [] name = get-empty (slice_cmp nat_cmp) name
get-listed (f ∷ fs) name =
    get-insert nat_list_cmp_total (listed fs) f.name f.bytes name
    ∙ ap (λ same. if same then Some f.bytes else get (listed fs) name) (is_eq-slice_cmp name f.name)
    ∙ ap (λ others. if bytes_eq name f.name then Some f.bytes else others) (get-listed fs name)
