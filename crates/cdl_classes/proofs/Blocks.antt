-- The declared block of a full name.
use Rattle.std.proofs.Common.{◌≡◌, ◌∙◌, ℕ, List, Some, None, ap, sym, refl}
use Rattle.std.specs.Prelude.{option_map}
use Rattle.std.specs.List.{slice_get}
use Rattle.cdl_tree.specs.declared.class.ClassTree.{ClassTree}
use Rattle.cdl_scopes.specs.declared.lookup.ClassSort.{ClassSort}
use Rattle.cdl_scopes.specs.Classes.{Full, Declared}
use Rattle.cdl_scopes.specs.Lookup.{first_of, sort_of}
use Rattle.cdl_classes.specs.Table.{block_of, if_block}
use Rattle.cdl_classes.proofs.Items.{mapped_some}

pub no_block : (ds : List Declared) (q : Full) → first_of q ds ≡ None → block_of ds q ≡ None
no_block ds q e = rw e refl

pub block_is : (ds : List Declared) (q : Full) (i : ℕ) (tree : ClassTree) (s : ClassSort) → first_of q ds ≡ Some i → option_map (λ (d : Declared). d.tree) (slice_get ds i) ≡ Some tree → s ≡ sort_of tree
    → block_of ds q ≡ if_block i s
block_is ds q i tree s f t k =
    let d = mapped_some (λ (x : Declared). x.tree) (slice_get ds i) tree t in
    let sort_is : sort_of (d.0).tree ≡ s = ap sort_of d.2 ∙ sym k in
    rw (f, d.1, sort_is) refl
