-- The class at a place of the list.
use Rattle.std.proofs.Common.{◌≡◌, ◌∙◌, ◌<◌, ℕ, List, length, get_or, Some, sym, ap, refl}
use Rattle.std.specs.List.{slice_get}
use Rattle.std.proofs.lemmas.Option.{slice_get_read}
use Rattle.cdl_tree.specs.declared.class.FileTree.{FileTree}
use Rattle.cdl_scopes.specs.declared.gather.Class.{Class}
use Rattle.cdl_scopes.specs.declared.gather.Classes.{Classes}
use Rattle.cdl_scopes.specs.Classes.{Declared, declared}
use Rattle.cdl_scopes.specs.Lookup.{library}
use Rattle.cdl_scopes.specs.inner.Gathered.{IsGathered, IsShown}
use Rattle.cdl_scopes.proofs.Lists.{zip_at}

pub listed_at : (files : List FileTree) (all : Classes) (h : IsGathered files all library (declared files)) (items : List Class) (i : ℕ) (class : Class) → items ≡ all.list.items → i < length items → class ≡ get_or items i class
    → (d : Declared) × (slice_get (declared files) i ≡ Some d) × (IsShown h.names.paths files class d)
listed_at files all h items i class e l r =
    let here : slice_get items i ≡ Some class = slice_get_read items _ i class refl l r in
    zip_at (IsShown h.names.paths files) all.list.items (declared files) i class h.shown (ap (λ (cs : List Class). slice_get cs i) (sym e) ∙ here)
