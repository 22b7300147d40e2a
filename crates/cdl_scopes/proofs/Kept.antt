-- What the table keeps of a class.
use Rattle.std.proofs.Common.{◌≡◌, ◌∙◌, ◌<◌, ◌^◌, ℕ, Bool, List, length, length-append, map, Some, ap, sym, subst, arith}
use Rattle.std.specs.List.{slice_get}
use Rattle.cdl_tree.specs.declared.class.FileTree.{FileTree}
use Rattle.cdl_scopes.specs.declared.gather.Class.{Class}
use Rattle.cdl_scopes.specs.declared.gather.Classes.{Classes}
use Rattle.cdl_scopes.specs.Classes.{Declared, declared, text_of}
use Rattle.cdl_scopes.specs.inner.Gathered.{IsGathered, IsShown}
use Rattle.cdl_scopes.specs.inner.Known.{Known}
use Rattle.cdl_scopes.specs.inner.Kept.{name_count}
use Rattle.cdl_scopes.specs.declared.scopes.Outwards.{Outwards}
use Rattle.cdl_scopes.specs.inner.Outwards.{AreInLibrary, AreOutwards}
use Rattle.std.proofs.lemmas.List.{length-map}
use Rattle.cdl_tree.specs.Parts.{items_of, literals_of}
use Rattle.cdl_scopes.specs.Lookup.{IsFree, item_name, library}
use Rattle.cdl_scopes.proofs.Meanings.{member_counted}
use Rattle.cdl_scopes.proofs.Lists.{zip_at, zip_length}

pub kept_within : (files now : List FileTree) (all : Classes) → IsGathered files all library (declared files) → files ≡ now → (i : ℕ) → i < length (declared now) → i < length all.list.items
kept_within files now all h e i l =
    let size = zip_length (IsShown h.names.paths files) all.list.items (declared files) h.shown in
    let same : length (declared files) ≡ length (declared now) = ap (λ (fs : List FileTree). length (declared fs)) e in
    omega arith

pub kept_at : (files now : List FileTree) (all : Classes) (h : IsGathered files all library (declared files)) → files ≡ now → (i : ℕ) (class : Class) → slice_get all.list.items i ≡ Some class
    → (d : Declared) × (slice_get (declared now) i ≡ Some d) × (IsShown h.names.paths files class d)
kept_at files now all h e i class c =
    let d = zip_at (IsShown h.names.paths files) all.list.items (declared files) i class h.shown c in
    (d.0, sym (ap (λ (fs : List FileTree). slice_get (declared fs) i) e) ∙ d.1, d.2)

pub gathered_as : (files now : List FileTree) (all : Classes) → files ≡ now → IsGathered files all library (declared files) → IsGathered now all library (declared now)
gathered_as files now all e h = let P : List FileTree → Type 0 = λ fs. IsGathered fs all library (declared fs) in subst P e h

pub free_as : (files now : List FileTree) → files ≡ now → IsFree (declared now) → IsFree (declared files)
free_as files now e h = let P : List FileTree → Type 0 = λ fs. IsFree (declared fs) in subst P (sym e) h

pub library_as : (files now : List FileTree) (all : Classes) (flags lent : List Bool) → now ≡ files → lent ≡ flags → AreInLibrary files all flags → AreInLibrary now all lent
library_as files now all flags lent e f h =
    let P : List FileTree → Type 0 = λ fs. AreInLibrary fs all flags in
    let Q : List Bool → Type 0 = λ bs. AreInLibrary now all bs in
    subst Q (sym f) (subst P (sym e) h)

pub few_as : (files now : List FileTree) → now ≡ files → name_count files < 2 ^ 32 → name_count now < 2 ^ 32
few_as files now e h = let P : List FileTree → Type 0 = λ fs. name_count fs < 2 ^ 32 in subst P (sym e) h

pub outwards_as : (files now : List FileTree) (all : Classes) (os lent : List Outwards) → now ≡ files → lent ≡ os → AreOutwards files all os → AreOutwards now all lent
outwards_as files now all os lent e f h =
    let P : List FileTree → Type 0 = λ fs. AreOutwards fs all os in
    let Q : List Outwards → Type 0 = λ xs. AreOutwards now all xs in
    subst Q (sym f) (subst P (sym e) h)

-- the items of a class are few
pub few_items : (files : List FileTree) (i : ℕ) (d : Declared) → name_count files < 2 ^ 32 → slice_get (declared files) i ≡ Some d → length (items_of d.tree) < 2 ^ 32
few_items files i d few e =
    omega (arith, few, member_counted (declared files) i d e, length-append (map item_name (items_of d.tree)) (map text_of (literals_of d.tree)), length-map (items_of d.tree) item_name)

-- the classes are known where the files are lent
pub known_as : (files lent now : List FileTree) (all : Classes) → lent ≡ files → files ≡ now → IsGathered files all library (declared files) → IsFree (declared now) → Known lent all
known_as files lent now all e f h free = record {
  gathered = gathered_as files lent all (sym e) h;
  free = free_as lent now (e ∙ f) free;
}
