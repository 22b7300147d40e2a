-- The names of the package behind `within`.
use Rattle.std.proofs.lemmas.Option.{same_Some}
use Rattle.std.proofs.Common.{◌≡◌, ◌<◌, ◌+◌, ℕ, zero, suc, true, false, List, [], ◌∷◌, ◌++◌, map, take, get_or, length, Some, None, refl, sym, ◌∙◌, ap, subst, inl, inr, arith, append_assoc, append-nil, nat_eq, codes, HashMap, BuildHasherDefault, FoldHasher}
use Rattle.std.specs.List.{slice_get, list_any, list_all, AllZip}
use Rattle.std.specs.Prelude.{◌==◌}
use Rattle.std.proofs.lemmas.Bool.{false≢true, and_from, and_parts, or_cases, or_left}
use Rattle.std.proofs.lemmas.Bool.Decides.{eqb_tells}
use Rattle.std.proofs.lemmas.List.{map-append, take_more, length-take-le}
use Rattle.indexmap.specs.IndexMap.{get}
use Rattle.cdl_tree.specs.declared.class.ClassTree.{ClassTree}
use Rattle.cdl_tree.specs.declared.class.FileTree.{FileTree}
use Rattle.cdl_scopes.specs.declared.names.Node.{Node}
use Rattle.cdl_scopes.specs.declared.gather.Classes.{Classes}
use Rattle.cdl_scopes.specs.Classes.{Full, Declared, full, is_front, declared, declared_from, declared_in, declared_all, name_of, within_of}
use Rattle.cdl_scopes.specs.Lookup.{library, cdl_name, modelica_name}
use Rattle.cdl_scopes.specs.declared.gather.Class.{Class}
use Rattle.cdl_scopes.specs.inner.Numbered.{Numbers, Names, Covers, Keeps, Grown, WithinAdded}
use Rattle.cdl_scopes.specs.inner.Gathered.{IsShown, IsGathered, After, FileSoFar, tree_at}
use Rattle.cdl_scopes.proofs.Fronts.{front_self, front_trans, front_append, any_trans, any_left, any_right, any_split}
use Rattle.cdl_scopes.proofs.Adding.{first_kept, still_shown, grown_to}
use Rattle.cdl_scopes.proofs.Listed.{declared_in-is, declared_all-push}

-- what stands at the front of one of these stands at the front of one of those
abbrev pub Inside : List Full → List Full → Type 0
Inside xs ys = (q : Full) → list_any (is_front q) xs ≡ true → list_any (is_front q) ys ≡ true

pub inside_all : (xs ys : List Full) → list_all (λ w. list_any (is_front w) ys) xs ≡ true → Inside xs ys
inside_all [] ys h q i = absurd (false≢true i)
inside_all (x ∷ xs) ys h q i =
    let hs = and_parts (list_any (is_front x) ys) (list_all (λ w. list_any (is_front w) ys) xs) h in
    elim (or_cases (is_front q x) (list_any (is_front q) xs) i) [
      | inl here ↦ any_trans q x ys here hs.0
      | inr later ↦ inside_all xs ys hs.1 q later
    ]

pub recover : (paths xs ys : List Full) → Inside xs ys → Inside ys xs → Covers paths xs → Covers paths ys
recover paths xs ys there back c = record {
  only = λ n q at. there q (c.only n q at);
  each = λ q h. c.each q (back q h);
}

pub within_none : (nodes : List Node) (whole : List Full) (h : Names nodes whole) → WithinAdded h.paths nodes whole 0 []
within_none nodes whole h = record {
  more = [];
  fronts = refl;
  grown = record {
    paths = h.paths;
    numbers = h.numbers;
    covers = subst (λ (w : List Full). Covers h.paths w) (sym (append-nil whole)) h.covers;
  };
  keeps = λ n q at. at;
  at = h.numbers.top;
}

all_fronts : (ps : List Full) (q : Full) (x : List ℕ) → list_all (λ p. is_front p q) ps ≡ true → list_all (λ p. is_front p (q ++ x ∷ [])) (ps ++ (q ++ x ∷ []) ∷ []) ≡ true
all_fronts [] q x h = and_from _ true (front_self (q ++ x ∷ [])) refl
all_fronts (p ∷ ps) q x h =
    let hs = and_parts (is_front p q) (list_all (λ r. is_front r q) ps) h in
    and_from (is_front p (q ++ x ∷ [])) (list_all (λ r. is_front r (q ++ x ∷ [])) (ps ++ (q ++ x ∷ []) ∷ []))
    (front_trans p q (q ++ x ∷ []) hs.0 (front_append q (x ∷ []))) (all_fronts ps q x hs.1)

pub within_more : (old : List Full) (nodes news : List Node) (whole : List Full) (n m : ℕ) (q : Full) (x : List ℕ) (a : WithinAdded old nodes whole n q)
    → Grown a.grown.paths news ((whole ++ a.more) ++ (q ++ x ∷ []) ∷ []) m (q ++ x ∷ []) → WithinAdded old news whole m (q ++ x ∷ [])
within_more old nodes news whole n m q x a g = record {
  more = a.more ++ (q ++ x ∷ []) ∷ [];
  fronts = all_fronts a.more q x a.fronts;
  grown = record {
    paths = g.names.paths;
    numbers = g.names.numbers;
    covers = subst (λ (w : List Full). Covers g.names.paths w) (append_assoc whole a.more ((q ++ x ∷ []) ∷ [])) g.names.covers;
  };
  keeps = λ k p at. g.keeps k p (a.keeps k p at);
  at = g.at;
}

same_get : (old all : Classes) → all.by_name ≡ old.by_name → (n : ℕ) → get nat_eq all.by_name n ≡ get nat_eq old.by_name n
same_get old all e n = rw e refl

-- the names grow, and the classes stay
pub regathered : (files : List FileTree) (old all : Classes) (extra news : List Full) (ds : List Declared) (h : IsGathered files old extra ds) (whole : List Full) (names : Names all.nodes.items whole)
    → Keeps h.names.paths names.paths → Inside whole (news ++ map full ds) → Inside (news ++ map full ds) whole
    → all.list.items ≡ old.list.items → all.by_name ≡ old.by_name → all.cdl ≡ old.cdl → all.modelica ≡ old.modelica → After files h.names.paths all news ds
regathered files old all extra news ds h whole names keeps there back list by_name cdl modelica = record {
  gathered = record {
    names = record {
      paths = names.paths;
      numbers = names.numbers;
      covers = recover names.paths whole (news ++ map full ds) there back names.covers;
    };
    shown = subst (λ (cs : List Class). AllZip (IsShown names.paths files) cs ds) (sym list) (still_shown files h.names.paths names.paths old.list.items ds keeps h.shown);
    cdl = ap (λ i. slice_get names.paths i) cdl ∙ keeps old.cdl cdl_name h.cdl;
    modelica = ap (λ i. slice_get names.paths i) modelica ∙ keeps old.modelica modelica_name h.modelica;
    first = λ n q at. same_get old all by_name n ∙ first_kept files old extra ds h all.nodes.items whole names.paths names refl keeps n q at;
    within = λ n le.
        let longer = grown_to (length h.names.paths) h.names.paths names.paths refl keeps in
        same_get old all by_name n ∙ h.within n (omega (arith, h.names.numbers.size, names.numbers.size));
  };
  keeps = keeps;
}

-- the first turn: no class yet
pub file_begun : (files : List FileTree) (old all : Classes) (ds : List Declared) (h : IsGathered files old library ds) (n : ℕ) (w : Full) → WithinAdded h.names.paths all.nodes.items (library ++ map full ds) n w
    → all.list.items ≡ old.list.items → all.by_name ≡ old.by_name → all.cdl ≡ old.cdl → all.modelica ≡ old.modelica → FileSoFar files h.names.paths all ds [] n w
unfolding regathered
file_begun files old all ds h n w a list by_name cdl modelica =
    let whole : List Full = (library ++ map full ds) ++ a.more in
    let news : List Full = library ++ a.more in
    let there : Inside whole (news ++ map full ds) = λ q i.
    elim (any_split (is_front q) (library ++ map full ds) a.more i) [
      | inl first ↦
          elim (any_split (is_front q) library (map full ds) first) [
            | inl l ↦ any_left (is_front q) news (map full ds) (any_left (is_front q) library a.more l)
            | inr d ↦ any_right (is_front q) news (map full ds) d
          ]
      | inr m ↦ any_left (is_front q) news (map full ds) (any_right (is_front q) library a.more m)
    ] in
    let back : Inside (news ++ map full ds) whole = λ q i.
    elim (any_split (is_front q) news (map full ds) i) [
      | inl first ↦
          elim (any_split (is_front q) library a.more first) [
            | inl l ↦ any_left (is_front q) (library ++ map full ds) a.more (any_left (is_front q) library (map full ds) l)
            | inr m ↦ any_right (is_front q) (library ++ map full ds) a.more m
          ]
      | inr d ↦ any_left (is_front q) (library ++ map full ds) a.more (any_right (is_front q) library (map full ds) d)
    ] in
    let after = regathered files old all library news ds h whole a.grown a.keeps there back list by_name cdl modelica in
    let P : List Declared → Type 0 = λ xs. (b : After files h.names.paths all news xs) × (slice_get b.gathered.names.paths n ≡ Some w) in
    let both_are : P (ds ++ []) = subst P (sym (append-nil ds)) (after, a.at) in
    record {
      more = a.more;
      fronts = a.fronts;
      after = both_are.0;
      at = both_are.1;
    }

-- a further class
pub file_more : (files : List FileTree) (old : List Full) (all news : Classes) (ds es xs : List Declared) (n : ℕ) (w : Full) (a : FileSoFar files old all ds es n w)
    → After files a.after.gathered.names.paths news (library ++ a.more) ((ds ++ es) ++ xs) → FileSoFar files old news ds (es ++ xs) n w
file_more files old all news ds es xs n w a b =
    let P : List Declared → Type 0 = λ ys. (c : After files old news (library ++ a.more) ys) × (slice_get c.gathered.names.paths n ≡ Some w) in
    let c : P (ds ++ (es ++ xs)) = subst P (append_assoc ds es xs) ((record { gathered = b.gathered; keeps = λ k p at. b.keeps k p (a.after.keeps k p at) }, b.keeps n w a.at)) in
    record {
      more = a.more;
      fronts = a.fronts;
      after = c.0;
      at = c.1;
    }

is_empty_or : (cs : List ClassTree) → 0 < length cs → (c : ClassTree) × (more : List ClassTree) × (cs ≡ c ∷ more)
is_empty_or [] h = absurd (omega arith)
is_empty_or (c ∷ cs) h = (c, cs, refl)

-- the fronts of the package are those of its first class, too
first_front : (file : ℕ) (w : Full) (c : ClassTree) (more : List ClassTree) → list_any (is_front w) (map full (declared_all file w (c ∷ more))) ≡ true
first_front file w c more =
    let P : List Declared → Type 0 = λ xs. list_any (is_front w) (map full (xs ++ declared_all file w more)) ≡ true in
    subst P (sym (declared_in-is file w c)) (or_left (is_front w (w ++ name_of c ∷ [])) _ (front_append w (name_of c ∷ [])))

within_fulls : (more fulls : List Full) (w : Full) → list_any (is_front w) fulls ≡ true → list_all (λ p. is_front p w) more ≡ true → (q : Full) → list_any (is_front q) more ≡ true → list_any (is_front q) fulls ≡ true
within_fulls [] fulls w h f q i = absurd (false≢true i)
within_fulls (m ∷ more) fulls w h f q i =
    let fs = and_parts (is_front m w) (list_all (λ p. is_front p w) more) f in
    elim (or_cases (is_front q m) (list_any (is_front q) more) i) [
      | inl here ↦ any_trans q w fulls (front_trans q m w here fs.0) h
      | inr later ↦ within_fulls more fulls w h fs.1 q later
    ]

file_done_of : (files : List FileTree) (old : List Full) (all : Classes) (ds es : List Declared) (n : ℕ) (w : Full) → list_any (is_front w) (map full es) ≡ true
    → FileSoFar files old all ds es n w → After files old all library (ds ++ es)
file_done_of files old all ds es n w front a =
    let g = a.after.gathered in
    let fulls : List Full = map full (ds ++ es) in
    let named : list_any (is_front w) fulls ≡ true =
    subst (λ (xs : List Full). list_any (is_front w) xs ≡ true) (sym (map-append full ds es)) (any_right (is_front w) (map full ds) (map full es) front) in
    let there : Inside ((library ++ a.more) ++ fulls) (library ++ fulls) = λ q i.
    elim (any_split (is_front q) (library ++ a.more) fulls i) [
      | inl first ↦
          elim (any_split (is_front q) library a.more first) [
            | inl l ↦ any_left (is_front q) library fulls l
            | inr m ↦ any_right (is_front q) library fulls (within_fulls a.more fulls w named a.fronts q m)
          ]
      | inr d ↦ any_right (is_front q) library fulls d
    ] in
    let back : Inside (library ++ fulls) ((library ++ a.more) ++ fulls) = λ q i.
    elim (any_split (is_front q) library fulls i) [
      | inl l ↦ any_left (is_front q) (library ++ a.more) fulls (any_left (is_front q) library a.more l)
      | inr d ↦ any_right (is_front q) (library ++ a.more) fulls d
    ] in
    record {
      gathered = record {
        names = record {
          paths = g.names.paths;
          numbers = g.names.numbers;
          covers = recover g.names.paths ((library ++ a.more) ++ fulls) (library ++ fulls) there back g.names.covers;
        };
        shown = g.shown;
        cdl = g.cdl;
        modelica = g.modelica;
        first = g.first;
        within = g.within;
      };
      keeps = a.after.keeps;
    }

pub file_done : (files : List FileTree) (old : List Full) (all : Classes) (ds : List Declared) (file n : ℕ) (w : Full) (cs : List ClassTree) → 0 < length cs
    → FileSoFar files old all ds (declared_all file w cs) n w → After files old all library (ds ++ declared_all file w cs)
file_done files old all ds file n w cs h a =
    let it = is_empty_or cs h in
    let P : List ClassTree → Type 0 = λ xs. FileSoFar files old all ds (declared_all file w xs) n w in
    let Q : List ClassTree → Type 0 = λ xs. After files old all library (ds ++ declared_all file w xs) in
    subst Q (sym it.2) (file_done_of files old all ds (declared_all file w (it.0 ∷ it.1)) n w (first_front file w it.0 it.1) (subst P it.2 a))

only_top : (n : ℕ) (q : Full) → slice_get ([] ∷ []) n ≡ Some q → list_any (is_front q) ([] ∷ []) ≡ true
only_top zero q at = ap (λ (p : Full). list_any (is_front p) ([] ∷ [])) (sym (same_Some [] q at))
only_top (suc n) q at = cc

each_top : (q : Full) → list_any (is_front q) ([] ∷ []) ≡ true → (n : ℕ) × (slice_get ([] ∷ []) n ≡ Some q)
each_top [] i = (0, refl)
each_top (x ∷ q) i = absurd (false≢true i)

pub no_names_yet : (nodes : List Node) → Numbers nodes ([] ∷ []) → Names nodes ([] ∷ [])
no_names_yet nodes h = record {
  paths = [] ∷ [];
  numbers = h;
  covers = record {
    only = λ n q at. only_top n q at;
    each = λ q i. each_top q i;
  };
}

pub file_next : (files : List FileTree) (old : List Full) (all news : Classes) (ds : List Declared) (file n : ℕ) (w : Full) (cs : List ClassTree) (i : ℕ) (c : ClassTree) → i < length cs → c ≡ get_or cs i c
    → (a : FileSoFar files old all ds (declared_all file w (take i cs)) n w)
    → After files a.after.gathered.names.paths news (library ++ a.more) ((ds ++ declared_all file w (take i cs)) ++ declared_in file w c)
    → FileSoFar files old news ds (declared_all file w (take (i + 1) cs)) n w
file_next files old all news ds file n w cs i c h e a b =
    let P : List Declared → Type 0 = λ xs. FileSoFar files old news ds xs n w in
    let same : declared_all file w (take (i + 1) cs) ≡ declared_all file w (take i cs) ++ declared_in file w c =
    ap (declared_all file w) (take_more cs i c h ∙ ap (λ (x : ClassTree). take i cs ++ x ∷ []) (sym e)) ∙ declared_all-push file w (take i cs) c in
    subst P (sym same) (file_more files old all news ds (declared_all file w (take i cs)) (declared_in file w c) n w a b)

pub top_at : (files : List FileTree) (file top : ℕ) (f : FileTree) (c : ClassTree) → slice_get files file ≡ Some f → slice_get f.classes top ≡ Some c → tree_at files file top [] ≡ Some c
top_at files file top f c h i = rw (h, i) refl

pub nothing : (m : HashMap ℕ ℕ (BuildHasherDefault FoldHasher)) (n : ℕ) → m.entries ≡ [] → get nat_eq m n ≡ None
nothing m n e = rw e refl

from_push : (i : ℕ) (fs : List FileTree) (f : FileTree) (k : ℕ) → k ≡ i + length fs → declared_from i (fs ++ f ∷ []) ≡ declared_from i fs ++ declared_all k (within_of f.within) f.classes
from_push i [] f k e =
    let same : k ≡ i = omega arith in
    append-nil (declared_all i (within_of f.within) f.classes) ∙ ap (λ j. declared_all j (within_of f.within) f.classes) (sym same)
from_push i (g ∷ fs) f k e =
    ap (λ (ds : List Declared). declared_all i (within_of g.within) g.classes ++ ds) (from_push (i + 1) fs f k (omega arith))
    ∙ sym (append_assoc (declared_all i (within_of g.within) g.classes) (declared_from (i + 1) fs) (declared_all k (within_of f.within) f.classes))

pub files_next : (files fs : List FileTree) (olds : List Full) (all : Classes) (i : ℕ) (f : FileTree) → i < length fs → f ≡ get_or fs i f
    → After files olds all library (declared (take i fs) ++ declared_all i (within_of f.within) f.classes) → IsGathered files all library (declared (take (i + 1) fs))
files_next files fs olds all i f h e a =
    let P : List Declared → Type 0 = λ ds. IsGathered files all library ds in
    let same : declared (take (i + 1) fs) ≡ declared (take i fs) ++ declared_all i (within_of f.within) f.classes =
    ap declared (take_more fs i f h ∙ ap (λ (x : FileTree). take i fs ++ x ∷ []) (sym e)) ∙ from_push 0 (take i fs) f i (omega (arith, length-take-le i fs (omega arith))) in
    subst P (sym same) a.gathered

abbrev pub begun : List Full
begun =
    [] ∷ (codes "Buildings" ∷ []) ∷ (codes "Buildings" ∷ codes "Controls" ∷ []) ∷ (codes "Buildings" ∷ codes "Controls" ∷ codes "OBC" ∷ [])
    ∷ cdl_name ∷ modelica_name ∷ []

pub library_begun : (files : List FileTree) (all : Classes) (names : Names all.nodes.items begun) → all.list.items ≡ [] → all.by_name.entries ≡ []
    → slice_get names.paths all.cdl ≡ Some cdl_name → slice_get names.paths all.modelica ≡ Some modelica_name → IsGathered files all library []
library_begun files all names list by_name cdl modelica = record {
  names = record {
    paths = names.paths;
    numbers = names.numbers;
    covers = recover names.paths begun library (inside_all begun library refl) (inside_all library begun refl) names.covers;
  };
  shown = subst (λ (cs : List Class). AllZip (IsShown names.paths files) cs []) (sym list) tt;
  cdl = cdl;
  modelica = modelica;
  first = λ n q at. nothing all.by_name n by_name;
  within = λ n le. nothing all.by_name n by_name;
}

pub none_in : (cs : List ClassTree) → length cs == 0 ≡ true → cs ≡ []
none_in [] h = refl
none_in (c ∷ cs) h =
    elim (eqb_tells (length (c ∷ cs)) 0) [
      | inl same ↦ absurd (omega (arith, same.1))
      | inr other ↦ absurd (false≢true (sym other.0 ∙ h))
    ]

pub some_in : (cs : List ClassTree) → length cs == 0 ≡ false → 0 < length cs
some_in [] h = absurd (false≢true (sym h))
some_in (c ∷ cs) h = omega arith
