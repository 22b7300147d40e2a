-- The texts of models and their trees, side by side.
use Rattle.std.proofs.Common.{◌≡◌, ◌∙◌, ◌+◌, ◌≤◌, ◌<◌, ℕ, zero, suc, List, [], ◌∷◌, ◌++◌, length, slice_get, slice_index_or, length-append, map, Option, Some, refl, sym, ap, subst, inl, inr, arith}
use Rattle.cdl_source.specs.declared.limits.TheConstants.{LONGEST_MODEL}
use Rattle.cdl_source.specs.declared.rules.TheConstants.{MODEL_TOO_LONG}
use Rattle.std.proofs.Math.Nat.{lt_of_not-le}
use Rattle.std.specs.Option.{option_map}
use Rattle.std.proofs.lemmas.Option.{slice_get-map, slice_get_read}
use Rattle.cdl_source.specs.Outside.{due_after, DueBeginsWith, IsNextDue}
use Rattle.cdl_source.specs.declared.place.Place.{Place}
use Rattle.cdl_lex.specs.Rules.Breaks.{too_long}
use Rattle.cdl_tree.specs.declared.class.FileTree.{FileTree}
use Rattle.cdl_command.specs.inner.Reads.{AreShort, StopsInTexts, RefusesText, due_behind}
use Rattle.cdl_command.specs.inner.Stops.{Stops}
use Rattle.cdl_command.specs.declared.stop.Refusal.{Refusal}
use Rattle.cdl_command.specs.declared.stop.Stop.{Stop}
use Rattle.cdl_command.specs.declared.stop.Stop.TheVariants.{Refused, RangeFault, ReadFault, WriteFault, OutOfMemory}
use Rattle.cdl_command.specs.Texts.{Contents, Holds, FirstHold, HasTree, HaveTrees, BreaksText}

pub hold_more : (contents : Contents) (names texts : List (List ℕ)) (name text : List ℕ) → FirstHold contents names texts → slice_get names (length texts) ≡ Some name → Holds contents name text
    → FirstHold contents names (texts ++ text ∷ [])
hold_more contents [] [] name text h is t = absurd (cc is)
hold_more contents (n ∷ names) [] name text h is t =
    let same : name ≡ n = cc is in
    (subst (λ m. Holds contents m text) same t, tt)
hold_more contents [] (x ∷ texts) name text h is t = absurd h
hold_more contents (n ∷ names) (x ∷ texts) name text h is t = (h.0, hold_more contents names texts name text h.1 is t)

pub trees_more : (texts : List (List ℕ)) (trees : List FileTree) (text : List ℕ) (tree : FileTree) → HaveTrees texts trees → HasTree text tree
    → HaveTrees (texts ++ text ∷ []) (trees ++ tree ∷ [])
trees_more [] [] text tree h t = (t, tt)
trees_more [] (x ∷ trees) text tree h t = absurd h
trees_more (y ∷ texts) [] text tree h t = absurd h
trees_more (y ∷ texts) (x ∷ trees) text tree h t = (h.0, trees_more texts trees text tree h.1 t)

pub as_many : (texts : List (List ℕ)) (trees : List FileTree) → HaveTrees texts trees → length trees ≡ length texts
as_many [] [] h = refl
as_many [] (x ∷ trees) h = absurd h
as_many (y ∷ texts) [] h = absurd h
as_many (y ∷ texts) (x ∷ trees) h = ap suc (as_many texts trees h.1)

-- A text with a tree is no longer than a text may be.
short_text : (text : List ℕ) (tree : FileTree) → HasTree text tree → length text ≤ LONGEST_MODEL
short_text text tree h =
    let within : length text < suc LONGEST_MODEL = lt_of_not-le (λ long. h.0.none_broken MODEL_TOO_LONG LONGEST_MODEL (too_long (record { long = omega (arith, long); place = refl }))) in
    omega (arith, within)

short_at : (texts : List (List ℕ)) (trees : List FileTree) (k : ℕ) (text : List ℕ) → HaveTrees texts trees → slice_get texts k ≡ Some text → length text ≤ LONGEST_MODEL
short_at [] trees k text h is = absurd (cc is)
short_at (y ∷ texts) [] k text h is = absurd h
short_at (y ∷ texts) (x ∷ trees) zero text h is = let same : y ≡ text = cc is in subst (λ b. length b ≤ LONGEST_MODEL) same (short_text y x h.0)
short_at (y ∷ texts) (x ∷ trees) (suc k) text h is = short_at texts trees k text h.1 is

pub are_short : (texts : List (List ℕ)) (trees : List FileTree) → HaveTrees texts trees → AreShort texts
are_short texts trees h = λ k text is. short_at texts trees k text h is

-- the text of that number among the first is held by the name of that number
pub held_at : (contents : Contents) (names texts : List (List ℕ)) (k : ℕ) (text : List ℕ) → FirstHold contents names texts → slice_get texts k ≡ Some text
    → (name : List ℕ) × (slice_get names k ≡ Some name) × Holds contents name text
held_at contents names [] k text h is = absurd (cc is)
held_at contents [] (x ∷ texts) k text h is = absurd h
held_at contents (n ∷ names) (x ∷ texts) zero text h is = (n, refl, (let same : x ≡ text = cc is in subst (λ t. Holds contents n t) same h.0))
held_at contents (n ∷ names) (x ∷ texts) (suc k) text h is = held_at contents names texts k text h.1 is

-- the place of a broken rule of a text lies in its file
pub file_of : (file : ℕ) (text : List ℕ) (rule : ℕ) (place : Place) → BreaksText file text rule place → place.file ≡ file
file_of file text rule place (inl first) = first.0
file_of file text rule place (inr grammar) = elim grammar.broken [
  | inl stuck ↦ stuck.1.file ∙ grammar.file_is
  | inr wrong ↦ wrong.1.file ∙ grammar.file_is
]

-- ---- the names that are due

behind : (i : ℕ) (due : Option (List (List ℕ))) → due_behind i (due_after due) ≡ due_behind (suc i) due
behind zero due = refl
behind (suc i) due = ap due_after (behind i due)

-- the name of that number is the next that is due, once those before it were begun
pub next_due : (due : Option (List (List ℕ))) (names : List (List ℕ)) (i : ℕ) (name : List ℕ) → DueBeginsWith due names → slice_get names i ≡ Some name → IsNextDue (due_behind i due) name
next_due due [] i name d is = absurd (cc is)
next_due due (n ∷ names) zero name d is = let same : n ≡ name = cc is in subst (IsNextDue due) same d.0
next_due due (n ∷ names) (suc i) name d is =
    subst (λ x. IsNextDue x name) (behind i due) (next_due (due_after due) names i name d.1 is)

pub front_due : (due : Option (List (List ℕ))) (names rest : List (List ℕ)) → DueBeginsWith due (names ++ rest) → DueBeginsWith due names
front_due due [] rest d = tt
front_due due (n ∷ names) rest d = (d.0, front_due (due_after due) names rest d.1)

at_end : (names : List (List ℕ)) (last : List ℕ) → slice_get (names ++ last ∷ []) (length names) ≡ Some last
at_end [] last = refl
at_end (n ∷ names) last = at_end names last

-- the name behind these is the next that is due, once they were begun
pub last_due : (due : Option (List (List ℕ))) (names : List (List ℕ)) (last : List ℕ) → DueBeginsWith due (names ++ last ∷ []) → IsNextDue (due_behind (length names) due) last
last_due due names last d = next_due due (names ++ last ∷ []) (length names) last d (at_end names last)

-- ---- one more model

-- the bytes of a word are the name of its number
pub named_at : {A : Type 0} (f : A → List ℕ) (words : List A) (i : ℕ) (word : A) (name : List ℕ) → i < length words → word ≡ slice_index_or words i word → name ≡ f word
    → slice_get (map f words) i ≡ Some name
named_at f words i word name within is named =
    slice_get-map f words i ∙ ap (option_map f) (slice_get_read words (length words) i word refl within is) ∙ ap Some (sym named)

risen : (here rose : Type 0) (refuses : Refusal → Type 0) (s : Stop) → (here → rose) → Stops here refuses s → Stops rose refuses s
risen here rose refuses (Refused r) up cause = cause
risen here rose refuses (RangeFault time path) up cause = absurd cause
risen here rose refuses ReadFault up cause = up cause
risen here rose refuses WriteFault up cause = absurd cause
risen here rose refuses OutOfMemory up cause = tt

-- what is known of the texts so far, and of the file that was begun last
pub stopped_at : (contents kept : Contents) (names texts : List (List ℕ)) (trees : List FileTree) (i : ℕ) (name : List ℕ) (before now : ℕ) (here rose : Type 0) (s : Stop)
    → FirstHold contents names texts → HaveTrees texts trees → length texts ≡ i → slice_get names i ≡ Some name → kept ≡ contents → now ≡ before + i + 1 → (here → rose)
    → Stops here (RefusesText kept name i) s → StopsInTexts contents names before now rose s
stopped_at contents kept names texts trees i name before now here rose s hold have many named same begun up cause =
    record {
      texts = texts;
      trees = trees;
      hold = hold;
      have = have;
      name = name;
      name_is = subst (λ n. slice_get names n ≡ Some name) (sym many) named;
      begun = omega (arith, many, begun);
      cause = subst (λ n. Stops rose (RefusesText contents name n) s) (sym many) (risen here rose (RefusesText contents name i) s up (subst (λ k. Stops here (RefusesText k name i) s) same cause));
    }

pub no_memory_at : (contents : Contents) (names texts : List (List ℕ)) (trees : List FileTree) (i : ℕ) (name : List ℕ) (before now : ℕ) (rose : Type 0)
    → FirstHold contents names texts → HaveTrees texts trees → length texts ≡ i → slice_get names i ≡ Some name → now ≡ before + i + 1 → StopsInTexts contents names before now rose OutOfMemory
no_memory_at contents names texts trees i name before now rose hold have many named begun =
    stopped_at contents contents names texts trees i name before now rose rose OutOfMemory hold have many named refl begun (λ r. r) tt

pub read_more : (contents kept : Contents) (names texts : List (List ℕ)) (trees : List FileTree) (i : ℕ) (name text : List ℕ) (tree : FileTree) (new_texts : List (List ℕ)) (new_trees : List FileTree)
    → FirstHold contents names texts → HaveTrees texts trees → length texts ≡ i → slice_get names i ≡ Some name → kept ≡ contents → Holds kept name text → HasTree text tree
    → new_texts ≡ texts ++ text ∷ [] → new_trees ≡ trees ++ tree ∷ [] → FirstHold contents names new_texts × HaveTrees new_texts new_trees × (length new_texts ≡ i + 1)
read_more contents kept names texts trees i name text tree new_texts new_trees hold have many named same holds has t x = (
  subst (FirstHold contents names) (sym t)
      (hold_more contents names texts name text hold (subst (λ n. slice_get names n ≡ Some name) (sym many) named) (subst (λ k. Holds k name text) same holds)),
  rw (t, x) (trees_more texts trees text tree have has),
  ap length t ∙ length-append texts (text ∷ []) ∙ ap (λ n. n + 1) many,
)

due_suc : (i : ℕ) (due : Option (List (List ℕ))) → due_behind (i + 1) due ≡ due_after (due_behind i due)
due_suc i due = let e : i + 1 ≡ suc i = omega arith in ap (λ n. due_behind n due) e

pub due_more : (i : ℕ) (old mid new : Option (List (List ℕ))) → mid ≡ due_behind i old → new ≡ due_after mid → new ≡ due_behind (i + 1) old
due_more i old mid new m n = n ∙ ap due_after m ∙ sym (due_suc i old)
