-- The laws of files.
use Rattle.std.proofs.Common.{◌≡◌, ℕ, ◌<◌, Bool, true, false, List, [], ◌∷◌, ◌++◌, length, Option, Some, None, refl, sym, ap, ◌∙◌, subst, arith, if◌then◌else◌, append-nil, length-append}
use Rattle.cdl_tree.specs.declared.terminal.Terminal.{Terminal}
use Rattle.cdl_tree.specs.declared.terminal.Terminal.TheVariants as the
use Rattle.cdl_tree.specs.declared.name.Name.{Name}
use Rattle.cdl_tree.specs.declared.class.ClassTree.{ClassTree}
use Rattle.cdl_tree.specs.declared.class.Closing.{Closing}
use Rattle.cdl_tree.specs.declared.class.FileTree.{FileTree}
use Rattle.cdl_tree.specs.Words.{Lexeme, Word, same_terminal}
use Rattle.cdl_tree.specs.Trees.{the_name, the_file}
use Rattle.cdl_tree.specs.Grammar.{NameOf, Within, no_within, within_top, within as a_within, Classes, one_class, more_classes, FileOf, file as a_file}
use Rattle.cdl_parse.specs.declared.closed.ClosedClass.{ClosedClass}
use Rattle.cdl_parse.specs.declared.closed.ClosedFile.{ClosedFile}
use Rattle.cdl_parse.specs.declared.closed.FileParts.{FileParts}
use Rattle.cdl_reading.specs.Reading.{Parser, and_then, pure, terminal}
use Rattle.cdl_parse.specs.Classes as spec
use Rattle.cdl_parse.specs.Classes.{or_then, closed as closed_class}
use Rattle.cdl_reading.proofs.Steps.{Then, both, Is, is}
use Rattle.cdl_reading.proofs.Laws.{within_self, Law, shaped, begun_law, pure_law, then_law, Chosen, found, missing, only, only_is, is_only, eaten_law, One, a_token, word_then, Closed, closed}
use Rattle.cdl_reading.proofs.Repeats.{Repeats, fold, Lefts, left_one, left_more, Loop, repeat_law}
use Rattle.cdl_expressions.proofs.Sets.{after_name}
use Rattle.cdl_expressions.proofs.ExprLaws.{name_law}
use Rattle.cdl_parse.proofs.Ends.{first_wrong, wrong_in_turn}
use Rattle.cdl_parse.proofs.Blocks.{ends_as}
use Rattle.cdl_parse.proofs.ClassLaws.{ClassIs, classes, class_law, clause_law}

-- ---- "within"

abbrev NamedR : Word → Word → Option Name → Type 0
NamedR = Chosen (only the.Semicolon) (λ _. Is None) (Then (λ u. NameOf) (λ parts. Then (One the.Semicolon) (λ _. Is (Some (the_name parts)))))

abbrev WithinR : Word → Word → Option Name → Type 0
WithinR = Chosen (only the.Within) (λ _. NamedR) (Is None)

within_goes : (u w : Word) (x : Option Name) → WithinR u w x → Within w x
within_goes u w x (found t {a = a} h (found s {a = b} {y = y} g i)) =
    ends_as (λ y b. Within (t ∷ s ∷ y) b) None x _ y i (within_top t s (only_is the.Within t.terminal a h) (only_is the.Semicolon s.terminal b g))
within_goes u w x (found t {a = a} h (missing (both {x = v} {a = parts} n (both {y = y} (a_token s {a = b} g) i)))) =
    ends_as (λ y b. Within (t ∷ (v ++ s ∷ y)) b) (Some (the_name parts)) x _ y i (a_within t s (only_is the.Within t.terminal a h) n (only_is the.Semicolon s.terminal b g))
within_goes u w x (missing i) = ends_as (λ y b. Within y b) None x u w i no_within

within_comes : (u w : Word) (x : Option Name) → Within w x → WithinR u w x
within_comes u _ _ no_within = missing is
within_comes u _ _ (within_top t s h g) = found t (is_only the.Within t.terminal h) (found s (is_only the.Semicolon s.terminal g) is)
within_comes u _ _ (a_within t s h n g) = found t (is_only the.Within t.terminal h) (missing (both n (both (a_token s (is_only the.Semicolon s.terminal g)) is)))

within_law : (d d' : ℕ) → Law d d' (λ u. Within) (the.Within ∷ classes) classes (λ s. spec.within d) (λ s. spec.within d')
unfolding spec.within spec.within_name same_terminal
within_law d d' =
    shaped within_goes within_comes
    (eaten_law {n' = d} {m' = d'} the.Within refl (omega arith) (omega arith)
    (eaten_law {n' = d} {m' = d'} the.Semicolon refl (omega arith) (omega arith) (pure_law {S = classes} None)
    (then_law {U = after_name} (name_law d d') (λ parts. word_then the.Semicolon refl (pure_law {S = classes} (Some (the_name parts)))) refl) refl)
    (pure_law {S = classes} None) refl)

-- ---- classes

abbrev parts_of : List ClassTree → Option ℕ → FileParts
parts_of ts wrong = record { classes = ts; wrong = wrong }

abbrev and_class : FileParts → ClosedClass → FileParts
and_class p c = parts_of (p.classes ++ c.class ∷ []) (or_then p.wrong c.wrong)

data FileStep (p : FileParts) (u : Word) : Word → FileParts → Type 0 where
  f_class : {w : Word} {c : ClosedClass} (s : Lexeme) → ClassIs w c → s.terminal ≡ the.Semicolon → FileStep p u (w ++ s ∷ []) (and_class p c)

file_some : (a : FileParts) (u w : Word) (b : FileParts) → FileStep a u w b → 0 < length w
file_some a u _ _ (f_class {w} s c e) = omega (arith, length-append w (s ∷ []))

abbrev StepR : FileParts → Word → Word → FileParts → Type 0
StepR p = Then (Closed ClassIs the.Semicolon) (λ c. Is (and_class p c))

step_goes : (p : FileParts) (u w : Word) (q : FileParts) → StepR p u w q → FileStep p u w q
step_goes p u w q (both {y = y} {a = c} (closed {w = v} s h e) i) =
    ends_as (λ y b. FileStep p u ((v ++ s ∷ []) ++ y) b) (and_class p c) q _ y i (subst (λ z. FileStep p u z (and_class p c)) (sym (append-nil (v ++ s ∷ []))) (f_class s h e))

step_comes : (p : FileParts) (u w : Word) (q : FileParts) → FileStep p u w q → StepR p u w q
step_comes p u _ _ (f_class {w} {c} s h e) = subst (λ z. StepR p u z (and_class p c)) (append-nil (w ++ s ∷ [])) (both (closed s h e) is)

abbrev FilesIs : Word → FileParts → Type 0
FilesIs w p = (ends : List Closing) × Classes w p.classes ends × (p.wrong ≡ first_wrong ends)

abbrev none : FileParts
none = parts_of [] None

abbrev FirstIs : Word → FileParts → Type 0
FirstIs w p = FileStep none [] w p

files_out : {w : Word} {ts : List ClassTree} {ends : List Closing} → Classes w ts ends → Lefts FirstIs FileStep [] w (parts_of ts (first_wrong ends))
files_out (one_class s {t} {ends} c e) = left_one (f_class {c = closed_class t (first_wrong ends)} s (ends, c, refl) e)
files_out (more_classes {v} {w} s {ts} {t} {ends} {inner} x c e) =
    subst (λ z. Lefts FirstIs FileStep [] (v ++ (w ++ s ∷ [])) (parts_of (ts ++ t ∷ []) z)) (sym (wrong_in_turn ends inner))
    (left_more (files_out x) (f_class {c = closed_class t (first_wrong inner)} s (inner, c, refl) e))

files_grow : (v w : Word) (a b : FileParts) → FilesIs v a → FileStep a v w b → FilesIs (v ++ w) b
files_grow v _ a _ x (f_class {c = c} s h e) =
    (x.0 ++ h.0, more_classes s x.1 h.1 e, ap (λ z. or_then z c.wrong) x.2 ∙ ap (λ z. or_then (first_wrong x.0) z) h.2 ∙ sym (wrong_in_turn x.0 h.0))

files_first : {w : Word} {p : FileParts} → FirstIs w p → FilesIs w p
files_first (f_class s h e) = (h.0, one_class s h.1 e, h.2)

files_in : (u w : Word) (p : FileParts) → Lefts FirstIs FileStep [] w p → FilesIs w p
files_in u w p (both h r) = fold FilesIs files_grow (files_first h) r

files_comes : (u w : Word) (p : FileParts) → FilesIs w p → Lefts FirstIs FileStep [] w p
files_comes u w p h = subst (λ z. Lefts FirstIs FileStep [] w (parts_of p.classes z)) (sym h.2) (files_out h.1)

abbrev file_step : ℕ → FileParts → Word → Parser FileParts
file_step d p s = spec.file_class d p

abbrev file_loop : ℕ → ℕ → FileParts → Word → Parser FileParts
file_loop d n p s = spec.file_from d n p

loop_is : (d : ℕ) → Loop spec.begins_class (file_step d) (file_loop d)
unfolding spec.file_from
loop_is d = record { at_end = λ a s i. refl; turn = λ n a s i. turn n a i (spec.begins_class (terminal i)) }
  where
    turn : (n : ℕ) (p : FileParts) (i : Word) (b : Bool) → (if b then (λ i. and_then (spec.file_class d p i) (λ more. spec.file_from d n more)) else pure p) i
        ≡ (if b then and_then (spec.file_class d p i) (λ more. spec.file_from d n more) else pure p i)
    turn n p i true = refl
    turn n p i false = refl

abbrev pub after_file : List Terminal
after_file = the.Nothing ∷ []

-- the word of a file
abbrev pub FileIs : Word → ClosedFile → Type 0
FileIs w x = (ends : List Closing) × FileOf w x.tree ends × (x.wrong ≡ first_wrong ends)

abbrev pub AnyFile : Word → Word → ClosedFile → Type 0
AnyFile u w x = FileIs w x

abbrev file_value : Option Name → FileParts → ClosedFile
file_value within q = record { tree = the_file within q.classes; wrong = q.wrong }

abbrev FileR : Word → Word → ClosedFile → Type 0
FileR = Then (λ u. Within) (λ p. Then (λ u. FilesIs) (λ q. Is (file_value p q)))

file_goes : (u w : Word) (x : ClosedFile) → FileR u w x → FileIs w x
file_goes u w x (both {x = v} {a = p} hw (both {x = z} {y = y} {a = q} hq i)) =
    ends_as (λ y b. FileIs (v ++ (z ++ y)) b) (file_value p q) x _ y i (subst (λ r. FileIs (v ++ r) (file_value p q)) (sym (append-nil z)) (hq.0, a_file hw hq.1, hq.2))

file_out : (u : Word) {w : Word} {t : FileTree} {ends : List Closing} → FileOf w t ends → FileR u w (record { tree = t; wrong = first_wrong ends })
file_out u (a_file {v} {w} {within} {ts} {ends} hw hc) =
    subst (λ z. FileR u (v ++ z) (file_value within (parts_of ts (first_wrong ends)))) (append-nil w) (both hw (both {a = parts_of ts (first_wrong ends)} (ends, hc, refl) is))

file_comes : (u w : Word) (x : ClosedFile) → FileIs w x → FileR u w x
file_comes u w x h = subst (λ z. FileR u w (record { tree = x.tree; wrong = z })) (sym h.2) (file_out u h.1)

module _ (d d' : ℕ) where
  step_law : (S : List Terminal) (p : FileParts) → Law d d' (FileStep p) classes S (file_step d p) (file_step d' p)
  unfolding spec.file_class same_terminal
  step_law S p =
      shaped (step_goes p) (step_comes p)
      (then_law {U = S} (clause_law d d' (spec.class d) (spec.class d') (class_law d d') S) (λ c. pure_law {S = S} (and_class p c)) (within_self S))

  from_law : (p : FileParts) → Law d d' (Repeats FileStep p) (classes ++ after_file) after_file (λ s. spec.file_from d d p) (λ s. spec.file_from d' d' p)
  unfolding same_terminal
  from_law p =
      repeat_law d d' spec.begins_class (file_step d) (file_step d') (file_loop d) (file_loop d') FileStep classes after_file (classes ++ after_file) (loop_is d) (loop_is d') file_some (step_law (classes ++ after_file)) refl refl refl
      d d' (omega arith) (omega arith) p

  first_law : Law d d' (λ u. FirstIs) classes (classes ++ after_file) (file_step d none) (file_step d' none)
  first_law = begun_law (step_law (classes ++ after_file) none)

  files_law : Law d d' (λ u. FilesIs) classes after_file (λ s. spec.file_classes d) (λ s. spec.file_classes d')
  unfolding spec.file_classes same_terminal
  files_law = shaped files_in files_comes (begun_law (then_law {U = classes ++ after_file} first_law from_law refl))

  pub file_law : Law d d' AnyFile (the.Within ∷ classes) after_file (λ s. spec.file d) (λ s. spec.file d')
  unfolding spec.file same_terminal
  file_law = shaped file_goes file_comes (then_law {U = classes} (within_law d d') (λ p. then_law {U = after_file} files_law (λ q. pure_law {S = after_file} (file_value p q)) refl) refl)
