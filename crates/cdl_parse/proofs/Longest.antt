-- The place of a fault: the tokens before it are the longest front that begins a file.
use Rattle.std.proofs.Common.{◌≡◌, ℕ, zero, suc, ◌+◌, ◌-◌, ◌≤◌, List, [], ◌∷◌, ◌++◌, length, take, Option, Some, None, Ok, Err, refl, sym, ap, ◌∙◌, subst, arith, append_assoc, append-nil, length-append}
use Rattle.std.proofs.Math.Seq.{take-append_seam, take-append-add}
use Rattle.cdl_tree.specs.declared.class.FileTree.{FileTree}
use Rattle.cdl_tree.specs.declared.class.Closing.{Closing}
use Rattle.cdl_tree.specs.Words.{Lexeme, Word, same_terminal}
use Rattle.cdl_tree.specs.Grammar.{FileOf, Begins, Longest}
use Rattle.cdl_parse.specs.declared.closed.ClosedFile.{ClosedFile}
use Rattle.cdl_reading.specs.Reading.{Outcome, and_then, pure, expect_end}
use Rattle.cdl_parse.specs.Classes.{file, whole_file}
use Rattle.cdl_reading.proofs.Steps.{Shape}
use Rattle.cdl_reading.proofs.Alike.{stops, same_pair}
use Rattle.cdl_parse.proofs.Ends.{first_wrong}
use Rattle.cdl_parse.proofs.FileLaws.{FileIs, AnyFile, file_law}

abbrev pub closed_file : FileTree → List Closing → ClosedFile
closed_file t ends = record { tree = t; wrong = first_wrong ends }

pub is_file : (w : Word) (t : FileTree) (ends : List Closing) → FileOf w t ends → FileIs w (closed_file t ends)
is_file w t ends f = (ends, f, refl)

apart : (o : Option ClosedFile) (y : ClosedFile) (x : Lexeme) (r : Word) → stops o (x ∷ r) ≡ Ok (y, []) → ⊥
apart None y x r g = cc
apart (Some z) y x r g = let both = same_pair (z, x ∷ r) (y, []) g in let never : x ∷ r ≡ [] = ap (λ z. z.1) both in cc

pub read_file : (d : ℕ) (t : Word) (y : ClosedFile) → FileIs t y → length t ≤ d → file d t ≡ Ok (y, [])
unfolding same_terminal
read_file d t y h le = ap (file d) (sym (append-nil t)) ∙ (file_law d d).takes.takes [] t [] y h le refl

-- no file begins with what was read and the token at which the parser stopped
blocked : (w r r' : Word) (x : Lexeme) (o : Option ClosedFile) (y : ClosedFile) → file (length (w ++ x ∷ r)) (w ++ x ∷ r) ≡ stops o (x ∷ r) → FileIs (w ++ x ∷ r') y → ⊥
blocked w r r' x o y stop f =
    let d : ℕ = length (w ++ x ∷ r) in
    let d' : ℕ = length (w ++ x ∷ r') in
    let same = (file_law d d').alike.alike [] w r r' x o (omega arith) (omega (arith, length-append w (x ∷ r'))) stop in
    apart o y x r' (sym same ∙ read_file d' (w ++ x ∷ r') y f (omega arith))

longest_at : (t w r : Word) (x : Lexeme) (o : Option ClosedFile) → t ≡ w ++ x ∷ r → file (length t) t ≡ stops o (x ∷ r) → (m : ℕ) → Begins (take m t) → m ≤ length w
longest_at t w r x o split stop m b = go (m - length w) refl
  where
    go : (k : ℕ) → m - length w ≡ k → m ≤ length w
    go zero e = omega arith
    go (suc k) e =
        let at : m ≡ length w + suc k = omega arith in
        let front : take m t ≡ w ++ x ∷ take k r = ap (λ z. take z t) at ∙ ap (take (length w + suc k)) split ∙ take-append-add w (x ∷ r) (suc k) in
        let s : FileOf (w ++ x ∷ (take k r ++ b.0)) b.1 b.2.0 = subst (λ z. FileOf z b.1 b.2.0) (ap (λ z. z ++ b.0) front ∙ append_assoc w (x ∷ take k r) b.0) b.2.1 in
        absurd (blocked w r (take k r ++ b.0) x o (closed_file b.1 b.2.0) (subst (λ z. file (length z) z ≡ stops o (x ∷ r)) split stop) (is_file (w ++ x ∷ (take k r ++ b.0)) b.1 b.2.0 s))

place_at : (t w j u : Word) (y : ClosedFile) → t ≡ w ++ j → FileIs (w ++ u) y → ((m : ℕ) → m ≤ length t → Begins (take m t) → m ≤ length w) → Longest t (length t - length j)
place_at t w j u y split s most =
    let n : length t - length j ≡ length w = omega (arith, ap length split, length-append w j) in
    let front : take (length t - length j) t ≡ w = ap (λ z. take z t) n ∙ ap (take (length w)) split ∙ take-append_seam w j in
    record {
      within = omega arith;
      begins = (u, y.tree, (s.0, subst (λ z. FileOf (z ++ u) y.tree s.0) (sym front) s.1));
      longest = λ m le b. omega (arith, most m le b);
    }

abbrev stuck_as : Word → Outcome ClosedFile
stuck_as j = Err j

same_rest : (t i j : Word) → stuck_as i ≡ stuck_as j → Longest t (length t - length i) → Longest t (length t - length j)
same_rest t i j e l = let same : i ≡ j = cc in subst (λ z. Longest t (length t - length z)) same l

pub fault_place : (t j : Word) → whole_file (length t) t ≡ Err j → Longest t (length t - length j)
unfolding whole_file expect_end
fault_place t j g = go (file (length t) t) refl ((file_law (length t) (length t)).reads.reads [] t (omega arith)).shape g
  where
    stuck : (i w u : Word) (y : ClosedFile) → file (length t) t ≡ Err i → t ≡ w ++ i → FileIs (w ++ u) y → Longest t (length t - length i)
    stuck [] w u y stop split s = place_at t w [] u y split s (λ m le b. omega (arith, le, ap length split, length-append w []))
    stuck (x ∷ r) w u y stop split s = place_at t w (x ∷ r) u y split s (λ m le b. longest_at t w r x None split stop m b)

    more : (y : ClosedFile) (i w : Word) → file (length t) t ≡ Ok (y, i) → t ≡ w ++ i → FileIs w y → and_then (expect_end i) (λ _. pure y) ≡ Err j → Longest t (length t - length j)
    more y [] w stop split h g = cc
    more y (x ∷ r) w stop split h g =
        same_rest t (x ∷ r) j g (place_at t w (x ∷ r) [] y split (subst (λ z. FileIs z y) (sym (append-nil w)) h) (λ m le b. longest_at t w r x (Some y) split stop m b))

    go : (r : Outcome ClosedFile) → file (length t) t ≡ r → Shape AnyFile [] t r → and_then r (λ y i. and_then (expect_end i) (λ _. pure y)) ≡ Err j → Longest t (length t - length j)
    go (Err i) e s g = same_rest t i j g (stuck i s.0 s.1 s.2 e s.3 s.4)
    go (Ok p) e s g = more p.0 p.1 s.0 e s.1 s.2 g
