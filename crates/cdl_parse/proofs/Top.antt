-- The laws of the parser as a function, on a whole list of tokens.
use Rattle.std.proofs.Common.{◌≡◌, ℕ, zero, suc, ◌-◌, ◌≤◌, Bool, true, false, List, [], ◌∷◌, ◌++◌, length, Option, Some, None, Ok, Err, refl, sym, ap, ◌∙◌, subst, arith, if◌then◌else◌, append-nil}
use Rattle.std.proofs.lemmas.List.{length-map}
use Rattle.std.proofs.lemmas.Bool.Decides.{not_from_Decides}
use Rattle.std.proofs.lemmas.Slice.Eq.{bytes_eq-Decides}
use Rattle.std.specs.Str.{bytes_eq}
use Rattle.std.specs.List.{slice_get}
use Rattle.cdl_source.specs.declared.place.Token.{Token}
use Rattle.cdl_lex.specs.TokenList.{TokenList}
use Rattle.cdl_lex.specs.Texts.{AreTokens}
use Rattle.cdl_tree.specs.declared.class.FileTree.{FileTree}
use Rattle.cdl_tree.specs.declared.class.Closing.{Closing}
use Rattle.cdl_tree.specs.Words.{Word}
use Rattle.cdl_tree.specs.Terminals.{lexeme}
use Rattle.cdl_tree.specs.Grammar.{IsClosed, Sentence, Longest}
use Rattle.cdl_tree.specs.FormedFiles.{formed_file}
use Rattle.cdl_parse.specs.declared.closed.ClosedFile.{ClosedFile}
use Rattle.cdl_reading.specs.Reading.{Outcome, and_then, pure, expect_end}
use Rattle.cdl_parse.specs.Classes.{wrong_end, or_then, file, whole_file}
use Rattle.cdl_reading.specs.Reading.{word_of}
use Rattle.cdl_parse.specs.Names.{names_of_file}
use Rattle.cdl_parse.specs.Verdict.{AllClosed, Closes, begin_of, Stuck, Misnamed}
use Rattle.cdl_reading.proofs.Steps.{Shape}
use Rattle.cdl_reading.proofs.Alike.{same_pair}
use Rattle.cdl_reading.proofs.Spelled.{words_spelled}
use Rattle.cdl_parse.proofs.Formed.{file_formed}
use Rattle.cdl_parse.proofs.Counted.{file_counted}
use Rattle.cdl_parse.proofs.Ends.{first_wrong}
use Rattle.cdl_parse.proofs.FileLaws.{FileIs, AnyFile, file_law}
use Rattle.cdl_parse.proofs.Longest.{closed_file, is_file, read_file, fault_place}

same_file : (x y : ClosedFile) (i j : Word) → pure x i ≡ pure y j → x ≡ y
same_file x y i j e = ap (λ z. z.0) (same_pair (x, i) (y, j) e)

-- what is read to its end is derived
whole_is_file : (t j : Word) (x : ClosedFile) → whole_file (length t) t ≡ Ok (x, j) → FileIs t x
unfolding whole_file expect_end
whole_is_file t j x e = go (file (length t) t) ((file_law (length t) (length t)).reads.reads [] t (omega arith)).shape e
  where
    at : (y : ClosedFile) (i w : Word) → t ≡ w ++ i → FileIs w y → and_then (expect_end i) (λ _. pure y) ≡ Ok (x, j) → FileIs t x
    at y (a ∷ r) w split h e = cc
    at y [] w split h e = subst (FileIs t) (same_file y x [] j e) (subst (λ z. FileIs z y) (sym (split ∙ append-nil w)) h)

    go : (r : Outcome ClosedFile) → Shape AnyFile [] t r → and_then r (λ y i. and_then (expect_end i) (λ _. pure y)) ≡ Ok (x, j) → FileIs t x
    go (Err i) s e = cc
    go (Ok p) s e = at p.0 p.1 s.0 s.1 s.2 e

-- what is derived is read to its end
pub file_is_whole : (t : Word) (x : ClosedFile) → FileIs t x → whole_file (length t) t ≡ Ok (x, [])
unfolding whole_file expect_end
file_is_whole t x h = ap (λ r. and_then r (λ y i. and_then (expect_end i) (λ _. pure y))) (read_file (length t) t x h (omega arith))

pub one_file : (t j : Word) (x y : ClosedFile) → whole_file (length t) t ≡ Ok (x, j) → FileIs t y → x ≡ y
one_file t j x y e h = same_file x y j [] (sym e ∙ file_is_whole t y h)

-- A word has one tree.
pub one_tree : (w : Word) (t u : FileTree) → Sentence w t → Sentence w u → t ≡ u
one_tree w t u s r =
    ap (λ z. z.tree) (one_file w [] (closed_file t s.0) (closed_file u r.0) (file_is_whole w (closed_file t s.0) (is_file w t s.0 s.1)) (is_file w u r.0 r.1))

-- ---- the identifiers behind `end`

none_wrong : (c : Closing) → IsClosed c → wrong_end c.name c.end ≡ None
none_wrong c e = ap (λ b. if b then None else Some c.end.span.start) ((bytes_eq-Decides c.name.text c.end.text).1 (sym e))

pub all_closed : (ends : List Closing) → AllClosed ends → first_wrong ends ≡ None
all_closed [] a = refl
all_closed (c ∷ cs) a = ap (λ z. or_then z (first_wrong cs)) (none_wrong c a.0) ∙ all_closed cs a.1

abbrev wrong_by : Bool → Closing → Option ℕ
wrong_by b c = if b then None else Some c.end.span.start

closed_all : (ends : List Closing) → first_wrong ends ≡ None → AllClosed ends
closed_all [] e = tt
closed_all (c ∷ cs) e = go (bytes_eq c.name.text c.end.text) refl (closed_all cs) e
  where
    go : (b : Bool) → bytes_eq c.name.text c.end.text ≡ b → (first_wrong cs ≡ None → AllClosed cs) → or_then (wrong_by b c) (first_wrong cs) ≡ None → AllClosed (c ∷ cs)
    go true f again e = (sym ((bytes_eq-Decides c.name.text c.end.text).0 f), again e)
    go false f again e = cc

-- the first that is not closed, and those before it
abbrev Wrong : List Closing → ℕ → Type 0
Wrong ends at =
    (before : List Closing) × (wrong : Closing) × (later : List Closing) × (ends ≡ before ++ wrong ∷ later) × AllClosed before × (IsClosed wrong → ⊥) × (at ≡ wrong.end.span.start)

wrong_at : (ends : List Closing) (at : ℕ) → first_wrong ends ≡ Some at → Wrong ends at
wrong_at [] at e = cc
wrong_at (c ∷ cs) at e = go (bytes_eq c.name.text c.end.text) refl (wrong_at cs at) e
  where
    go : (b : Bool) → bytes_eq c.name.text c.end.text ≡ b → (first_wrong cs ≡ Some at → Wrong cs at) → or_then (wrong_by b c) (first_wrong cs) ≡ Some at → Wrong (c ∷ cs) at
    go true f again e =
        let h = again e in (c ∷ h.0, h.1, h.2, ap (λ z. c ∷ z) h.3, (sym ((bytes_eq-Decides c.name.text c.end.text).0 f), h.4), h.5, h.6)
    go false f again e =
        let same : c.end.span.start ≡ at = cc in
        ([], c, cs, refl, tt, (λ z. not_from_Decides (bytes_eq c.name.text c.end.text) (bytes_eq-Decides c.name.text c.end.text) f (sym z)), sym same)

-- ---- what the answers of `parse` mean

pub found_law : (t j : Word) (x : ClosedFile) → whole_file (length t) t ≡ Ok (x, j) → x.wrong ≡ None → Closes t x.tree
found_law t j x e none = let h = whole_is_file t j x e in (h.0, h.1, closed_all h.0 (sym h.2 ∙ none))

pub only_law : (t j : Word) (x : ClosedFile) → whole_file (length t) t ≡ Ok (x, j) → (tree : FileTree) → Closes t tree → x.tree ≡ tree
only_law t j x e tree s = ap (λ z. z.tree) (one_file t j x (closed_file tree s.0) e (is_file t tree s.0 s.1))

pub differs_law : (t j : Word) (x : ClosedFile) (at : ℕ) → whole_file (length t) t ≡ Ok (x, j) → x.wrong ≡ Some at → (tree : FileTree) → Closes t tree → ⊥
differs_law t j x at e some tree s =
    let same : x.wrong ≡ first_wrong s.0 = ap (λ z. z.wrong) (one_file t j x (closed_file tree s.0) e (is_file t tree s.0 s.1)) in
    let never : Some at ≡ None = sym some ∙ same ∙ all_closed s.0 s.2 in
    cc

pub stuck_law : (t j : Word) → whole_file (length t) t ≡ Err j → (tree : FileTree) → Sentence t tree → ⊥
stuck_law t j e tree s = let both = sym e ∙ file_is_whole t (closed_file tree s.0) (is_file t tree s.0 s.1) in cc

pub none_law : (t j : Word) → whole_file (length t) t ≡ Err j → (tree : FileTree) → Closes t tree → ⊥
none_law t j e tree s = stuck_law t j e tree (s.0, s.1)

pub misnamed_law : (tokens : TokenList) (j : Word) (x : ClosedFile) (at : ℕ) → whole_file (length (word_of tokens)) (word_of tokens) ≡ Ok (x, j) → x.wrong ≡ Some at
    → Misnamed tokens (record { file = tokens.file; byte = at })
misnamed_law tokens j x at e some =
    let h = whole_is_file (word_of tokens) j x e in
    let g = wrong_at h.0 at (sym h.2 ∙ some) in
    record { sentence = (x.tree, h.0, h.1, g.0, g.1, g.2, g.3, g.4, g.5, g.6); file = refl }

pub place_law : (tokens : TokenList) (j : Word) (n : ℕ) → whole_file (length (word_of tokens)) (word_of tokens) ≡ Err j → n ≡ length tokens.items - length j
    → Stuck tokens (record { file = tokens.file; byte = begin_of tokens.bytes tokens.items n })
place_law tokens j n e count =
    let all : length (word_of tokens) ≡ length tokens.items = length-map tokens.items (lexeme tokens.bytes) in
    let at : n ≡ length (word_of tokens) - length j = omega (arith, all, count) in
    record {
      no_sentence = stuck_law (word_of tokens) j e;
      file = refl;
      at = (n, subst (Longest (word_of tokens)) (sym at) (fault_place (word_of tokens) j e), refl);
    }

-- ---- what every tree of a text promises

pub formed_law : (tokens : TokenList) → AreTokens tokens.bytes tokens.items → (tree : FileTree) → Closes (word_of tokens) tree → formed_file tree ≡ true
formed_law tokens a tree s = file_formed s.1 (words_spelled tokens a)

pub few_law : (tokens : TokenList) (tree : FileTree) → Closes (word_of tokens) tree → names_of_file tree ≤ length tokens.items
few_law tokens tree s = omega (arith, file_counted s.1, length-map tokens.items (lexeme tokens.bytes))

-- ---- what `parse` knows of its calls

pub at_tokens : (tokens : TokenList) (most : ℕ) (i : Word) (r : Outcome ClosedFile) → most ≡ length tokens.items → i ≡ word_of tokens → whole_file most i ≡ r
    → whole_file (length (word_of tokens)) (word_of tokens) ≡ r
at_tokens tokens most i r few all e =
    let count : length (word_of tokens) ≡ most = length-map tokens.items (lexeme tokens.bytes) ∙ sym few in
    ap (λ n. whole_file n (word_of tokens)) count ∙ ap (whole_file most) (sym all) ∙ e

pub begin_at : (bytes : List ℕ) (ts : List Token) (n : ℕ) (t : Token) → slice_get ts n ≡ Some t → t.span.start ≡ begin_of bytes ts n
begin_at bytes [] n t e = cc
begin_at bytes (s ∷ ts) zero t e = let same : s ≡ t = cc in ap (λ z. z.span.start) (sym same)
begin_at bytes (s ∷ ts) (suc n) t e = begin_at bytes ts n t e

pub begin_end : (bytes : List ℕ) (ts : List Token) (n : ℕ) → length ts ≤ n → length bytes ≡ begin_of bytes ts n
begin_end bytes [] n le = refl
begin_end bytes (s ∷ ts) zero le = let never : ⊥ = omega (arith, le) in absurd never
begin_end bytes (s ∷ ts) (suc n) le = begin_end bytes ts n (omega (arith, le))
