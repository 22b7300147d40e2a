-- The laws of what stands in a block, and of enumerations.
use Rattle.std.proofs.Common.{◌≡◌, ℕ, ◌<◌, Bool, true, false, List, [], ◌∷◌, ◌++◌, length, Some, refl, sym, ap, ◌∙◌, subst, arith, if◌then◌else◌, append-nil}
use Rattle.cdl_tree.specs.declared.terminal.Terminal.{Terminal}
use Rattle.cdl_tree.specs.declared.terminal.Terminal.TheVariants as the
use Rattle.cdl_tree.specs.declared.name.Ident.{Ident}
use Rattle.cdl_tree.specs.declared.class.Item.{Item}
use Rattle.cdl_tree.specs.Words.{Lexeme, Word, same_terminal}
use Rattle.cdl_tree.specs.Trees.{the_ident}
use Rattle.cdl_tree.specs.Grammar.{ClauseOf, Tail, is_section, BlockParts, no_block_part, block_section, block_note, block_clause, LiteralOf, literal as a_literal, Literals, one_literal, more_literals}
use Rattle.cdl_reading.specs.Reading.{Parser, Outcome, and_then, pure, terminal}
use Rattle.cdl_clauses.specs.Declarations.{note_clause as read_note, clause as read_clause}
use Rattle.cdl_parse.specs.Classes as spec
use Rattle.cdl_reading.proofs.Steps.{Then, both, Is, is}
use Rattle.cdl_reading.proofs.Laws.{member, within_self, Law, shaped, like, begun_law, pure_law, then_law, Or, this, that, either_law, flagged, Token, a_token, token_by, Reader, token_law, token_of}
use Rattle.cdl_reading.proofs.Repeats.{Repeats, stop, snoc, fold, Loop, repeat_law, Row, row_one, row_more, row_in, list_law, Behind}
use Rattle.cdl_expressions.proofs.Sets.{after_tail, after_condition}
use Rattle.cdl_expressions.proofs.ExprLaws.{IdentOf, an_ident, ident_law}
use Rattle.cdl_clauses.proofs.Notes.{wanted, tail_law, NoteClause, note_clause, note_clause_law, note_some}
use Rattle.cdl_clauses.proofs.Decls.{clause_law, clause_some}

pub apart : {A : Type 0} (b : Bool) (x y : Parser A) (z : Outcome A) (i : Word) → y i ≡ z → (if b then x else y) i ≡ (if b then x i else z)
apart true x y z i e = refl
apart false x y z i e = e

pub ends_as : {A : Type 0} (P : Word → A → Type 0) (z b : A) (s y : Word) → Is z s y b → P [] z → P y b
ends_as P _ _ s _ is x = x

-- ---- parts of a block

pub data BlockStep (xs : List Item) (u : Word) : Word → List Item → Type 0 where
  a_section : (t : Lexeme) → is_section t.terminal ≡ true → BlockStep xs u (t ∷ []) xs
  a_note : {w : Word} → NoteClause w → BlockStep xs u w xs
  a_clause : {w : Word} {ys : List Item} → ClauseOf w ys → BlockStep xs u w (xs ++ ys)

block_some : (a : List Item) (u w : Word) (b : List Item) → BlockStep a u w b → 0 < length w
block_some a u _ _ (a_section t h) = omega arith
block_some a u w _ (a_note n) = note_some n
block_some a u w _ (a_clause c) = clause_some c

section_reader : Reader (λ t. flagged (is_section t.terminal)) spec.section
unfolding spec.section
section_reader = record { nil = refl; cons = λ t ts. cons t ts (is_section t.terminal) }
  where
    cons : (t : Lexeme) (ts : Word) (b : Bool) → wanted b (t ∷ ts) ts ≡ token_by (flagged b) (t ∷ ts) ts
    cons t ts true = refl
    cons t ts false = refl

abbrev pub sections : List Terminal
sections = the.Public ∷ the.Protected ∷ []

section_table : (kd : Terminal) → is_section kd ≡ member sections kd
unfolding same_terminal
section_table the.Public = refl
section_table the.Protected = refl
section_table _ = refl

flag_is : (b : Bool) (a : Unit {0}) → flagged b ≡ Some a → b ≡ true
flag_is true a e = refl
flag_is false a e = cc

abbrev pub SectionOf : Word → Word → Unit {0} → Type 0
SectionOf = Token (λ t. flagged (is_section t.terminal))

pub section_is : (t : Lexeme) (a : Unit {0}) → flagged (is_section t.terminal) ≡ Some a → is_section t.terminal ≡ true
section_is t a e = flag_is (is_section t.terminal) a e

pub section_law : {n m : ℕ} (S : List Terminal) → Law n m SectionOf sections S (λ s. spec.section) (λ s. spec.section)
section_law S =
    token_law (λ t. flagged (is_section t.terminal)) spec.section section_reader (token_of the.Public) tt refl sections
    (λ t a e. sym (section_table t.terminal) ∙ section_is t a e) S

abbrev pub SectionR : {A : Type 0} → A → Word → Word → A → Type 0
SectionR a = Then SectionOf (λ _. Is a)

abbrev pub NoteR : {A : Type 0} → A → Word → Word → A → Type 0
NoteR a = Then (λ u w (x : Unit {0}). NoteClause w) (λ _. Is a)

pub section_part : {A : Type 0} {n m : ℕ} (S : List Terminal) (a : A) → Law n m (SectionR a) sections S (λ s i. and_then (spec.section i) (λ _. pure a)) (λ s i. and_then (spec.section i) (λ _. pure a))
section_part S a = then_law {U = S} (section_law S) (λ _. pure_law {S = S} a) (within_self S)

pub note_part : {A : Type 0} (d d' : ℕ) (S : List Terminal) (a : A) → Law d d' (NoteR a) (the.Annotation ∷ []) S (λ s i. and_then (read_note d i) (λ _. pure a)) (λ s i. and_then (read_note d' i) (λ _. pure a))
note_part d d' S a = then_law {U = S} (note_clause_law d d' S) (λ _. pure_law {S = S} a) (within_self S)

abbrev BlockR : List Item → Word → Word → List Item → Type 0
BlockR xs = Or (SectionR xs) (Or (NoteR xs) (λ u. Behind ClauseOf xs))

block_goes : (xs : List Item) (u w : Word) (ys : List Item) → BlockR xs u w ys → BlockStep xs u w ys
block_goes xs u w ys (this (both {y = y} (a_token t {a = a} e) i)) = ends_as (λ y b. BlockStep xs u (t ∷ y) b) xs ys _ y i (a_section t (section_is t a e))
block_goes xs u w ys (that (this (both {x = v} {y = y} n i))) = ends_as (λ y b. BlockStep xs u (v ++ y) b) xs ys _ y i (subst (λ z. BlockStep xs u z xs) (sym (append-nil v)) (a_note n))
block_goes xs u w ys (that (that h)) = subst (BlockStep xs u w) (sym h.1) (a_clause h.2)

block_comes : (xs : List Item) (u w : Word) (ys : List Item) → BlockStep xs u w ys → BlockR xs u w ys
block_comes xs u _ _ (a_section t h) = this (both (a_token t {a = tt} (ap flagged h)) is)
block_comes xs u w _ (a_note n) = subst (λ z. BlockR xs u z xs) (append-nil w) (that (this (both {a = tt} n is)))
block_comes xs u w _ (a_clause {ys = ys} c) = that (that (ys, refl, c))

blocks_out : (u : Word) {w : Word} {xs : List Item} → BlockParts w xs → Repeats BlockStep [] u w xs
blocks_out u no_block_part = stop
blocks_out u (block_section t x h) = snoc (blocks_out u x) (a_section t h)
blocks_out u (block_note s x n e) = snoc (blocks_out u x) (a_note (note_clause s n e))
blocks_out u (block_clause x c) = snoc (blocks_out u x) (a_clause c)

block_grow : (v w : Word) (a b : List Item) → BlockParts v a → BlockStep a v w b → BlockParts (v ++ w) b
block_grow v _ a _ x (a_section t h) = block_section t x h
block_grow v _ a _ x (a_note (note_clause s n e)) = block_note s x n e
block_grow v w a _ x (a_clause c) = block_clause x c

module _ (d : ℕ) (xs : List Item) where
  by_section : Parser (List Item)
  by_section i = and_then (spec.section i) (λ _. pure xs)

  by_note : Parser (List Item)
  by_note i = and_then (read_note d i) (λ _. pure xs)

  abbrev from_note : Parser (List Item)
  from_note i = (if same_terminal (terminal i) the.Annotation then by_note else read_clause d xs) i

  abbrev from_section : Parser (List Item)
  from_section i = (if member sections (terminal i) then by_section else from_note) i

  flat : Terminal → Parser (List Item)
  flat kd i = if member sections kd then by_section i else (if same_terminal kd the.Annotation then by_note i else read_clause d xs i)

  flat_is : (kd : Terminal) (i : Word) → spec.block_part_by d xs kd i ≡ flat kd i
  unfolding flat same_terminal by_section by_note
  flat_is the.Public i = refl
  flat_is the.Protected i = refl
  flat_is the.Annotation i = refl
  flat_is _ i = refl

  nested_is : (i : Word) → from_section i ≡ flat (terminal i) i
  unfolding flat
  nested_is i = apart (member sections (terminal i)) by_section from_note _ i (apart (same_terminal (terminal i) the.Annotation) by_note (read_clause d xs) _ i refl)

  part_is : (i : Word) → spec.block_part_by d xs (terminal i) i ≡ from_section i
  part_is i = flat_is (terminal i) i ∙ sym (nested_is i)

abbrev block_step : ℕ → List Item → Word → Parser (List Item)
block_step d xs s = spec.block_part d xs

abbrev block_loop : ℕ → ℕ → List Item → Word → Parser (List Item)
block_loop d n xs s = spec.block_parts_from d n xs

loop_is : (d : ℕ) → Loop spec.begins_block_part (block_step d) (block_loop d)
unfolding spec.block_parts_from
loop_is d = record { at_end = λ a s i. refl; turn = λ n a s i. turn n a i (spec.begins_block_part (terminal i)) }
  where
    turn : (n : ℕ) (xs : List Item) (i : Word) (b : Bool) → (if b then (λ i. and_then (spec.block_part d xs i) (λ more. spec.block_parts_from d n more)) else pure xs) i
        ≡ (if b then and_then (spec.block_part d xs i) (λ more. spec.block_parts_from d n more) else pure xs i)
    turn n xs i true = refl
    turn n xs i false = refl

abbrev pub block_parts : List Terminal
block_parts = the.Public ∷ the.Protected ∷ the.Annotation ∷ the.Final ∷ the.Parameter ∷ the.Constant ∷ the.Identifier ∷ []

abbrev pub after_block_parts : List Terminal
after_block_parts = the.Equation ∷ the.End ∷ []

module _ (d d' : ℕ) where
  block_part_law : (S : List Terminal) (xs : List Item) → Law d d' (BlockStep xs) block_parts S (block_step d xs) (block_step d' xs)
  unfolding spec.block_part same_terminal by_section by_note
  block_part_law S xs =
      shaped (block_goes xs) (block_comes xs)
      (like (λ s i. part_is d xs i) (λ s i. part_is d' xs i)
      (either_law (member sections) (section_part S xs) (either_law (λ kd. same_terminal kd the.Annotation) (note_part d d' S xs) (clause_law d d' S xs) refl refl) refl refl))

  pub block_parts_law : Law d d' (λ u. BlockParts) (block_parts ++ after_block_parts) after_block_parts (λ s. spec.block_parts_from d d []) (λ s. spec.block_parts_from d' d' [])
  unfolding same_terminal
  block_parts_law =
      shaped (λ u w b r. fold BlockParts block_grow no_block_part r) (λ u w b x. blocks_out [] x)
      (begun_law (repeat_law d d' spec.begins_block_part (block_step d) (block_step d') (block_loop d) (block_loop d') BlockStep block_parts after_block_parts (block_parts ++ after_block_parts) (loop_is d) (loop_is d') block_some
      (block_part_law (block_parts ++ after_block_parts)) refl refl refl d d' (omega arith) (omega arith) []))

-- ---- literals of enumerations

abbrev LiteralR : Word → Word → Ident → Type 0
LiteralR = Then (λ u. IdentOf) (λ i. Then (λ u w (a : Unit {0}). Tail w) (λ _. Is i))

literal_goes : (u w : Word) (x : Ident) → LiteralR u w x → LiteralOf w x
literal_goes u w x (both (an_ident t h) (both {x = v} {y = y} g i)) =
    ends_as (λ y b. LiteralOf (t ∷ (v ++ y)) b) (the_ident t) x _ y i (subst (λ z. LiteralOf (t ∷ z) (the_ident t)) (sym (append-nil v)) (a_literal t h g))

literal_comes : (u w : Word) (x : Ident) → LiteralOf w x → LiteralR u w x
literal_comes u _ _ (a_literal t {w} h g) = subst (λ z. LiteralR u (t ∷ z) (the_ident t)) (append-nil w) (both (an_ident t h) (both {a = tt} g is))

literals_row : {w : Word} {xs : List Ident} → Literals w xs → Row the.Comma LiteralOf [] [] w xs
literals_row (one_literal {w} {i} h) = row_one [] w i h
literals_row (more_literals t xs c x) = row_more [] (literals_row xs) t c x

module _ (d d' : ℕ) where
  literal_law : Law d d' (λ u. LiteralOf) (the.Identifier ∷ []) after_tail (λ s. spec.literal_of d) (λ s. spec.literal_of d')
  unfolding spec.literal_of same_terminal
  literal_law = shaped literal_goes literal_comes (then_law {U = after_condition} ident_law (λ i. then_law {U = after_tail} (tail_law d d') (λ _. pure_law {S = after_tail} i) refl) refl)

  pub literals_law : Law d d' (λ u. Literals) (the.Identifier ∷ []) (the.Close ∷ []) (λ s. spec.literal_list d) (λ s. spec.literal_list d')
  unfolding spec.literal_list same_terminal
  literals_law =
      shaped (λ u. row_in the.Comma LiteralOf Literals (λ w x h. one_literal h) (λ v w t xs x g e h. more_literals t g e h)) (λ u w a x. literals_row x)
      (list_law {U = after_tail} the.Comma refl (the.Close ∷ []) literal_law refl refl [])
