-- The laws of classes. What a class has behind its `end`s is told by the first wrong identifier.
use Rattle.std.proofs.Common.{◌≡◌, ℕ, zero, suc, ◌<◌, Bool, true, false, List, [], ◌∷◌, ◌++◌, length, Option, None, Err, refl, sym, ap, ◌∙◌, subst, arith, if◌then◌else◌, append_assoc, append-nil, length-append}
use Rattle.cdl_tree.specs.declared.terminal.Terminal.{Terminal}
use Rattle.cdl_tree.specs.declared.terminal.Terminal.TheVariants as the
use Rattle.cdl_tree.specs.declared.name.Ident.{Ident}
use Rattle.cdl_tree.specs.declared.class.Item.{Item}
use Rattle.cdl_tree.specs.declared.class.Statement.{Statement}
use Rattle.cdl_tree.specs.declared.class.ClassTree.{ClassTree}
use Rattle.cdl_tree.specs.declared.class.Closing.{Closing}
use Rattle.cdl_tree.specs.Words.{Lexeme, Word, same_terminal}
use Rattle.cdl_tree.specs.Trees.{the_ident, the_block, the_package, the_enumeration, the_closing}
use Rattle.cdl_tree.specs.Grammar.{Tail, no_text, ConstantOf, is_section, BlockParts, no_block_part, EquationPart, no_equation, Literals, ClassOf, a_block, a_package, an_enumeration, PackageParts as PackageWord, no_package_part, package_section, package_note, package_constant, package_class}
use Rattle.cdl_parse.specs.declared.closed.ClosedClass.{ClosedClass}
use Rattle.cdl_parse.specs.declared.closed.PackageParts.{PackageParts}
use Rattle.cdl_reading.specs.Reading.{Parser, and_then, pure, terminal}
use Rattle.cdl_clauses.specs.Declarations.{note_clause as read_note}
use Rattle.cdl_parse.specs.Classes as spec
use Rattle.cdl_parse.specs.Classes.{wrong_end, or_then, closed as closed_class, with_class, with_constants}
use Rattle.cdl_reading.proofs.Steps.{Then, both, Is, is, Made, is_made}
use Rattle.cdl_reading.proofs.Laws.{member, within_self, Law, wider, shaped, like, begun_law, pure_law, made_law, then_law, Or, this, that, either_law, only_is, is_only, One, flagged, a_token, token_of, word_then, word_less, Closed, closed, closing_law, guarded_law, same_read, refused_law}
use Rattle.cdl_reading.proofs.Repeats.{Repeats, stop, snoc, fold, Loop, repeat_law, Behind}
use Rattle.cdl_expressions.proofs.Sets.{after_tail, after_condition}
use Rattle.cdl_expressions.proofs.ExprLaws.{IdentOf, an_ident, ident_law}
use Rattle.cdl_expressions.proofs.Texts.{AnyText, text_law}
use Rattle.cdl_clauses.proofs.Notes.{tail_law, NoteClause, note_clause, note_some}
use Rattle.cdl_clauses.proofs.Decls.{constant_law, constant_some}
use Rattle.cdl_clauses.proofs.Statements.{equation_law}
use Rattle.cdl_parse.proofs.Ends.{first_wrong, or_none, wrong_in_turn}
use Rattle.cdl_parse.proofs.Blocks.{apart, ends_as, sections, section_is, SectionR, NoteR, section_part, note_part, block_parts, after_block_parts, block_parts_law, literals_law}

-- the word of a class, and where the first wrong identifier stands
abbrev pub ClassIs : Word → ClosedClass → Type 0
ClassIs w c = (ends : List Closing) × ClassOf w c.class ends × (c.wrong ≡ first_wrong ends)

abbrev pub AnyClass : Word → Word → ClosedClass → Type 0
AnyClass u w c = ClassIs w c

pub class_some : {w : Word} {t : ClassTree} {ends : List Closing} → ClassOf w t ends → 0 < length w
class_some (a_block b n e m hb hn hu hv hw he hm) = omega arith
class_some (a_package p n e m hp hn hu hv he hm) = omega arith
class_some (an_enumeration t n q f a b ht hn hq hf ha hv hb hw) = omega arith

abbrev pub classes : List Terminal
classes = the.Block ∷ the.Package ∷ the.Type ∷ []

class_first : (x kd : Terminal) → kd ≡ x → member classes x ≡ true → member classes kd ≡ true
class_first x kd e h = subst (λ z. member classes z ≡ true) (sym e) h

class_leads : (w j : Word) (c : ClosedClass) → ClassIs w c → member classes (terminal (w ++ j)) ≡ true
unfolding same_terminal
class_leads w j c h = at h.1
  where
    at : {v : Word} {t : ClassTree} {ends : List Closing} → ClassOf v t ends → member classes (terminal (v ++ j)) ≡ true
    at (a_block b n e m hb hn hu hv hw he hm) = class_first the.Block b.terminal hb refl
    at (a_package p n e m hp hn hu hv he hm) = class_first the.Package p.terminal hp refl
    at (an_enumeration t n q f a b ht hn hq hf ha hv hb hw) = class_first the.Type t.terminal ht refl

-- ---- blocks

abbrev block_value : Ident → List Item → List Statement → Ident → Word → ClosedClass
block_value n xs cs m w = closed_class (the_block n xs cs w) (wrong_end n m)

abbrev BlockR : Word → Word → ClosedClass → Type 0
BlockR u =
    Then (One the.Block) (λ _. Then (λ u. IdentOf) (λ n. Then AnyText (λ _. Then (λ u. BlockParts) (λ xs. Then (λ u. EquationPart) (λ cs. Then (One the.End) (λ _. Then (λ u. IdentOf) (λ m. Made (block_value n xs cs m)))))))) []

block_word : (b n e m : Lexeme) (u v w : Word) → (((((b ∷ n ∷ []) ++ u) ++ v) ++ w) ++ e ∷ []) ++ m ∷ [] ≡ b ∷ n ∷ (u ++ (v ++ (w ++ e ∷ m ∷ [])))
block_word b n e m u v w = simp append_assoc

block_in : (s w : Word) (c : ClosedClass) → BlockR s w c → ClassIs w c
block_in s _ c (both (a_token b {a = a1} hb) (both (an_ident n hn) (both {x = u} hu (both {x = v} {a = xs} hv (both {x = w} {a = cs} hw (both (a_token e {a = a2} he) (both (an_ident m hm) (is_made h)))))))) =
    subst (ClassIs (b ∷ n ∷ (u ++ (v ++ (w ++ e ∷ m ∷ []))))) (sym (h ∙ ap (block_value (the_ident n) xs cs (the_ident m)) (block_word b n e m u v w)))
    (the_closing (the_ident n) (the_ident m) ∷ [], a_block b n e m (only_is the.Block b.terminal a1 hb) hn hu hv hw (only_is the.End e.terminal a2 he) hm, sym (or_none (wrong_end (the_ident n) (the_ident m))))

-- ---- enumerations

abbrev type_value : Ident → List Ident → Word → ClosedClass
type_value n xs w = closed_class (the_enumeration n xs w) None

abbrev TypeR : Word → Word → ClosedClass → Type 0
TypeR u =
    Then (One the.Type) (λ _. Then (λ u. IdentOf) (λ n. Then (One the.Equals) (λ _. Then (One the.Enumeration) (λ _. Then (One the.Open) (λ _. Then (λ u. Literals) (λ xs. Then (One the.Close) (λ _. Then (λ u w (a : Unit {0}). Tail w) (λ _. Made (type_value n xs))))))))) []

type_word : (t n q f a b : Lexeme) (v w : Word) → (((t ∷ n ∷ q ∷ f ∷ a ∷ []) ++ v) ++ b ∷ []) ++ w ≡ t ∷ n ∷ q ∷ f ∷ a ∷ (v ++ b ∷ w)
type_word t n q f a b v w = simp append_assoc

type_in : (s w : Word) (c : ClosedClass) → TypeR s w c → ClassIs w c
type_in s _ c (both (a_token t {a = a1} ht) (both (an_ident n hn) (both (a_token q {a = a2} hq) (both (a_token f {a = a3} hf) (both (a_token a {a = a4} ha) (both {x = v} {a = xs} hv (both (a_token b {a = a5} hb) (both {x = w} hw (is_made h))))))))) =
    subst (λ z. ClassIs (t ∷ n ∷ q ∷ f ∷ a ∷ (v ++ b ∷ z)) c) (sym (append-nil w))
    (subst (ClassIs (t ∷ n ∷ q ∷ f ∷ a ∷ (v ++ b ∷ w))) (sym (h ∙ ap (type_value (the_ident n) xs) (type_word t n q f a b v w)))
    ([], an_enumeration t n q f a b (only_is the.Type t.terminal a1 ht) hn (only_is the.Equals q.terminal a2 hq) (only_is the.Enumeration f.terminal a3 hf) (only_is the.Open a.terminal a4 ha) hv (only_is the.Close b.terminal a5 hb) hw, refl))

-- ---- packages

abbrev pack : List ClassTree → List Item → Option ℕ → PackageParts
pack ts xs wrong = record { classes = ts; constants = xs; wrong = wrong }

data PackStep (p : PackageParts) (u : Word) : Word → PackageParts → Type 0 where
  p_section : (t : Lexeme) → is_section t.terminal ≡ true → PackStep p u (t ∷ []) p
  p_note : {w : Word} → NoteClause w → PackStep p u w p
  p_constant : {w : Word} {ys : List Item} → ConstantOf w ys → PackStep p u w (with_constants p (p.constants ++ ys))
  p_class : {w : Word} {c : ClosedClass} (s : Lexeme) → ClassIs w c → s.terminal ≡ the.Semicolon → PackStep p u (w ++ s ∷ []) (with_class p c)

pack_some : (a : PackageParts) (u w : Word) (b : PackageParts) → PackStep a u w b → 0 < length w
pack_some a u _ _ (p_section t h) = omega arith
pack_some a u w _ (p_note n) = note_some n
pack_some a u w _ (p_constant c) = constant_some c
pack_some a u _ _ (p_class {w} s c e) = omega (arith, length-append w (s ∷ []))

abbrev ConstantsR : PackageParts → Word → Word → PackageParts → Type 0
ConstantsR p = Then (λ u. Behind ConstantOf p.constants) (λ xs. Is (with_constants p xs))

abbrev InnerR : PackageParts → Word → Word → PackageParts → Type 0
InnerR p = Then (Closed ClassIs the.Semicolon) (λ c. Is (with_class p c))

abbrev PackR : PackageParts → Word → Word → PackageParts → Type 0
PackR p = Or (SectionR p) (Or (NoteR p) (Or (ConstantsR p) (InnerR p)))

pack_goes : (p : PackageParts) (u w : Word) (q : PackageParts) → PackR p u w q → PackStep p u w q
pack_goes p u w q (this (both {y = y} (a_token t {a = a} e) i)) = ends_as (λ y b. PackStep p u (t ∷ y) b) p q _ y i (p_section t (section_is t a e))
pack_goes p u w q (that (this (both {x = v} {y = y} n i))) = ends_as (λ y b. PackStep p u (v ++ y) b) p q _ y i (subst (λ z. PackStep p u z p) (sym (append-nil v)) (p_note n))
pack_goes p u w q (that (that (this (both {x = v} {y = y} {a = xs} h i)))) =
    ends_as (λ y b. PackStep p u (v ++ y) b) (with_constants p xs) q _ y i
    (subst (λ z. PackStep p u z (with_constants p xs)) (sym (append-nil v)) (subst (λ z. PackStep p u v (with_constants p z)) (sym h.1) (p_constant h.2)))
pack_goes p u w q (that (that (that (both {y = y} {a = c} (closed {w = v} s h e) i)))) =
    ends_as (λ y b. PackStep p u ((v ++ s ∷ []) ++ y) b) (with_class p c) q _ y i (subst (λ z. PackStep p u z (with_class p c)) (sym (append-nil (v ++ s ∷ []))) (p_class s h e))

pack_comes : (p : PackageParts) (u w : Word) (q : PackageParts) → PackStep p u w q → PackR p u w q
pack_comes p u _ _ (p_section t h) = this (both (a_token t {a = tt} (ap flagged h)) is)
pack_comes p u w _ (p_note n) = subst (λ z. PackR p u z p) (append-nil w) (that (this (both {a = tt} n is)))
pack_comes p u w _ (p_constant {ys = ys} c) =
    subst (λ z. PackR p u z (with_constants p (p.constants ++ ys))) (append-nil w) (that (that (this (both (ys, refl, c) is))))
pack_comes p u _ _ (p_class {w} {c} s h e) =
    subst (λ z. PackR p u z (with_class p c)) (append-nil (w ++ s ∷ [])) (that (that (that (both (closed s h e) is))))

-- the word of what a package holds
abbrev PackIs : Word → PackageParts → Type 0
PackIs w p = (ends : List Closing) × PackageWord w p.classes p.constants ends × (p.wrong ≡ first_wrong ends)

packs_out : (u : Word) {w : Word} {ts : List ClassTree} {xs : List Item} {ends : List Closing} → PackageWord w ts xs ends → Repeats PackStep (pack [] [] None) u w (pack ts xs (first_wrong ends))
packs_out u no_package_part = stop
packs_out u (package_section t x h) = snoc (packs_out u x) (p_section t h)
packs_out u (package_note s x n e) = snoc (packs_out u x) (p_note (note_clause s n e))
packs_out u (package_constant x c) = snoc (packs_out u x) (p_constant c)
packs_out u (package_class {v} {w} s {ts} {t} {xs} {ends} {inner} x c e) =
    subst (λ z. Repeats PackStep (pack [] [] None) u (v ++ (w ++ s ∷ [])) (pack (ts ++ t ∷ []) xs z)) (sym (wrong_in_turn ends inner))
    (snoc (packs_out u x) (p_class {c = closed_class t (first_wrong inner)} s (inner, c, refl) e))

pack_grow : (v w : Word) (a b : PackageParts) → PackIs v a → PackStep a v w b → PackIs (v ++ w) b
pack_grow v _ a _ x (p_section t h) = (x.0, package_section t x.1 h, x.2)
pack_grow v _ a _ x (p_note (note_clause s n e)) = (x.0, package_note s x.1 n e, x.2)
pack_grow v w a _ x (p_constant c) = (x.0, package_constant x.1 c, x.2)
pack_grow v _ a _ x (p_class {c = c} s h e) =
    (x.0 ++ h.0, package_class s x.1 h.1 e, ap (λ z. or_then z c.wrong) x.2 ∙ ap (λ z. or_then (first_wrong x.0) z) h.2 ∙ sym (wrong_in_turn x.0 h.0))

packs_in : (w : Word) (p : PackageParts) → Repeats PackStep (pack [] [] None) [] w p → PackIs w p
packs_in w p r = fold PackIs pack_grow ([], no_package_part, refl) r

packs_comes : (w : Word) (p : PackageParts) → PackIs w p → Repeats PackStep (pack [] [] None) [] w p
packs_comes w p h = subst (λ z. Repeats PackStep (pack [] [] None) [] w (pack p.classes p.constants z)) (sym h.2) (packs_out [] h.1)

abbrev package_value : Ident → PackageParts → Ident → Word → ClosedClass
package_value n p m w = closed_class (the_package n p.classes p.constants w) (or_then p.wrong (wrong_end n m))

abbrev PackageR : Word → Word → ClosedClass → Type 0
PackageR u =
    Then (One the.Package) (λ _. Then (λ u. IdentOf) (λ n. Then AnyText (λ _. Then (λ u. PackIs) (λ p. Then (One the.End) (λ _. Then (λ u. IdentOf) (λ m. Made (package_value n p m))))))) []

package_word : (p n e m : Lexeme) (u v : Word) → ((((p ∷ n ∷ []) ++ u) ++ v) ++ e ∷ []) ++ m ∷ [] ≡ p ∷ n ∷ (u ++ (v ++ e ∷ m ∷ []))
package_word p n e m u v = simp append_assoc

package_wrong : (ends : List Closing) (n m : Ident) → or_then (first_wrong ends) (wrong_end n m) ≡ first_wrong (ends ++ the_closing n m ∷ [])
package_wrong ends n m = ap (λ z. or_then (first_wrong ends) z) (sym (or_none (wrong_end n m))) ∙ sym (wrong_in_turn ends (the_closing n m ∷ []))

package_in : (s w : Word) (c : ClosedClass) → PackageR s w c → ClassIs w c
package_in s _ c (both (a_token b {a = a1} hb) (both (an_ident n hn) (both {x = u} hu (both {x = v} {a = p} hv (both (a_token e {a = a2} he) (both (an_ident m hm) (is_made h))))))) =
    subst (ClassIs (b ∷ n ∷ (u ++ (v ++ e ∷ m ∷ [])))) (sym (h ∙ ap (package_value (the_ident n) p (the_ident m)) (package_word b n e m u v))) (
      hv.0 ++ the_closing (the_ident n) (the_ident m) ∷ [],
      a_package b n e m (only_is the.Package b.terminal a1 hb) hn hu hv.1 (only_is the.End e.terminal a2 he) hm,
      ap (λ z. or_then z (wrong_end (the_ident n) (the_ident m))) hv.2 ∙ package_wrong hv.0 (the_ident n) (the_ident m),
    )

-- ---- any class

abbrev ClassR : Word → Word → ClosedClass → Type 0
ClassR = Or BlockR (Or PackageR TypeR)

class_in : (s w : Word) (c : ClosedClass) → ClassR s w c → ClassIs w c
class_in s w c (this h) = block_in s w c h
class_in s w c (that (this h)) = package_in s w c h
class_in s w c (that (that h)) = type_in s w c h

class_out : (s : Word) {w : Word} {t : ClassTree} {ends : List Closing} → ClassOf w t ends → ClassR s w (closed_class t (first_wrong ends))
class_out s (a_block b n e m {u} {v} {w} {xs} {ss = cs} hb hn hu hv hw he hm) =
    this (both (a_token b (is_only the.Block b.terminal hb)) (both (an_ident n hn) (both {a = tt} hu (both hv (both hw (both (a_token e (is_only the.End e.terminal he)) (both (an_ident m hm) (is_made
    (ap (closed_class (the_block (the_ident n) xs cs (b ∷ n ∷ (u ++ (v ++ (w ++ e ∷ m ∷ [])))))) (or_none (wrong_end (the_ident n) (the_ident m)))
    ∙ ap (block_value (the_ident n) xs cs (the_ident m)) (sym (block_word b n e m u v w)))))))))))
class_out s (a_package b n e m {u} {v} {ts} {xs} {ends} hb hn hu hv he hm) =
    that (this (both (a_token b (is_only the.Package b.terminal hb)) (both (an_ident n hn) (both {a = tt} hu (both {a = pack ts xs (first_wrong ends)} (ends, hv, refl) (both (a_token e (is_only the.End e.terminal he)) (both (an_ident m hm) (is_made
    (ap (closed_class (the_package (the_ident n) ts xs (b ∷ n ∷ (u ++ (v ++ e ∷ m ∷ []))))) (sym (package_wrong ends (the_ident n) (the_ident m)))
    ∙ ap (package_value (the_ident n) (pack ts xs (first_wrong ends)) (the_ident m)) (sym (package_word b n e m u v)))))))))))
class_out s (an_enumeration t n q f a b {v = v} {w = w} {is = xs} ht hn hq hf ha hv hb hw) =
    that (that (subst (λ z. TypeR s (t ∷ n ∷ q ∷ f ∷ a ∷ (v ++ b ∷ z)) (type_value (the_ident n) xs (t ∷ n ∷ q ∷ f ∷ a ∷ (v ++ b ∷ w)))) (append-nil w)
    (both (a_token t (is_only the.Type t.terminal ht)) (both (an_ident n hn) (both (a_token q (is_only the.Equals q.terminal hq)) (both (a_token f (is_only the.Enumeration f.terminal hf)) (both (a_token a (is_only the.Open a.terminal ha))
    (both hv (both (a_token b (is_only the.Close b.terminal hb)) (both {a = tt} hw (is_made (ap (type_value (the_ident n) xs) (sym (type_word t n q f a b v w))))))))))))))

class_comes : (s w : Word) (c : ClosedClass) → ClassIs w c → ClassR s w c
class_comes s w c h = subst (λ z. ClassR s w (closed_class c.class z)) (sym h.2) (class_out s h.1)

-- the least class
least_word : Word
least_word = token_of the.Block ∷ token_of the.Identifier ∷ token_of the.End ∷ token_of the.Identifier ∷ []

least_class : ClosedClass
least_class = closed_class (the_block (the_ident (token_of the.Identifier)) [] [] least_word) (first_wrong (the_closing (the_ident (token_of the.Identifier)) (the_ident (token_of the.Identifier)) ∷ []))

least_is : ClassIs least_word least_class
unfolding least_word least_class
least_is = (
  the_closing (the_ident (token_of the.Identifier)) (the_ident (token_of the.Identifier)) ∷ [],
  a_block (token_of the.Block) (token_of the.Identifier) (token_of the.End) (token_of the.Identifier) refl refl no_text no_block_part no_equation refl refl,
  refl,
)

-- ---- the function

abbrev pub package_parts : List Terminal
package_parts = the.Public ∷ the.Protected ∷ the.Annotation ∷ the.Final ∷ the.Constant ∷ the.Block ∷ the.Package ∷ the.Type ∷ []

abbrev constants : List Terminal
constants = the.Final ∷ the.Constant ∷ []

module _ (d : ℕ) (whole : Parser ClosedClass) (p : PackageParts) where
  by_section : Parser PackageParts
  by_section i = and_then (spec.section i) (λ _. pure p)

  by_note : Parser PackageParts
  by_note i = and_then (read_note d i) (λ _. pure p)

  abbrev from_constant : Parser PackageParts
  from_constant i = (if member constants (terminal i) then spec.package_constant d whole p else spec.package_class_part d whole p) i

  abbrev from_note : Parser PackageParts
  from_note i = (if same_terminal (terminal i) the.Annotation then by_note else from_constant) i

  abbrev from_section : Parser PackageParts
  from_section i = (if member sections (terminal i) then by_section else from_note) i

  flat : Terminal → Parser PackageParts
  flat kd i =
      if member sections kd then by_section i else
      (if same_terminal kd the.Annotation then by_note i else
      (if member constants kd then spec.package_constant d whole p i else spec.package_class_part d whole p i))

  flat_is : (kd : Terminal) (i : Word) → spec.package_part_by d whole p kd i ≡ flat kd i
  unfolding flat same_terminal by_section by_note
  flat_is the.Public i = refl
  flat_is the.Protected i = refl
  flat_is the.Annotation i = refl
  flat_is the.Final i = refl
  flat_is the.Constant i = refl
  flat_is _ i = refl

  nested_is : (i : Word) → from_section i ≡ flat (terminal i) i
  unfolding flat
  nested_is i =
      apart (member sections (terminal i)) by_section from_note _ i
      (apart (same_terminal (terminal i) the.Annotation) by_note from_constant _ i (apart (member constants (terminal i)) (spec.package_constant d whole p) (spec.package_class_part d whole p) _ i refl))

  part_is : (i : Word) → spec.package_part_by d whole p (terminal i) i ≡ from_section i
  part_is i = flat_is (terminal i) i ∙ sym (nested_is i)

module _ (d : ℕ) (whole : Parser ClosedClass) where
  abbrev pack_step : PackageParts → Word → Parser PackageParts
  pack_step p s = spec.package_part d whole p

  abbrev pack_loop : ℕ → PackageParts → Word → Parser PackageParts
  pack_loop n p s = spec.package_parts_from d whole n p

  loop_is : Loop spec.begins_package_part pack_step pack_loop
  unfolding spec.package_parts_from
  loop_is = record { at_end = λ a s i. refl; turn = λ n a s i. turn n a i (spec.begins_package_part (terminal i)) }
    where
      turn : (n : ℕ) (p : PackageParts) (i : Word) (b : Bool) → (if b then (λ i. and_then (spec.package_part d whole p i) (λ more. spec.package_parts_from d whole n more)) else pure p) i
          ≡ (if b then and_then (spec.package_part d whole p i) (λ more. spec.package_parts_from d whole n more) else pure p i)
      turn n p i true = refl
      turn n p i false = refl

  any_flat : Terminal → Parser ClosedClass
  any_flat kd i =
      if same_terminal kd the.Block then spec.block d i else (if same_terminal kd the.Package then spec.package_class d whole i else (if same_terminal kd the.Type then spec.enumeration d i else Err i))

  any_flat_is : (kd : Terminal) (i : Word) → spec.class_by d whole kd i ≡ any_flat kd i
  unfolding any_flat same_terminal
  any_flat_is the.Block i = refl
  any_flat_is the.Package i = refl
  any_flat_is the.Type i = refl
  any_flat_is _ i = refl

  abbrev from_type : Parser ClosedClass
  from_type i = (if same_terminal (terminal i) the.Type then spec.enumeration d else (λ i. Err i)) i

  abbrev from_pack : Parser ClosedClass
  from_pack i = (if same_terminal (terminal i) the.Package then spec.package_class d whole else from_type) i

  abbrev from_block : Parser ClosedClass
  from_block i = (if same_terminal (terminal i) the.Block then spec.block d else from_pack) i

  any_is : (i : Word) → spec.class_by d whole (terminal i) i ≡ from_block i
  unfolding any_flat
  any_is i =
      any_flat_is (terminal i) i
      ∙ sym (apart (same_terminal (terminal i) the.Block) (spec.block d) from_pack _ i
      (apart (same_terminal (terminal i) the.Package) (spec.package_class d whole) from_type _ i (apart (same_terminal (terminal i) the.Type) (spec.enumeration d) (λ i. Err i) _ i refl)))

abbrev pub after_class : List Terminal
after_class = the.Semicolon ∷ []

module _ (d d' : ℕ) where
  block_law : Law (suc d) (suc d') BlockR (the.Block ∷ []) after_class (λ s. spec.block d) (λ s. spec.block d')
  unfolding spec.block same_terminal
  block_law =
      begun_law (word_less the.Block refl (then_law {U = the.Str ∷ (block_parts ++ after_block_parts)} ident_law
      (λ n. then_law {U = block_parts ++ after_block_parts} (text_law d d' (block_parts ++ after_block_parts) refl refl)
      (λ _. then_law {U = after_block_parts} (block_parts_law d d')
      (λ xs. then_law {U = the.End ∷ []} (equation_law d d')
      (λ cs. word_then the.End refl (then_law {U = after_class} ident_law (λ m. made_law {S = after_class} (block_value n xs cs m)) refl)) refl) refl) refl) refl))

  type_less : Law (suc d) (suc d') TypeR (the.Type ∷ []) after_class (λ s. spec.enumeration d) (λ s. spec.enumeration d')
  unfolding spec.enumeration same_terminal
  type_less =
      begun_law (word_less the.Type refl (then_law {U = the.Equals ∷ []} ident_law
      (λ n. word_then the.Equals refl (word_then the.Enumeration refl (word_then the.Open refl (then_law {U = the.Close ∷ []} (literals_law d d')
      (λ xs. word_then the.Close refl (wider (after_condition) after_class refl refl (then_law {U = after_tail} (tail_law d d') (λ _. made_law {S = after_tail} (type_value n xs)) refl))) refl)))) refl))

  module _ (whole whole' : Parser ClosedClass) (h : Law d d' AnyClass classes after_class (λ s. whole) (λ s. whole')) where
    pub clause_law : (S : List Terminal) → Law d d' (Closed ClassIs the.Semicolon) classes S (λ s. spec.class_clause d whole) (λ s. spec.class_clause d' whole')
    unfolding spec.class_clause same_terminal
    clause_law S = closing_law {X = ClassIs} {U = after_class} {S = S} the.Semicolon refl h refl

    pack_law : (S : List Terminal) (p : PackageParts) → Law d d' (PackStep p) package_parts S (pack_step d whole p) (pack_step d' whole' p)
    unfolding spec.package_part spec.package_constant spec.package_class_part same_terminal by_section by_note
    pack_law S p =
        shaped (pack_goes p) (pack_comes p)
        (like (λ s i. part_is d whole p i) (λ s i. part_is d' whole' p i)
        (either_law (member sections) (section_part S p)
        (either_law (λ kd. same_terminal kd the.Annotation) (note_part d d' S p)
        (either_law (member constants) (then_law {U = S} (constant_law d d' S p.constants) (λ xs. pure_law {S = S} (with_constants p xs)) (within_self S))
        (then_law {U = S} (clause_law S) (λ c. pure_law {S = S} (with_class p c)) (within_self S)) refl refl) refl refl) refl refl))

    packs_law : Law d d' (λ u. PackIs) (package_parts ++ the.End ∷ []) (the.End ∷ []) (λ s. spec.package_parts d whole) (λ s. spec.package_parts d' whole')
    unfolding spec.package_parts same_terminal
    packs_law =
        shaped (λ u. packs_in) (λ u. packs_comes)
        (begun_law (repeat_law d d' spec.begins_package_part (pack_step d whole) (pack_step d' whole') (pack_loop d whole) (pack_loop d' whole') PackStep package_parts (the.End ∷ []) (package_parts ++ the.End ∷ [])
        (loop_is d whole) (loop_is d' whole') pack_some (pack_law (package_parts ++ the.End ∷ [])) refl refl refl d d' (omega arith) (omega arith) (pack [] [] None)))

    package_law : Law (suc d) (suc d') PackageR (the.Package ∷ []) after_class (λ s. spec.package_class d whole) (λ s. spec.package_class d' whole')
    unfolding spec.package_class same_terminal
    package_law =
        begun_law (word_less the.Package refl (then_law {U = the.Str ∷ (package_parts ++ the.End ∷ [])} ident_law
        (λ n. then_law {U = package_parts ++ the.End ∷ []} (text_law d d' (package_parts ++ the.End ∷ []) refl refl)
        (λ _. then_law {U = the.End ∷ []} packs_law
        (λ p. word_then the.End refl (then_law {U = after_class} ident_law (λ m. made_law {S = after_class} (package_value n p m)) refl)) refl) refl) refl))

    any_law : Law (suc d) (suc d') AnyClass classes after_class (λ s. spec.any_class d whole) (λ s. spec.any_class d' whole')
    unfolding spec.any_class same_terminal
    any_law =
        shaped class_in class_comes
        (like (λ s i. any_is d whole i) (λ s i. any_is d' whole' i)
        (either_law (λ kd. same_terminal kd the.Block) block_law
        (either_law (λ kd. same_terminal kd the.Package) package_law (guarded_law (λ kd. same_terminal kd the.Type) type_less refl) refl refl) refl refl))

pub class_law : (d d' : ℕ) → Law d d' AnyClass classes after_class (λ s. spec.class d) (λ s. spec.class d')
unfolding spec.class
class_law zero d' = refused_law least_word least_class least_is (λ w c h. class_some h.1) class_leads
class_law (suc d) zero = same_read (any_law d zero (spec.class d) (spec.class zero) (class_law d zero))
class_law (suc d) (suc d') = any_law d d' (spec.class d) (spec.class d') (class_law d d')
