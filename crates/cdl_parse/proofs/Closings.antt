-- The identifiers behind the `end`s of a text are one list: each one stands where its class ends, and the places of tokens rise.
use Rattle.std.proofs.Common.{◌≡◌, ℕ, ◌≤◌, ◌<◌, false, ◌==◌, List, [], ◌∷◌, ◌++◌, map, refl, sym, ap, ◌∙◌, rules, arith, if◌then◌else◌, append_assoc, append-nil}
use Rattle.std.proofs.lemmas.Bool.Decides.{nat_tests}
use Rattle.std.proofs.lemmas.Bool.{eq-eqb}
use Rattle.cdl_source.specs.declared.place.Token.{Token}
use Rattle.cdl_lex.specs.TokenList.{TokenList, RiseFrom}
use Rattle.cdl_lex.specs.Texts.{AreTokens}
use Rattle.cdl_tree.specs.declared.name.Ident.{Ident}
use Rattle.cdl_tree.specs.declared.class.Item.{Item}
use Rattle.cdl_tree.specs.declared.class.Statement.{Statement}
use Rattle.cdl_tree.specs.declared.class.ClassTree.{ClassTree, fold-ClassTree, the_lemmas as class_lemmas}
use Rattle.cdl_tree.specs.declared.class.ClassTree.TheOpen.{ClassTree-F}
use Rattle.cdl_tree.specs.declared.class.Closing.{Closing}
use Rattle.cdl_tree.specs.declared.class.FileTree.{FileTree}
use Rattle.cdl_tree.specs.Words.{Lexeme, Word, ending, span_of}
use Rattle.cdl_tree.specs.Terminals.{lexemes}
use Rattle.cdl_tree.specs.Trees.{the_ident, the_block, the_package, the_enumeration, the_closing}
use Rattle.cdl_tree.specs.Grammar.{ClassOf, a_block, a_package, an_enumeration, PackageParts, no_package_part, package_section, package_note, package_constant, package_class, Classes, one_class, more_classes, FileOf, file}
use Rattle.cdl_reading.specs.Reading.{word_of}
use Rattle.cdl_parse.proofs.Top.{one_tree}

-- ---- the list that a tree has, where it is known which identifier ends at a byte

abbrev joined : List (List Closing) → List Closing
joined [] = []
joined (x ∷ xs) = x ++ joined xs

abbrev class_ends : (ℕ → Ident) → ClassTree-F (List Closing) → List Closing
class_ends at (ClassTree-F.Block name items statements span) = the_closing name (at span.end) ∷ []
class_ends at (ClassTree-F.Package name classes constants span) = joined classes ++ the_closing name (at span.end) ∷ []
class_ends at (ClassTree-F.Enumeration name literals span) = []

unfoldable ends_of : (ℕ → Ident) → ClassTree → List Closing
ends_of at = fold-ClassTree (List Closing) (class_ends at)

block_has : (at : ℕ → Ident) (n : Ident) (xs : List Item) (ss : List Statement) (w : Word) → ends_of at (the_block n xs ss w) ≡ the_closing n (at (span_of w).end) ∷ []
unfolding ends_of the_block
block_has at n xs ss w = search (rules, class_lemmas)

package_has : (at : ℕ → Ident) (n : Ident) (ts : List ClassTree) (xs : List Item) (w : Word)
    → ends_of at (the_package n ts xs w) ≡ joined (map (ends_of at) ts) ++ the_closing n (at (span_of w).end) ∷ []
unfolding ends_of the_package
package_has at n ts xs w = search (rules, class_lemmas)

enumeration_has : (at : ℕ → Ident) (n : Ident) (is : List Ident) (w : Word) → ends_of at (the_enumeration n is w) ≡ []
unfolding ends_of the_enumeration
enumeration_has at n is w = search (rules, class_lemmas)

joined_behind : (f : ClassTree → List Closing) (ts : List ClassTree) (t : ClassTree) → joined (map f (ts ++ t ∷ [])) ≡ joined (map f ts) ++ f t
joined_behind f [] t = append-nil (f t)
joined_behind f (x ∷ ts) t = ap (λ z. f x ++ z) (joined_behind f ts t) ∙ sym (append_assoc (f x) (joined (map f ts)) (f t))

-- ---- words

Known : (ℕ → Ident) → Word → Type 0
Known at [] = Unit {0}
Known at (t ∷ w) = (at t.span.end ≡ the_ident t) × Known at w

front_known : (at : ℕ → Ident) (v w : Word) → Known at (v ++ w) → Known at v
unfolding Known
front_known at [] w k = tt
front_known at (t ∷ v) w k = (k.0, front_known at v w k.1)

rest_known : (at : ℕ → Ident) (v w : Word) → Known at (v ++ w) → Known at w
unfolding Known
rest_known at [] w k = k
rest_known at (t ∷ v) w k = rest_known at v w k.1

ends_at : (n : ℕ) (u w : Word) (last : ℕ) → ((m : ℕ) → ending m w ≡ n) → ending last (u ++ w) ≡ n
ends_at n [] w last h = h last
ends_at n (t ∷ u) w last h = ends_at n u w t.span.end h

mutual
  unfolding Known

  class_closings : (at : ℕ → Ident) {w : Word} {t : ClassTree} {ends : List Closing} → ClassOf w t ends → Known at w → ends ≡ ends_of at t
  class_closings at (a_block b n e m {u} {v} {w} {xs} {ss} hb hn hu hv hw he hm) k =
      let behind = w ++ e ∷ m ∷ [] in
      let last : ending n.span.end (u ++ (v ++ behind)) ≡ m.span.end = ends_at _ u (v ++ behind) _ (λ q. ends_at _ v behind q (λ q. ends_at _ w (e ∷ m ∷ []) q (λ q. refl))) in
      let known : at m.span.end ≡ the_ident m = (rest_known at w (e ∷ m ∷ []) (rest_known at v behind (rest_known at u (v ++ behind) k.1.1))).1.0 in
      sym (block_has at (the_ident n) xs ss (b ∷ n ∷ (u ++ (v ++ behind))) ∙ ap (λ z. the_closing (the_ident n) z ∷ []) (ap at last ∙ known))
  class_closings at (a_package b n e m {u} {v} {ts} {xs} {ends} hb hn hu hv he hm) k =
      let last : ending n.span.end (u ++ (v ++ e ∷ m ∷ [])) ≡ m.span.end = ends_at _ u (v ++ e ∷ m ∷ []) _ (λ q. ends_at _ v (e ∷ m ∷ []) q (λ q. refl)) in
      let inner = rest_known at u (v ++ e ∷ m ∷ []) k.1.1 in
      let known : at m.span.end ≡ the_ident m = (rest_known at v (e ∷ m ∷ []) inner).1.0 in
      ap (λ z. z ++ the_closing (the_ident n) (the_ident m) ∷ []) (package_closings at hv (front_known at v (e ∷ m ∷ []) inner))
      ∙ sym (package_has at (the_ident n) ts xs (b ∷ n ∷ (u ++ (v ++ e ∷ m ∷ []))) ∙ ap (λ z. joined (map (ends_of at) ts) ++ the_closing (the_ident n) z ∷ []) (ap at last ∙ known))
  class_closings at (an_enumeration t n q f a b {v} {w} {is} ht hn hq hf ha hv hb hw) k =
      sym (enumeration_has at (the_ident n) is (t ∷ n ∷ q ∷ f ∷ a ∷ (v ++ b ∷ w)))

  package_closings : (at : ℕ → Ident) {w : Word} {ts : List ClassTree} {xs : List Item} {ends : List Closing} → PackageParts w ts xs ends → Known at w
      → ends ≡ joined (map (ends_of at) ts)
  package_closings at no_package_part k = refl
  package_closings at (package_section {v} t ps h) k = package_closings at ps (front_known at v (t ∷ []) k)
  package_closings at (package_note {v} {w} s ps n h) k = package_closings at ps (front_known at v (w ++ s ∷ []) k)
  package_closings at (package_constant {v} {w} ps c) k = package_closings at ps (front_known at v w k)
  package_closings at (package_class {v} {w} s {ts} {t} {xs} {ends} {inner} ps c h) k =
      ap (λ z. z ++ inner) (package_closings at ps (front_known at v (w ++ s ∷ []) k))
      ∙ ap (λ z. joined (map (ends_of at) ts) ++ z) (class_closings at c (front_known at w (s ∷ []) (rest_known at v (w ++ s ∷ []) k)))
      ∙ sym (joined_behind (ends_of at) ts t)

classes_closings : (at : ℕ → Ident) {w : Word} {ts : List ClassTree} {ends : List Closing} → Classes w ts ends → Known at w → ends ≡ joined (map (ends_of at) ts)
classes_closings at (one_class {w} s {t} c h) k = class_closings at c (front_known at w (s ∷ []) k) ∙ sym (append-nil (ends_of at t))
classes_closings at (more_classes {v} {w} s {ts} {t} {ends} {inner} cs c h) k =
    ap (λ z. z ++ inner) (classes_closings at cs (front_known at v (w ++ s ∷ []) k))
    ∙ ap (λ z. joined (map (ends_of at) ts) ++ z) (class_closings at c (front_known at w (s ∷ []) (rest_known at v (w ++ s ∷ []) k)))
    ∙ sym (joined_behind (ends_of at) ts t)

file_closings : (at : ℕ → Ident) {w : Word} {t : FileTree} {ends : List Closing} → FileOf w t ends → Known at w → ends ≡ joined (map (ends_of at) t.classes)
file_closings at (file {v} {w} p cs) k = classes_closings at cs (rest_known at v w k)

-- ---- the tokens of a text end at different bytes

find : Word → ℕ → Ident
find [] n = record { text = []; span = record { start = 0; end = 0 } }
find (t ∷ w) n = if t.span.end == n then the_ident t else find w n

-- the tokens end one behind another
Rising : ℕ → Word → Type 0
Rising from [] = Unit {0}
Rising from (t ∷ w) = (from < t.span.end) × Rising t.span.end w

other_byte : (n m : ℕ) → n < m → (n == m) ≡ false
other_byte n m h = grind (arith, nat_tests)

known_behind : (t : Lexeme) (f : ℕ → Ident) (w : Word) (from : ℕ) → t.span.end ≤ from → Rising from w → Known f w → Known (λ n. if t.span.end == n then the_ident t else f n) w
unfolding Known Rising
known_behind t f [] from le r k = tt
known_behind t f (x ∷ w) from le r k =
    (ap (λ b. if b then the_ident t else f x.span.end) (other_byte t.span.end x.span.end (omega (arith, le, r.0))) ∙ k.0, known_behind t f w x.span.end (omega (arith, le, r.0)) r.1 k.1)

all_known : (w : Word) (from : ℕ) → Rising from w → Known (find w) w
unfolding Known Rising find
all_known [] from r = tt
all_known (t ∷ w) from r = (ap (λ b. if b then the_ident t else find w t.span.end) (eq-eqb t.span.end t.span.end refl), known_behind t (find w) w t.span.end (omega arith) r.1 (all_known w t.span.end r.1))

rises : (bytes : List ℕ) (ts : List Token) (from : ℕ) → RiseFrom from ts → Rising from (lexemes bytes ts)
unfolding Rising
rises bytes [] from r = tt
rises bytes (t ∷ ts) from r = (omega (arith, r.0, r.1), rises bytes ts t.span.end r.2)

pub one_closings : (tokens : TokenList) → AreTokens tokens.bytes tokens.items → (t u : FileTree) (ends others : List Closing) → FileOf (word_of tokens) t ends → FileOf (word_of tokens) u others → ends ≡ others
one_closings tokens a t u ends others h i =
    let w = word_of tokens in
    let known = all_known w 0 (rises tokens.bytes tokens.items 0 a.rise) in
    let same = one_tree w t u (ends, h) (others, i) in
    file_closings (find w) h known ∙ ap (λ z. joined (map (ends_of (find w)) z.classes)) same ∙ sym (file_closings (find w) i known)
