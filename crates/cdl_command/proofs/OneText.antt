-- A text has one tree, or breaks one rule first; and trees break one rule on classes first, or none.
use Rattle.std.proofs.Common.{◌≡◌, ◌⊎◌, ◌∙◌, ◌<◌, ◌≤◌, ◌+◌, ◌&&◌, ℕ, true, List, [], ◌∷◌, ◌++◌, length, length-append, Option, Some, refl, sym, ap, subst, inl, inr, arith, nat_lt}
use Rattle.std.specs.Prelude.{nat_le, ◌==◌}
use Rattle.std.proofs.lemmas.Bool.{cases_order, eqb-true, leb-true, ltb-true, and_parts, or_cases}
use Rattle.cdl_source.specs.Outside as outside
use Rattle.cdl_source.specs.declared.place.Place.{Place}
use Rattle.cdl_source.specs.declared.place.Token.{Token}
use Rattle.cdl_lex.specs.Rules.{Breaks, IsFirstBroken}
use Rattle.cdl_lex.specs.Spellings.{Bytes}
use Rattle.cdl_lex.specs.Splits.{Splits}
use Rattle.cdl_lex.specs.TokenList.{TokenList}
use Rattle.cdl_tree.specs.declared.class.FileTree.{FileTree}
use Rattle.cdl_tree.specs.Terminals.{lexemes}
use Rattle.cdl_parse.specs.Verdict.{Closes, IsRefused, Misnamed, Stuck}
use Rattle.cdl_parse.specs.declared.ParseFault.TheVariants.{Rule}
use Rattle.cdl_reading.specs.Reading.{word_of}
use Rattle.cdl_scopes.specs.Classes.{Declared}
use Rattle.cdl_classes.specs.Places.{In, not_after}
use Rattle.cdl_classes.specs.Rules.{broken_10, broken_11, broken_12, broken_13}
use Rattle.cdl_classes.specs.Verdict.{IsFirst, IsUnbroken, BreaksFirst as BreaksClasses}
use Rattle.cdl_command.specs.Sequences.{AllRead}
use Rattle.cdl_command.specs.Texts.{FirstHold, HasTree, HaveTrees, BreaksText}
use Rattle.cdl_command.proofs.ModelFacts.{as_many}

-- what the lexer and the parser say of one text
pub record ParserLaws : Type 0 where
  pub splits : (bytes : Bytes) (ts us : List Token) → Splits bytes ts → Splits bytes us → us ≡ ts
  pub closed_not_stuck : (tokens : TokenList) (tree : FileTree) (place : Place) → Closes (word_of tokens) tree → Stuck tokens place → ⊥
  pub closed_not_misnamed : (tokens : TokenList) (tree : FileTree) (place : Place) → Closes (word_of tokens) tree → Misnamed tokens place → ⊥
  pub stuck_not_misnamed : (tokens : TokenList) (place other : Place) → Stuck tokens place → Misnamed tokens other → ⊥
  pub one_stuck : (tokens : TokenList) (place other : Place) → Stuck tokens place → Stuck tokens other → place ≡ other
  pub one_misnamed : (tokens : TokenList) (place other : Place) → Misnamed tokens place → Misnamed tokens other → place ≡ other

-- ---- one rule of a text

one_first : (bytes : Bytes) (r s at to : ℕ) → IsFirstBroken bytes r at → IsFirstBroken bytes s to → (r ≡ s) × (at ≡ to)
one_first bytes r s at to f g = elim (cases_order r s) [
  | inl e ↦ (
    e,
    elim (cases_order at to) [
      | inl same ↦ same
      | inr (inl l) ↦ absurd (g.earliest at l (subst (λ k. Breaks bytes k at) e f.broken))
      | inr (inr l) ↦ absurd (f.earliest to l (subst (λ k. Breaks bytes k to) (sym e) g.broken))
    ],
  )
  | inr (inl l) ↦ absurd (g.lowest r at l f.broken)
  | inr (inr l) ↦ absurd (f.lowest s to l g.broken)
]

abbrev place : ℕ → ℕ → Place
place file byte = record { file = file; byte = byte }

same_place : (p q : Place) → p.file ≡ q.file → p.byte ≡ q.byte → p ≡ q
same_place p q e f = ap (λ k. place k p.byte) e ∙ ap (place q.file) f

abbrev token_list : ℕ → List ℕ → List Token → TokenList
token_list file bytes items = record { file = file; bytes = bytes; items = items }

same_tokens : (t u : TokenList) → t.file ≡ u.file → t.bytes ≡ u.bytes → t.items ≡ u.items → t ≡ u
same_tokens t u e f g = ap (λ k. token_list k t.bytes t.items) e ∙ ap (λ k. token_list u.file k t.items) f ∙ ap (token_list u.file u.bytes) g

refused_once : (k : ParserLaws) (t : TokenList) (r s : ℕ) (p q : Place) → IsRefused t (Rule r p) → IsRefused t (Rule s q) → (r ≡ s) × (p ≡ q)
refused_once k t r s p q (inl a) (inl b) = (a.0 ∙ sym b.0, k.one_stuck t p q a.1 b.1)
refused_once k t r s p q (inl a) (inr b) = absurd (k.stuck_not_misnamed t p q a.1 b.1)
refused_once k t r s p q (inr a) (inl b) = absurd (k.stuck_not_misnamed t q p b.1 a.1)
refused_once k t r s p q (inr a) (inr b) = (a.0 ∙ sym b.0, k.one_misnamed t p q a.1 b.1)

-- A text breaks one rule first, at one place.
pub text_once : (k : ParserLaws) (file : ℕ) (bytes : List ℕ) (r s : ℕ) (p q : Place) → BreaksText file bytes r p → BreaksText file bytes s q → (r ≡ s) × (p ≡ q)
text_once k file bytes r s p q (inl f) (inl g) =
    let o = one_first bytes r s p.byte q.byte f.1 g.1 in
    (o.0, same_place p q (f.0 ∙ sym g.0) o.1)
text_once k file bytes r s p q (inl f) (inr g) = absurd (g.none_broken r p.byte f.1.broken)
text_once k file bytes r s p q (inr f) (inl g) = absurd (f.none_broken s q.byte g.1.broken)
text_once k file bytes r s p q (inr f) (inr g) =
    let e = same_tokens f.tokens g.tokens (f.file_is ∙ sym g.file_is) (f.bytes_are ∙ sym g.bytes_are) (k.splits bytes g.tokens.items f.tokens.items g.splits f.splits) in
    refused_once k g.tokens r s p q (subst (λ t. IsRefused t (Rule r p)) e f.broken) g.broken

-- A text that breaks a rule has no tree.
pub no_tree : (k : ParserLaws) (file : ℕ) (bytes : List ℕ) (r : ℕ) (p : Place) (tree : FileTree) → BreaksText file bytes r p → HasTree bytes tree → ⊥
no_tree k file bytes r p tree (inl f) h = h.0.none_broken r p.byte f.1.broken
no_tree k file bytes r p tree (inr f) h =
    let items : h.0.tokens ≡ f.tokens.items = k.splits bytes f.tokens.items h.0.tokens f.splits h.0.splits in
    let there : Closes (lexemes bytes f.tokens.items) tree = subst (λ ts. Closes (lexemes bytes ts) tree) items h.0.closes in
    let closes : Closes (word_of f.tokens) tree = subst (λ bs. Closes (lexemes bs f.tokens.items) tree) (sym f.bytes_are) there in
    elim f.broken [
      | inl a ↦ k.closed_not_stuck f.tokens tree p closes a.1
      | inr a ↦ k.closed_not_misnamed f.tokens tree p closes a.1
    ]

-- ---- the models

trees_once : (texts : List (List ℕ)) (trees others : List FileTree) → HaveTrees texts trees → HaveTrees texts others → trees ≡ others
trees_once [] [] [] h g = refl
trees_once [] [] (y ∷ ys) h g = absurd g
trees_once [] (x ∷ xs) others h g = absurd h
trees_once (t ∷ ts) [] others h g = absurd h
trees_once (t ∷ ts) (x ∷ xs) [] h g = absurd g
trees_once (t ∷ ts) (x ∷ xs) (y ∷ ys) h g = ap (λ z. z ∷ xs) (sym (h.0.1 y g.0.0)) ∙ ap (λ zs. y ∷ zs) (trees_once ts xs ys h.1 g.1)

some_same : (o : Option (List ℕ)) (x y : List ℕ) → o ≡ Some x → o ≡ Some y → x ≡ y
some_same o x y e f = cc

pub texts_once : (c : outside.Contents) (names texts others : List (List ℕ)) → FirstHold (Some c) names texts → FirstHold (Some c) names others → length texts ≡ length others → texts ≡ others
texts_once c names [] [] h g e = refl
texts_once c names [] (y ∷ ys) h g e = absurd (omega (arith, e))
texts_once c names (x ∷ xs) [] h g e = absurd (omega (arith, e))
texts_once c [] (x ∷ xs) (y ∷ ys) h g e = absurd h
texts_once c (n ∷ ns) (x ∷ xs) (y ∷ ys) h g e =
    ap (λ z. z ∷ xs) (some_same (c n) x y h.0 g.0) ∙ ap (λ zs. y ∷ zs) (texts_once c ns xs ys h.1 g.1 (omega (arith, e)))

-- All models have one list of trees.
pub read_once : (c : outside.Contents) (names : List (List ℕ)) (trees others : List FileTree) → AllRead (Some c) names trees → AllRead (Some c) names others → trees ≡ others
read_once c names trees others a b =
    let f = a.first in
    let g = b.first in
    let many : length f.texts ≡ length g.texts = omega (arith, as_many f.texts trees f.have, as_many g.texts others g.have, a.all, b.all) in
    let e = texts_once c names f.texts g.texts f.hold g.hold many in
    trees_once g.texts trees others (subst (λ ts. HaveTrees ts trees) e f.have) g.have

few : (c : outside.Contents) (names texts : List (List ℕ)) → FirstHold (Some c) names texts → length texts ≤ length names
few c names [] h = omega arith
few c [] (x ∷ xs) h = absurd h
few c (n ∷ ns) (x ∷ xs) h = omega (arith, few c ns xs h.1)

-- a text among others that have trees has one
pub has_one : (c : outside.Contents) (names texts : List (List ℕ)) (text : List ℕ) (others : List (List ℕ)) (trees : List FileTree) → FirstHold (Some c) names (texts ++ text ∷ [])
    → FirstHold (Some c) names others → HaveTrees others trees → length texts < length others → (tree : FileTree) × HasTree text tree
has_one c names texts text [] trees h g t l = absurd (omega (arith, l))
has_one c names texts text (y ∷ ys) [] h g t l = absurd t
has_one c [] texts text (y ∷ ys) (z ∷ zs) h g t l = absurd g
has_one c (n ∷ ns) [] text (y ∷ ys) (z ∷ zs) h g t l = (z, subst (λ x. HasTree x z) (some_same (c n) y text g.0 h.0) t.0)
has_one c (n ∷ ns) (x ∷ xs) text (y ∷ ys) (z ∷ zs) h g t l = has_one c ns xs text ys zs h.1 g.1 t.1 (omega (arith, l))

-- a text that breaks a rule, behind texts that have trees
pub record BreaksAt (c : outside.Contents) (names : List (List ℕ)) (rule : ℕ) (place : Place) : Type 0 where
  pub texts : List (List ℕ)
  pub trees : List FileTree
  pub text : List ℕ
  pub hold : FirstHold (Some c) names (texts ++ text ∷ [])
  pub have : HaveTrees texts trees
  pub broken : BreaksText (length texts) text rule place

-- Where a text breaks a rule, not all were read.
pub not_read : (k : ParserLaws) (c : outside.Contents) (names : List (List ℕ)) (rule : ℕ) (p : Place) (trees : List FileTree) → BreaksAt c names rule p → AllRead (Some c) names trees → ⊥
not_read k c names rule p trees b a =
    let g = a.first in
    let l : length (b.texts ++ b.text ∷ []) ≤ length names = few c names (b.texts ++ b.text ∷ []) b.hold in
    let m : length (b.texts ++ b.text ∷ []) ≡ length b.texts + 1 = length-append b.texts (b.text ∷ []) in
    let h = has_one c names b.texts b.text g.texts trees b.hold g.hold g.have (omega (arith, l, m, as_many g.texts trees g.have, a.all)) in
    no_tree k (length b.texts) b.text rule p h.0 b.broken h.1

last_same : (xs ys : List (List ℕ)) (x y : List ℕ) → xs ++ x ∷ [] ≡ ys ++ y ∷ [] → x ≡ y
last_same [] [] x y e = cc
last_same [] (y ∷ ys) x z e = absurd (let m : 1 ≡ length (y ∷ ys ++ z ∷ []) = ap length e in omega (arith, m, length-append ys (z ∷ [])))
last_same (x ∷ xs) [] y z e = absurd (let m : length (x ∷ xs ++ y ∷ []) ≡ 1 = ap length e in omega (arith, m, length-append xs (y ∷ [])))
last_same (x ∷ xs) (y ∷ ys) z w e = last_same xs ys z w (cc)

-- the first of what is held is held
fronts : (c : outside.Contents) (names texts more : List (List ℕ)) → FirstHold (Some c) names (texts ++ more) → FirstHold (Some c) names texts
fronts c names [] more h = tt
fronts c [] (x ∷ xs) more h = absurd h
fronts c (n ∷ ns) (x ∷ xs) more h = (h.0, fronts c ns xs more h.1)

-- Of all models one text breaks a rule first.
pub broken_once : (k : ParserLaws) (c : outside.Contents) (names : List (List ℕ)) (r s : ℕ) (p q : Place) → BreaksAt c names r p → BreaksAt c names s q → (r ≡ s) × (p ≡ q)
broken_once k c names r s p q a b = elim (cases_order (length a.texts) (length b.texts)) [
  | inl e ↦
      let la : length (a.texts ++ a.text ∷ []) ≡ length a.texts + 1 = length-append a.texts (a.text ∷ []) in
      let lb : length (b.texts ++ b.text ∷ []) ≡ length b.texts + 1 = length-append b.texts (b.text ∷ []) in
      let same = texts_once c names (a.texts ++ a.text ∷ []) (b.texts ++ b.text ∷ []) a.hold b.hold (omega (arith, e, la, lb)) in
      let last = last_same a.texts b.texts a.text b.text same in
      text_once k (length b.texts) b.text r s p q (subst (λ t. BreaksText (length b.texts) t r p) last (subst (λ n. BreaksText n a.text r p) e a.broken)) b.broken
  | inr (inl l) ↦
      let h = has_one c names a.texts a.text b.texts b.trees a.hold (fronts c names b.texts (b.text ∷ []) b.hold) b.have l in
      absurd (no_tree k (length a.texts) a.text r p h.0 a.broken h.1)
  | inr (inr l) ↦
      let h = has_one c names b.texts b.text a.texts a.trees b.hold (fronts c names a.texts (a.text ∷ []) a.hold) a.have l in
      absurd (no_tree k (length b.texts) b.text s q h.0 b.broken h.1)
]

-- ---- one rule on classes

order_of : (p q : Place) → not_after p q ≡ true → (p.file < q.file) ⊎ ((p.file ≡ q.file) × (p.byte ≤ q.byte))
order_of p q h = elim (or_cases (nat_lt p.file q.file) ((p.file == q.file) && nat_le p.byte q.byte) h) [
  | inl lt ↦ inl (ltb-true p.file q.file lt)
  | inr rest ↦
      let both = and_parts (p.file == q.file) (nat_le p.byte q.byte) rest in
      inr (eqb-true p.file q.file both.0, leb-true p.byte q.byte both.1)
]

one_way : (p q : Place) → (p.file < q.file) ⊎ ((p.file ≡ q.file) × (p.byte ≤ q.byte)) → (q.file < p.file) ⊎ ((q.file ≡ p.file) × (q.byte ≤ p.byte)) → p ≡ q
one_way p q (inl a) (inl b) = absurd (omega (arith, a, b))
one_way p q (inl a) (inr b) = absurd (omega (arith, a, b.0))
one_way p q (inr a) (inl b) = absurd (omega (arith, a.0, b))
one_way p q (inr a) (inr b) = same_place p q a.0 (omega (arith, a.1, b.1))

first_once : (places : List Place) (p q : Place) → IsFirst places p → IsFirst places q → p ≡ q
first_once places p q f g = one_way p q (order_of p q (f.first q g.is_one)) (order_of q p (g.first p f.is_one))

not_empty : (places : List Place) (p : Place) → IsFirst places p → places ≡ [] → ⊥
not_empty places p f e = subst (In p) e f.is_one

-- Trees break one rule on classes first, at one place.
pub classes_once : (ds : List Declared) (r s : ℕ) (p q : Place) → BreaksClasses ds r p → BreaksClasses ds s q → (r ≡ s) × (p ≡ q)
classes_once ds r s p q (inl a) (inl b) = (a.0 ∙ sym b.0, first_once (broken_10 ds) p q a.1 b.1)
classes_once ds r s p q (inl a) (inr (inl b)) = absurd (not_empty (broken_10 ds) p a.1 b.1)
classes_once ds r s p q (inl a) (inr (inr (inl b))) = absurd (not_empty (broken_10 ds) p a.1 b.1)
classes_once ds r s p q (inl a) (inr (inr (inr b))) = absurd (not_empty (broken_10 ds) p a.1 b.1)
classes_once ds r s p q (inr (inl a)) (inl b) = absurd (not_empty (broken_10 ds) q b.1 a.1)
classes_once ds r s p q (inr (inl a)) (inr (inl b)) = (a.0 ∙ sym b.0, first_once (broken_11 ds) p q a.2 b.2)
classes_once ds r s p q (inr (inl a)) (inr (inr (inl b))) = absurd (not_empty (broken_11 ds) p a.2 b.2)
classes_once ds r s p q (inr (inl a)) (inr (inr (inr b))) = absurd (not_empty (broken_11 ds) p a.2 b.2)
classes_once ds r s p q (inr (inr (inl a))) (inl b) = absurd (not_empty (broken_10 ds) q b.1 a.1)
classes_once ds r s p q (inr (inr (inl a))) (inr (inl b)) = absurd (not_empty (broken_11 ds) q b.2 a.2)
classes_once ds r s p q (inr (inr (inl a))) (inr (inr (inl b))) = (a.0 ∙ sym b.0, first_once (broken_12 ds) p q a.3 b.3)
classes_once ds r s p q (inr (inr (inl a))) (inr (inr (inr b))) = absurd (not_empty (broken_12 ds) p a.3 b.3)
classes_once ds r s p q (inr (inr (inr a))) (inl b) = absurd (not_empty (broken_10 ds) q b.1 a.1)
classes_once ds r s p q (inr (inr (inr a))) (inr (inl b)) = absurd (not_empty (broken_11 ds) q b.2 a.2)
classes_once ds r s p q (inr (inr (inr a))) (inr (inr (inl b))) = absurd (not_empty (broken_12 ds) q b.3 a.3)
classes_once ds r s p q (inr (inr (inr a))) (inr (inr (inr b))) = (a.0 ∙ sym b.0, first_once (broken_13 ds) p q a.4 b.4)

-- Where none is broken, none is broken first.
pub not_unbroken : (ds : List Declared) (r : ℕ) (p : Place) → BreaksClasses ds r p → IsUnbroken ds → ⊥
not_unbroken ds r p (inl a) u = not_empty (broken_10 ds) p a.1 u.twice
not_unbroken ds r p (inr (inl a)) u = not_empty (broken_11 ds) p a.2 u.taken
not_unbroken ds r p (inr (inr (inl a))) u = not_empty (broken_12 ds) p a.3 u.missing
not_unbroken ds r p (inr (inr (inr a))) u = not_empty (broken_13 ds) p a.4 u.unsupported
