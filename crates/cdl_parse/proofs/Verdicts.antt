-- Of what may be said of a list of tokens one alone holds, and a refusal has one place.
use Rattle.std.proofs.Common.{◌≡◌, ℕ, Bool, true, false, List, [], ◌∷◌, ◌++◌, Some, None, refl, sym, ap, ◌∙◌, arith, if◌then◌else◌}
use Rattle.std.proofs.lemmas.Slice.Eq.{bytes_eq-Decides}
use Rattle.std.specs.Str.{bytes_eq}
use Rattle.cdl_source.specs.declared.place.Place.{Place}
use Rattle.cdl_lex.specs.TokenList.{TokenList}
use Rattle.cdl_tree.specs.declared.class.FileTree.{FileTree}
use Rattle.cdl_tree.specs.declared.class.Closing.{Closing}
use Rattle.cdl_tree.specs.Words.{Word}
use Rattle.cdl_tree.specs.Grammar.{FileOf, IsClosed, Longest}
use Rattle.cdl_reading.specs.Reading.{word_of}
use Rattle.cdl_parse.specs.Classes.{or_then}
use Rattle.cdl_parse.specs.Verdict.{AllClosed, Closes, begin_of, Stuck, Misnamed}
use Rattle.cdl_parse.proofs.Ends.{first_wrong, wrong_in_turn}
use Rattle.cdl_parse.proofs.Longest.{closed_file, is_file}
use Rattle.cdl_parse.proofs.Top.{file_is_whole, one_file, all_closed}

-- Two derivations of a word have the same first wrong identifier behind an `end`.
same_wrong : (w : Word) (t u : FileTree) (ends others : List Closing) → FileOf w t ends → FileOf w u others → first_wrong ends ≡ first_wrong others
same_wrong w t u ends others h i =
    ap (λ z. z.wrong) (one_file w [] (closed_file t ends) (closed_file u others) (file_is_whole w (closed_file t ends) (is_file w t ends h)) (is_file w u others i))

wrong_is : (before : List Closing) (c : Closing) (later : List Closing) → AllClosed before → (IsClosed c → ⊥) → first_wrong (before ++ c ∷ later) ≡ Some c.end.span.start
wrong_is before c later all not_closed =
    wrong_in_turn before (c ∷ later) ∙ ap (λ z. or_then z (first_wrong (c ∷ later))) (all_closed before all) ∙ go (bytes_eq c.name.text c.end.text) refl
  where
    go : (b : Bool) → bytes_eq c.name.text c.end.text ≡ b → or_then (if b then None else Some c.end.span.start) (first_wrong later) ≡ Some c.end.span.start
    go true e = absurd (not_closed (sym ((bytes_eq-Decides c.name.text c.end.text).0 e)))
    go false e = refl

-- where the first wrong identifier stands, in every derivation
misnamed_at : (tokens : TokenList) (place : Place) → Misnamed tokens place → (t : FileTree) (ends : List Closing) → FileOf (word_of tokens) t ends → first_wrong ends ≡ Some place.byte
misnamed_at tokens place m t ends h =
    let s = m.sentence in
    let first = ap first_wrong s.6 ∙ wrong_is s.3 s.4 s.5 s.7 s.8 in
    same_wrong (word_of tokens) t s.0 ends s.1 h s.2 ∙ first ∙ ap (λ n. Some n) (sym s.9)

pub closed_not_misnamed : (tokens : TokenList) (tree : FileTree) (place : Place) → Closes (word_of tokens) tree → Misnamed tokens place → ⊥
closed_not_misnamed tokens tree place s m = let never : Some place.byte ≡ None = sym (misnamed_at tokens place m tree s.0 s.1) ∙ all_closed s.0 s.2 in cc

pub closed_not_stuck : (tokens : TokenList) (tree : FileTree) (place : Place) → Closes (word_of tokens) tree → Stuck tokens place → ⊥
closed_not_stuck tokens tree place s k = k.no_sentence tree (s.0, s.1)

pub stuck_not_misnamed : (tokens : TokenList) (place other : Place) → Stuck tokens place → Misnamed tokens other → ⊥
stuck_not_misnamed tokens place other k m = k.no_sentence m.sentence.0 (m.sentence.1, m.sentence.2)

same_place : (p q : Place) → p.file ≡ q.file → p.byte ≡ q.byte → p ≡ q
same_place p q f b = ap (λ z. record { file = z; byte = p.byte }) f ∙ ap (λ z. record { file = q.file; byte = z }) b

pub one_misnamed : (tokens : TokenList) (p q : Place) → Misnamed tokens p → Misnamed tokens q → p ≡ q
one_misnamed tokens p q m n =
    let both : Some p.byte ≡ Some q.byte = sym (misnamed_at tokens p m m.sentence.0 m.sentence.1 m.sentence.2) ∙ misnamed_at tokens q n m.sentence.0 m.sentence.1 m.sentence.2 in
    let byte : p.byte ≡ q.byte = cc in
    same_place p q (m.file ∙ sym n.file) byte

one_longest : (w : Word) (m n : ℕ) → Longest w m → Longest w n → m ≡ n
one_longest w m n k l = let below = l.longest m k.within k.begins in let above = k.longest n l.within l.begins in omega (arith, below, above)

pub one_stuck : (tokens : TokenList) (p q : Place) → Stuck tokens p → Stuck tokens q → p ≡ q
one_stuck tokens p q k l =
    same_place p q (k.file ∙ sym l.file) (k.at.2 ∙ ap (begin_of tokens.bytes tokens.items) (one_longest (word_of tokens) k.at.0 l.at.0 k.at.1 l.at.1) ∙ sym l.at.2)
