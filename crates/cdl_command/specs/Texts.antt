-- The texts of models: what the names hold, which tree a text has, and which rule of texts it breaks first.
use Rattle.std.specs.Prelude.{◌≡◌, ◌⊎◌, ℕ, List, [], ◌∷◌, Option, None, Some}
use Rattle.cdl_source.specs.Outside as outside
use Rattle.cdl_source.specs.declared.place.Place.{Place}
use Rattle.cdl_source.specs.declared.place.Token.{Token}
use Rattle.cdl_lex.specs.Rules.{BreaksNone, IsFirstBroken}
use Rattle.cdl_lex.specs.Splits.{Splits}
use Rattle.cdl_lex.specs.TokenList.{TokenList}
use Rattle.cdl_tree.specs.declared.class.FileTree.{FileTree}
use Rattle.cdl_tree.specs.Terminals.{lexemes}
use Rattle.cdl_parse.specs.Verdict.{Closes, IsRefused}
use Rattle.cdl_parse.specs.declared.ParseFault.TheVariants.{Rule}

-- what each name holds, where it is told
abbrev pub Contents : Type 0
Contents = Option outside.Contents

-- The name holds this text, where it is told what the names hold. An absent name holds none.
abbrev pub Holds : Contents → List ℕ → List ℕ → Type 0
Holds None name text = Unit {0}
Holds (Some held) name text = held name ≡ Some text

-- The first of the names hold these texts, in order.
abbrev pub FirstHold : Contents → List (List ℕ) → List (List ℕ) → Type 0
FirstHold contents names [] = Unit {0}
FirstHold contents [] (text ∷ texts) = ⊥
FirstHold contents (name ∷ names) (text ∷ texts) = Holds contents name text × FirstHold contents names texts

-- The text has this tree: it breaks no rule of tokens, it splits into tokens, and these close into the tree.
pub record IsTreeOf (bytes : List ℕ) (tree : FileTree) : Type 0 where
  pub none_broken : BreaksNone bytes
  pub tokens : List Token
  pub splits : Splits bytes tokens
  pub closes : Closes (lexemes bytes tokens) tree

-- The text has this tree, and no other.
abbrev pub HasTree : List ℕ → FileTree → Type 0
HasTree bytes tree = IsTreeOf bytes tree × ((other : FileTree) → IsTreeOf bytes other → other ≡ tree)

-- Each text has the tree of its place.
abbrev pub HaveTrees : List (List ℕ) → List FileTree → Type 0
HaveTrees [] [] = Unit {0}
HaveTrees [] (tree ∷ trees) = ⊥
HaveTrees (text ∷ texts) [] = ⊥
HaveTrees (text ∷ texts) (tree ∷ trees) = HasTree text tree × HaveTrees texts trees

-- The text of this file breaks none of the rules C1 to C6, and its tokens break C7 or C8 first at this place.
pub record BreaksGrammar (file : ℕ) (bytes : List ℕ) (rule : ℕ) (place : Place) : Type 0 where
  pub none_broken : BreaksNone bytes
  pub tokens : TokenList
  pub file_is : tokens.file ≡ file
  pub bytes_are : tokens.bytes ≡ bytes
  pub splits : Splits bytes tokens.items
  pub broken : IsRefused tokens (Rule rule place)

-- The text of this file breaks this rule of C1 to C8 first, at this place.
abbrev pub BreaksText : ℕ → List ℕ → ℕ → Place → Type 0
BreaksText file bytes rule place = ((place.file ≡ file) × IsFirstBroken bytes rule place.byte) ⊎ BreaksGrammar file bytes rule place
