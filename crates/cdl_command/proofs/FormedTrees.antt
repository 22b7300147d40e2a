-- The trees of texts are formed.
use Rattle.std.proofs.Common.{◌≡◌, ℕ, true, List, [], ◌∷◌, refl}
use Rattle.std.specs.List.{list_all}
use Rattle.std.proofs.lemmas.Bool.{and_from}
use Rattle.cdl_tree.specs.declared.class.FileTree.{FileTree}
use Rattle.cdl_tree.specs.FormedFiles.{formed_file}
use Rattle.cdl_tree.specs.Spelled.{are_spelled}
use Rattle.cdl_tree.specs.Terminals.{lexemes}
use Rattle.cdl_lex.proofs.Unbroken.{unbroken_tokens}
use Rattle.cdl_reading.proofs.Spelled.{words_spelled}
use Rattle.cdl_parse.proofs.Formed.{file_formed}
use Rattle.cdl_command.specs.Texts.{IsTreeOf, HaveTrees}

tree_formed : (bytes : List ℕ) (tree : FileTree) → IsTreeOf bytes tree → formed_file tree ≡ true
tree_formed bytes tree h =
    let tokens = unbroken_tokens bytes h.tokens h.none_broken h.splits in
    let spelled : are_spelled (lexemes bytes h.tokens) ≡ true = words_spelled (record { file = 0; bytes = bytes; items = h.tokens }) tokens in
    file_formed h.closes.1 spelled

pub trees_formed : (texts : List (List ℕ)) (trees : List FileTree) → HaveTrees texts trees → list_all formed_file trees ≡ true
trees_formed [] [] h = refl
trees_formed [] (tree ∷ trees) h = absurd h
trees_formed (text ∷ texts) [] h = absurd h
trees_formed (text ∷ texts) (tree ∷ trees) h = and_from _ _ (tree_formed text tree h.0.0) (trees_formed texts trees h.1)
