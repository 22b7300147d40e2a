use Rattle.std.proofs.Common.{◌≡◌, true}
use Rattle.std.specs.List.{list_all}
use Rattle.cdl_tree.specs.FormedFiles.{formed_file}
use Rattle.cdl_statements_tests.proofs.models.trees.Given as goal

abbrev pub invariant-loop-words : goal.invariant-loop-words
invariant-loop-words l = list_all formed_file l.trees ≡ true
