use Rattle.std.proofs.Common.{◌≡◌, ◌<◌, ◌≤◌, rules, List, map, string_bytes, length, Bool, arith}
use Rattle.std.specs.List.{list_all}
use borrow.Author.Tests.{tests}
use Rattle.std.proofs.lemmas.Grind.{common_steps}
use Rattle.std.proofs.lemmas.Bool.Decides.{nat_tests}
use Rattle.std.proofs.lemmas.Iterator.{YieldsList-from_slice}
use Rattle.std.proofs.lemmas.Iterator.Search.{all_from_yields_List}
use Rattle.std.proofs.lemmas.List.Folds.{list_all-map}
use Rattle.cdl_job.specs.Job.{is_file_name, are_models}
use Rattle.cdl_job.proofs.job.are_files.Goals as goal

-- a number of names that may be a job's
counted : {X : Type 0} (f : X → List _) (xs : List X) (r : Bool) → 0 < length xs → length xs ≤ 64 → r ≡ list_all (λ x. is_file_name (f x)) xs → r ≡ are_models (map f xs)
counted f xs r some few all = rw (all, list_all-map) (grind (arith, common_steps, nat_tests))

pub returns : goal.returns
returns c =
    counted string_bytes c.args.words.now c.all.result (grind (arith, common_steps, nat_tests)) (omega arith)
    (all_from_yields_List (λ w. is_file_name (string_bytes w)) _ _ _ c.all.ensures.ran (YieldsList-from_slice c.args.words.now c.iter.ensures.rest)
    (λ x b q k. search (rules, tests)))
