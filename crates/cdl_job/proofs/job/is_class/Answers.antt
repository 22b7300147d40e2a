use Rattle.std.proofs.Common.{rules, ◌∙◌, ap}
use borrow.Author.Tests.{tests}
use Rattle.std.proofs.lemmas.Iterator.Search.{all_from_yields_List}
use Rattle.std.proofs.lemmas.Iterator.Splits.{YieldsList-from_slice_split}
use Rattle.std.specs.Prelude.{◌==◌}
use Rattle.cdl_source.specs.Identifiers.{is_identifier}
use Rattle.cdl_job.specs.Job.{is_class_name}
use Rattle.cdl_job.proofs.job.is_class.Goals as goal

pub returns : goal.returns
returns c =
    all_from_yields_List is_identifier _ _ _ c.all.ensures.ran
    (YieldsList-from_slice_split _ (λ b. b == 46) c.as_bytes.result.now c.split.ensures.rest c.split.ensures.done c.split.ensures.closure (λ x b q k. search (rules, tests)))
    (λ x b q k. search (rules, tests))
    ∙ ap is_class_name c.as_bytes.ensures.value
