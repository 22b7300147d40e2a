use Rattle.std.proofs.Common.{◌≡◌, ◌≤◌, drop}
use Rattle.cdl_job.specs.Job.{sample_size, sample_size_after}
use Rattle.cdl_job.proofs.job.number.Given as goal

abbrev pub invariant-loop-digit : goal.invariant-loop-digit
invariant-loop-digit l =
    record {
      rest : sample_size l.digits ≡ sample_size_after l.n (drop l.digit-index l.digits);
      small : l.n ≤ 20009;
    }
