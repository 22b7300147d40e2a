use Rattle.std.proofs.Common.{rules, ◌≡◌, ◌∙◌, ap}
use Rattle.cdl_decimal.specs.Canon.{canon}
use Rattle.cdl_decimal.specs.Split.{parse_of}
use Rattle.cdl_decimal.specs.Near.{InRange}
use Rattle.cdl_decimal.proofs.TextLaws.{canon_reads}
use Rattle.cdl_decimal.proofs.canonical.text.Goals.{In_ok-push_point}
use Rattle.cdl_decimal.proofs.canonical.text.Goals as goal

written : (c : In_ok-push_point) → c.push_point.new.text ≡ canon c.args.value
unfolding canon
written c = search rules

pub returns-clause-canonical : goal.returns-clause-canonical
returns-clause-canonical c = written c

pub returns-clause-reads_back : goal.returns-clause-reads_back
returns-clause-reads_back c =
    let range : InRange c.args.value = search rules in
    ap parse_of (written c) ∙ canon_reads c.args.value range
