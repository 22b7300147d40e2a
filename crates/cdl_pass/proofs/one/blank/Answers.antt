use Rattle.std.proofs.Common.{rules, ◌≡◌, length}
use Rattle.cdl_pass.proofs.Places.{only_outs, after_blank}
use Rattle.cdl_pass.proofs.one.blank.Goals as goal

pub returns-clause-only : goal.returns-clause-only
returns-clause-only c =
    let n : length c.fill.new.self ≡ c.args.node.now.nout = search rules in
    (only_outs c.args.node.now c.args.words.now c.fill.new.self _ c.requires.lies n
    (after_blank c.args.node.now c.args.words.now c.split_at_mut-front.result.0.now c.split_at_mut-front.result.1.now c.fill.new.self c.requires.lies c.split_at_mut-front.ensures.front c.split_at_mut-front.ensures.back n)).0
