use Rattle.std.proofs.Common.{rules, ◌≡◌, length}
use Rattle.cdl_pass.proofs.Places.{only_state}
use Rattle.cdl_pass.proofs.start.reset_one.Goals as goal

pub returns-clause-only : goal.returns-clause-only
returns-clause-only g c =
    let n : length c.reset.new.state ≡ c.args.node.now.width = search rules in
    (only_state c.args.node.now c.args.words.now _ _ c.reset.new.state c.requires.lies c.split_at_mut-elements.ensures.front c.split_at_mut-elements.ensures.back n).0
