use Rattle.std.proofs.Common.{◌≡◌}
use Rattle.cdl_run.specs.Words.{state_place}
use Rattle.cdl_run.specs.inner.AnyBlocks.{any_blocks}
use Rattle.cdl_run.specs.inner.Laid.{AreBuilt}
use Rattle.cdl_run.proofs.layout.blocks_in.Given as goal

abbrev pub invariant-loop-i : goal.invariant-loop-i
invariant-loop-i l = record {
  built : AreBuilt any_blocks l.net l.i l.blocks.blocks.items l.blocks.nodes.items l.blocks.instances.items l.blocks.ranks.items;
  place : l.place ≡ state_place l.net l.i;
}
