-- What edges look for.
use Rattle.std.specs.Prelude.{Bool}
use Rattle.cdl_kinds.specs.Meaning.Edges.{is_change, is_edge, is_falling}
use Rattle.cdl_blocks.specs.declared.edges.EdgeOp.{EdgeOp}
use Rattle.cdl_blocks.specs.declared.edges.EdgeOp.TheVariants.{Rising, Falling, Change}

abbrev pub edge_function : EdgeOp → Bool → Bool → Bool
edge_function Rising = is_edge
edge_function Falling = is_falling
edge_function Change = is_change
