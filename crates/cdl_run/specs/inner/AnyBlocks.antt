-- What a block of any kind means.
use Rattle.cdl_blocks.specs.contracts.any_block.AnyBlockElementary.TheImpl as any
use Rattle.cdl_blocks.specs.declared.any_block.AnyBlock.{AnyBlock}
use Rattle.cdl_pass.specs.Net.{Blocks, blocks_of}

abbrev pub any_blocks : Blocks AnyBlock
any_blocks = blocks_of any.inputs-value.it any.results-value.it any.width-value.it any.meaning-value.it any.stands-value.it any.is_sound-value.it any.may_lack-value.it
