use Rattle.cdl_lex.specs.Spellings.{symbols, is_symbol}
use Rattle.cdl_lex.proofs.piece.is_symbol.Goals as goal

pub returns : goal.returns
unfolding symbols is_symbol
returns c = c.contains.ensures.value
