use Rattle.std.proofs.Common.{ap, ◌∙◌}
use Rattle.cdl_reading.specs.Reading as spec
use Rattle.cdl_reading.specs.Reading.{word_of as lexemes}
use Rattle.cdl_reading.proofs.Next.{next_is}
use Rattle.cdl_reading.proofs.cursor.Cursor.skip.Goals as goal

pub returns-then-self-len : goal.returns-then-self-len
returns-then-self-len c = next_is (lexemes c.self.inside.tokens.now) c.self.inside.at ∙ ap spec.next c.self.view_is
