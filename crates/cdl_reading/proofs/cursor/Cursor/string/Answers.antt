use Rattle.std.proofs.Common.{refl}
use Rattle.cdl_reading.proofs.Strings.{refuses_string}
use Rattle.cdl_reading.proofs.cursor.Cursor.string.Goals as goal

pub returns-in_default : goal.returns-in_default
returns-in_default c =
    (refuses_string c.args.self.now c.text.result.now c.in_ok-value.field-0 c.text.ensures c.in_ok-value.ensures.none c.in_default.is, refl)
