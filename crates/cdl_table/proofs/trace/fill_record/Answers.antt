use Rattle.std.proofs.Common.{◌≡◌, ◌∙◌, ◌<◌, ◌^◌, ◌++◌, List, ℕ, arith, to_z, of_z, w64, ap}
use Rattle.std.specs.Fmt.{signed_decimal}
use Rattle.std.proofs.lemmas.Int.{ints}
use lib.Signed.{mag}
use Rattle.cdl_table.proofs.PlainTexts.{plain-signed, record_put, signed-some}
use Rattle.cdl_table.proofs.trace.fill_record.Goals as goal

pub returns : goal.returns
returns c =
    let same : to_z w64 (of_z w64 c.args.now) ≡ c.args.now = omega (arith, ints) in
    let small : mag c.args.now < 2 ^ 63 = omega (arith, ints) in
    record_put _ _ _ _ (signed_decimal c.args.now) _ c.clear.ensures.items (c.in_ok-extend_from_slice.ensures.items ∙ ap (λ (x : List ℕ). c.clear.new.self.items ++ x) (c.as_bytes.ensures.value ∙ c.format.ensures.text ∙ ap signed_decimal same)) c.in_ok-push_words.ensures c.in_ok-extend_from_slice-2.ensures.items (plain-signed c.args.now small) (signed-some c.args.now small)
