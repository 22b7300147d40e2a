use Rattle.std.proofs.Common.{◌≡◌, ◌∙◌, ◌<◌, ◌^◌, arith, to_z, of_z, w64, ap}
use Rattle.std.specs.Fmt.{signed_decimal}
use Rattle.std.proofs.lemmas.Int.{ints}
use lib.Signed.{mag}
use Rattle.cdl_decimal.specs.Canon.{canon}
use Rattle.cdl_table.proofs.PlainTexts.{next_field, plain-canon, plain-signed}
use Rattle.cdl_table.proofs.trace.push_word.Goals as goal

pub returns-in_ok-extend_from_slice-in-Integer : goal.returns-in_ok-extend_from_slice-in-Integer
returns-in_ok-extend_from_slice-in-Integer c =
    let same : to_z w64 (of_z w64 c.args.word) ≡ c.args.word = omega (arith, ints) in
    let small : mag c.args.word < 2 ^ 63 = omega (arith, ints) in
    let e = next_field _ _ _ _ (signed_decimal c.args.word) c.in_ok-extend_from_slice.ensures.items c.in_ok-extend_from_slice-in-Integer.ensures.items (c.as_bytes.ensures.value ∙ c.format.ensures.text ∙ ap signed_decimal same) (plain-signed c.args.word small) in
    rw c.in-Integer.is e

pub returns-in_ok-extend_from_slice-in-Real : goal.returns-in_ok-extend_from_slice-in-Real
returns-in_ok-extend_from_slice-in-Real c =
    let same : to_z w64 (of_z w64 c.args.word) ≡ c.args.word = omega (arith, ints) in
    let e = next_field _ _ _ _ (canon c.args.word) c.in_ok-extend_from_slice.ensures.items c.in_ok-extend_from_slice-in-Real.ensures.items (c.bytes.ensures ∙ c.in_ok-digits-in-Real.ensures ∙ ap canon same) (plain-canon c.args.word) in
    rw c.in-Real.is e
