use Rattle.std.proofs.Common.{◌≡◌, arith, get_or, pos, rules, to_z, of_z, w64, ◌∙◌, ◌++◌, ◌∷◌, ap}
use mir.Val.{SFits}
use Rattle.std.proofs.lemmas.Grind.{common_steps}
use Rattle.std.proofs.lemmas.Int.{ints}
use Rattle.csv.specs.Writing.{comma, default_writer, field_text}
use Rattle.cdl_table.specs.Trace.{word_text}
use Rattle.cdl_table.proofs.PlainTexts.{field_put, fields_text-none}
use Rattle.cdl_table.proofs.TraceFacts.{here}
use Rattle.cdl_table.proofs.trace.push_words.Goals as goal

pub loop-i-preserved : goal.loop-i-preserved
loop-i-preserved c =
    let inv = c.loop-i.invariant in
    let h = here c.args.columns.now c.args.words.now c.loop-i.i c.index-columns-i.result c.loop-i-test.true c.index-columns-i.is inv.left in
    let fits : SFits w64 (get_or c.args.words.now c.loop-i.i (pos 0)) = search rules in
    let same : to_z w64 (of_z w64 (get_or c.args.words.now c.loop-i.i (pos 0))) ≡ get_or c.args.words.now c.loop-i.i (pos 0) = omega (arith, ints) in
    record {
      left = h.left;
      texts =
          field_put _ _ _ (word_text c.index-columns-i.result.value_type (get_or c.args.words.now c.loop-i.i (pos 0))) _ _ (c.in_ok-push_word.ensures ∙ ap (λ w. c.loop-i.buffer.items ++ comma ∷ field_text default_writer (word_text c.index-columns-i.result.value_type w)) same) h.texts inv.texts;
    }

pub returns : goal.returns
returns c = grind (arith, common_steps, fields_text-none)
