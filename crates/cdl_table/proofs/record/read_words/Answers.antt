use Rattle.std.proofs.Common.{List, ℤ, rules, to_z, of_z, w64, ◌≡◌, ◌∙◌, ◌+◌, ◌++◌, ◌∷◌, [], ap, arith, refl, sym, append_assoc}
use mir.Val.{SFits}
use Rattle.std.specs.Prelude.{pos}
use Rattle.std.proofs.lemmas.Int.{ints}
use Rattle.csv.specs.Records.{fields_of}
use Rattle.cdl_table.specs.inner.Scan.{with_time}
use Rattle.cdl_table.proofs.TableFacts.{words-more, words-stop}
use Rattle.cdl_table.proofs.record.read_words.Goals as goal

pub returns-in_default-clause-err : goal.returns-in_default-clause-err
returns-in_default-clause-err c =
    let inv = c.loop-i.invariant in (
      refl,
      ap (with_time (pos 0)) (inv.same ∙ words-stop (c.loop-i.i + 2) inv.done c.args.inputs.now (fields_of c.args.csv_record.now) c.loop-i.i c.index-inputs-i.result c.loop-i-test.true c.index-inputs-i.is (sym c.in_default.ensures)),
    )

pub loop-i-preserved : goal.loop-i-preserved
loop-i-preserved c =
    let inv = c.loop-i.invariant in
    let fits : SFits w64 c.in-Some.word = search rules in
    let same : to_z w64 (of_z w64 c.in-Some.word) ≡ c.in-Some.word = omega (arith, ints) in
    let column : c.loop-i.i + 2 + 1 ≡ c.loop-i.i + 1 + 2 = omega arith in
    record {
      few = inv.few;
      done = inv.done ++ c.in-Some.word ∷ [];
      flat =
          c.in_ok-push.ensures.ok
          ∙ ap (λ w. c.loop-i.words ++ w ∷ []) same
          ∙ ap (λ (x : List ℤ). x ++ c.in-Some.word ∷ []) inv.flat
          ∙ append_assoc c.args.words.now inv.done (c.in-Some.word ∷ []);
      same = rw (sym column) (inv.same ∙ words-more (c.loop-i.i + 2) inv.done c.args.inputs.now (fields_of c.args.csv_record.now) c.loop-i.i c.index-inputs-i.result c.in-Some.word c.loop-i-test.true c.index-inputs-i.is (sym c.in-Some.ensures));
    }
