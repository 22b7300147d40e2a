use Rattle.std.proofs.Common.{◌≡◌, ◌≤◌, ◌∙◌, ◌∷◌, arith, of_z, to_z}
use Rattle.std.specs.Prelude.{unsigned_abs}
use Rattle.std.specs.Int.{w64}
use Rattle.std.proofs.lemmas.Int.{to_z-of_z}
use Rattle.cdl_values.specs.declared.value.ValueType.TheVariants.{Boolean, Integer}
use Rattle.cdl_values.specs.History.{tick}
use Rattle.cdl_kinds.specs.Meaning.Integers.{counted}
use Rattle.cdl_kind_laws.proofs.ValueWords.{bit_value, three_values}
use Rattle.cdl_blocks.proofs.Counting.{count_further, counter_stands}
use Rattle.cdl_blocks.proofs.counter.OnCounterElementary.absorb.Goals as goal

pub returns-clause-sound : goal.returns-clause-sound
returns-clause-sound c =
    let z : to_z w64 (of_z w64 c.kept.result) ≡ c.kept.result = grind (arith, to_z-of_z) in
    let s : unsigned_abs (to_z w64 (of_z w64 c.kept.result)) ≤ 2147483647 = rw z c.kept.ensures.small in
    rw c.write.ensures (three_values Integer Boolean Boolean _ _ _ s (bit_value c.is_on.result) (bit_value c.is_on-2.result))

pub returns-clause-stands : goal.returns-clause-stands
returns-clause-stands c h stands history =
    let z : to_z w64 (of_z w64 c.kept.result) ≡ c.kept.result = grind (arith, to_z-of_z) in
    let r : to_z w64 (of_z w64 c.next_count.result) ≡ c.next_count.result = grind (arith, to_z-of_z) in
    let e : c.next_count.result ≡ counted c.args.self.now.start (tick c.args._now c.args.ins.now ∷ h) =
    count_further c.args.self.now.start c.args._now c.args.state.now c.args.ins.now h c.read-last.result.count c.next_count.result c.read-last.result.trigger c.read-last.result.reset c.next_count.ensures.value c.read-last.ensures.count c.read-last.ensures.trigger c.read-last.ensures.reset stands in
    counter_stands c.args.self.now.start c.args._now c.args.ins.now c.write.new.state h _ _ c.is_on.result c.is_on-2.result c.requires.ready c.write.ensures (λ l. z ∙ c.kept.ensures.same l) c.is_on.ensures c.is_on-2.ensures (r ∙ e) history.ticks.3
