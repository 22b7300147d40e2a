use Rattle.std.proofs.Common.{◌+◌, arith}
use Rattle.cdl_run.proofs.Building.{element_is, inputs_end, no_input}
use Rattle.cdl_run.proofs.layout.input_count.Goals as goal

pub returns-then-not-elements-first-clause-count : goal.returns-then-not-elements-first-clause-count
returns-then-not-elements-first-clause-count c = λ k v e.
    let w = c.requires.checked.indexed.windows.within c.args._i c.args.instance.now c.requires.there in
    let h = c.loop-j-test.true in
    inputs_end c.args.net.now c.args._i c.args.instance.now k v c.loop-j.j c.requires.checked c.requires.kinds c.requires.there e c.loop-j.invariant (omega (arith, h))
    (λ z. no_input c.args.net.now (c.args.instance.now.first + c.loop-j.j) c.index-elements-first.result _ (element_is c.args.net.now c.items-elements.result.now (c.args.instance.now.first + c.loop-j.j) c.index-elements-first.result c.items-elements.ensures (omega (arith, w, h)) c.index-elements-first.is) c.index-elements-first.is c.if-not-elements-first.true)

pub returns-clause-count : goal.returns-clause-count
returns-clause-count c = λ k v e.
    let h = c.loop-j-test.false in
    inputs_end c.args.net.now c.args._i c.args.instance.now k v c.args.instance.now.count c.requires.checked c.requires.kinds c.requires.there e (λ q l. c.loop-j.invariant q (omega (arith, l, h))) (omega arith) (λ z. absurd (omega (arith, z)))
