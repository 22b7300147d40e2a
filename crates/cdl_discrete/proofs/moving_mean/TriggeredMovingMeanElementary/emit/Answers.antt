use Rattle.std.proofs.Common.{◌≡◌, ◌∙◌, ◌∷◌, [], ap, ℤ, arith, of_z, to_z}
use Rattle.std.specs.Int.{w64}
use Rattle.std.proofs.lemmas.Int.{to_z-of_z}
use Rattle.cdl_discrete.proofs.WindowLaws.{mean_gives}
use Rattle.cdl_discrete.proofs.moving_mean.TriggeredMovingMeanElementary.emit.Goals as goal

pub returns-clause-gives : goal.returns-clause-gives
returns-clause-gives g c h history later stands =
    let z : to_z w64 (of_z w64 c.count.result) ≡ c.count.result = grind (arith, to_z-of_z) in
    mean_gives c.args.self.now.size c.args._now c.mean.result c.args.state.now c.args.ins.now c.put_one.new.words h c.args.self.now.some history stands c.mean.ensures (c.put_one.ensures ∙ ap (λ (x : ℤ). x ∷ []) (z ∙ c.count.ensures.value))
