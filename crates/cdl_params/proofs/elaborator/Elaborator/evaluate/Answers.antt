use Rattle.cdl_params.proofs.elaborator.Elaborator.evaluate.Goals as goal

pub returns-clause-answers : goal.returns-clause-answers
returns-clause-answers c = rw (← c.self.view_is) c.evaluate.ensures.answers
