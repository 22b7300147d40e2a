use Rattle.cdl_expressions.proofs.argument.+args.Given as goal

abbrev pub decreases-args : goal.decreases-args
decreases-args l = l.depth
