use Rattle.cdl_parse.proofs.class.+class.Given as goal

abbrev pub decreases-class : goal.decreases-class
decreases-class l = l.depth
