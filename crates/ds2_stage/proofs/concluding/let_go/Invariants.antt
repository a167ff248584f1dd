use Rattle.ds2_stage.proofs.concluding.let_go.Given as goal

abbrev pub decreases-loop-bag : goal.decreases-loop-bag
decreases-loop-bag g l = goal.left-loop-bag g l
