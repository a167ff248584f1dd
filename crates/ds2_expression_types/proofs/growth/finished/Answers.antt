use Rattle.ds2_expression_types.proofs.growth.finished.Goals as goal

pub returns : goal.returns
returns c = λ first links ty refusals left h. c.finished_outcome.ensures first links ty refusals h.outcome
