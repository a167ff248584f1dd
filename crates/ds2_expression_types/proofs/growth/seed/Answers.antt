use Rattle.ds2_expression_types.proofs.growth.seed.Goals as goal

pub returns : goal.returns
returns c = λ e h. record { typing = h.typing; outcome = c.first_outcome-outcome.ensures e.node e.refusals h.outcome }
