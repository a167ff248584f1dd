use Rattle.std.proofs.Common.{ap, ◌∙◌, subst}
use Rattle.ds2_meaning.specs.IsTyped.{expression_type}
use Rattle.ds2_types.specs.Judgements.{IsOutcome}
use Rattle.ds2_types.proofs.Outcomes.{IsTree}
use Rattle.ds2_expression_types.proofs.growth.first_outcome.Goals as goal

pub returns-in-Err : goal.returns-in-Err
returns-in-Err c = λ node refusals h. subst (IsOutcome (IsTree node) refusals) c.in-Err.is h

pub returns-in-Ok : goal.returns-in-Ok
returns-in-Ok c = λ node refusals h.
    let so = subst (IsOutcome (IsTree node) refusals) c.in-Ok.is h in
    let g = c.first_alone.ensures in
    (so.0, record { begins = g.begins ∙ so.1; goes_on = g.goes_on; type_so_far = g.type_so_far ∙ ap expression_type so.1 })
