use Rattle.ds2_recorded_walk.proofs.GoesLemmas.{goes_both}
use Rattle.ds2_recorded_walk.proofs.PartLemmas.{if_ok}
use Rattle.ds2_recorded_walk.proofs.statement_walk.walk_count_head.Goals as goal

pub returns-clause-walked : goal.returns-clause-walked
returns-clause-walked c =
    let s = c.args.scope.now in
    if_ok c.copy.result c.copy.ensures
    (λ x e. goes_both s c.in_ok-walk_expression.ensures (goes_both s c.in_ok-walk_expression-2.ensures (goes_both s c.in_ok-walk_step.ensures c.in_ok-clean_variable.ensures)))
