use Rattle.ds2_simple_statement_types.proofs.TargetForms.{may_be_set, may_not_be_set}
use Rattle.ds2_simple_statement_types.proofs.targets.if_settable.Goals as goal

pub returns-in_ok-found : goal.returns-in_ok-found
returns-in_ok-found c = λ v h. may_be_set c.args.known.now v h c.in_ok-found.found c.is_settable-settable.result c.in_ok-found.ensures (c.is_settable-settable.ensures c.args.known.now.name) c.if-settable.true

pub returns-else-settable : goal.returns-else-settable
returns-else-settable c = λ v h. may_not_be_set c.args.known.now v h c.is_settable-settable.result (c.is_settable-settable.ensures c.args.known.now.name) c.if-settable.false
