use Rattle.std.proofs.Common.{ap}
use Rattle.std.specs.Option.{option_copied}
use Rattle.ds2_simple_statement_types.proofs.TargetForms.{no_target, a_target}
use Rattle.ds2_simple_statement_types.proofs.targets.target_of.Goals as goal

pub returns-in-None : goal.returns-in-None
returns-in-None c = λ types s.
    no_target types c.args.scope.now c.args.name.now c.in_ok-spelled.spelled (option_copied c.variable.result) s c.in_ok-spelled.ensures c.variable.ensures
    (ap option_copied c.in-None.is)

pub returns : goal.returns
returns c = λ types s.
    a_target types c.args.scope.now c.args.name.now c.in_ok-spelled.spelled (option_copied c.variable.result) c.in-Some.known.now c.if_settable.result s c.in_ok-spelled.ensures
    c.variable.ensures (ap option_copied c.in-Some.is) c.if_settable.ensures
