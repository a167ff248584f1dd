use Rattle.std.proofs.Common.{ap}
use Rattle.std.specs.Option.{option_copied}
use Rattle.ds2_reference_types.proofs.References.{no_settable, a_settable}
use Rattle.ds2_reference_types.proofs.IfOks.{if_ok_as}
use Rattle.ds2_reference_types.proofs.settable.settable_name.Goals as goal

pub returns-in-None : goal.returns-in-None
returns-in-None c = λ types s.
    no_settable types c.args.scope.now c.args.name.now c.in_ok-spelled.spelled (option_copied c.variable.result) s c.in_ok-spelled.ensures c.variable.ensures
    (ap option_copied c.in-None.is)

pub returns : goal.returns
returns c = λ types s.
    if_ok_as _ _ c.settable_known.result
    (a_settable types c.args.scope.now c.args.name.now c.in_ok-spelled.spelled (option_copied c.variable.result) c.in-Some.known.now s c.in_ok-spelled.ensures c.variable.ensures
    (ap option_copied c.in-Some.is)) c.settable_known.ensures
