use Rattle.std.proofs.Common.{ap}
use Rattle.std.specs.Option.{option_copied}
use Rattle.ds2_reference_types.proofs.KnownNames.{no_flag, a_flag}
use Rattle.ds2_reference_types.proofs.variables.flag.Goals as goal

pub returns-in-None : goal.returns-in-None
returns-in-None c = λ types s.
    no_flag types c.args.scope.now c.args.object.now c.args.member.now c.in_ok-spelled.spelled (option_copied c.by_variable.result) c.nameless.result s c.in_ok-spelled.ensures
    c.by_variable.ensures (ap option_copied c.in-None.is) c.nameless.ensures

pub returns : goal.returns
returns c = λ types s.
    a_flag types c.args.scope.now c.args.object.now c.args.member.now c.in_ok-spelled.spelled (option_copied c.by_variable.result) c.in-Some.name.now c.flag_of.result s
    c.in_ok-spelled.ensures c.by_variable.ensures (ap option_copied c.in-Some.is) c.flag_of.ensures
