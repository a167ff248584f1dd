use Rattle.std.proofs.Common.{ap}
use Rattle.std.specs.Option.{option_copied}
use Rattle.ds2_reference_types.proofs.KnownNames.{no_variable, a_variable}
use Rattle.ds2_reference_types.proofs.variables.variable.Goals as goal

pub returns-in-None : goal.returns-in-None
returns-in-None c = λ types s.
    no_variable types c.args.scope.now c.args.name.now c.in_ok-spelled.spelled (option_copied c.variable.result) c.nameless.result s c.in_ok-spelled.ensures c.variable.ensures
    (ap option_copied c.in-None.is) c.nameless.ensures

pub returns : goal.returns
returns c = λ types s.
    a_variable types c.args.scope.now c.args.name.now c.in_ok-spelled.spelled (option_copied c.variable.result) c.in-Some.known.now c.known_value.result s c.in_ok-spelled.ensures
    c.variable.ensures (ap option_copied c.in-Some.is) c.known_value.ensures
