use Rattle.std.proofs.Common.{None, Some, Ok}
use Rattle.ds2_reference_types.specs.Flags.{flag_named}
use Rattle.ds2_reference_types.proofs.KnownNames.{form_of_flag}
use Rattle.ds2_reference_types.proofs.variables.flag_of.Goals as goal

pub returns-in-None : goal.returns-in-None
returns-in-None c =
    form_of_flag c.args.object.now.place (flag_named c.args.object.now c.args.name.now) c.in_ok-named.named None (Ok c.nameless.result) c.in_ok-named.ensures c.in-None.is c.nameless.ensures

pub returns-in-Some : goal.returns-in-Some
returns-in-Some c =
    form_of_flag c.args.object.now.place (flag_named c.args.object.now c.args.name.now) c.in_ok-named.named (Some c.in-Some.flag) c.flag_value.result c.in_ok-named.ensures c.in-Some.is
    c.flag_value.ensures
