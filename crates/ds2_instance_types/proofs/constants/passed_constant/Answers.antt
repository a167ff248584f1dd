use Rattle.std.proofs.Common.{sym}
use Rattle.ds2_instance_types.specs.ConstantArguments.{constant_argument}
use Rattle.ds2_instance_types.proofs.ConstantForms.{none_lent}
use Rattle.ds2_instance_types.proofs.constants.passed_constant.Goals as goal

pub returns : goal.returns
returns c = λ refusals parts h.
    c.pass.ensures refusals parts (constant_argument c.args.c.now) h (sym c.first_place.ensures) c.in_ok-x.ensures (none_lent c.args.p.now.is_in_out c.args.c.now)
