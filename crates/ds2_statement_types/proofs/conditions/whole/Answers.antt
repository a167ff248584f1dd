use Rattle.std.proofs.Common.{refl}
use Rattle.ds2_elaboration.specs.Typings.{is_integer_type, operand_clash}
use Rattle.ds2_types.proofs.Outcomes.{after_one}
use Rattle.ds2_statement_types.proofs.conditions.whole.Goals as goal

pub returns : goal.returns
returns c = λ e h.
    after_one (operand_clash is_integer_type c.args.place) e c.args.x c.operand_clash-clash.result c.ruled.result h c.operand_clash-clash.ensures c.ruled.ensures c.ruled.result refl
