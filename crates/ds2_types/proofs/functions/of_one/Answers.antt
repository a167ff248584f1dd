use Rattle.std.proofs.Common.{is_some}
use Rattle.ds2_elaboration.specs.FunctionTypes.{function_for, one_node}
use Rattle.ds2_elaboration.specs.Typings.{operand_clash}
use Rattle.ds2_value.specs.declared.ty.Ty.{Ty}
use Rattle.ds2_types.proofs.Forms.{broken_of_type_by, typed_of_type_by}
use Rattle.ds2_types.proofs.functions.of_one.Goals as goal

pub returns-in-Err : goal.returns-in-Err
returns-in-Err c = λ e h.
    broken_of_type_by (operand_clash (λ (ty : Ty). is_some (function_for c.args.by_type ty)) c.args.name) e.value c.args.x c.type_clash-clash.result c.ruled.result h c.type_clash-clash.ensures
    c.ruled.ensures c.args.by_type (one_node c.args.by_type e.value.node) c.broken_typing.result c.broken_typing.ensures c.in-Err.refusal c.in-Err.is

pub returns-in_ok-node-in-Ok : goal.returns-in_ok-node-in-Ok
returns-in_ok-node-in-Ok c = λ e h.
    typed_of_type_by (operand_clash (λ (ty : Ty). is_some (function_for c.args.by_type ty)) c.args.name) e.value c.args.x c.type_clash-clash.result c.ruled.result h c.type_clash-clash.ensures
    c.ruled.ensures c.args.by_type c.in-Ok.operand c.in-Ok.is c.in_ok-node-in-Ok.node c.in_ok-node-in-Ok.ensures
