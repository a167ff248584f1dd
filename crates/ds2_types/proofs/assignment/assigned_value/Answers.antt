use Rattle.std.proofs.Common.{◌∙◌}
use Rattle.ds2_types.specs.Judgements.{node_tree, assigned_clash}
use Rattle.ds2_types.proofs.Outcomes.{after_one}
use Rattle.ds2_types.proofs.Forms.{assigned_as}
use Rattle.ds2_types.proofs.assignment.assigned_value.Goals as goal

pub returns-in-Err : goal.returns-in-Err
returns-in-Err c = λ e h.
    after_one (assigned_clash c.args.ty c.args.place) e c.args.x c.assigned_clash.result c.ruled.result h c.assigned_clash.ensures c.ruled.ensures _ c.in-Err.is

pub returns-in_ok-node-in-Ok : goal.returns-in_ok-node-in-Ok
returns-in_ok-node-in-Ok c = λ e h.
    let o = c.in-Ok.operand in
    let so = after_one (assigned_clash c.args.ty c.args.place) e c.args.x c.assigned_clash.result c.ruled.result h c.assigned_clash.ensures c.ruled.ensures _ c.in-Ok.is in
    (so.0, c.in_ok-node-in-Ok.ensures ∙ assigned_as c.args.ty e _ (node_tree o) h.typing so.1)
