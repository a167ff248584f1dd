use Rattle.std.proofs.Common.{refl}
use Rattle.ds2_elaboration.specs.Typings.{truth_refusals}
use Rattle.ds2_expression_types.proofs.Growing.{after_truth, after_truth_step, truth_longer}
use Rattle.ds2_expression_types.proofs.growth.grow_truth.Goals as goal

pub returns-in-Err : goal.returns-in-Err
returns-in-Err c = λ first links refusals e t g h.
    let own = after_truth c.args.first_token e c.args.x c.truth_clash-clash.result c.ruled.result h c.truth_clash-clash.ensures c.ruled.ensures c.ruled.result refl in
    after_truth_step first links refusals (truth_refusals c.args.first_token e) e.node c.args.before c.ruled.result c.grown_and.result g own c.grown_and.ensures _ c.in-Err.is

pub returns-in_ok-grown-in-Ok : goal.returns-in_ok-grown-in-Ok
returns-in_ok-grown-in-Ok c = λ first links refusals e t g h.
    let own = after_truth c.args.first_token e c.args.x c.truth_clash-clash.result c.ruled.result h c.truth_clash-clash.ensures c.ruled.ensures c.ruled.result refl in
    let so = after_truth_step first links refusals (truth_refusals c.args.first_token e) e.node c.args.before c.ruled.result c.grown_and.result g own c.grown_and.ensures _ c.in-Ok.is in
    (so.0, truth_longer c.args.kind c.args.operator.now first links e.node c.in-Ok.step c.in_ok-grown-in-Ok.grown t so.1 c.in_ok-grown-in-Ok.ensures)
