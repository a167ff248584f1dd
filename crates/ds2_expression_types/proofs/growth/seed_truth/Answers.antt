use Rattle.std.proofs.Common.{◌∙◌}
use Rattle.ds2_expression_types.proofs.Growing.{after_truth}
use Rattle.ds2_expression_types.proofs.growth.seed_truth.Goals as goal

pub returns-in-Err : goal.returns-in-Err
returns-in-Err c = λ e h. after_truth c.args.first_token e c.args.x c.truth_clash-clash.result c.ruled.result h c.truth_clash-clash.ensures c.ruled.ensures _ c.in-Err.is

pub returns-in-Ok : goal.returns-in-Ok
returns-in-Ok c = λ e h.
    let so = after_truth c.args.first_token e c.args.x c.truth_clash-clash.result c.ruled.result h c.truth_clash-clash.ensures c.ruled.ensures _ c.in-Ok.is in
    let g = c.begun.ensures in
    (so.0, record { begins = g.begins ∙ so.1; goes_on = g.goes_on; type_so_far = g.type_so_far })
