use Rattle.std.proofs.Common.{◌<◌, ◌∙◌, ap, arith, length}
use Rattle.ds2_stage.specs.Passes.{PassView}
use Rattle.ds2_stage.proofs.Passes.{stand_by_number}
use Rattle.ds2_stage.proofs.stage.run_workers.Goals as goal

pub returns-clause-each : goal.returns-clause-each
returns-clause-each g c = λ k b low.
    let told = (c.in_ok-bags.ensures.each k b (omega (arith, low, c.in_ok-bags.ensures.len))).1.call.met in
    (told.0, told.1)

pub returns-clause-number : goal.returns-clause-number
returns-clause-number g c = stand_by_number (λ b. b.pass) c.in_ok-bags.bags.items (λ k b low.
    let below : k < length c.args.passes.items = omega (arith, low, c.in_ok-bags.ensures.len) in
    let given = (c.in_ok-bags.ensures.each k b below).1 in
    given.call.met.2 ∙ ap (λ (p : PassView). p.number) given.job_read ∙ c.requires.number k given.job below)
