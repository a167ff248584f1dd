use Rattle.std.proofs.Common.{refl, arith}
use Rattle.ds2_stage.proofs.Worked.{draws_run, draws_none, still_working}
use Rattle.ds2_stage.proofs.worker.next_group.Goals as goal

pub returns-then-next-end : goal.returns-then-next-end
returns-then-next-end g c = λ answer before runs h. still_working answer c.args.tickets.now before c.args.pass.now c.args.pass.now runs c.args.next c.args.end (omega arith) refl h

pub returns-in-Run : goal.returns-in-Run
returns-in-Run g c = λ answer before runs h. draws_run c.still_ascends.ensures answer c.args.tickets.now before c.args.pass.now c.draw.new.self runs c.args.next c.args.end c.in-Run.from c.in-Run.to (omega arith) h c.in-Run.ensures.same c.in-Run.ensures.of c.in-Run.ensures.drawn c.in-Run.ensures.inside (c.in-Run.ensures.again tt)

pub returns-in-NoMore : goal.returns-in-NoMore
returns-in-NoMore g c = λ answer before runs h. draws_none c.still_ascends.ensures answer c.args.tickets.now before c.args.pass.now c.draw.new.self runs c.args.next c.args.end c.in-NoMore.field-0 (omega arith) h c.in-NoMore.ensures.same c.in-NoMore.ensures.of c.in-NoMore.ensures.drawn
