use Rattle.std.proofs.Common.{◌+◌, ◌*◌, arith}
use Rattle.ds2_schedule.proofs.Runs.{begins_inside}
use Rattle.ds2_schedule.proofs.Answered.{gives_run}
use Rattle.ds2_schedule.proofs.tickets.Tickets.run.Goals as goal

pub overflow_mul-from : goal.overflow_mul-from
overflow_mul-from c =
    let t = c.args.self.now in
    let low = begins_inside t.groups t.length c.args.number t.long (omega (arith, c.if-number-self.false, t.all)) in
    omega (arith, low)

pub overflow_sub-self : goal.overflow_sub-self
overflow_sub-self c =
    let t = c.args.self.now in
    let low = begins_inside t.groups t.length c.args.number t.long (omega (arith, c.if-number-self.false, t.all)) in
    omega (arith, low)

pub overflow_add-result : goal.overflow_add-result
overflow_add-result c =
    let t = c.args.self.now in
    let low = begins_inside t.groups t.length c.args.number t.long (omega (arith, c.if-number-self.false, t.all)) in
    omega (arith, low, c.min.ensures)

pub returns-else-number-self : goal.returns-else-number-self
returns-else-number-self c =
    let t = c.args.self.now in
    let low = begins_inside t.groups t.length c.args.number t.long (omega (arith, c.if-number-self.false, t.all)) in
    gives_run t c.args.number (c.args.number * t.length + c.min.result) (omega (arith, c.if-number-self.false)) (omega (arith, low, c.min.ensures))
