use Rattle.std.proofs.Common.{arith}
use Rattle.ds2_schedule.proofs.Ticket.{splits}
use Rattle.ds2_schedule.proofs.tickets.Tickets.split.Goals as goal

pub split_seat-requires : goal.split_seat-requires
split_seat-requires c =
    let t = c.args.self.now in
    let own = c.args.seat.now.seat in (
      c.requires.of.table,
      omega (arith, t.one),
      λ s kept at. (kept.0, kept.1, splits t.table.shared.key kept.0 s.views own.id own.me.0 kept.2 at c.requires.may),
    )
