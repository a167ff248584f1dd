use Rattle.std.proofs.Common.{◌+◌, arith}
use Rattle.ds2_stage.proofs.Drawn.{draws_next, drawn_rest, drawn_none, rest_of_some}
use Rattle.ds2_stage.proofs.drawing.draw_rest.Goals as goal

pub loop-i-init : goal.loop-i-init
loop-i-init c = record { of = c.requires.of; may = c.requires.may; drawn = λ workers word h. drawn_none workers word c.args.seat.now h }

pub loop-i-preserved : goal.loop-i-preserved
loop-i-preserved c = record {
  of = c.in-Run.ensures.of;
  may = c.in-Run.ensures.again tt;
  drawn = λ workers word h. draws_next c.args.tickets.now workers word c.loop-i._i c.loop-i.seat c.draw.new.seat _ (c.loop-i.invariant.drawn workers word h) c.in-Run.ensures.drawn;
}

pub returns-in-NoMore : goal.returns-in-NoMore
returns-in-NoMore c = λ workers word h. (c.loop-i._i + 1, drawn_rest c.args.tickets.now workers word c.loop-i._i _ c.loop-i.seat c.draw.new.seat (c.loop-i.invariant.drawn workers word h) c.in-NoMore.ensures.drawn)

pub returns : goal.returns
returns c = λ workers word h. (c.loop-i._i, rest_of_some c.args.tickets.now workers word c.loop-i._i c.loop-i.seat (omega (arith, c.args.tickets.now.few)) (c.loop-i.invariant.drawn workers word h))
