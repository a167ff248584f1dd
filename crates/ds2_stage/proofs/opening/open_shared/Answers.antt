use Rattle.std.proofs.Common.{ap, ◌∙◌, arith, refl}
use Rattle.ds2_schedule.specs.Rule.{with_split}
use Rattle.ds2_stage.proofs.Passes.{workers_more}
use Rattle.ds2_stage.proofs.opening.open_shared.Goals as goal

pub loop-number-preserved : goal.loop-number-preserved
loop-number-preserved g c =
    let n = c.loop-number.number in
    let i = c.loop-number.invariant in
    record {
      counts = omega (arith, c.split_off-count.ensures);
      rows = omega (arith, c.split_off-rows.ensures);
      none = (omega (arith, c.split_off-count.ensures), omega (arith, c.split_off-rows.ensures));
      of = c.split-seat.ensures.first.0;
      first = c.split-seat.ensures.first.1 ∙ ap with_split i.first;
      made = omega (arith, c.push_reserved.ensures);
      room = omega (arith, c.push_reserved.ensures);
      each = workers_more _ c.loop-number.passes.items c.push_reserved.new.self.items n _ (omega (arith, i.made)) c.push_reserved.ensures.items i.each (record {
        number = refl;
        of = c.split-seat.ensures.new.0;
        seat = c.split-seat.ensures.new.1;
        groups = omega (arith, c.split_off-count.ensures);
        rows = omega (arith, c.split_off-rows.ensures);
        parts = omega (arith, c.split_off-count.ensures);
      });
    }
