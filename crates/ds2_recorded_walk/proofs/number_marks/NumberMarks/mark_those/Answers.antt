use Rattle.std.proofs.Common.{◌∙◌}
use Rattle.ds2_recorded_walk.proofs.SetLemmas.{marked_next}
use Rattle.ds2_recorded_walk.proofs.number_marks.NumberMarks.mark_those.Goals as goal

pub marks-preserved : goal.marks-preserved
marks-preserved c = λ n.
    marked_next c.marks.number c.in_ok-number.number c.args.marks.now c.marks.mark-index c.marks.self c.mark_if.new.self n c.marks-test.true c.in_ok-number.ensures (c.in_ok-mark_if.ensures n)
    ∙ c.marks.invariant n
