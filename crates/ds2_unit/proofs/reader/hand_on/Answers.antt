use Rattle.std.proofs.Common.{ℕ, List, [], ◌∷◌, ◌++◌, take, sym, ap, ◌∙◌, subst}
use Rattle.ds2_machine.specs.Sink.{SinkTakes}
use Rattle.ds2_unit.proofs.SinkLists.{nothing_taken, taken_more}
use Rattle.ds2_unit.proofs.StagedRuns.{line_next}
use Rattle.ds2_unit.proofs.reader.hand_on.Goals as goal

pub lines-init : goal.lines-init
lines-init g c = nothing_taken g.S.UnitSink.has_taken c.args.sink.now

pub lines-preserved : goal.lines-preserved
lines-preserved g c =
    let item = c.line-item.result in
    let so_far = take c.lines.line-index c.args.lines.now in
    let P : List (List ℕ) → Type 0 = λ ls. SinkTakes g.S.UnitSink.has_taken c.args.sink.now c.take_line.new.self [] ls in
    subst P (ap (λ (l : List ℕ). so_far ++ l ∷ []) c.as_str.ensures ∙ sym (line_next c.args.lines.now c.lines.line-index item c.lines-test.true c.line-item.is))
    (taken_more g.S.UnitSink.has_taken c.args.sink.now c.lines.sink c.take_line.new.self [] [] so_far (c.as_str.result.now ∷ []) c.lines.invariant c.in_ok-take_line.ensures)
