use Rattle.std.proofs.Common.{◌≤◌, ap, ◌∙◌, arith}
use Rattle.std.specs.Prelude.{◌||◌}
use Rattle.ds2_recorded_walk.specs.MarkedSets.{is_marked}
use Rattle.ds2_recorded_walk.proofs.SetLemmas.{marked_none, marked_to}
use Rattle.ds2_recorded_walk.proofs.number_marks.NumberMarks.mark_range.Goals as goal

pub returns-then-to-from : goal.returns-then-to-from
returns-then-to-from c = λ n.
    let test = c.if-to-from.true in ap (λ b. b || is_marked c.args.self.now n) (marked_none c.args.from c.args.to n (omega (arith, test)))

pub returns : goal.returns
returns c = λ n.
    let test = c.if-to-from.false in
    let over = c.numbers-test.false in
    let begun : c.args.from ≤ c.args.to = omega (arith, test) in
    let end' = c.numbers.auto.number-end begun in
    c.numbers.invariant n ∙ ap (λ b. b || is_marked c.args.self.now n) (marked_to c.args.from c.args.to c.numbers.number n (omega (arith, over)) (λ h k. omega (arith, end', k)))
