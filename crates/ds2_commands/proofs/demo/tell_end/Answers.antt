use Rattle.std.proofs.Common.{◌++◌, ◌∙◌, ℕ, List, Ok, ap, subst, sym}
use Rattle.std.specs.List.{concat}
use Rattle.ds2_answer.specs.CountLines.{lines_without_counts}
use Rattle.ds2_answer.specs.declared.status.Status.{Status}
use Rattle.ds2_commands.specs.DemoOutcomes.{FollowsBeside, told_of_end}
use Rattle.ds2_commands.proofs.DemoSteps.{told_done, told_other, told_short}
use Rattle.ds2_commands.proofs.demo.tell_end.Goals as goal

pub returns-in_err-say_without_counts : goal.returns-in_err-say_without_counts
returns-in_err-say_without_counts c = λ answers. told_short c.args.text.now c.args.log.now c.say_without_counts.new.log c.args.status c.args.n c.from_residual.result c.from_residual.ensures.1

pub returns-in_err-say_sales-in-Done : goal.returns-in_err-say_sales-in-Done
returns-in_err-say_sales-in-Done c = λ answers.
    told_short c.args.text.now c.args.log.now c.say_sales.new.log c.args.status c.args.n c.from_residual-in_err-say_sales-in-Done.result c.from_residual-in_err-say_sales-in-Done.ensures.1

pub returns-in_ok-say_sales-in-Done : goal.returns-in_ok-say_sales-in-Done
returns-in_ok-say_sales-in-Done c = λ answers.
    subst (λ (s : Status). FollowsBeside (told_of_end c.args.text.now s c.args.n) c.args.log.now (Ok tt) c.say_sales.new.log) (sym c.in-Done.is)
    (told_done c.args.text.now c.args.log.now c.say_without_counts.new.log c.say_sales.new.log c.args.n
    (c.in_ok-say_without_counts.ensures ∙ ap (λ (text : List ℕ). c.args.log.now ++ concat (lines_without_counts text)) c.as_slice.ensures) c.in_ok-say_sales-in-Done.ensures)

pub returns-in_default : goal.returns-in_default
returns-in_default c = λ answers.
    told_other c.args.text.now c.args.log.now c.say_without_counts.new.log c.args.status c.args.n c.in_default.not-Done answers
    (c.in_ok-say_without_counts.ensures ∙ ap (λ (text : List ℕ). c.args.log.now ++ concat (lines_without_counts text)) c.as_slice.ensures)
