use Rattle.std.proofs.Common.{◌++◌, ◌∙◌, ℕ, List, ap}
use Rattle.ds2_answer.specs.CountLines.{line_kept}
use Rattle.ds2_answer.proofs.TextLines.{all_read, none_left}
use Rattle.ds2_answer.proofs.counts.say_without_counts.Goals as goal

pub returns : goal.returns
returns c =
    all_read c.bytes.log c.args.log.now c.bytes.line c.bytes.rest.now c.say_unless_count.new.log c.args.text.now (none_left c.bytes.rest.now c.in_default.len_below)
    (c.in_ok-say_unless_count.ensures ∙ ap (λ (line : List ℕ). c.bytes.log ++ line_kept line) c.as_slice.ensures) c.bytes.invariant
