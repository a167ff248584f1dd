use Rattle.std.proofs.Common.{◌≡◌, ◌++◌, take}
use Rattle.ds2_answer.specs.Lines.{lines_put}
use Rattle.ds2_answer.proofs.lines.say_lines.Given as goal

abbrev pub invariant-lines : goal.invariant-lines
invariant-lines l = l.log ≡ l.initial.log ++ lines_put (take l.line-index l.lines)
