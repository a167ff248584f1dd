use Rattle.std.proofs.Common.{◌≡◌, [], ◌++◌, length}
use Rattle.ds2_answer.specs.CountLines.{kept_behind}
use Rattle.ds2_answer.proofs.counts.say_without_counts.Given as goal

abbrev pub invariant-bytes : goal.invariant-bytes
invariant-bytes l = l.log ++ kept_behind l.line l.rest ≡ l.fn.log ++ kept_behind [] l.text

abbrev pub decreases-bytes : goal.decreases-bytes
decreases-bytes l = length l.rest
