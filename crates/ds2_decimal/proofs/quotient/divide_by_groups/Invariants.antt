use Rattle.ds2_decimal.proofs.QuotientLemmas.{HasDivided}
use Rattle.ds2_decimal.proofs.quotient.divide_by_groups.Given as goal

abbrev pub invariant-loop-left : goal.invariant-loop-left
invariant-loop-left l = HasDivided l.fn.dividend l.fn.zeros l.divisor l.left l.quotient l.rest

abbrev pub decreases-loop-left : goal.decreases-loop-left
decreases-loop-left l = l.left
