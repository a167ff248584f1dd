use Rattle.std.proofs.Common.{◌≡◌, replicate}
use Rattle.ds2_local.proofs.parts.zeros.Given as goal

abbrev pub invariant-numbers : goal.invariant-numbers
invariant-numbers l = l.numbers ≡ replicate l.counter 0
