use Rattle.std.proofs.Common.{FitsSigned, sym, ◌∙◌, rules}
use Rattle.std.specs.Int.{w128}
use Rattle.std.proofs.lemmas.Int.{to_z-of_z}
use Rattle.ds2_decimal.proofs.AlignedLemmas.{aligned_divisor}
use Rattle.ds2_decimal.proofs.dec.aligned_remainder.Goals as goal

pub remainder-requires-clause-some_divisor : goal.remainder-requires-clause-some_divisor
remainder-requires-clause-some_divisor c =
    let fits : FitsSigned w128 c.in-Some.divisor = search rules in
    let is = sym c.aligned.ensures ∙ c.in-Some.is in
    rw (to_z-of_z w128 c.in-Some.divisor fits) (aligned_divisor c.args.first c.args.second c.in-Some.dividend c.in-Some.divisor c.requires is)
