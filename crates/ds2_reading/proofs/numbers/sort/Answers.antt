use Rattle.std.proofs.lemmas.List.Sorted.{IsNonDecreasingBy-from_sort}
use Rattle.std.proofs.lemmas.Result.{on_ok_weaker}
use Rattle.ds2_reading.proofs.numbers.sort.Goals as goal

pub returns-clause-sorted : goal.returns-clause-sorted
returns-clause-sorted c = on_ok_weaker c.sort.result (λ s. IsNonDecreasingBy-from_sort (λ x. x) _ s) c.sort.ensures.sorted
