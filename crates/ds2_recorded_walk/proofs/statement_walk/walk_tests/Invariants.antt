use Rattle.std.proofs.Common.{map, drop}
use Rattle.ds2_meaning.specs.View.{all_expressions, typed_expression}
use Rattle.ds2_locality.specs.Walk.{walk_tests}
use Rattle.ds2_recorded_walk.specs.KnownFlags.{first_flags}
use Rattle.ds2_recorded_walk.proofs.PartLemmas.{TestsLeft}
use Rattle.ds2_recorded_walk.proofs.statement_walk.walk_tests.Given as goal

abbrev pub invariant-tests : goal.invariant-tests
invariant-tests l =
    TestsLeft l.scope l.fn.walk l.walk l.holding (λ w. walk_tests w (first_flags l.known) (all_expressions (map typed_expression (drop l.test-index l.tests))) l.place)
    (λ w. walk_tests w (first_flags l.known) (all_expressions (map typed_expression l.tests)) l.place)
