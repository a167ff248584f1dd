use Rattle.std.proofs.Common.{◌+◌, List, map, drop, refl, sym, ap, ◌∙◌}
use Rattle.std.proofs.lemmas.List.{drop_all}
use Rattle.ds2_meaning.specs.declared.expressions.Expression as code_expression
use Rattle.ds2_meaning.specs.View.{all_expressions, typed_expression}
use Rattle.ds2_locality.specs.Walk.{DirtySet, WalkEnd, TestsEnd, WalkScope, walk_tests}
use Rattle.ds2_deeds.proofs.DeedLemmas.{drop_next}
use Rattle.ds2_recorded_walk.specs.KnownFlags.{first_flags}
use Rattle.ds2_recorded_walk.specs.RecordedStatements.{walk_scope}
use Rattle.ds2_recorded_walk.proofs.PartLemmas.{tests_begun, tests_here, test_fails, test_may_hold, test_holds, tests_ended}
use Rattle.ds2_recorded_walk.proofs.statement_walk.walk_tests.Goals as goal
use Rattle.ds2_recorded_walk.proofs.statement_walk.walk_tests.Goals.{in-No, in-Unknown+in_ok-holding-in-Unknown}

pub tests-init : goal.tests-init
tests-init c = tests_begun c.args.scope.now c.args.walk.now _ _ c.new-holding.ensures

pub returns : goal.returns
returns c =
    tests_ended c.args.scope.now (λ (l : List code_expression.Expression) (w : WalkScope). walk_tests w (first_flags c.args.known.now) (all_expressions (map typed_expression l)) c.args.place) _
    c.args.known.now (all_expressions (map typed_expression c.args.tests.now)) c.args.place (drop_all c.tests.test-index c.args.tests.now c.tests-test.false) refl c.tests.invariant

pub returns-in-Yes : goal.returns-in-Yes
returns-in-Yes c =
    let s = c.args.scope.now in
    let tests = c.args.tests.now in
    let i = c.tests.test-index in
    let x = c.test-item.result in
    let of : List code_expression.Expression → WalkScope → DirtySet → WalkEnd TestsEnd = λ l w. walk_tests w (first_flags c.args.known.now) (all_expressions (map typed_expression l)) c.args.place in
    test_holds s c.args.known.now (typed_expression x) c.args.place (of (drop (i + 1) tests)) (all_expressions (map typed_expression tests)) _ _ _ _ (sym c.decided.ensures ∙ c.in-Yes.is)
    (tests_here s (λ calls. ap (λ l. of l (walk_scope s calls)) (drop_next tests i x c.tests-test.true c.test-item.is)) c.tests.invariant) c.in_ok-walk_expression.ensures
    c.in_ok-meet-in-Yes.ensures c.new.ensures c.go_on_from.ensures.before c.go_on_from.ensures.now

pub tests-preserved : goal.tests-preserved
tests-preserved c =
    let s = c.args.scope.now in
    let known = c.args.known.now in
    let tests = c.args.tests.now in
    let i = c.tests.test-index in
    let x = c.test-item.result in
    let of : List code_expression.Expression → WalkScope → DirtySet → WalkEnd TestsEnd = λ l w. walk_tests w (first_flags known) (all_expressions (map typed_expression l)) c.args.place in
    let first = drop_next tests i x c.tests-test.true c.test-item.is in
    elim c.match-decided.branch [
      | in-No w ↦ test_fails s known (typed_expression x) c.args.place (of (drop (i + 1) tests)) _ (sym c.decided.ensures ∙ w.in-No.is) (tests_here s (λ calls. ap (λ l. of l (walk_scope s calls)) first) c.tests.invariant) c.in_ok-walk_expression.ensures w.holding-is
      | in-Unknown+in_ok-holding-in-Unknown w ↦
          let grown = w.holding-is ∙ w.in_ok-holding-in-Unknown.ensures in
          test_may_hold s known (typed_expression x) c.args.place (of (drop (i + 1) tests)) _ (sym c.decided.ensures ∙ w.in-Unknown.is) (tests_here s (λ calls. ap (λ l. of l (walk_scope s calls)) first) c.tests.invariant) c.in_ok-walk_expression.ensures grown
    ]
