use Rattle.std.proofs.Common.{sym}
use Rattle.ds2_reference_types.specs.ArgumentTrees.{argument_in}
use Rattle.ds2_statement_types.specs.TestRules.{test_rule}
use Rattle.ds2_statement_types.proofs.when_tests.test.Goals as goal

pub returns : goal.returns
returns c = λ types s.
    let x = argument_in types c.args.a.now in
    c.selected_outcome.ensures types (test_rule c.args.rule.beside x) x.value.node (c.ruled_test-outcome.ensures x (sym c.first_place.ensures) (c.in_ok-x.ensures types s))
