use Rattle.std.proofs.Common.{◌≡◌, map, drop}
use Rattle.ds2_meaning.specs.View.{all_expressions, typed_expression}
use Rattle.ds2_statement_emitter.specs.Appending.{subject_of, with_further_tests}
use Rattle.ds2_statement_emitter.specs.Marks.{body_mark}
use Rattle.ds2_statement_emitter.proofs.when_tests.emit_further_tests.Given as goal

abbrev pub invariant-tests : goal.invariant-tests
invariant-tests g l =
    with_further_tests (g.N.Numbering.numbers l.names) (subject_of l.tested) body_mark (all_expressions (map typed_expression (drop l.test-index l.tests))) l.code
    ≡ with_further_tests (g.N.Numbering.numbers l.names) (subject_of l.tested) body_mark (all_expressions (map typed_expression l.tests)) l.fn.code
