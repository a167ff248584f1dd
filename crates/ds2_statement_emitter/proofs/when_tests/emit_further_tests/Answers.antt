use Rattle.std.proofs.Common.{◌+◌, map, drop, arith}
use Rattle.std.proofs.lemmas.Grind.{common_steps}
use Rattle.ds2_meaning.specs.View.{all_expressions, typed_expression}
use Rattle.ds2_statement_emitter.specs.Appending.{subject_of}
use Rattle.ds2_statement_emitter.specs.Marks.{body_mark}
use Rattle.ds2_statement_emitter.proofs.PartRuns.{no_further_added, further_added}
use Rattle.ds2_statement_emitter.proofs.when_tests.emit_further_tests.Goals as goal

pub tests-preserved : goal.tests-preserved
tests-preserved g c =
    let k = further_added (g.N.Numbering.numbers c.args.names.now) (subject_of c.args.tested) body_mark (typed_expression c.test-item.result) (all_expressions (map typed_expression (drop (c.tests.test-index + 1) c.args.tests.now))) c.tests.code in
    grind (arith, common_steps, k, c.in_ok-emit.ensures, c.in_ok-emit_test.ensures, c.tests.invariant)

pub returns : goal.returns
returns g c = grind (arith, common_steps, no_further_added (g.N.Numbering.numbers c.args.names.now) (subject_of c.args.tested) body_mark c.tests.code, c.tests.invariant)
