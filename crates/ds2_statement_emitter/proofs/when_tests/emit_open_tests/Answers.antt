use Rattle.std.proofs.Common.{◌-◌, length, map, take, drop, sym, ap, ◌∙◌}
use Rattle.ds2_meaning.specs.View.{all_expressions, typed_expression}
use Rattle.ds2_emitter.proofs.Appended.{on_ok}
use Rattle.ds2_statement_emitter.specs.Appending.{subject_of, with_open_tests}
use Rattle.ds2_statement_emitter.specs.Marks.{body_mark}
use Rattle.ds2_statement_emitter.proofs.PartRuns.{no_test_added, first_test_added, no_tests_left, tests_left}
use Rattle.ds2_statement_emitter.proofs.when_tests.emit_open_tests.Goals as goal

pub returns-in-empty : goal.returns-in-empty
returns-in-empty g c =
    let n = g.N.Numbering.numbers c.args.names.now in
    let subject = subject_of c.args.tested in
    sym (ap (λ tests. with_open_tests n subject body_mark tests c.args.code.now) (no_tests_left c.args.tests.now c.in-empty.len_below) ∙ no_test_added n subject body_mark c.args.code.now)

pub returns-in_ok-emit_test-in-len1-up : goal.returns-in_ok-emit_test-in-len1-up
returns-in_ok-emit_test-in-len1-up g c =
    let n = g.N.Numbering.numbers c.args.names.now in
    let subject = subject_of c.args.tested in
    let es = c.args.tests.now in
    let others = all_expressions (map typed_expression (take (length es - 1) (drop 1 es))) in
    let whole =
    ap (λ tests. with_open_tests n subject body_mark tests c.args.code.now) (tests_left es c.first-item.result c.in-len1-up.len_at_least c.first-item.is)
    ∙ first_test_added n subject body_mark (typed_expression c.first-item.result) others c.args.code.now in
    on_ok c.emit_further_tests.result c.emit_further_tests.ensures (λ e. cc (e, whole, c.in_ok-emit_test-in-len1-up.ensures))
