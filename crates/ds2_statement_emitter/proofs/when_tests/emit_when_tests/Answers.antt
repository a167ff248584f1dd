use Rattle.std.proofs.Common.{◌+◌, map, ap, ◌∙◌}
use Rattle.ds2_meaning.specs.View.{all_expressions, typed_expression}
use Rattle.ds2_statement_emitter.specs.Appending.{subject_of}
use Rattle.ds2_statement_emitter.proofs.SelectEnds.{tests_whole}
use Rattle.ds2_statement_emitter.proofs.when_tests.emit_when_tests.Goals as goal

pub returns-clause-code : goal.returns-clause-code
returns-clause-code g c =
    tests_whole (g.N.Numbering.numbers c.args.names.now) (subject_of c.args.tested) (all_expressions (map typed_expression c.args.tests.now)) c.args.code.now _ _ _ _ _ _ c.len-start.ensures c.in_ok-emit_open_tests.ensures
    (c.in_ok-body.ensures ∙ ap (λ k. k + 1) c.in_ok-position.ensures.same) c.redirect.ensures c.is_unconditional.ensures (cc (c.in_ok-emit.ensures, c.off_jump.ensures))
