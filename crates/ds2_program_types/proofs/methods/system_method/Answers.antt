use Rattle.std.proofs.Common.{◌≡◌, List, Ok, Err, refl, ap, ◌∙◌}
use Rattle.ds2_elaboration.specs.ProgramTypes.{method_refusals, return_rule, scope_of_method}
use Rattle.ds2_elaboration.specs.SourceTypes.{declared_variables}
use Rattle.ds2_elaboration.specs.StatementTypes.{statements_refusals, statements_node}
use Rattle.ds2_meaning.specs.View.{typed_statements}
use Rattle.ds2_meaning.specs.declared.statements.Statement.{Statement}
use Rattle.ds2_tree.specs.UnitViews.{method_tree}
use Rattle.ds2_simple_statement_types.proofs.PartOutcomes.{stands_of}
use Rattle.ds2_program_types.proofs.MethodForms.{same_body}
use Rattle.ds2_program_types.proofs.RuleLists.{stands_under}
use Rattle.ds2_program_types.proofs.methods.system_method.Goals as goal

pub returns-in-Err : goal.returns-in-Err
returns-in-Err c = λ tables before u t.
    let m = method_tree c.args.m.now in
    let scope = scope_of_method tables before u m in
    stands_of (λ (l : List Statement). typed_statements l ≡ statements_node scope m.body) (method_refusals tables before u m) c.under_rule.result (Err c.in-Err.refusal)
    (stands_under (λ (l : List Statement). typed_statements l ≡ statements_node scope m.body) (return_rule m) (statements_refusals scope m.body) c.return_rule.result c.in_ok-outcome.outcome
    c.under_rule.result c.return_rule.ensures (c.in_ok-outcome.ensures tables before u t) c.under_rule.ensures)
    c.in-Err.is

pub returns-in_ok-locals-in-Ok : goal.returns-in_ok-locals-in-Ok
returns-in_ok-locals-in-Ok c = λ tables before u t.
    let m = method_tree c.args.m.now in
    let scope = scope_of_method tables before u m in
    let so = stands_of (λ (l : List Statement). typed_statements l ≡ statements_node scope m.body) (method_refusals tables before u m) c.under_rule.result (Ok c.in-Ok.body)
    (stands_under (λ (l : List Statement). typed_statements l ≡ statements_node scope m.body) (return_rule m) (statements_refusals scope m.body) c.return_rule.result c.in_ok-outcome.outcome
    c.under_rule.result c.return_rule.ensures (c.in_ok-outcome.ensures tables before u t) c.under_rule.ensures)
    c.in-Ok.is in
    (so.0, (refl, same_body tables before u m c.in_ok-locals-in-Ok.locals c.in-Ok.body (c.in_ok-locals-in-Ok.ensures ∙ ap declared_variables c.as_slice.ensures) so.1))
