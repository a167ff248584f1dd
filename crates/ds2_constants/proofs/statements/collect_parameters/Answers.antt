use Rattle.std.proofs.lemmas.Grind.{common_steps}
use Rattle.std.proofs.Common.{◌≡◌, ◌+◌, map, drop, sym, ap, ◌∙◌, arith}
use Rattle.ds2_meaning.specs.View.{parameter_tree}
use Rattle.ds2_program_code.specs.UsedConstants.{constants_of_parameters}
use Rattle.ds2_constants.specs.UsedOnce.{with_used}
use Rattle.ds2_constants.proofs.Collected.{none_used, items_from}
use Rattle.ds2_constants.proofs.CollectedStatements.{parameter_collected}
use Rattle.ds2_constants.proofs.statements.collect_parameters.Goals as goal

pub values-preserved : goal.values-preserved
values-preserved c =
    let values = c.args.values.now in
    let i = c.values.setting-index in
    let rest = map parameter_tree (drop (i + 1) values) in
    ap (λ t. with_used (constants_of_parameters rest) t) c.in_ok-collect_expression.ensures
    ∙ sym (parameter_collected (parameter_tree c.setting-item.result) rest c.values.table)
    ∙ ap (λ l. with_used (constants_of_parameters (map parameter_tree l)) c.values.table) (sym (items_from values i c.setting-item.result c.values-test.true c.setting-item.is))
    ∙ c.values.invariant

pub returns : goal.returns
returns c = grind (arith, common_steps, none_used c.values.table, c.values.invariant)
