use Rattle.std.proofs.Common.{◌+◌, List, map, drop, sym, ap, ◌∙◌}
use Rattle.ds2_meaning.specs.declared.expressions.Argument.{Argument}
use Rattle.ds2_meaning.specs.TypedExpression.{NoArgument}
use Rattle.ds2_meaning.specs.View.{argument_tree, constructors_first, in_a_row}
use Rattle.ds2_program_code.specs.UsedConstants.{constants_of_arguments, constants_of_body}
use Rattle.ds2_constants.specs.UsedOnce.{with_used}
use Rattle.ds2_generate.proofs.WalkLemmas.{constructor_collected, grown_by_equal, first_and_rest}
use Rattle.ds2_generate.proofs.constants.collect_constructors.Goals as goal

pub instances-preserved : goal.instances-preserved
instances-preserved c = λ rest.
    let instances = c.args.instances.now in
    let n = c.instances.instance-index in
    let i = c.instance-item.result in
    let later = constructors_first (drop (n + 1) instances) rest in
    ap (λ t. with_used (constants_of_body later) t)
    (grown_by_equal (λ (l : List Argument). constants_of_arguments (in_a_row (map argument_tree l) NoArgument)) _ _ _ _ c.as_slice.ensures c.in_ok-collect_arguments.ensures)
    ∙ sym (constructor_collected i.place i.name i.constructor (in_a_row (map argument_tree i.arguments) NoArgument) later c.instances.table)
    ∙ ap (λ l. with_used (constants_of_body (constructors_first l rest)) c.instances.table) (sym (first_and_rest instances n i c.instances-test.true c.instance-item.is))
    ∙ c.instances.invariant rest
