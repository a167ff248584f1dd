use Rattle.std.specs.Option.{option_map}
use Rattle.ds2_names.specs.Uses.{first_place}
use Rattle.ds2_tree.specs.ExpressionViews.{expression_tree}
use Rattle.ds2_tree.specs.StatementViews.{step_tree}
use Rattle.ds2_elaboration.specs.ExpressionTypes.{elaborated}
use Rattle.ds2_elaboration.specs.StatementTypes.{bound_refusals, step_refusals, step_node, counted_refusals, counted_reference, target_of}
use Rattle.ds2_statement_types.proofs.counts.count.Goals as goal

pub returns : goal.returns
returns c = λ types s.
    let k = c.args.c.now in
    let a = expression_tree k.start in
    let b = expression_tree k.stop in
    let by = option_map step_tree k.step in
    let v = target_of types k.variable in
    c.count_of.ensures (counted_refusals types k.variable.place v) (bound_refusals (first_place a) (elaborated types a)) (bound_refusals (first_place b) (elaborated types b)) (step_refusals types by)
    (counted_reference types v) (elaborated types a).node (elaborated types b).node (step_node types by) (c.counted.ensures types v (c.in_ok-found.ensures types s)) (c.in_ok-start.ensures types s)
    (c.in_ok-stop.ensures types s) (c.in_ok-by.ensures types s)
