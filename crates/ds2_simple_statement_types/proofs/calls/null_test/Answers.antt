use Rattle.ds2_tree.specs.ExpressionViews.{arguments_of}
use Rattle.ds2_elaboration.specs.ExpressionTypes.{elaborated_arguments}
use Rattle.ds2_elaboration.specs.FunctionTypes.{elaborated_null_call}
use Rattle.ds2_simple_statement_types.proofs.calls.null_test.Goals as goal

pub returns : goal.returns
returns c = λ types s.
    let xs = elaborated_arguments types (arguments_of c.args.arguments.now) in
    let e = elaborated_null_call c.args.keyword.now.place xs in
    c.evaluated.ensures e.refusals e.node (c.in_ok-x.ensures xs (c.in_ok-judged.ensures types s.names)).outcome
