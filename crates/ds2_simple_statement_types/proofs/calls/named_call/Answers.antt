use Rattle.std.proofs.Common.{ap}
use Rattle.std.specs.Option.{option_copied}
use Rattle.ds2_tree.specs.ExpressionViews.{arguments_of}
use Rattle.ds2_elaboration.specs.ExpressionTypes.{elaborated_arguments}
use Rattle.ds2_elaboration.specs.FunctionTypes.{elaborated_function}
use Rattle.ds2_simple_statement_types.proofs.CallForms.{function_called, method_called}
use Rattle.ds2_simple_statement_types.proofs.calls.named_call.Goals as goal

pub returns-in-None : goal.returns-in-None
returns-in-None c = λ types s.
    let xs = elaborated_arguments types (arguments_of c.args.arguments.now) in
    let e = elaborated_function c.args.name.now xs in
    function_called types c.args.scope.now.names c.args.name.now c.in_ok-spelled.spelled (option_copied c.method.result) xs c.evaluated.result s.names c.in_ok-spelled.ensures c.method.ensures
    (ap option_copied c.in-None.is)
    (c.evaluated.ensures e.refusals e.node (c.in_ok-x-in-None.ensures xs (c.in_ok-judged-in-None.ensures types s.names)).outcome)

pub returns : goal.returns
returns c = λ types s.
    let xs = elaborated_arguments types (arguments_of c.args.arguments.now) in
    method_called types c.args.scope.now.names c.args.name.now c.in_ok-spelled.spelled (option_copied c.method.result) xs c.invoked.result c.in-Some.method.now c.as_slice-parameters.result.now
    c.in_ok-passed-in-Some.passed s.names c.in_ok-spelled.ensures c.method.ensures (ap option_copied c.in-Some.is) c.as_slice-parameters.ensures (c.in_ok-passed-in-Some.ensures types s.names)
    c.invoked.ensures
