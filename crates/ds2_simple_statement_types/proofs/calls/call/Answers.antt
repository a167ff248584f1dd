use Rattle.ds2_tree.specs.ExpressionViews.{arguments_of}
use Rattle.ds2_elaboration.specs.ExpressionTypes.{elaborated_arguments}
use Rattle.ds2_simple_statement_types.proofs.CallForms.{told_call}
use Rattle.ds2_simple_statement_types.proofs.calls.call.Goals as goal

pub returns-in-Function : goal.returns-in-Function
returns-in-Function c = λ types s.
    told_call types (elaborated_arguments types (arguments_of c.args.arguments.now)) c.args.callee.now _ c.named_call.result c.in-Function.is (c.named_call.ensures types s)

pub returns-in-Null : goal.returns-in-Null
returns-in-Null c = λ types s.
    told_call types (elaborated_arguments types (arguments_of c.args.arguments.now)) c.args.callee.now _ c.null_test.result c.in-Null.is (c.null_test.ensures types s)

pub returns-in-Method : goal.returns-in-Method
returns-in-Method c = λ types s.
    told_call types (elaborated_arguments types (arguments_of c.args.arguments.now)) c.args.callee.now _ c.object_call.result c.in-Method.is (c.object_call.ensures types s)
