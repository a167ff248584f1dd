use Rattle.std.proofs.Common.{ap}
use Rattle.std.specs.Option.{option_copied}
use Rattle.ds2_tree.specs.ExpressionViews.{arguments_of}
use Rattle.ds2_elaboration.specs.ExpressionTypes.{elaborated_arguments}
use Rattle.ds2_elaboration.specs.Typings.{elaborated_nameless}
use Rattle.ds2_simple_statement_types.proofs.InstanceCalls.{no_method_called, instance_called}
use Rattle.ds2_simple_statement_types.proofs.object_calls.instance_call.Goals as goal

pub returns-in-None : goal.returns-in-None
returns-in-None c = λ types sources s m k.
    let xs = elaborated_arguments types (arguments_of c.args.arguments.now) in
    let e = elaborated_nameless c.args.object.now.place in
    no_method_called types c.args.instance.methods.now sources c.args.object.now c.args.name.now c.in_ok-spelled.spelled (option_copied c.method_among.result) xs c.evaluated.result m
    c.in_ok-spelled.ensures c.method_among.ensures (ap option_copied c.in-None.is) (c.evaluated.ensures e.refusals e.node c.nameless.ensures.outcome)

pub returns : goal.returns
returns c = λ types sources s m k.
    let xs = elaborated_arguments types (arguments_of c.args.arguments.now) in
    instance_called types c.args.instance.methods.now sources c.args.object.now c.args.name.now c.in_ok-spelled.spelled (option_copied c.method_among.result) xs c.invoked.result c.in-Some.method.now
    c.as_slice-parameters.result.now c.in_ok-passed-in-Some.passed c.args.instance.name.now m k c.in_ok-spelled.ensures c.method_among.ensures (ap option_copied c.in-Some.is)
    c.as_slice-parameters.ensures (c.in_ok-passed-in-Some.ensures types s.names) c.invoked.ensures
