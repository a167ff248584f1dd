use Rattle.std.proofs.Common.{Option, ap}
use Rattle.std.specs.Option.{option_copied}
use Rattle.ds2_tree.specs.ExpressionViews.{arguments_of}
use Rattle.ds2_elaboration.specs.ExpressionTypes.{ObjectCalls, elaborated_arguments}
use Rattle.ds2_elaboration.specs.StatementTypes.{object_call_refusals, object_call_node}
use Rattle.ds2_elaboration.specs.Typings.{elaborated_nameless}
use Rattle.ds2_reference_types.proofs.ObjectForms.{no_object, an_object}
use Rattle.ds2_simple_statement_types.specs.StatementOutcomes.{StandsAs}
use Rattle.ds2_simple_statement_types.proofs.object_calls.object_call.Goals as goal

pub returns-in-None : goal.returns-in-None
returns-in-None c = λ types s.
    let object = c.args.object.now in
    let name = c.args.name.now in
    let xs = elaborated_arguments types (arguments_of c.args.arguments.now) in
    let e = elaborated_nameless object.place in
    no_object types c.args.scope.now.names object c.in_ok-spelled.spelled (option_copied c.object.result)
    (λ (o : Option ObjectCalls). StandsAs (object_call_refusals types object name xs o) (object_call_node types object.place object name xs o) c.evaluated.result) s.names c.in_ok-spelled.ensures
    c.object.ensures (ap option_copied c.in-None.is) (c.evaluated.ensures e.refusals e.node c.nameless.ensures.outcome)

pub returns : goal.returns
returns c = λ types s.
    let object = c.args.object.now in
    let name = c.args.name.now in
    let xs = elaborated_arguments types (arguments_of c.args.arguments.now) in
    an_object types c.args.scope.now.names object c.in_ok-spelled.spelled (option_copied c.object.result)
    (λ (o : Option ObjectCalls). StandsAs (object_call_refusals types object name xs o) (object_call_node types object.place object name xs o) c.known_call.result) c.in-Some.known.now s.names
    c.in_ok-spelled.ensures c.object.ensures (ap option_copied c.in-Some.is) (λ calls h. c.known_call.ensures types calls s h)
