use Rattle.std.proofs.Common.{ℕ, List, Some, sym, ◌∙◌, subst}
use Rattle.ds2_tree.specs.ExpressionViews.{arguments_of}
use Rattle.ds2_names.specs.SourceUnit.{spelled_name}
use Rattle.ds2_elaboration.specs.ExpressionTypes.{ObjectCalls, elaborated_arguments, elaborated_hash_call, elaborated_iterator_call, hash_function_named, iterator_function_named, values_for}
use Rattle.ds2_elaboration.specs.StatementTypes.{object_call_refusals, object_call_node}
use Rattle.ds2_meaning.specs.TypedStatement.{SetParameters}
use Rattle.ds2_reference_types.specs.Scopes.{AreKnownCalls, IsInstance, IsThreadObject}
use Rattle.ds2_reference_types.specs.declared.scopes.KnownCalls.{KnownCalls}
use Rattle.ds2_simple_statement_types.specs.StatementOutcomes.{StandsAs}
use Rattle.ds2_simple_statement_types.proofs.object_calls.known_call.Goals as goal

pub returns-in-Methods : goal.returns-in-Methods
returns-in-Methods c = λ types calls s h.
    let object = c.args.object.now in
    let name = c.args.name.now in
    let xs = elaborated_arguments types (arguments_of c.args.arguments.now) in
    let so = subst (λ (k : KnownCalls). AreKnownCalls k calls) c.in-Methods.is h.calls in
    subst (λ (o : ObjectCalls). StandsAs (object_call_refusals types object name xs (Some o)) (object_call_node types object.place object name xs (Some o)) c.instance_call.result)
    (sym (IsInstance.same so)) (c.instance_call.ensures types (IsInstance.sources so) s (IsInstance.methods so) h.name)

pub returns-in_ok-x-in-Hash : goal.returns-in_ok-x-in-Hash
returns-in_ok-x-in-Hash c = λ types calls s h.
    let object = c.args.object.now in
    let name = c.args.name.now in
    let xs = elaborated_arguments types (arguments_of c.args.arguments.now) in
    let so = subst (λ (k : KnownCalls). AreKnownCalls k calls) c.in-Hash.is h.calls in
    let e = elaborated_hash_call object name (hash_function_named (spelled_name name)) in
    subst (λ (o : ObjectCalls). StandsAs (object_call_refusals types object name xs (Some o)) (object_call_node types object.place object name xs (Some o)) c.evaluated.result)
    (sym so) (c.evaluated.ensures e.refusals e.node (c.in_ok-x-in-Hash.ensures h.name).outcome)

pub returns-in_ok-x-in-Iterator : goal.returns-in_ok-x-in-Iterator
returns-in_ok-x-in-Iterator c = λ types calls s h.
    let object = c.args.object.now in
    let name = c.args.name.now in
    let xs = elaborated_arguments types (arguments_of c.args.arguments.now) in
    let so = subst (λ (k : KnownCalls). AreKnownCalls k calls) c.in-Iterator.is h.calls in
    let e = elaborated_iterator_call object name (iterator_function_named (spelled_name name)) in
    subst (λ (o : ObjectCalls). StandsAs (object_call_refusals types object name xs (Some o)) (object_call_node types object.place object name xs (Some o)) c.evaluated-in-Iterator.result)
    (sym so) (c.evaluated-in-Iterator.ensures e.refusals e.node (c.in_ok-x-in-Iterator.ensures h.name).outcome)

pub returns-in_ok-values-in-Parameters : goal.returns-in_ok-values-in-Parameters
returns-in_ok-values-in-Parameters c = λ types calls s h.
    let object = c.args.object.now in
    let name = c.args.name.now in
    let xs = elaborated_arguments types (arguments_of c.args.arguments.now) in
    let so = subst (λ (k : KnownCalls). AreKnownCalls k calls) c.in-Parameters.is h.calls in
    let variables = IsThreadObject.variables so in
    let all = values_for name.place variables xs in
    subst (λ (o : ObjectCalls). StandsAs (object_call_refusals types object name xs (Some o)) (object_call_node types object.place object name xs (Some o)) c.set.result)
    (sym (IsThreadObject.same so))
    (subst (λ (n : List ℕ). StandsAs all.refusals (SetParameters object.place n all.values) c.set.result) h.name
    (c.set.ensures all.refusals all.values (c.in_ok-values-in-Parameters.ensures types variables s.names (c.as_slice-all.ensures ∙ IsThreadObject.parameters so))))
