use Rattle.std.proofs.Common.{ℕ, ◌+◌, ◌++◌, false, List, map, Option, Some, None, drop, sym, ap, ◌∙◌, subst, arith}
use Rattle.ds2_base.specs.declared.place.Place.{Place}
use Rattle.ds2_elaboration.specs.OperatorTypes.{elaborated_not}
use Rattle.ds2_elaboration.specs.Typings.{TypeRefusals, clash_unless, form_of_operands}
use Rattle.ds2_meaning.specs.TypedExpression as tree
use Rattle.ds2_names.specs.SourceUnit.{spelled_name}
use Rattle.ds2_types.specs.Judgements.{IsJudged, Judges}
use Rattle.ds2_value.specs.declared.ty.Ty.TheVariants.{BigInt}
use Rattle.ds2_value.specs.declared.value.Value.TheVariants.{Null as NullValue}
use Rattle.std.specs.Option.{option_copied}
use Rattle.ds2_tree.specs.ExpressionViews.{expression_tree, operands_of, arguments_of}
use Rattle.ds2_names.specs.Uses.{first_place}
use Rattle.ds2_token.specs.declared.token.Token.{Token}
use Rattle.ds2_tree.specs.declared.expressions.Callee.{Callee}
use Rattle.ds2_tree.specs.declared.expressions.Expression as code
use Rattle.ds2_tree.specs.declared.expressions.Operand as code_operand
use Rattle.ds2_tree.specs.declared.expressions.Argument as code_argument
use Rattle.ds2_meaning.specs.declared.methods.Parameter.{Parameter}
use Rattle.ds2_tree.proofs.Rows.{chain_is, call_is}
use Rattle.ds2_elaboration.specs.ExpressionTypes.{ObjectCalls, is_truth_chain, elaborated_chain, elaborated, elaborated_operands, elaborated_arguments, elaborated_member, arguments_for, result_of_method, elaborated_object_call, elaborated_call}
use Rattle.ds2_reference_types.specs.ArgumentTrees.{argument_in}
use Rattle.ds2_reference_types.specs.Passing.{AreAllPassed}
use Rattle.ds2_reference_types.specs.Scopes.{value_parameter, AreKnownCalls, IsInstance, IsThreadObject}
use Rattle.ds2_reference_types.specs.declared.scopes.KnownCalls.{KnownCalls}
use Rattle.ds2_reference_types.proofs.ObjectForms.{no_object, an_object, values_refused}
use Rattle.ds2_reference_types.proofs.ArgumentWalk.{next_argument, last_argument, none_judged, one_judged, all_judged, HasPassed, none_passed, one_passed, too_many, at_their_end}
use Rattle.ds2_expression_walk.proofs.ChainWalk.{next_operand, last_operand, begun, grown_on, grown_whole, begun_truth, grown_on_truth, grown_whole_truth, chain_of_truth, chain_of_values}
use Rattle.ds2_expression_walk.proofs.Told.{IsJudgedAs, told, told_call, no_method, a_method, method_result, no_instance_method, an_instance_method}
use Rattle.ds2_expression_walk.proofs.walk.+judge.Goals as goal

-- ---- chains

pub value_chain-operands-init : goal.value_chain-operands-init
value_chain-operands-init t c = λ types e s g. begun types c.args.kind e (operands_of c.args.rest.now) c.args.begun g

pub value_chain-operands-preserved : goal.value_chain-operands-preserved
value_chain-operands-preserved t c = λ types e s g.
    let o = c.operand-item.result in
    let i = c.operands.operand-index in
    let rest = c.args.rest.now in
    let x = elaborated types (expression_tree o.value) in
    grown_on types c.args.kind e (operands_of rest) o.operator (expression_tree o.value) (operands_of (drop i rest)) (operands_of (drop (i + 1) rest)) c.operands.growth c.in_ok-growth.growth
    (c.operands.invariant types e s g) (next_operand rest i o (omega arith) c.operand-item.is)
    (λ links ty refusals left h. c.in_ok-growth.ensures e.node links ty refusals left x h (c.in_ok-x.ensures types s))

pub value_chain-returns : goal.value_chain-returns
value_chain-returns t c = λ types e s g.
    let rest = c.args.rest.now in
    grown_whole types c.args.kind e (operands_of rest) (operands_of (drop c.operands.operand-index rest)) c.operands.growth c.finished.result (c.operands.invariant types e s g)
    (last_operand rest c.operands.operand-index (omega arith)) (λ links ty refusals left h. c.finished.ensures e.node links ty refusals left h)

pub truth_chain-operands-init : goal.truth_chain-operands-init
truth_chain-operands-init t c = λ types e start s k g. begun_truth types c.args.kind start e (operands_of c.args.rest.now) c.args.begun g

pub truth_chain-operands-preserved : goal.truth_chain-operands-preserved
truth_chain-operands-preserved t c = λ types e start s k g.
    let o = c.operand-item.result in
    let i = c.operands.operand-index in
    let rest = c.args.rest.now in
    let x = elaborated types (expression_tree o.value) in
    grown_on_truth types c.args.kind start e (operands_of rest) o.operator (expression_tree o.value) c.first_place-place.result (operands_of (drop i rest)) (operands_of (drop (i + 1) rest))
    c.operands.grown c.in_ok-grown.grown (c.operands.invariant types e start s k g) (next_operand rest i o (omega arith) c.operand-item.is) c.first_place-place.ensures
    (λ links before h. c.in_ok-grown.ensures e.node links before x k h (c.in_ok-x.ensures types s))

pub truth_chain-returns : goal.truth_chain-returns
truth_chain-returns t c = λ types e start s k g.
    let rest = c.args.rest.now in
    grown_whole_truth types c.args.kind start e (operands_of rest) (operands_of (drop c.operands.operand-index rest)) c.operands.grown c.finished_truth.result
    (c.operands.invariant types e start s k g) (last_operand rest c.operands.operand-index (omega arith)) (λ links before h. c.finished_truth.ensures e.node links before h)

pub chain-returns-in-And : goal.chain-returns-in-And
chain-returns-in-And t c = λ types e s h.
    let k = ap is_truth_chain c.in-And.is in
    chain_of_truth c.args.kind c.args.place e (elaborated_operands types (operands_of c.args.rest.now)) c.truth_chain.result k
    (c.truth_chain.ensures types e c.args.place s k (c.seed_truth.ensures e h))

pub chain-returns-in-Or : goal.chain-returns-in-Or
chain-returns-in-Or t c = λ types e s h.
    let k = ap is_truth_chain c.in-Or.is in
    chain_of_truth c.args.kind c.args.place e (elaborated_operands types (operands_of c.args.rest.now)) c.truth_chain-in-Or.result k
    (c.truth_chain-in-Or.ensures types e c.args.place s k (c.seed_truth-in-Or.ensures e h))

pub chain-returns-in-Concatenation : goal.chain-returns-in-Concatenation
chain-returns-in-Concatenation t c = λ types e s h.
    let k = ap is_truth_chain c.in-Concatenation.is in
    chain_of_values c.args.kind c.args.place e (elaborated_operands types (operands_of c.args.rest.now)) c.value_chain.result k (c.value_chain.ensures types e s (c.seed.ensures e h))

pub chain-returns-in-Sum : goal.chain-returns-in-Sum
chain-returns-in-Sum t c = λ types e s h.
    let k = ap is_truth_chain c.in-Sum.is in
    chain_of_values c.args.kind c.args.place e (elaborated_operands types (operands_of c.args.rest.now)) c.value_chain-in-Sum.result k (c.value_chain-in-Sum.ensures types e s (c.seed-in-Sum.ensures e h))

pub chain-returns-in-Product : goal.chain-returns-in-Product
chain-returns-in-Product t c = λ types e s h.
    let k = ap is_truth_chain c.in-Product.is in
    chain_of_values c.args.kind c.args.place e (elaborated_operands types (operands_of c.args.rest.now)) c.value_chain-in-Product.result k (c.value_chain-in-Product.ensures types e s (c.seed-in-Product.ensures e h))

-- ---- arguments

pub judged_arguments-arguments-init : goal.judged_arguments-arguments-init
judged_arguments-arguments-init t c = λ types s. none_judged (elaborated_arguments types (arguments_of c.args.arguments.now)) c.new-judged.result c.new-judged.ensures

pub judged_arguments-arguments-preserved : goal.judged_arguments-arguments-preserved
judged_arguments-arguments-preserved t c = λ types s.
    let a = c.argument-item.result in
    let i = c.arguments.argument-index in
    let all = c.args.arguments.now in
    one_judged (elaborated_arguments types (arguments_of all)) (argument_in types a) (elaborated_arguments types (arguments_of (drop (i + 1) all)))
    (elaborated_arguments types (arguments_of (drop i all))) c.arguments.judged _ c.in_ok-x.x (c.arguments.invariant types s) (next_argument types all i a (omega arith) c.argument-item.is)
    (c.in_ok-x.ensures types s) c.in_ok-push.ensures.ok

pub judged_arguments-returns : goal.judged_arguments-returns
judged_arguments-returns t c = λ types s.
    let all = c.args.arguments.now in
    all_judged (elaborated_arguments types (arguments_of all)) (elaborated_arguments types (arguments_of (drop c.arguments.argument-index all))) c.arguments.judged
    (c.arguments.invariant types s) (last_argument types all c.arguments.argument-index (omega arith))

pub passed_argument-returns : goal.passed_argument-returns
passed_argument-returns t c = λ types refusals parts s h.
    c.pass.ensures refusals parts (argument_in types c.args.argument.now) h (sym c.first_place.ensures) (c.in_ok-x.ensures types s) (c.in_ok-variable.ensures types s)

pub passed_arguments-arguments-init : goal.passed_arguments-arguments-init
passed_arguments-arguments-init t c = λ types s.
    none_passed c.args.name c.args.parameters.now (elaborated_arguments types (arguments_of c.args.arguments.now)) c.new.result c.new.ensures

pub passed_arguments-arguments-preserved : goal.passed_arguments-arguments-preserved
passed_arguments-arguments-preserved t c = λ types s.
    let a = c.argument-item.result in
    let i = c.arguments.argument-index in
    let all = c.args.arguments.now in
    let xs = elaborated_arguments types (arguments_of all) in
    subst (λ (ps : List Parameter). HasPassed c.args.name (arguments_for c.args.name c.args.parameters.now xs) ps (elaborated_arguments types (arguments_of (drop (i + 1) all))) c.in_ok-so_far-in-Some.so_far)
    (sym c.further_parameters-left.ensures)
    (one_passed c.args.name (arguments_for c.args.name c.args.parameters.now xs) c.arguments.left.now c.in-Some.p.now (elaborated_arguments types (arguments_of (drop (i + 1) all)))
    (elaborated_arguments types (arguments_of (drop i all))) (argument_in types a) c.arguments.so_far c.in_ok-so_far-in-Some.so_far (c.arguments.invariant types s)
    (sym c.first_parameter.ensures ∙ ap option_copied c.in-Some.is) (next_argument types all i a (omega arith) c.argument-item.is)
    (λ refusals parts h. c.in_ok-so_far-in-Some.ensures types refusals parts s h))

pub passed_arguments-returns-in-None : goal.passed_arguments-returns-in-None
passed_arguments-returns-in-None t c = λ types s.
    let a = c.argument-item.result in
    let i = c.arguments.argument-index in
    let all = c.args.arguments.now in
    let whole = arguments_for c.args.name c.args.parameters.now (elaborated_arguments types (arguments_of all)) in
    subst (AreAllPassed whole) (sym c.counted_arguments.ensures)
    (too_many c.args.name whole c.arguments.left.now (elaborated_arguments types (arguments_of (drop (i + 1) all))) (elaborated_arguments types (arguments_of (drop i all))) (argument_in types a)
    c.arguments.so_far (c.arguments.invariant types s) (sym c.first_parameter.ensures ∙ ap option_copied c.in-None.is) (next_argument types all i a (omega arith) c.argument-item.is))

pub passed_arguments-returns : goal.passed_arguments-returns
passed_arguments-returns t c = λ types s.
    let i = c.arguments.argument-index in
    let all = c.args.arguments.now in
    let whole = arguments_for c.args.name c.args.parameters.now (elaborated_arguments types (arguments_of all)) in
    subst (AreAllPassed whole) (sym c.counted_arguments-2.ensures)
    (at_their_end c.args.name whole c.arguments.left.now (elaborated_arguments types (arguments_of (drop i all))) c.have_arguments.result c.arguments.so_far (c.arguments.invariant types s)
    (last_argument types all i (omega arith)) c.have_arguments.ensures)

-- ---- calls

pub named_call-returns-in-None : goal.named_call-returns-in-None
named_call-returns-in-None t c = λ types s.
    let xs = elaborated_arguments types (arguments_of c.args.arguments.now) in
    no_method types c.args.scope.now c.args.name.now c.in_ok-spelled.spelled (option_copied c.method.result) xs c.function.result s c.in_ok-spelled.ensures c.method.ensures
    (ap option_copied c.in-None.is) (c.function.ensures xs (c.in_ok-judged-in-None.ensures types s))

pub named_call-returns : goal.named_call-returns
named_call-returns t c = λ types s.
    let xs = elaborated_arguments types (arguments_of c.args.arguments.now) in
    let known = c.in-Some.method.now in
    a_method types c.args.scope.now c.args.name.now c.in_ok-spelled.spelled (option_copied c.method.result) xs c.result_of.result known s c.in_ok-spelled.ensures c.method.ensures
    (ap option_copied c.in-Some.is)
    (λ m k.
    method_result types.methods None c.args.name.now xs known c.as_slice-parameters.result.now c.in_ok-passed-in-Some.passed c.result_of.result m k c.as_slice-parameters.ensures
    (c.in_ok-passed-in-Some.ensures types s) c.result_of.ensures)

pub call-returns-in-Function : goal.call-returns-in-Function
call-returns-in-Function t c = λ types s.
    told_call types (elaborated_arguments types (arguments_of c.args.arguments.now)) c.args.callee.now _ c.named_call.result c.in-Function.is (c.named_call.ensures types s)

pub call-returns-in_ok-judged-in-Null : goal.call-returns-in_ok-judged-in-Null
call-returns-in_ok-judged-in-Null t c = λ types s.
    let xs = elaborated_arguments types (arguments_of c.args.arguments.now) in
    told_call types xs c.args.callee.now _ c.null_call.result c.in-Null.is (c.null_call.ensures xs (c.in_ok-judged-in-Null.ensures types s))

pub call-returns-in-Method : goal.call-returns-in-Method
call-returns-in-Method t c = λ types s.
    told_call types (elaborated_arguments types (arguments_of c.args.arguments.now)) c.args.callee.now _ c.object_call.result c.in-Method.is (c.object_call.ensures types s)

-- ---- calls on objects

pub instance_call-returns-in-None : goal.instance_call-returns-in-None
instance_call-returns-in-None t c = λ types sources s m k.
    let xs = elaborated_arguments types (arguments_of c.args.arguments.now) in
    no_instance_method c.args.instance.methods.now sources c.args.object.now c.args.name.now c.in_ok-spelled.spelled (option_copied c.method_among.result) xs c.nameless.result m c.in_ok-spelled.ensures
    c.method_among.ensures (ap option_copied c.in-None.is) c.nameless.ensures

pub instance_call-returns : goal.instance_call-returns
instance_call-returns t c = λ types sources s m k.
    let xs = elaborated_arguments types (arguments_of c.args.arguments.now) in
    let known = c.in-Some.method.now in
    an_instance_method c.args.instance.methods.now sources c.args.object.now c.args.name.now c.in_ok-spelled.spelled (option_copied c.method_among.result) xs known c.result_of.result m c.in_ok-spelled.ensures
    c.method_among.ensures (ap option_copied c.in-Some.is)
    (λ own h.
    method_result sources (Some (spelled_name c.args.object.now)) c.args.name.now xs known c.as_slice-parameters.result.now c.in_ok-passed-in-Some.passed c.result_of.result own h
    c.as_slice-parameters.ensures (c.in_ok-passed-in-Some.ensures types s)
    (λ a g. subst (λ (i : List ℕ). Judges (result_of_method c.args.name.now.place (Some i) known.number a known.returns) c.result_of.result) k (c.result_of.ensures a g)))

pub setting-returns : goal.setting-returns
setting-returns t c = λ types variables node s e.
    let xs = elaborated_arguments types (arguments_of c.args.arguments.now) in
    let place = c.args.name.now.place in
    let passed = subst (λ (ps : List Parameter). AreAllPassed (arguments_for place ps xs) c.in_ok-passed.passed) e (c.in_ok-passed.ensures types s) in
    subst (λ (refusals : TypeRefusals). IsJudged (form_of_operands (refusals ++ clash_unless false place) node) c.without_result.result) (sym (values_refused place variables xs))
    (c.without_result.ensures node (arguments_for place (map value_parameter variables) xs) passed)

pub known_call-returns-in-Methods : goal.known_call-returns-in-Methods
known_call-returns-in-Methods t c = λ types calls s h.
    let xs = elaborated_arguments types (arguments_of c.args.arguments.now) in
    let so = subst (λ (k : KnownCalls). AreKnownCalls k calls) c.in-Methods.is h.calls in
    subst (λ (o : ObjectCalls). Judges (elaborated_object_call c.args.object.now c.args.name.now xs (Some o)) c.instance_call.result) (sym (IsInstance.same so))
    (c.instance_call.ensures types (IsInstance.sources so) s (IsInstance.methods so) h.name)

pub known_call-returns-in-Hash : goal.known_call-returns-in-Hash
known_call-returns-in-Hash t c = λ types calls s h.
    let xs = elaborated_arguments types (arguments_of c.args.arguments.now) in
    let so = subst (λ (k : KnownCalls). AreKnownCalls k calls) c.in-Hash.is h.calls in
    subst (λ (o : ObjectCalls). Judges (elaborated_object_call c.args.object.now c.args.name.now xs (Some o)) c.hash_call.result) (sym so) (c.hash_call.ensures h.name)

pub known_call-returns-in-Iterator : goal.known_call-returns-in-Iterator
known_call-returns-in-Iterator t c = λ types calls s h.
    let xs = elaborated_arguments types (arguments_of c.args.arguments.now) in
    let so = subst (λ (k : KnownCalls). AreKnownCalls k calls) c.in-Iterator.is h.calls in
    subst (λ (o : ObjectCalls). Judges (elaborated_object_call c.args.object.now c.args.name.now xs (Some o)) c.iterator_call.result) (sym so) (c.iterator_call.ensures h.name)

pub known_call-returns-in-Parameters : goal.known_call-returns-in-Parameters
known_call-returns-in-Parameters t c = λ types calls s h.
    let xs = elaborated_arguments types (arguments_of c.args.arguments.now) in
    let so = subst (λ (k : KnownCalls). AreKnownCalls k calls) c.in-Parameters.is h.calls in
    subst (λ (o : ObjectCalls). Judges (elaborated_object_call c.args.object.now c.args.name.now xs (Some o)) c.setting.result) (sym (IsThreadObject.same so))
    (c.setting.ensures types (IsThreadObject.variables so) (tree.Constant NullValue BigInt) s (c.as_slice.ensures ∙ IsThreadObject.parameters so))

pub object_call-returns-in-None : goal.object_call-returns-in-None
object_call-returns-in-None t c = λ types s.
    let xs = elaborated_arguments types (arguments_of c.args.arguments.now) in
    no_object types c.args.scope.now c.args.object.now c.in_ok-spelled.spelled (option_copied c.object.result)
    (λ (o : Option ObjectCalls). IsJudged (elaborated_object_call c.args.object.now c.args.name.now xs o) c.nameless.result) s c.in_ok-spelled.ensures c.object.ensures
    (ap option_copied c.in-None.is) c.nameless.ensures

pub object_call-returns : goal.object_call-returns
object_call-returns t c = λ types s.
    let xs = elaborated_arguments types (arguments_of c.args.arguments.now) in
    an_object types c.args.scope.now c.args.object.now c.in_ok-spelled.spelled (option_copied c.object.result)
    (λ (o : Option ObjectCalls). Judges (elaborated_object_call c.args.object.now c.args.name.now xs o) c.known_call.result) c.in-Some.known.now s c.in_ok-spelled.ensures c.object.ensures
    (ap option_copied c.in-Some.is) (λ calls h. c.known_call.ensures types calls s h)

-- ---- expressions

pub judge-returns-in-Constant : goal.judge-returns-in-Constant
judge-returns-in-Constant t c = λ types s. told types (expression_tree c.args.e.now) _ c.constant_value.result (ap expression_tree c.in-Constant.is) c.constant_value.ensures

pub judge-returns-in-Null : goal.judge-returns-in-Null
judge-returns-in-Null t c = λ types s. told types (expression_tree c.args.e.now) _ c.null_value.result (ap expression_tree c.in-Null.is) c.null_value.ensures

pub judge-returns-in-Variable : goal.judge-returns-in-Variable
judge-returns-in-Variable t c = λ types s. told types (expression_tree c.args.e.now) _ c.variable.result (ap expression_tree c.in-Variable.is) (c.variable.ensures types s)

pub judge-returns-in-Member : goal.judge-returns-in-Member
judge-returns-in-Member t c = λ types s.
    told types (expression_tree c.args.e.now) _ c.member_value.result (ap expression_tree c.in-Member.is)
    (subst (λ (member : Token). Judges (elaborated_member types c.in-Member.object member) c.member_value.result) c.deref.ensures (c.member_value.ensures types s))

pub judge-returns-in-Call : goal.judge-returns-in-Call
judge-returns-in-Call t c = λ types s.
    told types (expression_tree c.args.e.now) _ c.call.result (call_is _ _ _ _ _ c.in-Call.is)
    (subst (λ (callee : Callee). Judges (elaborated_call types callee (elaborated_arguments types (arguments_of c.in-Call.arguments))) c.call.result) c.deref-in-Call.ensures
    (subst (λ (l : List code_argument.Argument). Judges (elaborated_call types c.deref-in-Call.result.now (elaborated_arguments types (arguments_of l))) c.call.result) c.as_slice.ensures
    (c.call.ensures types s)))

pub judge-returns-in-Parenthesis : goal.judge-returns-in-Parenthesis
judge-returns-in-Parenthesis t c = λ types s.
    told types (expression_tree c.args.e.now) _ c.judge.result (ap expression_tree c.in-Parenthesis.is)
    (subst (λ (x : code.Expression). Judges (elaborated types (expression_tree x)) c.judge.result) c.deref-in-Parenthesis.ensures (c.judge.ensures types s))

pub judge-returns-in_ok-x-in-Sign : goal.judge-returns-in_ok-x-in-Sign
judge-returns-in_ok-x-in-Sign t c = λ types s.
    told types (expression_tree c.args.e.now) _ c.sign.result (ap expression_tree c.in-Sign.is)
    (c.sign.ensures (elaborated types (expression_tree c.in-Sign.operand.value)) (subst (IsJudgedAs types c.in_ok-x-in-Sign.x) c.deref-in-Sign.ensures (c.in_ok-x-in-Sign.ensures types s)))

pub judge-returns-in_ok-x-in-Chain : goal.judge-returns-in_ok-x-in-Chain
judge-returns-in_ok-x-in-Chain t c = λ types s.
    let kind = c.in-Chain.kind in
    let x = elaborated types (expression_tree c.in-Chain.first.value) in
    let place = c.first_place-place.ensures ∙ ap (λ (e : code.Expression). first_place (expression_tree e)) c.deref-in-Chain.ensures in
    told types (expression_tree c.args.e.now) _ c.chain.result (chain_is _ _ _ _ c.in-Chain.is)
    (subst (λ (p : Place). Judges (elaborated_chain kind p x (elaborated_operands types (operands_of c.in-Chain.rest))) c.chain.result) place
    (subst (λ (l : List code_operand.Operand). Judges (elaborated_chain kind c.first_place-place.result x (elaborated_operands types (operands_of l))) c.chain.result) c.as_slice-in-Chain.ensures
    (c.chain.ensures types x s (subst (IsJudgedAs types c.in_ok-x-in-Chain.x) c.deref-in-Chain-2.ensures (c.in_ok-x-in-Chain.ensures types s)))))

pub judge-returns-in_ok-b-in-Comparison : goal.judge-returns-in_ok-b-in-Comparison
judge-returns-in_ok-b-in-Comparison t c = λ types s.
    told types (expression_tree c.args.e.now) _ c.comparison.result (ap expression_tree c.in-Comparison.is)
    (c.comparison.ensures (elaborated types (expression_tree c.in-Comparison.left.value)) (elaborated types (expression_tree c.in-Comparison.right.value))
    (subst (IsJudgedAs types c.in_ok-a-in-Comparison.a) c.deref-in-Comparison.ensures (c.in_ok-a-in-Comparison.ensures types s))
    (subst (IsJudgedAs types c.in_ok-b-in-Comparison.b) c.deref-in-Comparison-2.ensures (c.in_ok-b-in-Comparison.ensures types s)))

pub judge-returns-in_ok-x-in-Not : goal.judge-returns-in_ok-x-in-Not
judge-returns-in_ok-x-in-Not t c = λ types s.
    let x = elaborated types (expression_tree c.in-Not.operand.value) in
    let place = c.first_place-place-in-Not.ensures ∙ ap (λ (e : code.Expression). first_place (expression_tree e)) c.deref-in-Not.ensures in
    told types (expression_tree c.args.e.now) _ c.negation.result (ap expression_tree c.in-Not.is)
    (subst (λ (p : Place). Judges (elaborated_not p x) c.negation.result) place
    (c.negation.ensures x (subst (IsJudgedAs types c.in_ok-x-in-Not.x) c.deref-in-Not-2.ensures (c.in_ok-x-in-Not.ensures types s))))
