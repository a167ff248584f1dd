use Rattle.std.proofs.Common.{◌+◌, List, drop, sym, ap, ◌∙◌, subst, arith}
use Rattle.std.specs.Option.{option_copied}
use Rattle.std.specs.Prelude.{Result}
use Rattle.ds2_base.specs.declared.place.Refusal.{Refusal}
use Rattle.ds2_elaboration.specs.ExpressionTypes.{elaborated_arguments, values_for}
use Rattle.ds2_reference_types.specs.ArgumentTrees.{argument_in}
use Rattle.ds2_reference_types.proofs.ArgumentWalk.{next_argument, last_argument}
use Rattle.ds2_meaning.specs.View.{parameter_tree}
use Rattle.ds2_meaning.specs.declared.methods.Parameter.{Parameter}
use Rattle.ds2_meaning.specs.declared.refusals.TypeKind.{TypeKind}
use Rattle.ds2_meaning.specs.declared.statements.ParameterSetting.{ParameterSetting}
use Rattle.ds2_tree.specs.ExpressionViews.{arguments_of}
use Rattle.ds2_simple_statement_types.specs.StatementOutcomes.{AreTypedAs}
use Rattle.ds2_simple_statement_types.proofs.SettingForms.{HasSet, none_set, one_set, too_many, at_their_end}
use Rattle.ds2_simple_statement_types.proofs.settings.settings.Goals as goal

pub arguments-init : goal.arguments-init
arguments-init c = λ types variables s e.
    none_set c.args.name variables c.args.parameters.now (elaborated_arguments types (arguments_of c.args.arguments.now)) c.new.result e c.new.ensures

pub arguments-preserved : goal.arguments-preserved
arguments-preserved c = λ types variables s e.
    let a = c.argument-item.result in
    let i = c.arguments.argument-index in
    let all = c.args.arguments.now in
    let whole = values_for c.args.name variables (elaborated_arguments types (arguments_of all)) in
    subst (λ (ps : List Parameter). HasSet c.args.name whole ps (elaborated_arguments types (arguments_of (drop (i + 1) all))) c.in_ok-so_far-in-Some.so_far)
    (sym c.further_parameters-left.ensures)
    (one_set c.args.name whole c.arguments.left.now c.in-Some.p.now (elaborated_arguments types (arguments_of (drop (i + 1) all))) (elaborated_arguments types (arguments_of (drop i all)))
    (argument_in types a) c.arguments.so_far c.in_ok-so_far-in-Some.so_far (c.arguments.invariant types variables s e) (sym c.first_parameter.ensures ∙ ap option_copied c.in-Some.is)
    (next_argument types all i a (omega arith) c.argument-item.is) (λ refusals values h. c.in_ok-so_far-in-Some.ensures types refusals values s h))

pub returns-in-None : goal.returns-in-None
returns-in-None c = λ types variables s e.
    let a = c.argument-item.result in
    let i = c.arguments.argument-index in
    let all = c.args.arguments.now in
    let whole = values_for c.args.name variables (elaborated_arguments types (arguments_of all)) in
    subst (λ (o : Result (List ParameterSetting) (Refusal TypeKind)). AreTypedAs parameter_tree whole.refusals whole.values o) (sym c.counted_settings.ensures)
    (too_many c.args.name whole c.arguments.left.now (elaborated_arguments types (arguments_of (drop (i + 1) all))) (elaborated_arguments types (arguments_of (drop i all))) (argument_in types a)
    c.arguments.so_far (c.arguments.invariant types variables s e) (sym c.first_parameter.ensures ∙ ap option_copied c.in-None.is)
    (next_argument types all i a (omega arith) c.argument-item.is))

pub returns : goal.returns
returns c = λ types variables s e.
    let i = c.arguments.argument-index in
    let all = c.args.arguments.now in
    let whole = values_for c.args.name variables (elaborated_arguments types (arguments_of all)) in
    subst (λ (o : Result (List ParameterSetting) (Refusal TypeKind)). AreTypedAs parameter_tree whole.refusals whole.values o) (sym c.counted_settings-2.ensures)
    (at_their_end c.args.name whole c.arguments.left.now (elaborated_arguments types (arguments_of (drop i all))) c.have_arguments.result c.arguments.so_far
    (c.arguments.invariant types variables s e) (last_argument types all i (omega arith)) c.have_arguments.ensures)
