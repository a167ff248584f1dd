use Rattle.std.proofs.Common.{◌+◌, List, drop, sym, ap, ◌∙◌, subst, arith}
use Rattle.std.specs.Option.{option_copied}
use Rattle.ds2_meaning.specs.declared.methods.Parameter.{Parameter}
use Rattle.ds2_elaboration.specs.ExpressionTypes.{arguments_for}
use Rattle.ds2_elaboration.specs.ProgramTypes.{constructor_arguments}
use Rattle.ds2_reference_types.specs.Passing.{AreAllPassed}
use Rattle.ds2_reference_types.proofs.ArgumentWalk.{HasPassed, at_their_end, none_passed, one_passed, too_many}
use Rattle.ds2_instance_types.specs.ConstantArguments.{constant_argument}
use Rattle.ds2_instance_types.proofs.ConstantForms.{last_constant, next_constant}
use Rattle.ds2_instance_types.proofs.constants.passed_constants.Goals as goal

pub constants-init : goal.constants-init
constants-init c = none_passed c.args.name c.args.parameters.now (constructor_arguments c.args.constants.now) c.new.result c.new.ensures

pub constants-preserved : goal.constants-preserved
constants-preserved c =
    let a = c.c-item.result in
    let i = c.constants.c-index in
    let all = c.args.constants.now in
    let whole = arguments_for c.args.name c.args.parameters.now (constructor_arguments all) in
    subst (λ (ps : List Parameter). HasPassed c.args.name whole ps (constructor_arguments (drop (i + 1) all)) c.in_ok-so_far-in-Some.so_far)
    (sym c.further_parameters-left.ensures)
    (one_passed c.args.name whole c.constants.left.now c.in-Some.p.now (constructor_arguments (drop (i + 1) all)) (constructor_arguments (drop i all)) (constant_argument a)
    c.constants.so_far c.in_ok-so_far-in-Some.so_far c.constants.invariant (sym c.first_parameter.ensures ∙ ap option_copied c.in-Some.is)
    (next_constant all i a (omega arith) c.c-item.is) (λ refusals parts h. c.in_ok-so_far-in-Some.ensures refusals parts h))

pub returns-in-None : goal.returns-in-None
returns-in-None c =
    let a = c.c-item.result in
    let i = c.constants.c-index in
    let all = c.args.constants.now in
    let whole = arguments_for c.args.name c.args.parameters.now (constructor_arguments all) in
    subst (AreAllPassed whole) (sym c.counted_arguments.ensures)
    (too_many c.args.name whole c.constants.left.now (constructor_arguments (drop (i + 1) all)) (constructor_arguments (drop i all)) (constant_argument a) c.constants.so_far
    c.constants.invariant (sym c.first_parameter.ensures ∙ ap option_copied c.in-None.is) (next_constant all i a (omega arith) c.c-item.is))

pub returns : goal.returns
returns c =
    let i = c.constants.c-index in
    let all = c.args.constants.now in
    let whole = arguments_for c.args.name c.args.parameters.now (constructor_arguments all) in
    subst (AreAllPassed whole) (sym c.counted_arguments-2.ensures)
    (at_their_end c.args.name whole c.constants.left.now (constructor_arguments (drop i all)) c.have_arguments.result c.constants.so_far c.constants.invariant
    (last_constant all i (omega arith)) c.have_arguments.ensures)
