use Rattle.std.proofs.Common.{ap, ◌∙◌}
use Rattle.ds2_elaboration.specs.ExpressionTypes.{iterator_function_named}
use Rattle.ds2_names.specs.SourceUnit.{spelled_name}
use Rattle.ds2_reference_types.proofs.ObjectForms.{no_iterator_function, an_iterator_function}
use Rattle.ds2_reference_types.proofs.objects.iterator_call.Goals as goal

pub returns-in-None : goal.returns-in-None
returns-in-None c = λ k.
    no_iterator_function c.args.object.now c.args.method.now (iterator_function_named (spelled_name c.args.method.now)) c.iterator_function.result c.nameless.result
    (c.iterator_function.ensures ∙ ap iterator_function_named (c.as_slice.ensures ∙ c.in_ok-spelled.ensures)) c.in-None.is c.nameless.ensures

pub returns : goal.returns
returns c = λ k.
    an_iterator_function c.args.object.now c.args.method.now c.args.name.now (iterator_function_named (spelled_name c.args.method.now)) c.iterator_function.result c.in-Some.function c.iterator_code.result
    (c.iterator_function.ensures ∙ ap iterator_function_named (c.as_slice.ensures ∙ c.in_ok-spelled.ensures)) c.in-Some.is k c.iterator_code.ensures
