use Rattle.std.proofs.Common.{ap, ◌∙◌}
use Rattle.ds2_elaboration.specs.ExpressionTypes.{hash_function_named}
use Rattle.ds2_names.specs.SourceUnit.{spelled_name}
use Rattle.ds2_reference_types.proofs.ObjectForms.{no_hash_function, a_hash_function}
use Rattle.ds2_reference_types.proofs.objects.hash_call.Goals as goal

pub returns-in-None : goal.returns-in-None
returns-in-None c = λ k.
    no_hash_function c.args.object.now c.args.method.now (hash_function_named (spelled_name c.args.method.now)) c.hash_function.result c.nameless.result
    (c.hash_function.ensures ∙ ap hash_function_named (c.as_slice.ensures ∙ c.in_ok-spelled.ensures)) c.in-None.is c.nameless.ensures

pub returns : goal.returns
returns c = λ k.
    a_hash_function c.args.object.now c.args.method.now c.args.name.now (hash_function_named (spelled_name c.args.method.now)) c.hash_function.result c.in-Some.function c.hash_code.result
    (c.hash_function.ensures ∙ ap hash_function_named (c.as_slice.ensures ∙ c.in_ok-spelled.ensures)) c.in-Some.is k c.hash_code.ensures
