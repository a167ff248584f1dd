use Rattle.std.proofs.Common.{[], refl, ap, ◌∙◌}
use Rattle.ds2_value.specs.declared.ty.Ty.TheVariants.{BigInt}
use Rattle.ds2_meaning.specs.TypedExpression.{HashCalled}
use Rattle.std.specs.Prelude.{ℕ, List}
use Rattle.ds2_types.proofs.Outcomes.{type_typed}
use Rattle.ds2_reference_types.proofs.objects.hash_code.Goals as goal

pub returns : goal.returns
returns c =
    type_typed BigInt [] (HashCalled c.args.name.now c.args.function) c.in_ok-node.node refl (c.in_ok-node.ensures ∙ ap (λ (n : List ℕ). HashCalled n c.args.function) c.in_ok-hash.ensures)
