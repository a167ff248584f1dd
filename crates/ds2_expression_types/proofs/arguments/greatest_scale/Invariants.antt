use Rattle.std.specs.Prelude.{◌≡◌, ℕ, max, fold, length}
use Rattle.ds2_value.specs.declared.ty.Ty.{Ty}
use Rattle.ds2_meaning.specs.IsTyped.{type_scale}
use Rattle.ds2_expression_types.specs.Arguments.{types_known}
use Rattle.ds2_expression_types.proofs.arguments.greatest_scale.Given as goal

abbrev pub invariant-arguments : goal.invariant-arguments
invariant-arguments l = fold (λ (s : ℕ) (ty : Ty). max s (type_scale ty)) l.greatest (types_known l.rest) ≡ fold (λ (s : ℕ) (ty : Ty). max s (type_scale ty)) 0 (types_known l.arguments)

abbrev pub decreases-arguments : goal.decreases-arguments
decreases-arguments l = length l.rest
