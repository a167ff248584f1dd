use Rattle.std.proofs.Common.{◌≡◌, length}
use Rattle.std.specs.Prelude.{map, reverse}
use Rattle.ds2_code.specs.declared.parts.ParameterPart.{ParameterPart}
use Rattle.ds2_value.specs.declared.value_function.OperandClass.TheVariants.{OneType}
use Rattle.ds2_valid_code.specs.OperandStack.{below_classes}
use Rattle.ds2_valid_code.proofs.results.take_arguments.Given as goal

abbrev pub invariant-arguments : goal.invariant-arguments
invariant-arguments l = below_classes (map (λ (p : ParameterPart). OneType p.ty) (reverse l.rest)) l.types ≡ below_classes (map (λ (p : ParameterPart). OneType p.ty) (reverse l.parameters)) l.initial.types

abbrev pub decreases-arguments : goal.decreases-arguments
decreases-arguments l = length l.rest
