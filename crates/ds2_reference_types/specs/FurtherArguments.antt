-- Arguments with one more behind them, as the code holds them.
use Rattle.std.specs.Prelude.{List, Some, Result, Ok, Err}
use Rattle.ds2_base.specs.declared.place.Refusal.{Refusal}
use Rattle.ds2_meaning.specs.declared.expressions.Argument.{Argument}
use Rattle.ds2_meaning.specs.declared.refusals.TypeKind.{TypeKind}
use Rattle.ds2_names.specs.Refusals.{type_rank, first_of_both}
use Rattle.ds2_reference_types.specs.declared.passing.FurtherArgument.{FurtherArgument}

-- what stands of arguments and of one behind them
abbrev pub arguments_and : Result (List Argument) (Refusal TypeKind) → Result Argument (Refusal TypeKind) → Result FurtherArgument (Refusal TypeKind)
arguments_and (Ok arguments) (Ok argument) = Ok (record { arguments = arguments; argument = argument })
arguments_and (Ok arguments) (Err r) = Err r
arguments_and (Err r) (Ok argument) = Err r
arguments_and (Err r) (Err q) = Err (first_of_both type_rank r (Some q))
