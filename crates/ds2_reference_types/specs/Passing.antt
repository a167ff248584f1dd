-- Arguments for the parameters of a method, one by one.
use Rattle.std.specs.Prelude.{◌≡◌, Bool, true, false, ◌++◌, is_some, if◌then◌else◌, List, map, Option, None, Result}
use Rattle.ds2_value.specs.Types.{same_ty}
use Rattle.ds2_base.specs.declared.place.Refusal.{Refusal}
use Rattle.ds2_value.specs.declared.ty.Ty.{Ty}
use Rattle.ds2_meaning.specs.TypedExpression as tree
use Rattle.ds2_meaning.specs.View.{Part, in_a_row, argument_tree}
use Rattle.ds2_meaning.specs.declared.expressions.Argument.{Argument}
use Rattle.ds2_meaning.specs.declared.location.Reference.{Reference}
use Rattle.ds2_meaning.specs.declared.methods.Parameter.{Parameter}
use Rattle.ds2_meaning.specs.declared.refusals.TypeKind.{TypeKind}
use Rattle.ds2_elaboration.specs.ExpressionTypes.{ElaboratedArguments, reference_in, reference_or_none}
use Rattle.ds2_elaboration.specs.FunctionTypes.{ElaboratedArgument}
use Rattle.ds2_elaboration.specs.Typings.{TypeRefusals, clash_unless, where_known, assigned_refusals, assigned_node}
use Rattle.ds2_types.specs.Judgements.{IsOutcome}

-- ---- one argument

-- a value before further arguments
abbrev pub part_of_value : tree.TypedExpression → Part tree.TypedArguments
part_of_value node = λ rest. tree.ByValue node rest

-- a variable before further arguments
abbrev pub part_of_variable : Option Reference → Part tree.TypedArguments
part_of_variable variable = λ rest. tree.InOut (reference_or_none variable) rest

-- the variable that an argument for an in_out parameter is, where it may be set
abbrev pub lent_variable : Bool → tree.TypedExpression → Option Reference
lent_variable true node = reference_in node
lent_variable false node = None

-- what is broken in an argument for an in_out parameter of this type
abbrev pub lent_refusals : Ty → ElaboratedArgument → TypeRefusals
lent_refusals ty x =
    x.value.refusals
    ++ clash_unless (is_some (reference_in x.value.node)) x.place
    ++ where_known x.value.typing (λ own. clash_unless (same_ty own ty) x.place)

-- what is broken in an argument for a parameter
abbrev pub passed_refusals : Parameter → ElaboratedArgument → TypeRefusals
passed_refusals p x = if p.is_in_out then lent_refusals p.ty x else assigned_refusals p.ty x.place x.value

-- an argument before further ones
abbrev pub passed_part : Parameter → ElaboratedArgument → Part tree.TypedArguments
passed_part p x = if p.is_in_out then part_of_variable (reference_in x.value.node) else part_of_value (assigned_node p.ty x.value)

-- what stands of an argument that is this before further ones
abbrev pub IsBefore : Part tree.TypedArguments → TypeRefusals → Result Argument (Refusal TypeKind) → Type 0
IsBefore part refusals passed = IsOutcome (λ (a : Argument). argument_tree a ≡ part) refusals passed

-- what stands of an argument by value
abbrev pub IsByValue : Ty → ElaboratedArgument → Result Argument (Refusal TypeKind) → Type 0
IsByValue ty x passed = IsBefore (part_of_value (assigned_node ty x.value)) (assigned_refusals ty x.place x.value) passed

-- what stands of an argument that is handed in and out
abbrev pub IsLent : Ty → ElaboratedArgument → Result Argument (Refusal TypeKind) → Type 0
IsLent ty x passed = IsBefore (part_of_variable (reference_in x.value.node)) (lent_refusals ty x) passed

-- what stands of an argument for a parameter
abbrev pub IsPassed : Parameter → ElaboratedArgument → Result Argument (Refusal TypeKind) → Type 0
IsPassed p x passed = IsBefore (passed_part p x) (passed_refusals p x) passed

-- ---- arguments in order

-- what stands of arguments that are these parts
abbrev pub ArePassed : TypeRefusals → List (Part tree.TypedArguments) → Result (List Argument) (Refusal TypeKind) → Type 0
ArePassed refusals parts passed = IsOutcome (λ (as' : List Argument). map argument_tree as' ≡ parts) refusals passed

-- what stands of all arguments of a call
abbrev pub AreAllPassed : ElaboratedArguments → Result (List Argument) (Refusal TypeKind) → Type 0
AreAllPassed a passed = IsOutcome (λ (as' : List Argument). in_a_row (map argument_tree as') tree.NoArgument ≡ a.arguments) a.refusals passed
