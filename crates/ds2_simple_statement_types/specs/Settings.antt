-- Values for the parameters of a thread program, one by one.
use Rattle.std.specs.Prelude.{◌++◌, List}
use Rattle.ds2_elaboration.specs.ExpressionTypes.{ElaboratedParameterValues}
use Rattle.ds2_elaboration.specs.FunctionTypes.{ElaboratedArgument}
use Rattle.ds2_elaboration.specs.Typings.{TypeRefusals, assigned_node, assigned_refusals}
use Rattle.ds2_meaning.specs.TypedStatement.{ParameterValue}
use Rattle.ds2_meaning.specs.declared.methods.Parameter.{Parameter}

-- a value for a parameter, assigned to its type
abbrev pub setting_of : Parameter → ElaboratedArgument → ParameterValue
setting_of p x = record { parameter = p.name; value = assigned_node p.ty x.value }

-- what is broken in it
abbrev pub setting_refusals : Parameter → ElaboratedArgument → TypeRefusals
setting_refusals p x = assigned_refusals p.ty x.place x.value

-- these rules and values before further ones
abbrev pub set_before : TypeRefusals → List ParameterValue → ElaboratedParameterValues → ElaboratedParameterValues
set_before refusals values rest = record { refusals = refusals ++ rest.refusals; values = values ++ rest.values }
