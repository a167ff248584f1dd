-- The parts of statements: what rules they break and what they become, one by one.
use Rattle.std.specs.Prelude.{Bool, ◌++◌, map, Option, Some, None}
use Rattle.ds2_tree.specs.ExpressionViews.{expression_tree, arguments_of}
use Rattle.ds2_tree.specs.StatementViews.{statement_tree}
use Rattle.ds2_tree.specs.Statements as s
use Rattle.ds2_tree.specs.declared.statements.ElseIf.{ElseIf}
use Rattle.ds2_tree.specs.declared.statements.Statement as code
use Rattle.ds2_tree.specs.declared.statements.When as code_when
use Rattle.ds2_meaning.specs.TypedStatement as t
use Rattle.ds2_meaning.specs.View.{Part, Chained, if_tree, all_expressions, typed_expression, typed_statement}
use Rattle.ds2_meaning.specs.declared.statements.Arm.{Arm}
use Rattle.ds2_meaning.specs.declared.statements.When as typed_when
use Rattle.ds2_names.specs.NameRules.{from_each}
use Rattle.ds2_names.specs.Uses.{first_place}
use Rattle.ds2_elaboration.specs.ExpressionTypes.{TypeScope, elaborated, elaborated_arguments}
use Rattle.ds2_elaboration.specs.FunctionTypes.{ElaboratedArgument, nodes_in_order}
use Rattle.ds2_elaboration.specs.StatementTypes.{argument_nodes, selected_node, statement_refusals, statement_node}
use Rattle.ds2_elaboration.specs.Typings.{TypeRefusals, truth_refusals}

-- ---- statements one by one

-- what a statement that the code holds breaks
abbrev pub own_refusals : TypeScope → code.Statement → TypeRefusals
own_refusals types x = statement_refusals types (statement_tree x)

-- what a statement that the code holds becomes
abbrev pub own_node : TypeScope → code.Statement → t.TypedStatement
own_node types x = statement_node types (statement_tree x)

-- ---- an `if` and the parts that are chained to it

-- what an `else if` breaks
abbrev pub arm_refusals : TypeScope → ElseIf → TypeRefusals
arm_refusals types x =
    truth_refusals (first_place (expression_tree x.condition)) (elaborated types (expression_tree x.condition)) ++ own_refusals types x.then

-- an `else if` before what stands in its else part
abbrev pub arm_form : TypeScope → ElseIf → Chained
arm_form types x = λ rest. Some (if_tree x.keyword.place (elaborated types (expression_tree x.condition)).node (own_node types x.then) rest)

-- a typed `else if` before what stands in its else part
abbrev pub arm_of : Arm → Chained
arm_of a = λ rest. Some (if_tree a.place (typed_expression a.condition) (typed_statement a.then) rest)

-- what a last part becomes, where there is one
abbrev pub last_node : TypeScope → s.Otherwise → Option t.TypedStatement
last_node types s.NoOtherwise = None
last_node types (s.Otherwise' keyword statement) = Some (statement_node types statement)

-- ---- the parts of a `select`

-- what a part of a `select` breaks, whose tests have this rule
abbrev pub part_refusals : TypeScope → (ElaboratedArgument → TypeRefusals) → code_when.When → TypeRefusals
part_refusals types rule w = from_each rule (elaborated_arguments types (arguments_of w.values)) ++ own_refusals types w.statement

-- a part of a `select` before the others
abbrev pub when_form : TypeScope → Bool → code_when.When → Part t.TypedWhens
when_form types decimals w =
    λ rest. t.When (nodes_in_order (map (selected_node types decimals) (argument_nodes (elaborated_arguments types (arguments_of w.values))))) (own_node types w.statement) rest

-- a typed part of a `select` before the others
abbrev pub when_of : typed_when.When → Part t.TypedWhens
when_of w = λ rest. t.When (all_expressions (map typed_expression w.tests)) (typed_statement w.then) rest
