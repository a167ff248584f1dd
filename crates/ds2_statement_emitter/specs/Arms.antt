-- Places of statements, and parts of chains and of `select`, as their meaning sees them.
use Rattle.std.specs.Prelude.{Option, Some, None}
use Rattle.std.specs.declared.boxed.Box.{Box}
use Rattle.std.specs.declared.alloc.Global.{Global}
use Rattle.ds2_base.specs.declared.place.Place.{Place}
use Rattle.ds2_meaning.specs.declared.statements.Statement.TheFolds.{fold-Arm, fold-When}
use Rattle.ds2_meaning.specs.declared.statements.Arm as code_arm
use Rattle.ds2_meaning.specs.declared.statements.Statement as code_statement
use Rattle.ds2_meaning.specs.declared.statements.When as code_when
use Rattle.ds2_meaning.specs.TypedStatement.{TypedStatement, Empty, Assign, Invoke, Evaluate, SetParameters, Construct, Leave, Continue, Return, ReturnValue, Output, Put, If, IfElse, Select, SelectValue, Block, Count, While, Until, TypedWhens}
use Rattle.ds2_meaning.specs.View.{Part, Chained, statement_part, arm_part, when_part, typed_statement, typed_expression}
use Rattle.ds2_statement_emitter.specs.Appending.{IfPart}

-- the place of a statement
abbrev pub statement_place : TypedStatement → Place
statement_place (Empty place) = place
statement_place (Assign place variable value) = place
statement_place (Invoke place instance method arguments) = place
statement_place (Evaluate place value) = place
statement_place (SetParameters place instance values) = place
statement_place (Construct place instance method arguments) = place
statement_place (Leave place) = place
statement_place (Continue place) = place
statement_place (Return place) = place
statement_place (ReturnValue place value) = place
statement_place (Output place outputs) = place
statement_place (Put place items) = place
statement_place (If place condition on) = place
statement_place (IfElse place condition on off) = place
statement_place (Select place whens) = place
statement_place (SelectValue place value whens) = place
statement_place (Block place body) = place
statement_place (Count place variable start end step body) = place
statement_place (While place condition body) = place
statement_place (Until place condition body) = place

-- an `else if` before what stands in its else part
abbrev pub arm_tree : code_arm.Arm → Chained
arm_tree = fold-Arm TypedStatement Chained (Part TypedWhens) statement_part arm_part when_part

-- a `when` before the other parts of its `select`
abbrev pub when_tree : code_when.When → Part TypedWhens
when_tree = fold-When TypedStatement Chained (Part TypedWhens) statement_part arm_part when_part

-- an `else if` as a part of its chain
abbrev pub arm_of_chain : code_arm.Arm → IfPart
arm_of_chain a = record {
  place = (code_arm.out-Arm a).place;
  condition = typed_expression (code_arm.out-Arm a).condition;
  on = typed_statement (code_arm.out-Arm a).then;
}

-- the last else part or the `otherwise` part, where there is one
abbrev pub last_tree : Option (Box code_statement.Statement Global) → Option TypedStatement
last_tree None = None
last_tree (Some b) = Some (typed_statement b.value)
