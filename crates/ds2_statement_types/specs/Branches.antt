-- The parts of an `if` and of a `select`, as the code holds them.
use Rattle.std.specs.Prelude.{◌≡◌, List, map, Option}
use Rattle.std.specs.Option.{option_map}
use Rattle.std.specs.declared.boxed.Box.{Box}
use Rattle.std.specs.declared.alloc.Global.{Global}
use Rattle.ds2_meaning.specs.TypedExpression.{TypedExpression}
use Rattle.ds2_meaning.specs.TypedStatement as t
use Rattle.ds2_meaning.specs.View.{Part, Chained}
use Rattle.ds2_meaning.specs.declared.statements.Arm.{Arm}
use Rattle.ds2_meaning.specs.declared.statements.Statement as typed
use Rattle.ds2_meaning.specs.declared.statements.When as typed_when
use Rattle.ds2_types.specs.Judgements.{node_tree}
use Rattle.ds2_types.specs.declared.judgement.Node.{Node}
use Rattle.ds2_simple_statement_types.specs.StatementOutcomes.{boxed_tree, tree_if_any}
use Rattle.ds2_statement_types.specs.StatementParts.{arm_of, when_of}
use Rattle.ds2_simple_statement_types.specs.declared.parts.Both.{Both}

-- a condition and what is done where it holds
abbrev pub IsHead : TypedExpression → t.TypedStatement → Both Node (Box typed.Statement Global) → Type 0
IsHead test node h = (node_tree h.first ≡ test) × (boxed_tree h.second ≡ node)

-- the parts that are chained to an `if`, and the last one
abbrev pub IsTail : List Chained → Option t.TypedStatement → Both (List Arm) (Option (Box typed.Statement Global)) → Type 0
IsTail parts last t = (map arm_of t.first ≡ parts) × (option_map boxed_tree t.second ≡ last)

-- the parts of a `select`
abbrev pub AreSelected : List (Part t.TypedWhens) → Option t.TypedStatement → Both (List typed_when.When) (Option (Box typed.Statement Global)) → Type 0
AreSelected forms last p = (map when_of p.first ≡ forms) × (option_map boxed_tree p.second ≡ last)

-- the value of a `select`
abbrev pub IsSelector : Option TypedExpression → Option Node → Type 0
IsSelector value n = tree_if_any n ≡ value
