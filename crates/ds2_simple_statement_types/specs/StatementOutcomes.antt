-- What stands of statements and of lists.
use Rattle.std.specs.Prelude.{◌≡◌, List, map, Option, Some, None, Result, Ok, Err}
use Rattle.std.specs.declared.boxed.Box.{Box}
use Rattle.std.specs.declared.alloc.Global.{Global}
use Rattle.ds2_base.specs.declared.place.Refusal.{Refusal}
use Rattle.ds2_base.specs.declared.stop.OutOfMemory.{OutOfMemory}
use Rattle.ds2_elaboration.specs.Typings.{TypeRefusals}
use Rattle.ds2_meaning.specs.TypedExpression.{TypedExpression}
use Rattle.ds2_meaning.specs.TypedStatement.{TypedStatement}
use Rattle.ds2_meaning.specs.View.{typed_statement}
use Rattle.ds2_meaning.specs.declared.refusals.TypeKind.{TypeKind}
use Rattle.ds2_meaning.specs.declared.statements.Statement.{Statement}
use Rattle.ds2_types.specs.Judgements.{node_tree, IsOutcome}
use Rattle.ds2_types.specs.declared.judgement.Node.{Node}

-- the tree of a boxed statement
abbrev pub boxed_tree : Box Statement Global → TypedStatement
boxed_tree b = typed_statement b.value

-- a typed statement where no rule is broken; else the broken rule that is given
abbrev pub IsStatementAs : TypeRefusals → TypedStatement → Result (Box Statement Global) (Refusal TypeKind) → Type 0
IsStatementAs refusals node outcome = IsOutcome (λ (b : Box Statement Global). boxed_tree b ≡ node) refusals outcome

-- that stands, unless memory ran out
abbrev pub StandsAs : TypeRefusals → TypedStatement → Result (Result (Box Statement Global) (Refusal TypeKind)) OutOfMemory → Type 0
StandsAs refusals node (Ok outcome) = IsStatementAs refusals node outcome
StandsAs refusals node (Err fault) = Unit {0}

-- a typed expression where no rule is broken; else the broken rule that is given
abbrev pub IsNodeAs : TypeRefusals → TypedExpression → Result Node (Refusal TypeKind) → Type 0
IsNodeAs refusals node outcome = IsOutcome (λ (n : Node). node_tree n ≡ node) refusals outcome

-- the typed tree of a node that may be left out
abbrev pub tree_if_any : Option Node → Option TypedExpression
tree_if_any None = None
tree_if_any (Some n) = Some (node_tree n)

-- a list of parts of these kinds where no rule is broken; else the broken rule that is given
abbrev pub AreTypedAs : {A B : Type 0} → (A → B) → TypeRefusals → List B → Result (List A) (Refusal TypeKind) → Type 0
AreTypedAs {A} {B} view refusals parts outcome = IsOutcome (λ (l : List A). map view l ≡ parts) refusals outcome

-- the broken rule that is given, where one is
abbrev pub refusal_in : {A : Type 0} → Result A (Refusal TypeKind) → Option (Refusal TypeKind)
refusal_in (Ok x) = None
refusal_in (Err r) = Some r
