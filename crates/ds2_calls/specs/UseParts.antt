-- What a rule on uses of names gives within one part of a method.
use Rattle.std.specs.Prelude.{Bool, true, false, List, [], ◌∷◌, ◌++◌, Option, Some, None}
use Rattle.ds2_base.specs.declared.place.Place.{Place}
use Rattle.ds2_token.specs.declared.token.Token.{Token}
use Rattle.ds2_tree.specs.Expressions.{Expression, Variable}
use Rattle.ds2_tree.specs.declared.expressions.Callee.{Callee}
use Rattle.ds2_tree.specs.ExpressionViews.{expression_tree}
use Rattle.ds2_tree.specs.StatementViews.{statement_tree}
use Rattle.ds2_tree.specs.declared.statements.ElseIf.{ElseIf}
use Rattle.ds2_names.specs.NameRules.{from_each}
use Rattle.ds2_names.specs.Uses.{NameUse, HandsOver, uses, statement_uses}
use Rattle.ds2_scope.specs.Earliest.{earliest}

-- the places at which a use breaks a rule
abbrev pub UsePlaces : Type 0
UsePlaces = NameUse → List Place

-- for each parameter of what is called whether it is in_out
abbrev pub InOutFlags : Type 0
InOutFlags = Callee → List Bool

-- the earliest place at which one of these uses breaks a rule
abbrev pub earliest_use : UsePlaces → List NameUse → Option Place
earliest_use places used = earliest (from_each places used)

-- the next argument is for an in_out parameter
abbrev pub next_flag : List Bool → Bool
next_flag [] = false
next_flag (flag ∷ flags) = flag

-- what is told of the arguments behind the next one
abbrev pub further_flags : List Bool → List Bool
further_flags [] = []
further_flags (flag ∷ flags) = flags

-- the name in an argument for an in_out parameter, where it is one
abbrev pub handed_name : Bool → Expression → Option Token
handed_name true (Variable name) = Some name
handed_name _ e = None

-- the uses of names in an argument, where a name is handed over or none is
abbrev pub uses_of_argument : InOutFlags → Option Token → Expression → List NameUse
uses_of_argument flags None e = uses flags e
uses_of_argument flags (Some name) e = HandsOver name ∷ []

-- the uses of names in a part that is chained to an `if`
abbrev pub else_if_uses : InOutFlags → ElseIf → List NameUse
else_if_uses flags x = uses flags (expression_tree x.condition) ++ statement_uses flags (statement_tree x.then)
