-- Which parts of an `if` surely return.
use Rattle.std.specs.Prelude.{Bool, List}
use Rattle.std.specs.List.{list_all}
use Rattle.ds2_tree.specs.declared.statements.ElseIf.{ElseIf}
use Rattle.ds2_tree.specs.StatementViews.{statement_tree}
use Rattle.ds2_elaboration.specs.StatementTypes.{surely_returns}

-- each part that is chained to an `if` surely returns
abbrev pub chained_return : List ElseIf → Bool
chained_return others = list_all (λ (x : ElseIf). surely_returns (statement_tree x.then)) others
