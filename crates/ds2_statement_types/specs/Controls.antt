-- What stands between `do` and its `;`, as the code holds it.
use Rattle.std.specs.Prelude.{◌≡◌, codes, if◌then◌else◌}
use Rattle.ds2_base.specs.declared.place.Place.{Place}
use Rattle.ds2_token.specs.Words.{is_word}
use Rattle.ds2_token.specs.declared.token.Token.{Token}
use Rattle.ds2_tree.specs.Statements as s
use Rattle.ds2_meaning.specs.TypedExpression.{TypedExpression}
use Rattle.ds2_meaning.specs.TypedStatement as t
use Rattle.ds2_elaboration.specs.ExpressionTypes.{TypeScope}
use Rattle.ds2_elaboration.specs.StatementTypes.{do_node}
use Rattle.ds2_types.specs.Judgements.{node_tree}
use Rattle.ds2_simple_statement_types.specs.StatementOutcomes.{tree_if_any}
use Rattle.ds2_statement_types.specs.declared.counts.TypedControl.{TypedControl}
use Rattle.ds2_statement_types.specs.declared.counts.TypedControl.TheVariants as control
use Rattle.ds2_statement_types.specs.declared.counts.TypedCount.{TypedCount}

-- a counted loop with its body
abbrev pub count_form : Place → TypedCount → t.TypedStatements → t.TypedStatement
count_form place c body = t.Count place c.variable (node_tree c.start) (node_tree c.stop) (tree_if_any c.step) body

-- a block or a loop with its body
abbrev pub loop_form : Place → TypedControl → t.TypedStatements → t.TypedStatement
loop_form place control.Block body = t.Block place body
loop_form place (control.Count c) body = count_form place c body
loop_form place (control.While condition) body = t.While place (node_tree condition) body
loop_form place (control.Until condition) body = t.Until place (node_tree condition) body

-- what the code holds is what stands there
abbrev pub IsHeldControl : TypeScope → s.DoControl → TypedControl → Type 0
IsHeldControl types c held = (place : Place) (body : t.TypedStatements) → loop_form place held body ≡ do_node types place c body

-- what the code holds is a count
abbrev pub IsCount : TypeScope → s.DoControl → TypedCount → Type 0
IsCount types c held = (place : Place) (body : t.TypedStatements) → count_form place held body ≡ do_node types place c body

-- what the code holds is `while` or `until`, as this word says, with this condition
abbrev pub IsTested : Token → TypedExpression → TypedControl → Type 0
IsTested keyword node held =
    (place : Place) (body : t.TypedStatements)
    → loop_form place held body ≡ (if is_word (codes "while") keyword then t.While place node body else t.Until place node body)
