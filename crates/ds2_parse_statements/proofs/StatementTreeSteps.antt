-- Trees of statements, as the code builds them.
use Rattle.std.proofs.Common.{◌≡◌, List, [], ◌∷◌, map, Option, Some, None, refl, ap, ◌∙◌}
use Rattle.std.specs.Option.{option_map}
use Rattle.std.specs.declared.boxed.Box.{Box}
use Rattle.std.specs.declared.alloc.Global.{Global}
use mathlib.Core.Former.{Count}
use Rattle.ds2_base.specs.declared.place.Place.{Place}
use Rattle.ds2_token.specs.declared.token.Token.{Token}
use Rattle.ds2_tree.specs.declared.expressions.Expression as code_expression
use Rattle.ds2_tree.specs.declared.statements.ElseIf as code_else_if
use Rattle.ds2_tree.specs.declared.statements.When as code_when
use Rattle.ds2_tree.specs.declared.statements.Otherwise as code_otherwise
use Rattle.ds2_tree.specs.declared.statements.Selector as code_selector
use Rattle.ds2_tree.specs.declared.statements.Step as code_step
use Rattle.ds2_tree.specs.declared.statements.DoControl as code_control
use Rattle.ds2_tree.specs.declared.statements.Statement as code
use Rattle.ds2_tree.specs.declared.statements.Statement.{Row_of-ElseIf, end_of-ElseIf, more_of-ElseIf, items-the_row-ElseIf, items_hidden-the_row-ElseIf-0}
use Rattle.ds2_tree.specs.declared.statements.Statement.TheVariants as statement
use Rattle.ds2_tree.specs.ExpressionViews.{expression_tree}
use Rattle.ds2_tree.specs.Statements.{Otherwise, NoOtherwise, Otherwise', Select, Do, Then}
use Rattle.ds2_tree.specs.StatementViews.{selector_tree, step_tree, control_tree, if_else, statement_tree, others_row, statements_of, others_of, whens_of, otherwise_tree}
use Rattle.ds2_tree.proofs.StatementRows.{select_is, do_is}
use Rattle.ds2_parse_rules.specs.StatementGrammar.{selector_of, step_of, otherwise_of, listed_statements}
use Rattle.ds2_parse_statements.specs.StatementParts.{selector_parts, step_parts, last_parts}

others_items : (n : _) (k : Row_of-ElseIf n) (o : Otherwise) → others_row k o ≡ others_of (items-the_row-ElseIf n k) o
others_items n end_of-ElseIf o = refl
others_items n (more_of-ElseIf e k c t s rest) o = ap (λ r. Otherwise' e (if_else k (expression_tree c) t (statement_tree s) r)) (others_items _ rest o)

abbrev others_in : code.Statement → (n : Count) × Row_of-ElseIf n
others_in (statement.If' k e t p s n row o) = (_, row)
others_in _ = (_, end_of-ElseIf)

-- an `if` with the parts that are chained to it
pub if_tree : (k : Token) (e : code_expression.Expression) (t : Token) (s : Box code.Statement Global) (others : List code_else_if.ElseIf) (o : Option code_otherwise.Otherwise)
    → statement_tree (statement.If k e t s others o) ≡ if_else k (expression_tree e) t (statement_tree s.value) (others_of others (otherwise_tree o))
if_tree k e t s others None =
    let row = others_in (statement.If k e t s others None) in
    ap (λ r. if_else k (expression_tree e) t (statement_tree s.value) r) (others_items row.0 row.1 NoOtherwise ∙ ap (λ l. others_of l NoOtherwise) (items_hidden-the_row-ElseIf-0 others))
if_tree k e t s others (Some o) =
    let row = others_in (statement.If k e t s others (Some o)) in
    let last = Otherwise' o.keyword (statement_tree o.statement.value) in
    ap (λ r. if_else k (expression_tree e) t (statement_tree s.value) r) (others_items row.0 row.1 last ∙ ap (λ l. others_of l last) (items_hidden-the_row-ElseIf-0 others))

selector_same : (s : Option code_selector.Selector) → option_map selector_tree s ≡ selector_of (option_map selector_parts s)
selector_same None = refl
selector_same (Some s) = refl

pub last_same : (o : Option code_otherwise.Otherwise) → otherwise_tree o ≡ otherwise_of (option_map last_parts o)
last_same None = refl
last_same (Some o) = refl

pub step_same : (s : Option code_step.Step) → option_map step_tree s ≡ step_of (option_map step_parts s)
step_same None = refl
step_same (Some s) = refl

statements_same : (ss : List code.Statement) → statements_of ss ≡ listed_statements (map statement_tree ss)
statements_same [] = refl
statements_same (s ∷ ss) = ap (λ l. Then (statement_tree s) l) (statements_same ss)

-- a selection
pub select_built : (k : Token) (s : Option code_selector.Selector) (p : Place) (ws : List code_when.When) (o : Option code_otherwise.Otherwise) (e : Token) (end : Place)
    → statement_tree (statement.Select k s p ws o e end) ≡ Select k (selector_of (option_map selector_parts s)) p (whens_of ws) (otherwise_of (option_map last_parts o)) e end
select_built k s p ws o e end =
    select_is (statement.Select k s p ws o e end) k s p ws o e end refl
    ∙ ap (λ l. Select k l p (whens_of ws) (otherwise_tree o) e end) (selector_same s)
    ∙ ap (λ l. Select k (selector_of (option_map selector_parts s)) p (whens_of ws) l e end) (last_same o)

-- a block or a loop
pub do_built : (k : Token) (c : code_control.DoControl) (p : Place) (ss : List code.Statement) (e : Token) (end : Place)
    → statement_tree (statement.Do k c p ss e end) ≡ Do k (control_tree c) p (listed_statements (map statement_tree ss)) e end
do_built k c p ss e end = do_is (statement.Do k c p ss e end) k c p ss e end refl ∙ ap (λ l. Do k (control_tree c) p l e end) (statements_same ss)
