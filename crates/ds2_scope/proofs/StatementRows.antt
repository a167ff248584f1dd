-- Statements whose parts stand in a list.
use Rattle.std.proofs.Common.{◌≡◌, List, [], ◌∷◌, ◌++◌, Option, Some, None, refl, sym, ap, ◌∙◌}
use Rattle.std.specs.Option.{option_map}
use Rattle.std.specs.declared.boxed.Box.{Box}
use Rattle.std.specs.declared.alloc.Global.{Global}
use mathlib.Core.Former.{Count}
use Rattle.ds2_base.specs.declared.place.Place.{Place}
use Rattle.ds2_token.specs.declared.token.Token.{Token}
use Rattle.ds2_tree.specs.declared.expressions.Expression as code_expression
use Rattle.ds2_tree.specs.declared.statements.ElseIf as code_else_if
use Rattle.ds2_tree.specs.declared.statements.When as code_when
use Rattle.ds2_tree.specs.declared.statements.Otherwise as code_otherwise
use Rattle.ds2_tree.specs.declared.statements.Selector as code_selector
use Rattle.ds2_tree.specs.declared.statements.DoControl as code_control
use Rattle.ds2_tree.specs.declared.statements.Statement as code
use Rattle.ds2_tree.specs.declared.statements.Statement.{Row_of-Statement, end_of-Statement, more_of-Statement, items-the_row-Statement, items_hidden-the_row-Statement-2, Row_of-ElseIf, end_of-ElseIf, more_of-ElseIf, items-the_row-ElseIf, items_hidden-the_row-ElseIf-0, Row_of-When, end_of-When, more_of-When, items-the_row-When, items_hidden-the_row-When-1}
use Rattle.ds2_tree.specs.declared.statements.Statement.TheVariants as statement
use Rattle.ds2_tree.specs.ExpressionViews.{expression_tree, arguments_of}
use Rattle.ds2_tree.specs.Statements.{Statements, Otherwise, NoOtherwise, Otherwise', Select, Do, Then, When}
use Rattle.ds2_tree.specs.StatementViews.{selector_tree, control_tree, if_else, statement_tree, others_row, statements_row, whens_row, statements_of, others_of, whens_of, otherwise_tree}
use Rattle.ds2_scope.specs.Earliest.{earlier_of, earliest}
use Rattle.ds2_scope.proofs.EarliestLemmas.{earlier_of_assoc, earliest_append}

others_items : (n : _) (k : Row_of-ElseIf n) (o : Otherwise) → others_row k o ≡ others_of (items-the_row-ElseIf n k) o
others_items n end_of-ElseIf o = refl
others_items n (more_of-ElseIf e k c t s rest) o = ap (λ r. Otherwise' e (if_else k (expression_tree c) t (statement_tree s) r)) (others_items _ rest o)

statements_items : (n : _) (k : Row_of-Statement n) → statements_row k ≡ statements_of (items-the_row-Statement n k)
statements_items n end_of-Statement = refl
statements_items n (more_of-Statement s rest) = ap (λ r. Then (statement_tree s) r) (statements_items _ rest)

whens_items : (n : _) (k : Row_of-When n) → whens_row k ≡ whens_of (items-the_row-When n k)
whens_items n end_of-When = refl
whens_items n (more_of-When k p xs q s rest) = ap (λ r. When k p (arguments_of xs) q (statement_tree s) r) (whens_items _ rest)

-- the children of a node, as its value holds them
abbrev others_in : code.Statement → (n : Count) × Row_of-ElseIf n
others_in (statement.If' k e t p s n row o) = (_, row)
others_in _ = (_, end_of-ElseIf)

abbrev whens_in : code.Statement → (n : Count) × Row_of-When n
whens_in (statement.Select' k s p n row o e end) = (_, row)
whens_in _ = (_, end_of-When)

abbrev body_in : code.Statement → (n : Count) × Row_of-Statement n
body_in (statement.Do' k c p n row e end) = (_, row)
body_in _ = (_, end_of-Statement)

pub if_tree_is : (k : Token) (e : code_expression.Expression) (t : Token) (s : Box code.Statement Global) (others : List code_else_if.ElseIf) (o : Option code_otherwise.Otherwise)
    → statement_tree (statement.If k e t s others o) ≡ if_else k (expression_tree e) t (statement_tree s.value) (others_of others (otherwise_tree o))
if_tree_is k e t s others None =
    let row = others_in (statement.If k e t s others None) in
    ap (λ r. if_else k (expression_tree e) t (statement_tree s.value) r) (others_items row.0 row.1 NoOtherwise ∙ ap (λ l. others_of l NoOtherwise) (items_hidden-the_row-ElseIf-0 others))
if_tree_is k e t s others (Some o) =
    let row = others_in (statement.If k e t s others (Some o)) in
    let last = Otherwise' o.keyword (statement_tree o.statement.value) in
    ap (λ r. if_else k (expression_tree e) t (statement_tree s.value) r) (others_items row.0 row.1 last ∙ ap (λ l. others_of l last) (items_hidden-the_row-ElseIf-0 others))

pub select_tree : (k : Token) (s : Option code_selector.Selector) (p : Place) (ws : List code_when.When) (o : Option code_otherwise.Otherwise) (e : Token) (end : Place)
    → statement_tree (statement.Select k s p ws o e end) ≡ Select k (option_map selector_tree s) p (whens_of ws) (otherwise_tree o) e end
select_tree k s p ws None e end =
    let row = whens_in (statement.Select k s p ws None e end) in
    ap (λ r. Select k (option_map selector_tree s) p r NoOtherwise e end) (whens_items row.0 row.1 ∙ ap whens_of (items_hidden-the_row-When-1 ws))
select_tree k s p ws (Some o) e end =
    let row = whens_in (statement.Select k s p ws (Some o) e end) in
    ap (λ r. Select k (option_map selector_tree s) p r (Otherwise' o.keyword (statement_tree o.statement.value)) e end) (whens_items row.0 row.1 ∙ ap whens_of (items_hidden-the_row-When-1 ws))

pub do_tree : (k : Token) (c : code_control.DoControl) (p : Place) (ss : List code.Statement) (e : Token) (end : Place)
    → statement_tree (statement.Do k c p ss e end) ≡ Do k (control_tree c) p (statements_of ss) e end
do_tree k c p ss e end =
    let row = body_in (statement.Do k c p ss e end) in
    ap (λ r. Do k (control_tree c) p r e end) (statements_items row.0 row.1 ∙ ap statements_of (items_hidden-the_row-Statement-2 ss))

-- ---- places

pub one_more_list : (found : Option Place) (xs ys : List Place) → earlier_of (earlier_of found (earliest xs)) (earliest ys) ≡ earlier_of found (earliest (xs ++ ys))
one_more_list found xs ys = earlier_of_assoc found (earliest xs) (earliest ys) ∙ ap (earlier_of found) (sym (earliest_append xs ys))
