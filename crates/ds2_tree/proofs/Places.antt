-- Where trees begin whose first part is a tree.
use Rattle.std.proofs.Common.{◌≡◌, List, [], ◌∷◌, ◌++◌, Option, refl, sym, subst}
use Rattle.std.specs.declared.boxed.Box.{Box}
use Rattle.std.specs.declared.alloc.Global.{Global}
use Rattle.ds2_base.specs.declared.place.Place.{Place}
use Rattle.ds2_token.specs.declared.token.Token.{Token}
use Rattle.ds2_tree.specs.declared.expressions.ChainKind.{ChainKind}
use Rattle.ds2_tree.specs.declared.expressions.Callee.{Callee}
use Rattle.ds2_tree.specs.declared.expressions.Operand as code_operand
use Rattle.ds2_tree.specs.declared.expressions.Argument as code_argument
use Rattle.ds2_tree.specs.declared.expressions.Expression as code_expression
use Rattle.ds2_tree.specs.declared.expressions.Expression.TheVariants as expression
use Rattle.ds2_tree.specs.declared.statements.ElseIf as code_else_if
use Rattle.ds2_tree.specs.declared.statements.When as code_when
use Rattle.ds2_tree.specs.declared.statements.Otherwise as code_otherwise
use Rattle.ds2_tree.specs.declared.statements.Selector as code_selector
use Rattle.ds2_tree.specs.declared.statements.DoControl as code_control
use Rattle.ds2_tree.specs.declared.statements.Statement as code
use Rattle.ds2_tree.specs.declared.statements.Statement.TheVariants as statement
use Rattle.ds2_tree.specs.Marks.{open_mark, close_mark}
use Rattle.ds2_tree.specs.Lists.{BeginsAt}
use Rattle.ds2_tree.specs.Expressions.{Expression, expression_spelling, operands_spelling, callee_spelling, arguments_spelling, Chain, Call}
use Rattle.ds2_tree.specs.ExpressionViews.{expression_tree, operands_of, arguments_of}
use Rattle.ds2_tree.specs.Statements.{statement_spelling}
use Rattle.ds2_tree.specs.StatementViews.{statement_tree}
use Rattle.ds2_tree.proofs.Rows.{chain_is, call_is}
use Rattle.ds2_tree.proofs.StatementRows.{if_spelled, select_is, do_is}

pub begins_in_front : (a b : List Token) (p : Place) → BeginsAt a p → BeginsAt (a ++ b) p
begins_in_front [] b p h = absurd h
begins_in_front (t ∷ ts) b p h = h

expression_at : (e f : Expression) (p : Place) → e ≡ f → BeginsAt (expression_spelling f) p → BeginsAt (expression_spelling e) p
expression_at e f p h b = subst (λ x. BeginsAt (expression_spelling x) p) (sym h) b

tokens_at : (a b : List Token) (p : Place) → a ≡ b → BeginsAt b p → BeginsAt a p
tokens_at a b p h s = subst (λ (x : List Token). BeginsAt x p) (sym h) s

pub chain_begins : (e : code_expression.Expression) (kind : ChainKind) (a : Box code_expression.Expression Global) (os : List code_operand.Operand) (p : Place)
    → e ≡ expression.Chain kind a os → BeginsAt (expression_spelling (expression_tree a.value)) p → BeginsAt (expression_spelling (expression_tree e)) p
chain_begins e kind a os p h b =
    expression_at (expression_tree e) (Chain kind (expression_tree a.value) (operands_of os)) p (chain_is e kind a os h)
    (begins_in_front (expression_spelling (expression_tree a.value)) (operands_spelling (operands_of os)) p b)

pub comparison_begins : (a : Expression) (rest : List Token) (p : Place) → BeginsAt (expression_spelling a) p → BeginsAt (expression_spelling a ++ rest) p
comparison_begins a rest p b = begins_in_front (expression_spelling a) rest p b

pub call_begins : (e : code_expression.Expression) (callee : Box Callee Global) (o : Place) (xs : List code_argument.Argument) (q : Place) (p : Place)
    → e ≡ expression.Call callee o xs q → BeginsAt (callee_spelling callee.value) p → BeginsAt (expression_spelling (expression_tree e)) p
call_begins e callee o xs q p h b =
    expression_at (expression_tree e) (Call callee.value o (arguments_of xs) q) p (call_is e callee o xs q h)
    (begins_in_front (callee_spelling callee.value) (open_mark o ∷ (arguments_spelling (arguments_of xs) ++ (close_mark q ∷ []))) p b)

pub if_begins : (x : code.Statement) (k : Token) (e : code_expression.Expression) (t : Token) (s : Box code.Statement Global) (others : List code_else_if.ElseIf) (o : Option code_otherwise.Otherwise)
    → x ≡ statement.If k e t s others o → BeginsAt (statement_spelling (statement_tree x)) k.place
if_begins x k e t s others o h = tokens_at (statement_spelling (statement_tree x)) _ k.place (if_spelled x k e t s others o h) refl

pub select_begins : (x : code.Statement) (k : Token) (s : Option code_selector.Selector) (p : Place) (ws : List code_when.When) (o : Option code_otherwise.Otherwise) (e : Token) (end : Place)
    → x ≡ statement.Select k s p ws o e end → BeginsAt (statement_spelling (statement_tree x)) k.place
select_begins x k s p ws o e end h = subst (λ y. BeginsAt (statement_spelling y) k.place) (sym (select_is x k s p ws o e end h)) refl

pub do_begins : (x : code.Statement) (k : Token) (c : code_control.DoControl) (p : Place) (ss : List code.Statement) (e : Token) (end : Place)
    → x ≡ statement.Do k c p ss e end → BeginsAt (statement_spelling (statement_tree x)) k.place
do_begins x k c p ss e end h = subst (λ y. BeginsAt (statement_spelling y) k.place) (sym (do_is x k c p ss e end h)) refl
