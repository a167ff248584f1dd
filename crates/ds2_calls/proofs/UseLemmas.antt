-- The uses of names in a statement, part by part.
use Rattle.std.proofs.Common.{◌≡◌, Bool, true, false, List, [], ◌∷◌, ◌++◌, Option, None, refl, sym, ap, ◌∙◌, append_assoc}
use Rattle.std.specs.Option.{option_map}
use Rattle.std.specs.declared.boxed.Box.{Box}
use Rattle.std.specs.declared.alloc.Global.{Global}
use mathlib.Core.Former.{Count}
use Rattle.ds2_base.specs.declared.place.Place.{Place}
use Rattle.ds2_token.specs.declared.token.Token.{Token}
use Rattle.ds2_tree.specs.declared.expressions.ChainKind.{ChainKind}
use Rattle.ds2_tree.specs.declared.expressions.Callee.{Callee}
use Rattle.ds2_tree.specs.declared.expressions.Operand as code_operand
use Rattle.ds2_tree.specs.declared.expressions.Argument as code_argument
use Rattle.ds2_tree.specs.declared.expressions.Expression as code_expression
use Rattle.ds2_tree.specs.declared.expressions.Expression.{Row_of-Operand, end_of-Operand, more_of-Operand, items-the_row-Operand, items_hidden-the_row-Operand-1, Row_of-Argument, end_of-Argument, more_of-Argument, items-the_row-Argument, items_hidden-the_row-Argument-0}
use Rattle.ds2_tree.specs.declared.expressions.Expression.TheVariants as expression
use Rattle.ds2_tree.specs.declared.statements.ElseIf as code_else_if
use Rattle.ds2_tree.specs.declared.statements.When as code_when
use Rattle.ds2_tree.specs.declared.statements.Otherwise as code_otherwise
use Rattle.ds2_tree.specs.declared.statements.Selector as code_selector
use Rattle.ds2_tree.specs.declared.statements.DoControl as code_control
use Rattle.ds2_tree.specs.declared.statements.PutItem.{PutItem}
use Rattle.ds2_tree.specs.declared.statements.PutItem.TheVariants as item
use Rattle.ds2_tree.specs.declared.statements.Statement as code
use Rattle.ds2_tree.specs.declared.statements.Statement.TheVariants as statement
use Rattle.ds2_tree.specs.Expressions.{Expression, Constant, Null, Variable, Member, Call, Parenthesis, Sign, Chain, Comparison, Not, Operand, Arguments, Argument}
use Rattle.ds2_tree.specs.ExpressionViews.{expression_tree, operands_row, operands_of, arguments_row, arguments_of}
use Rattle.ds2_tree.specs.Statements.{Statement, Otherwise, NoOtherwise, Otherwise'}
use Rattle.ds2_tree.specs.StatementViews.{selector_tree, control_tree, if_else, statement_tree, statements_of, others_of, whens_of, otherwise_tree}
use Rattle.ds2_names.specs.NameRules.{from_each}
use Rattle.ds2_names.specs.Uses.{NameUse, CallsOn, Sets, uses, operand_uses, argument_uses, item_uses, selector_uses, control_uses, statement_uses, statements_uses, when_uses, otherwise_uses}
use Rattle.ds2_scope.specs.Earliest.{earlier_of, earliest}
use Rattle.ds2_calls.specs.UseParts.{UsePlaces, InOutFlags, earliest_use, next_flag, further_flags, uses_of_argument, handed_name, else_if_uses}
use Rattle.ds2_scope.proofs.EarliestLemmas.{none_right, earlier_of_assoc, earliest_append}
use Rattle.ds2_scope.proofs.StatementRows.{if_tree_is, select_tree, do_tree}

-- ---- lists of uses

from_each_append : (f : UsePlaces) (xs ys : List NameUse) → from_each f (xs ++ ys) ≡ from_each f xs ++ from_each f ys
from_each_append f [] ys = refl
from_each_append f (x ∷ xs) ys = ap (λ r. f x ++ r) (from_each_append f xs ys) ∙ sym (append_assoc (f x) (from_each f xs) (from_each f ys))

pub both_uses : (places : UsePlaces) (us vs : List NameUse) → earliest_use places (us ++ vs) ≡ earlier_of (earliest_use places us) (earliest_use places vs)
both_uses places us vs = ap earliest (from_each_append places us vs) ∙ earliest_append (from_each places us) (from_each places vs)

pub use_and : (places : UsePlaces) (u : NameUse) (us : List NameUse) → earliest_use places (u ∷ us) ≡ earlier_of (earliest_use places (u ∷ [])) (earliest_use places us)
use_and places u us = both_uses places (u ∷ []) us

pub three_uses : (places : UsePlaces) (us vs ws : List NameUse)
    → earliest_use places (us ++ vs ++ ws) ≡ earlier_of (earliest_use places us) (earlier_of (earliest_use places vs) (earliest_use places ws))
three_uses places us vs ws =
    both_uses places (us ++ vs) ws
    ∙ ap (λ x. earlier_of x (earliest_use places ws)) (both_uses places us vs)
    ∙ earlier_of_assoc (earliest_use places us) (earliest_use places vs) (earliest_use places ws)

pub one_more_use : (places : UsePlaces) (found : Option Place) (us vs : List NameUse)
    → earlier_of (earlier_of found (earliest_use places us)) (earliest_use places vs) ≡ earlier_of found (earliest_use places (us ++ vs))
one_more_use places found us vs =
    earlier_of_assoc found (earliest_use places us) (earliest_use places vs) ∙ ap (earlier_of found) (sym (both_uses places us vs))

-- ---- items of `put`

pub item_first : (flags : InOutFlags) (i : PutItem) (items : List PutItem) → item_uses flags (i ∷ items) ≡ item_uses flags (i ∷ []) ++ item_uses flags items
item_first flags (item.Text t) items = refl
item_first flags (item.Variable name sign) items = refl
item_first flags (item.Member object dot member) items = refl

-- ---- arguments

pub one_argument : (flags : InOutFlags) (in_out : List Bool) (c : Option Place) (e : Expression) (rest : Arguments)
    → argument_uses flags in_out (Argument c e rest) ≡ uses_of_argument flags (handed_name (next_flag in_out) e) e ++ argument_uses flags (further_flags in_out) rest
one_argument flags [] c e rest = refl
one_argument flags (false ∷ in_out) c e rest = refl
one_argument flags (true ∷ in_out) c (Variable name) rest = refl
one_argument flags (true ∷ in_out) c (Constant t) rest = refl
one_argument flags (true ∷ in_out) c (Null t) rest = refl
one_argument flags (true ∷ in_out) c (Member o p m) rest = refl
one_argument flags (true ∷ in_out) c (Call f p xs q) rest = refl
one_argument flags (true ∷ in_out) c (Parenthesis p e q) rest = refl
one_argument flags (true ∷ in_out) c (Sign o e) rest = refl
one_argument flags (true ∷ in_out) c (Chain k e more) rest = refl
one_argument flags (true ∷ in_out) c (Comparison a o b) rest = refl
one_argument flags (true ∷ in_out) c (Not o e) rest = refl

pub one_more_argument : (places : UsePlaces) (flags : InOutFlags) (found : Option Place) (in_out : List Bool) (c : Option Place) (e : Expression) (rest : Arguments)
    → earlier_of (earlier_of found (earliest_use places (uses_of_argument flags (handed_name (next_flag in_out) e) e))) (earliest_use places (argument_uses flags (further_flags in_out) rest))
    ≡ earlier_of found (earliest_use places (argument_uses flags in_out (Argument c e rest)))
one_more_argument places flags found in_out c e rest =
    one_more_use places found (uses_of_argument flags (handed_name (next_flag in_out) e) e) (argument_uses flags (further_flags in_out) rest)
    ∙ ap (λ us. earlier_of found (earliest_use places us)) (sym (one_argument flags in_out c e rest))

-- ---- expressions whose parts stand in a list

operands_items : (n : _) (k : Row_of-Operand n) → operands_row k ≡ operands_of (items-the_row-Operand n k)
operands_items n end_of-Operand = refl
operands_items n (more_of-Operand o e k) = ap (λ rest. Operand o (expression_tree e) rest) (operands_items _ k)

arguments_items : (n : _) (k : Row_of-Argument n) → arguments_row k ≡ arguments_of (items-the_row-Argument n k)
arguments_items n end_of-Argument = refl
arguments_items n (more_of-Argument c e k) = ap (λ rest. Argument c (expression_tree e) rest) (arguments_items _ k)

-- the children of a node, as its value holds them
abbrev operands_in : code_expression.Expression → (n : Count) × Row_of-Operand n
operands_in (expression.Chain' kind p a n k) = (_, k)
operands_in _ = (_, end_of-Operand)

abbrev arguments_in : code_expression.Expression → (n : Count) × Row_of-Argument n
arguments_in (expression.Call' callee p n k q) = (_, k)
arguments_in _ = (_, end_of-Argument)

pub chain_is : (e : code_expression.Expression) (kind : ChainKind) (a : Box code_expression.Expression Global) (os : List code_operand.Operand)
    → e ≡ expression.Chain kind a os → expression_tree e ≡ Chain kind (expression_tree a.value) (operands_of os)
chain_is e kind a os h =
    let row = operands_in (expression.Chain kind a os) in
    ap expression_tree h ∙ ap (λ k. Chain kind (expression_tree a.value) k) (operands_items row.0 row.1 ∙ ap operands_of (items_hidden-the_row-Operand-1 os))

pub call_is : (e : code_expression.Expression) (callee : Box Callee Global) (p : Place) (xs : List code_argument.Argument) (q : Place)
    → e ≡ expression.Call callee p xs q → expression_tree e ≡ Call callee.value p (arguments_of xs) q
call_is e callee p xs q h =
    let row = arguments_in (expression.Call callee p xs q) in
    ap expression_tree h ∙ ap (λ k. Call callee.value p k q) (arguments_items row.0 row.1 ∙ ap arguments_of (items_hidden-the_row-Argument-0 xs))

-- neither a call nor a chain is a name

pub no_name_in_call : (in_out : Bool) (e : code_expression.Expression) (callee : Box Callee Global) (p : Place) (xs : List code_argument.Argument) (q : Place)
    → e ≡ expression.Call callee p xs q → handed_name in_out (expression_tree e) ≡ None
no_name_in_call in_out e callee p xs q h = ap (handed_name in_out) (call_is e callee p xs q h) ∙ by in_out
  where
    by : (t : Bool) → handed_name t (Call callee.value p (arguments_of xs) q) ≡ None
    by true = refl
    by false = refl

pub no_name_in_chain : (in_out : Bool) (e : code_expression.Expression) (kind : ChainKind) (a : Box code_expression.Expression Global) (os : List code_operand.Operand)
    → e ≡ expression.Chain kind a os → handed_name in_out (expression_tree e) ≡ None
no_name_in_chain in_out e kind a os h = ap (handed_name in_out) (chain_is e kind a os h) ∙ by in_out
  where
    by : (t : Bool) → handed_name t (Chain kind (expression_tree a.value) (operands_of os)) ≡ None
    by true = refl
    by false = refl

module _ (places : UsePlaces) (flags : InOutFlags) where
  pub uses_of_call : (e : code_expression.Expression) (callee : Box Callee Global) (p : Place) (xs : List code_argument.Argument) (q : Place) → e ≡ expression.Call callee p xs q
      → earliest_use places (uses flags (expression_tree e)) ≡ earliest_use places (CallsOn callee.value (arguments_of xs) ∷ argument_uses flags (flags callee.value) (arguments_of xs))
  uses_of_call e callee p xs q h = ap (λ t. earliest_use places (uses flags t)) (call_is e callee p xs q h)

  pub uses_of_chain : (e : code_expression.Expression) (kind : ChainKind) (a : Box code_expression.Expression Global) (os : List code_operand.Operand) → e ≡ expression.Chain kind a os
      → earliest_use places (uses flags (expression_tree e))
      ≡ earlier_of (earliest_use places (uses flags (expression_tree a.value))) (earliest_use places (operand_uses flags (operands_of os)))
  uses_of_chain e kind a os h =
      ap (λ t. earliest_use places (uses flags t)) (chain_is e kind a os h)
      ∙ both_uses places (uses flags (expression_tree a.value)) (operand_uses flags (operands_of os))

  -- ---- statements

  in_if_else : (k : Token) (e : Expression) (t : Token) (s : Statement) (o : Otherwise)
      → earliest_use places (statement_uses flags (if_else k e t s o))
      ≡ earlier_of (earliest_use places (uses flags e)) (earlier_of (earliest_use places (statement_uses flags s)) (earliest_use places (otherwise_uses flags o)))
  in_if_else k e t s NoOtherwise =
      both_uses places (uses flags e) (statement_uses flags s)
      ∙ ap (earlier_of (earliest_use places (uses flags e))) (sym (none_right (earliest_use places (statement_uses flags s))))
  in_if_else k e t s (Otherwise' w o) =
      three_uses places (uses flags e) (statement_uses flags s) (statement_uses flags o)

  in_else_ifs : (xs : List code_else_if.ElseIf) (o : Otherwise)
      → earliest_use places (otherwise_uses flags (others_of xs o))
      ≡ earlier_of (earliest (from_each (λ x. from_each places (else_if_uses flags x)) xs)) (earliest_use places (otherwise_uses flags o))
  in_else_ifs [] o = refl
  in_else_ifs (x ∷ xs) o =
      let test = earliest_use places (uses flags (expression_tree x.condition)) in
      let first = earliest_use places (statement_uses flags (statement_tree x.then)) in
      let here = from_each places (else_if_uses flags x) in
      let rest = from_each (λ y. from_each places (else_if_uses flags y)) xs in
      let last = earliest_use places (otherwise_uses flags o) in
      in_if_else x.keyword (expression_tree x.condition) x.then_keyword (statement_tree x.then) (others_of xs o)
      ∙ ap (λ r. earlier_of test (earlier_of first r)) (in_else_ifs xs o)
      ∙ sym (earlier_of_assoc test first (earlier_of (earliest rest) last))
      ∙ ap (λ t. earlier_of t (earlier_of (earliest rest) last)) (sym (both_uses places (uses flags (expression_tree x.condition)) (statement_uses flags (statement_tree x.then))))
      ∙ sym (earlier_of_assoc (earliest here) (earliest rest) last)
      ∙ ap (λ t. earlier_of t last) (sym (earliest_append here rest))

  pub uses_of_if : (x : code.Statement) (k : Token) (e : code_expression.Expression) (t : Token) (s : Box code.Statement Global) (others : List code_else_if.ElseIf) (o : Option code_otherwise.Otherwise)
      → x ≡ statement.If k e t s others o
      → earliest_use places (statement_uses flags (statement_tree x))
      ≡ earlier_of (earliest_use places (uses flags (expression_tree e))) (earlier_of (earliest_use places (statement_uses flags (statement_tree s.value)))
      (earlier_of (earliest (from_each (λ y. from_each places (else_if_uses flags y)) others)) (earliest_use places (otherwise_uses flags (otherwise_tree o)))))
  uses_of_if x k e t s others o h =
      ap (λ y. earliest_use places (statement_uses flags (statement_tree y))) h
      ∙ ap (λ y. earliest_use places (statement_uses flags y)) (if_tree_is k e t s others o)
      ∙ in_if_else k (expression_tree e) t (statement_tree s.value) (others_of others (otherwise_tree o))
      ∙ ap (λ r. earlier_of (earliest_use places (uses flags (expression_tree e))) (earlier_of (earliest_use places (statement_uses flags (statement_tree s.value))) r)) (in_else_ifs others (otherwise_tree o))

  pub uses_of_select : (x : code.Statement) (k : Token) (s : Option code_selector.Selector) (p : Place) (ws : List code_when.When) (o : Option code_otherwise.Otherwise) (e : Token) (end : Place)
      → x ≡ statement.Select k s p ws o e end
      → earliest_use places (statement_uses flags (statement_tree x))
      ≡ earlier_of (earliest_use places (selector_uses flags (option_map selector_tree s))) (earlier_of (earliest_use places (when_uses flags (whens_of ws))) (earliest_use places (otherwise_uses flags (otherwise_tree o))))
  uses_of_select x k s p ws o e end h =
      ap (λ y. earliest_use places (statement_uses flags (statement_tree y))) h
      ∙ ap (λ y. earliest_use places (statement_uses flags y)) (select_tree k s p ws o e end)
      ∙ three_uses places (selector_uses flags (option_map selector_tree s)) (when_uses flags (whens_of ws)) (otherwise_uses flags (otherwise_tree o))

  pub uses_of_do : (x : code.Statement) (k : Token) (c : code_control.DoControl) (p : Place) (ss : List code.Statement) (e : Token) (end : Place)
      → x ≡ statement.Do k c p ss e end
      → earliest_use places (statement_uses flags (statement_tree x))
      ≡ earlier_of (earliest_use places (control_uses flags (control_tree c))) (earliest_use places (statements_uses flags (statements_of ss)))
  uses_of_do x k c p ss e end h =
      ap (λ y. earliest_use places (statement_uses flags (statement_tree y))) h
      ∙ ap (λ y. earliest_use places (statement_uses flags y)) (do_tree k c p ss e end)
      ∙ both_uses places (control_uses flags (control_tree c)) (statements_uses flags (statements_of ss))

  -- the count of a `do`: its variable is set to the first value
  pub uses_of_count : (t : Token) (start stop : Expression) (step : List NameUse)
      → earliest_use places (Sets t ∷ (uses flags start ++ uses flags stop ++ step))
      ≡ earlier_of (earliest_use places (Sets t ∷ uses flags start)) (earlier_of (earliest_use places (uses flags stop)) (earliest_use places step))
  uses_of_count t start stop step = three_uses places (Sets t ∷ uses flags start) (uses flags stop) step
