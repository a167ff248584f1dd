-- What the parts of expressions and statements mention.
use Rattle.std.proofs.Common.{◌≡◌, Bool, true, false, List, [], ◌∷◌, ◌++◌, Option, refl, sym, ap, ◌∙◌, append_assoc, append-nil}
use Rattle.std.specs.Prelude.{map}
use Rattle.std.specs.Option.{option_map}
use Rattle.std.specs.declared.boxed.Box.{Box}
use Rattle.std.specs.declared.alloc.Global.{Global}
use Rattle.std.proofs.lemmas.Grind.{flat_map-append}
use Rattle.ds2_base.specs.declared.place.Place.{Place}
use Rattle.ds2_token.specs.declared.token.Token.{Token}
use Rattle.ds2_tree.specs.declared.expressions.ChainKind.{ChainKind}
use Rattle.ds2_tree.specs.declared.expressions.Callee.{Callee}
use Rattle.ds2_tree.specs.declared.expressions.Operand as code_operand
use Rattle.ds2_tree.specs.declared.expressions.Argument as code_argument
use Rattle.ds2_tree.specs.declared.expressions.Expression as code_expression
use Rattle.ds2_tree.specs.declared.expressions.Expression.TheVariants as expression
use Rattle.ds2_tree.specs.declared.statements.ElseIf as code_else_if
use Rattle.ds2_tree.specs.declared.statements.When as code_when
use Rattle.ds2_tree.specs.declared.statements.Otherwise as code_otherwise
use Rattle.ds2_tree.specs.declared.statements.Selector as code_selector
use Rattle.ds2_tree.specs.declared.statements.DoControl as code_control
use Rattle.ds2_tree.specs.declared.statements.PutItem.{PutItem}
use Rattle.ds2_tree.specs.declared.statements.PutItem.TheVariants as item
use Rattle.ds2_tree.specs.declared.statements.Statement as code
use Rattle.ds2_tree.specs.declared.statements.Statement.TheVariants as statement
use Rattle.ds2_tree.specs.Expressions.{Expression, Constant, Null, Variable, Member, Call, Parenthesis, Sign, Chain, Comparison, Not, Arguments, NoArgument, Argument}
use Rattle.ds2_tree.specs.ExpressionViews.{expression_tree, operands_of, arguments_of}
use Rattle.ds2_tree.specs.Statements.{Statement, Otherwise, NoOtherwise, Otherwise'}
use Rattle.ds2_tree.specs.StatementViews.{selector_tree, control_tree, if_else, statement_tree, statements_of, others_of, whens_of, otherwise_tree}
use Rattle.ds2_names.specs.NameRules.{from_each}
use Rattle.ds2_names.specs.SourceUnit.{spelled_name}
use Rattle.ds2_names.specs.Uses.{NameUse, Sets, WritesTo, uses, operand_uses, argument_uses, item_uses, selector_uses, control_uses, statement_uses, statements_uses, when_uses, otherwise_uses}
use Rattle.ds2_calls.specs.UseParts.{InOutFlags, else_if_uses}
use Rattle.ds2_calls.proofs.UseLemmas.{call_is, chain_is}
use Rattle.ds2_scope.proofs.StatementRows.{if_tree_is, select_tree, do_tree}
use Rattle.ds2_aliases.specs.declared.mentions.Mention.TheVariants as mention
use Rattle.ds2_aliases.specs.MentionParts.{mentions_in_call, mentions_in_member, mentions_in_item, mentions_in_use, mentions_in_uses}

-- four lists that were added one behind the other
pub four_added : {A : Type 0} (start w x y z first second third fourth : List A) → first ≡ start ++ w → second ≡ first ++ x → third ≡ second ++ y → fourth ≡ third ++ z
    → fourth ≡ start ++ (w ++ (x ++ (y ++ z)))
four_added start w x y z first second third fourth a b c d =
    d
    ∙ ap (λ r. r ++ z) (c ∙ ap (λ r. r ++ y) (b ∙ ap (λ r. r ++ x) a))
    ∙ append_assoc ((start ++ w) ++ x) y z
    ∙ append_assoc (start ++ w) x (y ++ z)
    ∙ append_assoc start w (x ++ (y ++ z))

module _ (flags : InOutFlags) where
  pub both_mention : (us vs : List NameUse) → mentions_in_uses flags (us ++ vs) ≡ mentions_in_uses flags us ++ mentions_in_uses flags vs
  both_mention us vs = flat_map-append (mentions_in_use flags) us vs

  pub three_mention : (us vs ws : List NameUse) → mentions_in_uses flags (us ++ vs ++ ws) ≡ mentions_in_uses flags us ++ (mentions_in_uses flags vs ++ mentions_in_uses flags ws)
  three_mention us vs ws =
      both_mention (us ++ vs) ws
      ∙ ap (λ r. r ++ mentions_in_uses flags ws) (both_mention us vs)
      ∙ append_assoc (mentions_in_uses flags us) (mentions_in_uses flags vs) (mentions_in_uses flags ws)

  pub items_mention : (items : List PutItem) → mentions_in_uses flags (item_uses flags items) ≡ from_each mentions_in_item items
  items_mention [] = refl
  items_mention (item.Text t ∷ items) = items_mention items
  items_mention (item.Variable name sign ∷ items) = ap (λ r. mention.Name (spelled_name name) ∷ r) (items_mention items)
  items_mention (item.Member object dot member ∷ items) = ap (λ r. mentions_in_member object ++ r) (items_mention items)

  -- ---- arguments

  same_behind : (e : Expression) (us vs : List NameUse) → mentions_in_uses flags us ≡ mentions_in_uses flags vs
      → mentions_in_uses flags (uses flags e ++ us) ≡ mentions_in_uses flags (uses flags e ++ vs)
  same_behind e us vs h = both_mention (uses flags e) us ∙ ap (λ r. mentions_in_uses flags (uses flags e) ++ r) h ∙ sym (both_mention (uses flags e) vs)

  -- which arguments are handed over does not matter
  pub any_arguments : (in_out : List Bool) (xs : Arguments) → mentions_in_uses flags (argument_uses flags in_out xs) ≡ mentions_in_uses flags (argument_uses flags [] xs)
  any_arguments [] xs = refl
  any_arguments (true ∷ in_out) NoArgument = refl
  any_arguments (false ∷ in_out) NoArgument = refl
  any_arguments (false ∷ in_out) (Argument c e rest) = same_behind e (argument_uses flags in_out rest) (argument_uses flags [] rest) (any_arguments in_out rest)
  any_arguments (true ∷ in_out) (Argument c (Variable name) rest) = ap (λ r. mention.Name (spelled_name name) ∷ r) (any_arguments in_out rest)
  any_arguments (true ∷ in_out) (Argument c (Constant t) rest) = any_arguments in_out rest
  any_arguments (true ∷ in_out) (Argument c (Null t) rest) = any_arguments in_out rest
  any_arguments (true ∷ in_out) (Argument c (Member o p m) rest) = same_behind (Member o p m) (argument_uses flags in_out rest) (argument_uses flags [] rest) (any_arguments in_out rest)
  any_arguments (true ∷ in_out) (Argument c (Call f p xs q) rest) = same_behind (Call f p xs q) (argument_uses flags in_out rest) (argument_uses flags [] rest) (any_arguments in_out rest)
  any_arguments (true ∷ in_out) (Argument c (Parenthesis p e q) rest) = same_behind e (argument_uses flags in_out rest) (argument_uses flags [] rest) (any_arguments in_out rest)
  any_arguments (true ∷ in_out) (Argument c (Sign o e) rest) = same_behind e (argument_uses flags in_out rest) (argument_uses flags [] rest) (any_arguments in_out rest)
  any_arguments (true ∷ in_out) (Argument c (Chain k e more) rest) = same_behind (Chain k e more) (argument_uses flags in_out rest) (argument_uses flags [] rest) (any_arguments in_out rest)
  any_arguments (true ∷ in_out) (Argument c (Comparison a o b) rest) = same_behind (Comparison a o b) (argument_uses flags in_out rest) (argument_uses flags [] rest) (any_arguments in_out rest)
  any_arguments (true ∷ in_out) (Argument c (Not o e) rest) = same_behind e (argument_uses flags in_out rest) (argument_uses flags [] rest) (any_arguments in_out rest)

  -- ---- expressions

  pub mentions_of_call : (e : code_expression.Expression) (callee : Box Callee Global) (p : Place) (xs : List code_argument.Argument) (q : Place) → e ≡ expression.Call callee p xs q
      → mentions_in_uses flags (uses flags (expression_tree e))
      ≡ mentions_in_call callee.value (flags callee.value) (arguments_of xs) ++ mentions_in_uses flags (argument_uses flags (flags callee.value) (arguments_of xs))
  mentions_of_call e callee p xs q h = ap (λ t. mentions_in_uses flags (uses flags t)) (call_is e callee p xs q h)

  pub mentions_of_chain : (e : code_expression.Expression) (kind : ChainKind) (a : Box code_expression.Expression Global) (os : List code_operand.Operand) → e ≡ expression.Chain kind a os
      → mentions_in_uses flags (uses flags (expression_tree e)) ≡ mentions_in_uses flags (uses flags (expression_tree a.value)) ++ mentions_in_uses flags (operand_uses flags (operands_of os))
  mentions_of_chain e kind a os h =
      ap (λ t. mentions_in_uses flags (uses flags t)) (chain_is e kind a os h) ∙ both_mention (uses flags (expression_tree a.value)) (operand_uses flags (operands_of os))

  -- ---- statements

  tables_mention_nothing : (tables : List Token) → mentions_in_uses flags (map WritesTo tables) ≡ []
  tables_mention_nothing [] = refl
  tables_mention_nothing (table ∷ tables) = tables_mention_nothing tables

  pub mentions_of_output : (x : code.Statement) (k : Token) (tables : List Token) (end : Place) → x ≡ statement.Output k tables end
      → mentions_in_uses flags (statement_uses flags (statement_tree x)) ≡ []
  mentions_of_output x k tables end h = ap (λ y. mentions_in_uses flags (statement_uses flags (statement_tree y))) h ∙ tables_mention_nothing tables

  in_if_else : (k : Token) (e : Expression) (t : Token) (s : Statement) (o : Otherwise)
      → mentions_in_uses flags (statement_uses flags (if_else k e t s o))
      ≡ mentions_in_uses flags (uses flags e) ++ (mentions_in_uses flags (statement_uses flags s) ++ mentions_in_uses flags (otherwise_uses flags o))
  in_if_else k e t s NoOtherwise =
      both_mention (uses flags e) (statement_uses flags s)
      ∙ ap (λ r. mentions_in_uses flags (uses flags e) ++ r) (sym (append-nil (mentions_in_uses flags (statement_uses flags s))))
  in_if_else k e t s (Otherwise' w o) = three_mention (uses flags e) (statement_uses flags s) (statement_uses flags o)

  in_else_ifs : (xs : List code_else_if.ElseIf) (o : Otherwise)
      → mentions_in_uses flags (otherwise_uses flags (others_of xs o))
      ≡ from_each (λ x. mentions_in_uses flags (else_if_uses flags x)) xs ++ mentions_in_uses flags (otherwise_uses flags o)
  in_else_ifs [] o = refl
  in_else_ifs (x ∷ xs) o =
      let test = mentions_in_uses flags (uses flags (expression_tree x.condition)) in
      let first = mentions_in_uses flags (statement_uses flags (statement_tree x.then)) in
      let rest = from_each (λ y. mentions_in_uses flags (else_if_uses flags y)) xs in
      let last = mentions_in_uses flags (otherwise_uses flags o) in
      in_if_else x.keyword (expression_tree x.condition) x.then_keyword (statement_tree x.then) (others_of xs o)
      ∙ ap (λ r. test ++ (first ++ r)) (in_else_ifs xs o)
      ∙ sym (append_assoc test first (rest ++ last))
      ∙ ap (λ t. t ++ (rest ++ last)) (sym (both_mention (uses flags (expression_tree x.condition)) (statement_uses flags (statement_tree x.then))))
      ∙ sym (append_assoc (mentions_in_uses flags (else_if_uses flags x)) rest last)

  pub mentions_of_if : (x : code.Statement) (k : Token) (e : code_expression.Expression) (t : Token) (s : Box code.Statement Global) (others : List code_else_if.ElseIf) (o : Option code_otherwise.Otherwise)
      → x ≡ statement.If k e t s others o
      → mentions_in_uses flags (statement_uses flags (statement_tree x))
      ≡ mentions_in_uses flags (uses flags (expression_tree e)) ++ (mentions_in_uses flags (statement_uses flags (statement_tree s.value))
      ++ (from_each (λ y. mentions_in_uses flags (else_if_uses flags y)) others ++ mentions_in_uses flags (otherwise_uses flags (otherwise_tree o))))
  mentions_of_if x k e t s others o h =
      ap (λ y. mentions_in_uses flags (statement_uses flags (statement_tree y))) h
      ∙ ap (λ y. mentions_in_uses flags (statement_uses flags y)) (if_tree_is k e t s others o)
      ∙ in_if_else k (expression_tree e) t (statement_tree s.value) (others_of others (otherwise_tree o))
      ∙ ap (λ r. mentions_in_uses flags (uses flags (expression_tree e)) ++ (mentions_in_uses flags (statement_uses flags (statement_tree s.value)) ++ r)) (in_else_ifs others (otherwise_tree o))

  pub mentions_of_select : (x : code.Statement) (k : Token) (s : Option code_selector.Selector) (p : Place) (ws : List code_when.When) (o : Option code_otherwise.Otherwise) (e : Token) (end : Place)
      → x ≡ statement.Select k s p ws o e end
      → mentions_in_uses flags (statement_uses flags (statement_tree x))
      ≡ mentions_in_uses flags (selector_uses flags (option_map selector_tree s)) ++ (mentions_in_uses flags (when_uses flags (whens_of ws)) ++ mentions_in_uses flags (otherwise_uses flags (otherwise_tree o)))
  mentions_of_select x k s p ws o e end h =
      ap (λ y. mentions_in_uses flags (statement_uses flags (statement_tree y))) h
      ∙ ap (λ y. mentions_in_uses flags (statement_uses flags y)) (select_tree k s p ws o e end)
      ∙ three_mention (selector_uses flags (option_map selector_tree s)) (when_uses flags (whens_of ws)) (otherwise_uses flags (otherwise_tree o))

  pub mentions_of_do : (x : code.Statement) (k : Token) (c : code_control.DoControl) (p : Place) (ss : List code.Statement) (e : Token) (end : Place)
      → x ≡ statement.Do k c p ss e end
      → mentions_in_uses flags (statement_uses flags (statement_tree x))
      ≡ mentions_in_uses flags (control_uses flags (control_tree c)) ++ mentions_in_uses flags (statements_uses flags (statements_of ss))
  mentions_of_do x k c p ss e end h =
      ap (λ y. mentions_in_uses flags (statement_uses flags (statement_tree y))) h
      ∙ ap (λ y. mentions_in_uses flags (statement_uses flags y)) (do_tree k c p ss e end)
      ∙ both_mention (control_uses flags (control_tree c)) (statements_uses flags (statements_of ss))

  -- the count of a `do`: its variable is set to the first value
  pub mentions_of_count : (t : Token) (start stop : Expression) (step : List NameUse)
      → mentions_in_uses flags (Sets t ∷ (uses flags start ++ uses flags stop ++ step))
      ≡ mentions_in_uses flags (Sets t ∷ uses flags start) ++ (mentions_in_uses flags (uses flags stop) ++ mentions_in_uses flags step)
  mentions_of_count t start stop step = three_mention (Sets t ∷ uses flags start) (uses flags stop) step
