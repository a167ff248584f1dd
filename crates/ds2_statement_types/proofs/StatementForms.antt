-- Statements whose parts stand in lists: the rules that they break and what they become.
use Rattle.std.proofs.Common.{◌≡◌, Bool, List, [], ◌∷◌, ◌++◌, map, Option, Some, None, Result, Ok, Err, refl, sym, ap, ◌∙◌, subst, append_assoc}
use Rattle.std.proofs.lemmas.List.{append-nil}
use Rattle.std.specs.Option.{option_map}
use Rattle.std.specs.Prelude.{IfOk}
use Rattle.std.specs.declared.boxed.Box.{Box}
use Rattle.std.specs.declared.alloc.Global.{Global}
use Rattle.ds2_base.specs.declared.place.Place.{Place}
use Rattle.ds2_base.specs.declared.place.Refusal.{Refusal}
use Rattle.ds2_base.specs.declared.stop.OutOfMemory.{OutOfMemory}
use Rattle.ds2_token.specs.declared.token.Token.{Token}
use Rattle.ds2_tree.specs.ExpressionViews.{expression_tree, arguments_of}
use Rattle.ds2_tree.specs.Expressions.{Expression}
use Rattle.ds2_tree.specs.StatementViews.{selector_tree, control_tree, if_else, statement_tree, statements_of, others_of, whens_of, otherwise_tree}
use Rattle.ds2_tree.specs.Statements as s
use Rattle.ds2_tree.specs.declared.expressions.Expression as code_expression
use Rattle.ds2_tree.specs.declared.statements.DoControl as code_control
use Rattle.ds2_tree.specs.declared.statements.ElseIf as code_else_if
use Rattle.ds2_tree.specs.declared.statements.Otherwise as code_otherwise
use Rattle.ds2_tree.specs.declared.statements.Selector as code_selector
use Rattle.ds2_tree.specs.declared.statements.Statement as code
use Rattle.ds2_tree.specs.declared.statements.Statement.TheVariants as statement
use Rattle.ds2_tree.specs.declared.statements.When as code_when
use Rattle.ds2_meaning.specs.TypedExpression.{TypedExpression, TypedExpressions, Then}
use Rattle.ds2_meaning.specs.TypedStatement as t
use Rattle.ds2_meaning.specs.View.{Part, in_a_row, if_tree, all_expressions, all_statements, otherwise_part, typed_statement, typed_statements}
use Rattle.ds2_meaning.specs.declared.refusals.TypeKind.{TypeKind}
use Rattle.ds2_meaning.specs.declared.statements.Statement as typed
use Rattle.ds2_meaning.specs.declared.statements.When as typed_when
use Rattle.ds2_names.specs.NameRules.{from_each}
use Rattle.ds2_names.specs.Uses.{first_place}
use Rattle.ds2_elaboration.specs.ExpressionTypes.{TypeScope, elaborated, elaborated_arguments}
use Rattle.ds2_elaboration.specs.FunctionTypes.{ElaboratedArgument, nodes_in_order}
use Rattle.ds2_elaboration.specs.StatementTypes.{argument_nodes, selected_node, selector_refusals, test_refusals, selects_decimals, select_node, control_refusals, do_node, statement_refusals, statements_refusals, when_refusals, otherwise_refusals, statement_node, statements_node, whens_node, otherwise_node}
use Rattle.ds2_elaboration.specs.Typings.{TypeRefusals, truth_refusals}
use Rattle.ds2_scope.proofs.StatementRows.{if_tree_is, select_tree, do_tree}
use Rattle.ds2_types.specs.Judgements.{first_type_refusal, IsOutcome}
use Rattle.ds2_simple_statement_types.specs.StatementOutcomes.{boxed_tree, StandsAs, AreTypedAs}
use Rattle.ds2_statement_types.specs.StatementParts.{own_refusals, own_node, arm_refusals, arm_form, last_node, part_refusals, when_form, when_of}
use Rattle.ds2_statement_types.specs.TestRules.{test_rule, selector_node, select_form, IsTestRule}
use Rattle.ds2_statement_types.specs.declared.when_tests.TestRule.{TestRule}
use Rattle.ds2_simple_statement_types.proofs.PartOutcomes.{Results, stands_as}
use Rattle.ds2_statement_types.proofs.TestForms.{rule_of_select}

module _ (types : TypeScope) where
  -- a statement that is this
  pub told_statement : (x : code.Statement) (form : s.Statement) (result : Results) → statement_tree x ≡ form
      → StandsAs (statement_refusals types form) (statement_node types form) result → StandsAs (own_refusals types x) (own_node types x) result
  told_statement x form result e h = subst (λ (y : s.Statement). StandsAs (statement_refusals types y) (statement_node types y) result) (sym e) h

  -- ---- an `if` with the parts that are chained to it

  if_broken : (k : Token) (e : Expression) (w : Token) (x : s.Statement) (o : s.Otherwise)
      → statement_refusals types (if_else k e w x o) ≡ (truth_refusals (first_place e) (elaborated types e) ++ statement_refusals types x) ++ otherwise_refusals types o
  if_broken k e w x s.NoOtherwise = sym (append-nil (truth_refusals (first_place e) (elaborated types e) ++ statement_refusals types x))
  if_broken k e w x (s.Otherwise' v o) = refl

  if_formed : (k : Token) (e : Expression) (w : Token) (x : s.Statement) (o : s.Otherwise)
      → statement_node types (if_else k e w x o) ≡ if_tree k.place (elaborated types e).node (statement_node types x) (last_node types o)
  if_formed k e w x s.NoOtherwise = refl
  if_formed k e w x (s.Otherwise' v o) = refl

  others_broken : (xs : List code_else_if.ElseIf) (o : s.Otherwise) → otherwise_refusals types (others_of xs o) ≡ from_each (arm_refusals types) xs ++ otherwise_refusals types o
  others_broken [] o = refl
  others_broken (x ∷ xs) o =
      if_broken x.keyword (expression_tree x.condition) x.then_keyword (statement_tree x.then) (others_of xs o)
      ∙ ap (λ (l : TypeRefusals). arm_refusals types x ++ l) (others_broken xs o)
      ∙ sym (append_assoc (arm_refusals types x) (from_each (arm_refusals types) xs) (otherwise_refusals types o))

  others_formed : (xs : List code_else_if.ElseIf) (o : s.Otherwise) → last_node types (others_of xs o) ≡ in_a_row (map (arm_form types) xs) (last_node types o)
  others_formed [] o = refl
  others_formed (x ∷ xs) o =
      ap (λ (n : t.TypedStatement). Some n) (if_formed x.keyword (expression_tree x.condition) x.then_keyword (statement_tree x.then) (others_of xs o))
      ∙ ap (arm_form types x) (others_formed xs o)

  -- an `if`
  pub if_whole : (x : code.Statement) (k : Token) (e : code_expression.Expression) (w : Token) (on : Box code.Statement Global) (others : List code_else_if.ElseIf)
      (o : Option code_otherwise.Otherwise) (result : Results) → x ≡ statement.If k e w on others o
      → StandsAs
      ((truth_refusals (first_place (expression_tree e)) (elaborated types (expression_tree e)) ++ own_refusals types on.value)
      ++ (from_each (arm_refusals types) others ++ otherwise_refusals types (otherwise_tree o)))
      (if_tree k.place (elaborated types (expression_tree e)).node (own_node types on.value) (in_a_row (map (arm_form types) others) (last_node types (otherwise_tree o)))) result
      → StandsAs (own_refusals types x) (own_node types x) result
  if_whole x k e w on others o result h k' =
      let is = ap statement_tree h ∙ if_tree_is k e w on others o in
      let test = truth_refusals (first_place (expression_tree e)) (elaborated types (expression_tree e)) ++ own_refusals types on.value in
      let broken =
      if_broken k (expression_tree e) w (statement_tree on.value) (others_of others (otherwise_tree o))
      ∙ ap (λ (l : TypeRefusals). test ++ l) (others_broken others (otherwise_tree o)) in
      let formed =
      if_formed k (expression_tree e) w (statement_tree on.value) (others_of others (otherwise_tree o))
      ∙ ap (if_tree k.place (elaborated types (expression_tree e)).node (own_node types on.value)) (others_formed others (otherwise_tree o)) in
      told_statement x (if_else k (expression_tree e) w (statement_tree on.value) (others_of others (otherwise_tree o))) result is
      (stands_as _ _ _ _ result broken formed k')

  -- ---- a `select` with its parts

  whens_broken : (rule : ElaboratedArgument → TypeRefusals) (ws : List code_when.When) → when_refusals types rule (whens_of ws) ≡ from_each (part_refusals types rule) ws
  whens_broken rule [] = refl
  whens_broken rule (w ∷ ws) = ap (λ (l : TypeRefusals). part_refusals types rule w ++ l) (whens_broken rule ws)

  whens_formed : (decimals : Bool) (ws : List code_when.When) (last : t.TypedWhens) → whens_node types decimals (whens_of ws) last ≡ in_a_row (map (when_form types decimals) ws) last
  whens_formed decimals [] last = refl
  whens_formed decimals (w ∷ ws) last = ap (when_form types decimals w) (whens_formed decimals ws last)

  in_order : (es : List TypedExpression) → nodes_in_order es ≡ all_expressions es
  in_order [] = refl
  in_order (e ∷ es) = ap (λ (rest : TypedExpressions). Then e rest) (in_order es)

  -- a `when` part of tests and a statement
  pub formed_when : (rule : TestRule) (w : code_when.When) (outcome : Result typed_when.When (Refusal TypeKind))
      → IsOutcome
      (λ (x : typed_when.When).
      when_of x
      ≡ (λ (rest : t.TypedWhens).
      t.When (all_expressions (map (selected_node types rule.decimals) (argument_nodes (elaborated_arguments types (arguments_of w.values))))) (own_node types w.statement) rest))
      (part_refusals types (test_rule rule.beside) w) outcome
      → IsOutcome (λ (x : typed_when.When). when_of x ≡ when_form types rule.decimals w) (part_refusals types (test_rule rule.beside) w) outcome
  formed_when rule w (Ok x) h = (
    h.0,
    h.1
        ∙ ap {B = Part t.TypedWhens} (λ (tests : TypedExpressions) (rest : t.TypedWhens). t.When tests (own_node types w.statement) rest)
        (sym (in_order (map (selected_node types rule.decimals) (argument_nodes (elaborated_arguments types (arguments_of w.values)))))),
  )
  formed_when rule w (Err r) h = h

  -- a last part that is this
  pub told_last : (o : Option code_otherwise.Otherwise) (form : s.Otherwise) (outcome : Result (Option (Box typed.Statement Global)) (Refusal TypeKind)) → otherwise_tree o ≡ form
      → IsOutcome (λ (b : Option (Box typed.Statement Global)). option_map boxed_tree b ≡ last_node types form) (otherwise_refusals types form) outcome
      → IsOutcome (λ (b : Option (Box typed.Statement Global)). option_map boxed_tree b ≡ last_node types (otherwise_tree o)) (otherwise_refusals types (otherwise_tree o)) outcome
  told_last o form outcome e h =
      subst (λ (x : s.Otherwise). IsOutcome (λ (b : Option (Box typed.Statement Global)). option_map boxed_tree b ≡ last_node types x) (otherwise_refusals types x) outcome) (sym e) h

  last_formed : (o : s.Otherwise) → otherwise_node types o ≡ otherwise_part (last_node types o)
  last_formed s.NoOtherwise = refl
  last_formed (s.Otherwise' k o) = refl

  select_formed : (place : Place) (decimals : Bool) (selector : Option s.Selector) (whens : t.TypedWhens)
      → select_node types place decimals selector whens ≡ select_form place (selector_node types decimals selector) whens
  select_formed place decimals None whens = refl
  select_formed place decimals (Some selector) whens = refl

  -- what a `select` with this rule of tests breaks
  abbrev pub select_rules : Option s.Selector → TestRule → List code_when.When → s.Otherwise → TypeRefusals
  select_rules selector rule ws o = selector_refusals types selector ++ (from_each (part_refusals types (test_rule rule.beside)) ws ++ otherwise_refusals types o)

  -- what it becomes
  abbrev pub select_whole_form : Place → Option s.Selector → TestRule → List code_when.When → s.Otherwise → t.TypedStatement
  select_whole_form place selector rule ws o =
      select_form place (selector_node types rule.decimals selector) (in_a_row (map (when_form types rule.decimals) ws) (otherwise_part (last_node types o)))

  -- a `select`
  pub select_whole : (x : code.Statement) (k : Token) (v : Option code_selector.Selector) (p : Place) (ws : List code_when.When) (o : Option code_otherwise.Otherwise) (e : Token)
      (end : Place) (rule : TestRule) (result : Results) → x ≡ statement.Select k v p ws o e end → IsTestRule types (option_map selector_tree v) (whens_of ws) rule
      → StandsAs (select_rules (option_map selector_tree v) rule ws (otherwise_tree o)) (select_whole_form k.place (option_map selector_tree v) rule ws (otherwise_tree o)) result
      → StandsAs (own_refusals types x) (own_node types x) result
  select_whole x k v p ws o e end rule result h r k' =
      let selector = option_map selector_tree v in
      let last = otherwise_tree o in
      let rules = rule_of_select types rule.beside selector r.beside in
      let broken =
      append_assoc (selector_refusals types selector) (when_refusals types (test_refusals types selector) (whens_of ws)) (otherwise_refusals types last)
      ∙ ap (λ (l : TypeRefusals). selector_refusals types selector ++ (l ++ otherwise_refusals types last))
      (whens_broken (test_refusals types selector) ws ∙ ap (λ (rule' : ElaboratedArgument → TypeRefusals). from_each (part_refusals types rule') ws) (sym rules)) in
      let formed =
      select_formed k.place (selects_decimals types selector (whens_of ws)) selector (whens_node types (selects_decimals types selector (whens_of ws)) (whens_of ws) (otherwise_node types last))
      ∙ ap (λ (b : Bool). select_form k.place (selector_node types b selector) (whens_node types b (whens_of ws) (otherwise_node types last))) (sym r.decimals)
      ∙ ap (select_form k.place (selector_node types rule.decimals selector))
      (whens_formed rule.decimals ws (otherwise_node types last) ∙ ap (in_a_row (map (when_form types rule.decimals) ws)) (last_formed last)) in
      told_statement x (s.Select k selector p (whens_of ws) last e end) result (ap statement_tree h ∙ select_tree k v p ws o e end)
      (stands_as _ _ _ _ result broken formed k')

  -- ---- a block or a loop

  body_broken : (ss : List code.Statement) → statements_refusals types (statements_of ss) ≡ from_each (own_refusals types) ss
  body_broken [] = refl
  body_broken (x ∷ ss) = ap (λ (l : TypeRefusals). own_refusals types x ++ l) (body_broken ss)

  body_formed : (ss : List code.Statement) → statements_node types (statements_of ss) ≡ all_statements (map (own_node types) ss)
  body_formed [] = refl
  body_formed (x ∷ ss) = ap (λ (l : t.TypedStatements). t.Next (own_node types x) l) (body_formed ss)

  -- a block or a loop
  pub do_whole : (x : code.Statement) (k : Token) (c : code_control.DoControl) (p : Place) (ss : List code.Statement) (e : Token) (end : Place) (result : Results)
      → x ≡ statement.Do k c p ss e end
      → StandsAs (control_refusals types (control_tree c) ++ from_each (own_refusals types) ss) (do_node types k.place (control_tree c) (all_statements (map (own_node types) ss))) result
      → StandsAs (own_refusals types x) (own_node types x) result
  do_whole x k c p ss e end result h k' =
      told_statement x (s.Do k (control_tree c) p (statements_of ss) e end) result (ap statement_tree h ∙ do_tree k c p ss e end)
      (stands_as _ _ _ _ result (ap (λ (l : TypeRefusals). control_refusals types (control_tree c) ++ l) (body_broken ss)) (ap (do_node types k.place (control_tree c)) (body_formed ss)) k')

  -- ---- the statements of a method

  as_body : (ss : List code.Statement) (outcome : Result (List typed.Statement) (Refusal TypeKind))
      → AreTypedAs typed_statement (from_each (own_refusals types) ss) (map (own_node types) ss) outcome
      → IsOutcome (λ (l : List typed.Statement). typed_statements l ≡ statements_node types (statements_of ss)) (statements_refusals types (statements_of ss)) outcome
  as_body ss (Ok l) h = (body_broken ss ∙ h.0, ap all_statements h.1 ∙ sym (body_formed ss))
  as_body ss (Err r) h = ap first_type_refusal (body_broken ss) ∙ h

  pub body_whole : (ss : List code.Statement) (result : Result (Result (List typed.Statement) (Refusal TypeKind)) OutOfMemory)
      → IfOk result (AreTypedAs typed_statement (from_each (own_refusals types) ss) (map (own_node types) ss))
      → IfOk result (IsOutcome (λ (l : List typed.Statement). typed_statements l ≡ statements_node types (statements_of ss)) (statements_refusals types (statements_of ss)))
  body_whole ss (Ok outcome) h = as_body ss outcome h
  body_whole ss (Err fault) h = h
