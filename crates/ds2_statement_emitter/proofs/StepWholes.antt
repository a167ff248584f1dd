-- Statements without parts, from what each step of writing them gives.
use Rattle.std.proofs.Common.{◌≡◌, ℕ, ◌+◌, ◌<◌, List, length, map, Option, sym, ap, ◌∙◌}
use Rattle.ds2_base.specs.declared.place.Place.{Place}
use Rattle.ds2_value.specs.declared.ty.Ty.{Ty}
use Rattle.ds2_meaning.specs.declared.location.Reference.{Reference}
use Rattle.ds2_meaning.specs.declared.statements.ParameterSetting.{ParameterSetting}
use Rattle.ds2_meaning.specs.declared.statements.PutItem.{PutItem}
use Rattle.ds2_meaning.specs.declared.statements.Statement as code_statement
use Rattle.ds2_meaning.specs.declared.statements.When as code_when
use Rattle.ds2_meaning.specs.IsTyped.{expression_type}
use Rattle.ds2_meaning.specs.TypedExpression.{TypedExpression}
use Rattle.ds2_meaning.specs.TypedStatement.{TypedStatement, Assign, Invoke, Evaluate, SetParameters, Return, ReturnValue, Put, Block, SelectValue}
use Rattle.ds2_meaning.specs.View.{CallTree, in_a_row, otherwise_part, all_statements, typed_statement, item_tree, parameter_tree}
use Rattle.ds2_code.specs.declared.instr.Instr.{Instr}
use Rattle.ds2_code.specs.declared.instr.Instr.TheVariants as instr
use Rattle.ds2_gen.specs.CodePieces.{ExitPoints}
use Rattle.ds2_gen.specs.ExpressionCode.{CodeNumbers, cell_of, store_instr}
use Rattle.ds2_gen.specs.StatementCode.{EqualTo, store_kept, return_instr}
use Rattle.ds2_emitter.specs.Emit.{with_instruction, with_expression}
use Rattle.ds2_emitter.specs.declared.returning.Returning.{Returning}
use Rattle.ds2_statement_emitter.specs.Appending.{with_statement, with_statements, with_whens, with_items, with_parameter_values, with_invoked}
use Rattle.ds2_statement_emitter.specs.Arms.{when_tree}
use Rattle.ds2_statement_emitter.specs.Marks.{body_mark, end_mark, marked_way, marked_exits, redirected, end_aims}
use Rattle.ds2_statement_emitter.proofs.Added.{assign_added, invoke_added, evaluate_added, parameters_set, return_added, return_value_added, put_added, block_added}
use Rattle.ds2_statement_emitter.proofs.PartRuns.{items_count}
use Rattle.ds2_statement_emitter.proofs.Wholes.{select_value_whole}

module _ (n : CodeNumbers) (kept : ℕ) (exits : ExitPoints) (s : TypedStatement) (place : Place) where
  pub assign_whole : (r : Reference) (e : TypedExpression) (i : Instr) (c c1 c2 c3 : List Instr) → s ≡ Assign place r e
      → c1 ≡ with_instruction (instr.Tick place) c → c2 ≡ with_expression n e c1 → i ≡ store_instr (cell_of n r) → c3 ≡ with_instruction i c2
      → c3 ≡ with_statement n kept exits s c
  assign_whole r e i c c1 c2 c3 is e1 e2 i3 e3 =
      e3 ∙ ap (λ x. with_instruction x c2) i3 ∙ ap (λ w. with_instruction (store_instr (cell_of n r)) w) (e2 ∙ ap (λ w. with_expression n e w) e1)
      ∙ sym (ap (λ x. with_statement n kept exits x c) is ∙ assign_added n kept exits place r e c)

  pub invoke_whole : (call : CallTree) (c c1 c2 : List Instr) → s ≡ Invoke place call.instance call.method call.arguments
      → c1 ≡ with_instruction (instr.Tick place) c → c2 ≡ with_invoked n call c1
      → c2 ≡ with_statement n kept exits s c
  invoke_whole call c c1 c2 is e1 e2 =
      e2 ∙ ap (λ w. with_invoked n call w) e1 ∙ sym (ap (λ x. with_statement n kept exits x c) is ∙ invoke_added n kept exits place call c)

  pub evaluate_whole : (e : TypedExpression) (c c1 c2 c3 : List Instr) → s ≡ Evaluate place e
      → c1 ≡ with_instruction (instr.Tick place) c → c2 ≡ with_expression n e c1 → c3 ≡ with_instruction instr.DropTop c2
      → c3 ≡ with_statement n kept exits s c
  evaluate_whole e c c1 c2 c3 is e1 e2 e3 =
      e3 ∙ ap (λ w. with_instruction instr.DropTop w) (e2 ∙ ap (λ w. with_expression n e w) e1) ∙ sym (ap (λ x. with_statement n kept exits x c) is ∙ evaluate_added n kept exits place e c)

  pub parameters_whole : (instance : List ℕ) (values shown : List ParameterSetting) (c c1 c2 : List Instr) → s ≡ SetParameters place instance (map parameter_tree values)
      → c1 ≡ with_instruction (instr.Tick place) c → shown ≡ values → c2 ≡ with_parameter_values n instance (map parameter_tree shown) c1
      → c2 ≡ with_statement n kept exits s c
  parameters_whole instance values shown c c1 c2 is e1 same e2 =
      e2 ∙ ap (λ v. with_parameter_values n instance (map parameter_tree v) c1) same ∙ ap (λ w. with_parameter_values n instance (map parameter_tree values) w) e1
      ∙ sym (ap (λ x. with_statement n kept exits x c) is ∙ parameters_set n kept exits place instance (map parameter_tree values) c)

  pub return_whole : (way returning : Returning) (i : Instr) (c c1 c2 : List Instr) → s ≡ Return place
      → c1 ≡ with_instruction (instr.Tick place) c → returning ≡ way → i ≡ return_instr (marked_way returning) → marked_way way ≡ exits.return → c2 ≡ with_instruction i c1
      → c2 ≡ with_statement n kept exits s c
  return_whole way returning i c c1 c2 is e1 w2 i2 same e2 =
      e2 ∙ ap (λ x. with_instruction x c1) (i2 ∙ ap (λ w. return_instr (marked_way w)) w2 ∙ ap return_instr same) ∙ ap (λ w. with_instruction (return_instr exits.return) w) e1
      ∙ sym (ap (λ x. with_statement n kept exits x c) is ∙ return_added n kept exits place c)

  pub return_value_whole : (e : TypedExpression) (c c1 c2 c3 : List Instr) → s ≡ ReturnValue place e
      → c1 ≡ with_instruction (instr.Tick place) c → c2 ≡ with_expression n e c1 → c3 ≡ with_instruction instr.RetV c2
      → c3 ≡ with_statement n kept exits s c
  return_value_whole e c c1 c2 c3 is e1 e2 e3 =
      e3 ∙ ap (λ w. with_instruction instr.RetV w) (e2 ∙ ap (λ w. with_expression n e w) e1) ∙ sym (ap (λ x. with_statement n kept exits x c) is ∙ return_value_added n kept exits place e c)

  pub put_whole : (items shown : List PutItem) (c c1 c2 : List Instr) → s ≡ Put place (map item_tree items)
      → c1 ≡ with_instruction (instr.Tick place) c → shown ≡ items → c2 ≡ with_instruction (instr.Put (length shown)) (with_items n (map item_tree shown) c1)
      → c2 ≡ with_statement n kept exits s c
  put_whole items shown c c1 c2 is e1 same e2 =
      e2 ∙ ap (λ l. with_instruction (instr.Put (length l)) (with_items n (map item_tree l) c1)) same
      ∙ ap (λ k. with_instruction (instr.Put k) (with_items n (map item_tree items) c1)) (sym (items_count items))
      ∙ ap (λ w. with_instruction (instr.Put (length (map item_tree items))) (with_items n (map item_tree items) w)) e1
      ∙ sym (ap (λ x. with_statement n kept exits x c) is ∙ put_added n kept exits place (map item_tree items) c)

  pub block_whole : (body shown : List code_statement.Statement) (c c1 c2 : List Instr) → s ≡ Block place (all_statements (map typed_statement body))
      → c1 ≡ with_instruction (instr.Tick place) c → shown ≡ body → c2 ≡ with_statements n kept exits (all_statements (map typed_statement shown)) c1
      → c2 ≡ with_statement n kept exits s c
  block_whole body shown c c1 c2 is e1 same e2 =
      e2 ∙ ap (λ l. with_statements n kept exits (all_statements (map typed_statement l)) c1) same
      ∙ ap (λ w. with_statements n kept exits (all_statements (map typed_statement body)) w) e1
      ∙ sym (ap (λ x. with_statement n kept exits x c) is ∙ block_added n kept exits place (all_statements (map typed_statement body)) c)

-- a `select` with a value whose kept value is stored by an instruction
module _ (n : CodeNumbers) (way : Returning) (kept : ℕ) where
  pub select_value_stored : (place : Place) (value : TypedExpression) (ty : Ty) (whens : List code_when.When) (o : Option TypedStatement) (i : Instr) (c c1 c2 c3 c4 c5 c6 : List Instr) (start first next : ℕ)
      → start ≡ length c
      → c1 ≡ with_instruction (instr.Tick place) c
      → c2 ≡ with_expression n value c1 → ty ≡ expression_type value
      → i ≡ store_kept n kept → c3 ≡ with_instruction i c2 → first ≡ kept + 1
      → with_whens n next end_mark (marked_exits way) (EqualTo kept ty) (otherwise_part o) c4 ≡ with_whens n first end_mark (marked_exits way) (EqualTo kept ty) (in_a_row (map when_tree whens) (otherwise_part o)) c3
      → c5 ≡ with_whens n next end_mark (marked_exits way) (EqualTo kept ty) (otherwise_part o) c4
      → c6 ≡ redirected start (end_aims (length c5)) c5 → length c5 < body_mark
      → c6 ≡ with_statement n kept (marked_exits way) (SelectValue place value (in_a_row (map when_tree whens) (otherwise_part o))) c
  select_value_stored place value ty whens o i c c1 c2 c3 c4 c5 c6 start first next e0 e1 e2 t2 i3 e3 k3 e4 e5 e6 small =
      select_value_whole n way kept place value ty whens o c c1 c2 c3 c4 c5 c6 start first next e0 e1 e2 t2 (e3 ∙ ap (λ x. with_instruction x c2) i3) k3 e4 e5 e6 small
