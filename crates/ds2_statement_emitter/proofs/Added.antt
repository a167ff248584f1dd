-- How the code of statements without loops and choices is put together.
use Rattle.std.proofs.Common.{◌≡◌, ℕ, ◌+◌, List, [], ◌∷◌, ◌++◌, length, refl, sym, ap, ◌∙◌, append_assoc, append-nil, length-append, arith}
use Rattle.ds2_base.specs.declared.place.Place.{Place}
use Rattle.ds2_meaning.specs.declared.location.Reference.{Reference}
use Rattle.ds2_meaning.specs.TypedExpression.{TypedExpression}
use Rattle.ds2_meaning.specs.TypedStatement.{TypedStatement, Empty, Assign, Invoke, Evaluate, SetParameters, ParameterValue, Leave, Continue, Return, ReturnValue, Output, Put, Block, TypedStatements, Finish, Next, Item, NoOtherwise, Otherwise}
use Rattle.ds2_meaning.specs.View.{CallTree}
use Rattle.ds2_code.specs.declared.instr.Instr.{Instr}
use Rattle.ds2_code.specs.declared.instr.Instr.TheVariants as instr
use Rattle.ds2_gen.specs.CodePieces.{ExitPoints}
use Rattle.ds2_gen.specs.ExpressionCode.{CodeNumbers, cell_of, store_instr}
use Rattle.ds2_gen.specs.StatementCode.{Subject, return_instr, values_kept, statement_size, statement_code, statements_code}
use Rattle.ds2_gen.proofs.SizeLemmas.{size_is}
use Rattle.ds2_emitter.specs.Emit.{with_instruction, with_expression}
use Rattle.ds2_statement_emitter.specs.Appending.{with_statement, with_statements, with_whens, with_items, with_outputs, with_parameter_values, with_invoked}

module _ (n : CodeNumbers) (kept : ℕ) (exits : ExitPoints) where
  pub empty_added : (p : Place) (c : List Instr) → with_statement n kept exits (Empty p) c ≡ with_instruction (instr.Tick p) c
  unfolding with_statement with_instruction
  empty_added p c = refl

  pub assign_added : (p : Place) (r : Reference) (e : TypedExpression) (c : List Instr)
      → with_statement n kept exits (Assign p r e) c ≡ with_instruction (store_instr (cell_of n r)) (with_expression n e (with_instruction (instr.Tick p) c))
  unfolding with_statement with_instruction with_expression
  assign_added p r e c = simp append_assoc

  pub invoke_added : (p : Place) (call : CallTree) (c : List Instr) → with_statement n kept exits (Invoke p call.instance call.method call.arguments) c ≡ with_invoked n call (with_instruction (instr.Tick p) c)
  unfolding with_statement with_instruction with_invoked
  invoke_added p call c = simp append_assoc

  pub evaluate_added : (p : Place) (e : TypedExpression) (c : List Instr) → with_statement n kept exits (Evaluate p e) c ≡ with_instruction instr.DropTop (with_expression n e (with_instruction (instr.Tick p) c))
  unfolding with_statement with_instruction with_expression
  evaluate_added p e c = simp append_assoc

  pub parameters_set : (p : Place) (instance : List ℕ) (values : List ParameterValue) (c : List Instr)
      → with_statement n kept exits (SetParameters p instance values) c ≡ with_parameter_values n instance values (with_instruction (instr.Tick p) c)
  unfolding with_statement with_instruction with_parameter_values
  parameters_set p instance values c = simp append_assoc

  pub leave_added : (p : Place) (c : List Instr) → with_statement n kept exits (Leave p) c ≡ with_instruction (instr.Jump exits.leave) (with_instruction (instr.Tick p) c)
  unfolding with_statement with_instruction
  leave_added p c = simp append_assoc

  pub continue_added : (p : Place) (c : List Instr) → with_statement n kept exits (Continue p) c ≡ with_instruction (instr.Jump exits.continue) (with_instruction (instr.Tick p) c)
  unfolding with_statement with_instruction
  continue_added p c = simp append_assoc

  pub return_added : (p : Place) (c : List Instr) → with_statement n kept exits (Return p) c ≡ with_instruction (return_instr exits.return) (with_instruction (instr.Tick p) c)
  unfolding with_statement with_instruction
  return_added p c = simp append_assoc

  pub return_value_added : (p : Place) (e : TypedExpression) (c : List Instr) → with_statement n kept exits (ReturnValue p e) c ≡ with_instruction instr.RetV (with_expression n e (with_instruction (instr.Tick p) c))
  unfolding with_statement with_instruction with_expression
  return_value_added p e c = simp append_assoc

  pub rows_added : (p : Place) (outputs : List ℕ) (c : List Instr) → with_statement n kept exits (Output p outputs) c ≡ with_outputs outputs (with_instruction (instr.Tick p) c)
  unfolding with_statement with_instruction with_outputs
  rows_added p outputs c = simp append_assoc

  pub put_added : (p : Place) (items : List Item) (c : List Instr) → with_statement n kept exits (Put p items) c ≡ with_instruction (instr.Put (length items)) (with_items n items (with_instruction (instr.Tick p) c))
  unfolding with_statement with_instruction with_items
  put_added p items c = simp append_assoc

  pub block_added : (p : Place) (body : TypedStatements) (c : List Instr) → with_statement n kept exits (Block p body) c ≡ with_statements n kept exits body (with_instruction (instr.Tick p) c)
  unfolding with_statement with_instruction with_statements
  block_added p body c =
      let at : length (c ++ instr.Tick p ∷ []) ≡ length c + 1 = omega (arith, length-append c (instr.Tick p ∷ [])) in
      sym (ap (λ k. (c ++ instr.Tick p ∷ []) ++ statements_code n k kept exits body) at ∙ append_assoc c (instr.Tick p ∷ []) (statements_code n (length c + 1) kept exits body))

  pub finish_added : (c : List Instr) → with_statements n kept exits Finish c ≡ c
  unfolding with_statements
  finish_added c = append-nil c

  pub next_added : (s : TypedStatement) (rest : TypedStatements) (c : List Instr)
      → with_statements n kept exits (Next s rest) c ≡ with_statements n (kept + values_kept s) exits rest (with_statement n kept exits s c)
  unfolding with_statements with_statement
  next_added s rest c =
      let code = statement_code n (length c) kept exits s in
      let more = kept + values_kept s in
      let at : length (c ++ code) ≡ length c + statement_size n s = omega (arith, length-append c code, size_is n (length c) kept exits s) in
      sym (ap (λ k. (c ++ code) ++ statements_code n k more exits rest) at ∙ append_assoc c code (statements_code n (length c + statement_size n s) more exits rest))

  pub no_otherwise_added : (end : ℕ) (subject : Subject) (c : List Instr) → with_whens n kept end exits subject NoOtherwise c ≡ with_instruction instr.NoWhen c
  unfolding with_whens with_instruction
  no_otherwise_added end subject c = refl

  pub otherwise_added : (end : ℕ) (subject : Subject) (s : TypedStatement) (c : List Instr) → with_whens n kept end exits subject (Otherwise s) c ≡ with_statement n kept exits s c
  unfolding with_whens with_statement
  otherwise_added end subject s c = refl
