-- How the code of parts of statements is put together.
use Rattle.std.proofs.Common.{◌≡◌, ◌≤◌, ◌<◌, ◌-◌, ℕ, suc, length, map, take, drop, get_or, ap, List, [], ◌∷◌, ◌++◌, Some, None, refl, sym, ◌∙◌, append_assoc, append-nil, arith}
use Rattle.std.proofs.Math.Seq.{take-length}
use Rattle.ds2_value.specs.declared.comparison.Comparison.TheVariants.{Equal}
use Rattle.ds2_value.specs.declared.ty.Ty.{Ty}
use Rattle.ds2_value.specs.declared.value.Value.TheVariants.{Txt}
use Rattle.ds2_meaning.specs.Evaluation.{callee_home}
use Rattle.ds2_meaning.specs.IsTyped.{class_of, expression_type}
use Rattle.ds2_meaning.specs.TypedExpression.{TypedExpression, TypedExpressions, NoExpression, Then}
use Rattle.ds2_meaning.specs.TypedStatement.{Item, Text, Shown, Labelled, ParameterValue}
use Rattle.ds2_meaning.specs.declared.expressions.Expression as code_expression
use Rattle.ds2_meaning.specs.declared.statements.PutItem.{PutItem}
use Rattle.ds2_meaning.specs.View.{CallTree, all_expressions, typed_expression, item_tree}
use Rattle.ds2_code.specs.declared.instr.Instr.{Instr}
use Rattle.ds2_code.specs.declared.instr.Instr.TheVariants as instr
use Rattle.ds2_gen.specs.ExpressionCode.{CodeNumbers, constant_instr, store_instr, truth_code, comparison_instr, expression_code}
use Rattle.ds2_gen.specs.StatementCode.{Subject, Conditions, EqualTo, text_type, label_of, drop_code, parameter_cell, load_kept}
use Rattle.ds2_emitter.specs.Emit.{with_instruction, with_run, with_expression, with_arguments, with_back, with_method_call}
use Rattle.ds2_statement_emitter.specs.Appending.{with_all, with_condition, with_items, with_outputs, with_parameter_values, with_invoked, with_loop_step, with_when_test, with_further_tests, with_open_tests}

pub all_added : (is c : List Instr) → with_all is c ≡ c ++ is
unfolding with_instruction
all_added [] c = sym (append-nil c)
all_added (i ∷ is) c = all_added is (with_instruction i c) ∙ append_assoc c (i ∷ []) is

pub no_output_added : (c : List Instr) → with_outputs [] c ≡ c
unfolding with_outputs
no_output_added c = append-nil c

pub output_added : (k : ℕ) (rest : List ℕ) (c : List Instr) → with_outputs (k ∷ rest) c ≡ with_outputs rest (with_instruction (instr.Output k) c)
unfolding with_outputs with_instruction
output_added k rest c = simp append_assoc

module _ (n : CodeNumbers) where
  pub condition_added : (e : TypedExpression) (c : List Instr) → with_condition n e c ≡ with_run (truth_code (expression_type e)) (with_expression n e c)
  unfolding with_condition with_run with_expression
  condition_added e c = sym (append_assoc c (expression_code n e) (truth_code (expression_type e)))

  pub no_item_added : (c : List Instr) → with_items n [] c ≡ c
  unfolding with_items
  no_item_added c = append-nil c

  pub text_added : (t : List ℕ) (rest : List Item) (c : List Instr) → with_items n (Text t ∷ rest) c ≡ with_items n rest (with_instruction (constant_instr n (Txt t) (text_type t)) c)
  unfolding with_items with_instruction
  text_added t rest c = simp append_assoc

  pub shown_added : (e : TypedExpression) (rest : List Item) (c : List Instr) → with_items n (Shown e ∷ rest) c ≡ with_items n rest (with_instruction instr.Show (with_expression n e c))
  unfolding with_items with_instruction with_expression
  shown_added e rest c = simp append_assoc

  pub labelled_added : (name : List ℕ) (e : TypedExpression) (rest : List Item) (c : List Instr)
      → with_items n (Labelled name e ∷ rest) c
      ≡ with_items n rest (with_instruction instr.Cat (with_instruction instr.Show (with_expression n e (with_instruction (constant_instr n (Txt (label_of name)) (text_type (label_of name))) c))))
  unfolding with_items with_instruction with_expression
  labelled_added name e rest c = simp append_assoc

  pub no_parameter_added : (instance : List ℕ) (c : List Instr) → with_parameter_values n instance [] c ≡ c
  unfolding with_parameter_values
  no_parameter_added instance c = append-nil c

  pub parameter_added : (instance : List ℕ) (p : ParameterValue) (rest : List ParameterValue) (c : List Instr)
      → with_parameter_values n instance (p ∷ rest) c ≡ with_parameter_values n instance rest (with_instruction (store_instr (parameter_cell n instance p.parameter)) (with_expression n p.value c))
  unfolding with_parameter_values with_instruction with_expression
  parameter_added instance p rest c = simp append_assoc

  pub invoked_added : (call : CallTree) (c : List Instr) → with_invoked n call c ≡ with_run (drop_code (n.callee (callee_home n.home call.instance) call.method)) (with_method_call n call c)
  unfolding with_invoked with_run with_arguments with_instruction with_back
  invoked_added call c = simp append_assoc

  pub no_step_added : (c : List Instr) → with_loop_step n None c ≡ c
  unfolding with_loop_step
  no_step_added c = append-nil c

  pub step_added : (e : TypedExpression) (c : List Instr) → with_loop_step n (Some e) c ≡ with_expression n e c
  unfolding with_loop_step with_expression
  step_added e c = refl

  pub condition_tested : (e : TypedExpression) (c : List Instr) → with_when_test n Conditions e c ≡ with_condition n e c
  unfolding with_when_test with_condition
  condition_tested e c = refl

  pub equality_tested : (kept : ℕ) (ty : Ty) (e : TypedExpression) (c : List Instr)
      → with_when_test n (EqualTo kept ty) e c ≡ with_instruction (comparison_instr (class_of ty) Equal) (with_expression n e (with_instruction (load_kept n kept ty) c))
  unfolding with_when_test with_instruction with_expression
  equality_tested kept ty e c = simp append_assoc

  module _ (subject : Subject) (on : ℕ) where
    pub no_test_added : (c : List Instr) → with_open_tests n subject on NoExpression c ≡ c
    unfolding with_open_tests
    no_test_added c = append-nil c

    pub first_test_added : (e : TypedExpression) (rest : TypedExpressions) (c : List Instr) → with_open_tests n subject on (Then e rest) c ≡ with_further_tests n subject on rest (with_when_test n subject e c)
    unfolding with_open_tests with_further_tests with_when_test
    first_test_added e rest c = simp append_assoc

    pub no_further_added : (c : List Instr) → with_further_tests n subject on NoExpression c ≡ c
    unfolding with_further_tests
    no_further_added c = append-nil c

    pub further_added : (e : TypedExpression) (rest : TypedExpressions) (c : List Instr)
        → with_further_tests n subject on (Then e rest) c ≡ with_further_tests n subject on rest (with_when_test n subject e (with_instruction (instr.JTrue on) c))
    unfolding with_further_tests with_when_test with_instruction
    further_added e rest c = simp append_assoc

pub items_count : (items : List PutItem) → length (map item_tree items) ≡ length items
items_count [] = refl
items_count (item ∷ items) = ap (λ k. suc k) (items_count items)

-- ---- a first test and those behind it

pub no_tests_left : (es : List code_expression.Expression) → length es < 1 → all_expressions (map typed_expression es) ≡ NoExpression
no_tests_left [] none = refl
no_tests_left (e ∷ es) none = absurd (omega arith)

rest_taken : (e : code_expression.Expression) (es : List code_expression.Expression) → take (length (e ∷ es) - 1) (drop 1 (e ∷ es)) ≡ es
rest_taken e es =
    let one : length (e ∷ es) - 1 ≡ length es = omega arith in
    ap (λ n. take n es) one ∙ take-length es

pub tests_left : (es : List code_expression.Expression) (e : code_expression.Expression) → 1 ≤ length es → e ≡ get_or es 0 e
    → all_expressions (map typed_expression es) ≡ Then (typed_expression e) (all_expressions (map typed_expression (take (length es - 1) (drop 1 es))))
tests_left [] e some first = absurd (omega arith)
tests_left (x ∷ es) e some first =
    ap (λ y. Then (typed_expression y) (all_expressions (map typed_expression es))) (sym first)
    ∙ ap (λ l. Then (typed_expression e) (all_expressions (map typed_expression l))) (sym (rest_taken x es))
