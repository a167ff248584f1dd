-- Statements with parts, from what each step of writing them gives.
use Rattle.std.proofs.Common.{◌≡◌, ◌<◌, ℕ, ◌+◌, false, Bool, List, [], length, map, Option, Some, None, refl, ap, ◌∙◌}
use Rattle.std.specs.Prelude.{is_some}
use Rattle.std.specs.Option.{option_map}
use Rattle.ds2_base.specs.declared.place.Place.{Place}
use Rattle.ds2_value.specs.declared.ty.Ty.{Ty}
use Rattle.ds2_meaning.specs.declared.expressions.Expression as code_expression
use Rattle.ds2_meaning.specs.declared.location.Reference.{Reference}
use Rattle.ds2_meaning.specs.declared.statements.Arm as code_arm
use Rattle.ds2_meaning.specs.declared.statements.When as code_when
use Rattle.ds2_meaning.specs.IsTyped.{expression_type}
use Rattle.ds2_meaning.specs.TypedExpression.{TypedExpression}
use Rattle.ds2_meaning.specs.TypedStatement.{TypedStatement, TypedStatements, Select, SelectValue, While, Until, Count}
use Rattle.ds2_meaning.specs.View.{in_a_row, if_tree, otherwise_part, typed_expression}
use Rattle.ds2_code.specs.declared.instr.Instr.{Instr}
use Rattle.ds2_code.specs.declared.instr.Instr.TheVariants as instr
use Rattle.ds2_gen.specs.ExpressionCode.{CodeNumbers}
use Rattle.ds2_gen.specs.StatementCode.{Conditions, EqualTo, values_kept, store_kept}
use Rattle.ds2_emitter.specs.Emit.{with_instruction, with_expression}
use Rattle.ds2_emitter.specs.declared.returning.Returning.{Returning}
use Rattle.ds2_statement_emitter.specs.Appending.{with_statement, with_statements, with_whens, with_condition, with_loop_step, with_open_test, open_test_jump, with_off, IfPart, with_rest}
use Rattle.ds2_statement_emitter.specs.Arms.{statement_place, arm_tree, when_tree, arm_of_chain}
use Rattle.ds2_statement_emitter.specs.Counting.{end_kept, with_begun, begun_jump, with_round}
use Rattle.ds2_statement_emitter.specs.Marks.{body_mark, end_mark, marked_exits, redirected, end_aims, loop_aims}
use Rattle.ds2_statement_emitter.proofs.Chains.{if_ended}
use Rattle.ds2_statement_emitter.proofs.LoopEnds.{while_closed, until_closed, count_closed}
use Rattle.ds2_statement_emitter.proofs.SelectEnds.{select_ended, select_value_ended}

pub mapped_some : (step : Option code_expression.Expression) → is_some step ≡ is_some (option_map typed_expression step)
mapped_some None = refl
mapped_some (Some e) = refl

-- the step of a statement stands at its place
pub ticked : (s t : TypedStatement) (at : Place) (c c1 : List Instr) → s ≡ t → at ≡ statement_place s → c1 ≡ with_instruction (instr.Tick at) c → c1 ≡ with_instruction (instr.Tick (statement_place t)) c
ticked s t at c c1 is same e = e ∙ ap (λ p. with_instruction (instr.Tick p) c) (same ∙ ap statement_place is)

pub if_place : (p : Place) (e : TypedExpression) (on : TypedStatement) (o : Option TypedStatement) → statement_place (if_tree p e on o) ≡ p
if_place p e on None = refl
if_place p e on (Some off) = refl

module _ (n : CodeNumbers) (way : Returning) (kept : ℕ) where
  pub if_whole : (p : IfPart) (others : List code_arm.Arm) (o : Option TypedStatement) (c c1 c2 c3 c4 c5 : List Instr) (start hole next kept2 hole2 : ℕ)
      → start ≡ length c
      → c1 ≡ with_open_test n p.place p.condition c → hole ≡ open_test_jump n p.place p.condition c
      → c2 ≡ with_statement n kept (marked_exits way) p.on c1 → next ≡ kept + values_kept p.on
      → with_rest n (marked_exits way) end_mark kept2 hole2 [] o c3 ≡ with_rest n (marked_exits way) end_mark next hole (map arm_of_chain others) o c2
      → c4 ≡ with_rest n (marked_exits way) end_mark kept2 hole2 [] o c3
      → c5 ≡ redirected start (end_aims (length c4)) c4 → length c4 < body_mark
      → c5 ≡ with_statement n kept (marked_exits way) (if_tree p.place p.condition p.on (in_a_row (map arm_tree others) o)) c
  if_whole p others o c c1 c2 c3 c4 c5 start hole next kept2 hole2 e0 e1 h1 e2 k2 e3 e4 e5 small =
      let exits = marked_exits way in
      let whole : c4 ≡ with_rest n exits end_mark (kept + values_kept p.on) (open_test_jump n p.place p.condition c) (map arm_of_chain others) o (with_statement n kept exits p.on (with_open_test n p.place p.condition c)) =
      e4 ∙ e3 ∙ ap (λ k. with_rest n exits end_mark k hole (map arm_of_chain others) o c2) k2
      ∙ ap (λ h. with_rest n exits end_mark (kept + values_kept p.on) h (map arm_of_chain others) o c2) h1
      ∙ ap (λ w. with_rest n exits end_mark (kept + values_kept p.on) (open_test_jump n p.place p.condition c) (map arm_of_chain others) o w) (e2 ∙ ap (λ w. with_statement n kept exits p.on w) e1) in
      e5 ∙ ap (λ k. redirected k (end_aims (length c4)) c4) e0 ∙ if_ended n way kept p others o c c4 whole small

  pub select_whole : (place : Place) (whens : List code_when.When) (o : Option TypedStatement) (c c1 c2 c3 c4 : List Instr) (start next : ℕ)
      → start ≡ length c
      → c1 ≡ with_instruction (instr.Tick place) c
      → with_whens n next end_mark (marked_exits way) Conditions (otherwise_part o) c2 ≡ with_whens n kept end_mark (marked_exits way) Conditions (in_a_row (map when_tree whens) (otherwise_part o)) c1
      → c3 ≡ with_whens n next end_mark (marked_exits way) Conditions (otherwise_part o) c2
      → c4 ≡ redirected start (end_aims (length c3)) c3 → length c3 < body_mark
      → c4 ≡ with_statement n kept (marked_exits way) (Select place (in_a_row (map when_tree whens) (otherwise_part o))) c
  select_whole place whens o c c1 c2 c3 c4 start next e0 e1 e2 e3 e4 small =
      let exits = marked_exits way in
      let all = in_a_row (map when_tree whens) (otherwise_part o) in
      e4 ∙ ap (λ k. redirected k (end_aims (length c3)) c3) e0
      ∙ select_ended n way kept place all c c3 (e3 ∙ e2 ∙ ap (λ w. with_whens n kept end_mark exits Conditions all w) e1) small

  pub select_value_whole : (place : Place) (value : TypedExpression) (ty : Ty) (whens : List code_when.When) (o : Option TypedStatement) (c c1 c2 c3 c4 c5 c6 : List Instr) (start first next : ℕ)
      → start ≡ length c
      → c1 ≡ with_instruction (instr.Tick place) c
      → c2 ≡ with_expression n value c1 → ty ≡ expression_type value
      → c3 ≡ with_instruction (store_kept n kept) c2 → first ≡ kept + 1
      → with_whens n next end_mark (marked_exits way) (EqualTo kept ty) (otherwise_part o) c4 ≡ with_whens n first end_mark (marked_exits way) (EqualTo kept ty) (in_a_row (map when_tree whens) (otherwise_part o)) c3
      → c5 ≡ with_whens n next end_mark (marked_exits way) (EqualTo kept ty) (otherwise_part o) c4
      → c6 ≡ redirected start (end_aims (length c5)) c5 → length c5 < body_mark
      → c6 ≡ with_statement n kept (marked_exits way) (SelectValue place value (in_a_row (map when_tree whens) (otherwise_part o))) c
  select_value_whole place value ty whens o c c1 c2 c3 c4 c5 c6 start first next e0 e1 e2 t2 e3 k3 e4 e5 e6 small =
      let exits = marked_exits way in
      let all = in_a_row (map when_tree whens) (otherwise_part o) in
      e6 ∙ ap (λ k. redirected k (end_aims (length c5)) c5) e0
      ∙ select_value_ended n way kept place value all c c5
      (e5 ∙ e4 ∙ ap (λ k. with_whens n k end_mark exits (EqualTo kept ty) all c3) k3 ∙ ap (λ t. with_whens n (kept + 1) end_mark exits (EqualTo kept t) all c3) t2
      ∙ ap (λ w. with_whens n (kept + 1) end_mark exits (EqualTo kept (expression_type value)) all w)
      (e3 ∙ ap (λ w. with_instruction (store_kept n kept) w) (e2 ∙ ap (λ w. with_expression n value w) e1)))
      small

  pub while_whole : (place : Place) (e : TypedExpression) (body : TypedStatements) (c c1 c2 c3 : List Instr) (test hole first : ℕ)
      → c1 ≡ with_open_test n place e (with_instruction (instr.Tick place) c)
      → test ≡ length (with_instruction (instr.Tick place) c) → hole ≡ open_test_jump n place e (with_instruction (instr.Tick place) c) → first ≡ length c1
      → c2 ≡ with_statements n kept (marked_exits way) body c1
      → c3 ≡ redirected first (loop_aims (length (with_off false hole (with_instruction (instr.Jump test) c2))) test) (with_off false hole (with_instruction (instr.Jump test) c2))
      → length (with_off false hole (with_instruction (instr.Jump test) c2)) < body_mark
      → c3 ≡ with_statement n kept (marked_exits way) (While place e body) c
  while_whole place e body c c1 c2 c3 test hole first e1 t1 h1 f1 e2 e3 small =
      e3 ∙ while_closed n way kept place e body c (with_off false hole (with_instruction (instr.Jump test) c2)) test hole first t1 h1 (f1 ∙ ap length e1)
      (ap (λ w. with_off false hole (with_instruction (instr.Jump test) w)) (e2 ∙ ap (λ w. with_statements n kept (marked_exits way) body w) e1)) small

  pub until_whole : (place : Place) (e : TypedExpression) (body : TypedStatements) (c c1 c2 c3 : List Instr) (first : ℕ)
      → c1 ≡ with_instruction (instr.Tick place) c → first ≡ length c1
      → c2 ≡ with_statements n kept (marked_exits way) body c1
      → c3 ≡ redirected first (loop_aims (length (with_instruction (instr.JFalse first) (with_condition n e (with_instruction (instr.Tick place) c2)))) (length c2)) (with_instruction (instr.JFalse first) (with_condition n e (with_instruction (instr.Tick place) c2)))
      → length (with_instruction (instr.JFalse first) (with_condition n e (with_instruction (instr.Tick place) c2))) < body_mark
      → c3 ≡ with_statement n kept (marked_exits way) (Until place e body) c
  until_whole place e body c c1 c2 c3 first e1 f1 e2 e3 small =
      e3 ∙ until_closed n way kept place e body c c2 (with_instruction (instr.JFalse first) (with_condition n e (with_instruction (instr.Tick place) c2))) first (f1 ∙ ap length e1)
      (e2 ∙ ap (λ w. with_statements n kept (marked_exits way) body w) e1) refl small

  pub count_whole : (place : Place) (r : Reference) (a b : TypedExpression) (step : Option TypedExpression) (body : TypedStatements) (c c1 c2 c3 c4 c5 : List Instr) (has_step : Bool) (hole end first next : ℕ)
      → c1 ≡ with_instruction (instr.Tick place) c
      → c2 ≡ with_loop_step n step (with_expression n b (with_expression n a c1))
      → has_step ≡ is_some step
      → c3 ≡ with_begun n place r kept has_step c2 → hole ≡ begun_jump n place r kept has_step c2 → end ≡ end_kept kept has_step → first ≡ length c3
      → next ≡ end + 1
      → c4 ≡ with_statements n next (marked_exits way) body c3
      → c5 ≡ redirected first (loop_aims (length (with_round n place r kept has_step hole end first c4)) (length c4)) (with_round n place r kept has_step hole end first c4)
      → length (with_round n place r kept has_step hole end first c4) < body_mark
      → c5 ≡ with_statement n kept (marked_exits way) (Count place r a b step body) c
  count_whole place r a b step body c c1 c2 c3 c4 c5 has_step hole end first next e1 e2 s2 e3 h3 n3 f3 k3 e4 e5 small =
      let whole = with_round n place r kept has_step hole end first c4 in
      e5 ∙ count_closed n place r kept way a b step body c c2 c3 c4 whole hole end first
      (e2 ∙ ap (λ w. with_loop_step n step (with_expression n b (with_expression n a w))) e1)
      (e3 ∙ ap (λ s. with_begun n place r kept s c2) s2)
      (h3 ∙ ap (λ s. begun_jump n place r kept s c2) s2)
      (n3 ∙ ap (λ s. end_kept kept s) s2)
      f3
      (e4 ∙ ap (λ k. with_statements n k (marked_exits way) body c3) k3)
      (ap (λ s. with_round n place r kept s hole end first c4) s2)
      small
