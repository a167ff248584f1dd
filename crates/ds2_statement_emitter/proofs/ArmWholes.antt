-- Parts of chains and of `select`, from what each step of writing them gives.
use Rattle.std.proofs.Common.{◌≡◌, ℕ, ◌+◌, false, Bool, List, ◌∷◌, Option, ap, ◌∙◌}
use Rattle.ds2_meaning.specs.TypedExpression.{TypedExpressions}
use Rattle.ds2_meaning.specs.TypedStatement.{TypedStatement, TypedWhens, When}
use Rattle.ds2_code.specs.declared.instr.Instr.{Instr}
use Rattle.ds2_code.specs.declared.instr.Instr.TheVariants as instr
use Rattle.ds2_gen.specs.CodePieces.{ExitPoints}
use Rattle.ds2_gen.specs.ExpressionCode.{CodeNumbers}
use Rattle.ds2_gen.specs.StatementCode.{Subject, values_kept}
use Rattle.ds2_emitter.specs.Emit.{with_instruction}
use Rattle.ds2_statement_emitter.specs.Appending.{with_statement, with_whens, with_open_test, open_test_jump, off_instr, with_off, IfPart, with_rest, has_no_test, with_open_tests, open_tests_end}
use Rattle.ds2_statement_emitter.proofs.SelectEnds.{when_added}

module _ (n : CodeNumbers) (exits : ExitPoints) (end : ℕ) where
  pub arm_whole : (p : IfPart) (ps : List IfPart) (o : Option TypedStatement) (c c1 c2 c3 c4 : List Instr) (kept hole kept2 hole2 : ℕ)
      → c1 ≡ with_instruction (instr.Jump end) c → c2 ≡ with_off false hole c1
      → c3 ≡ with_open_test n p.place p.condition c2 → hole2 ≡ open_test_jump n p.place p.condition c2
      → c4 ≡ with_statement n kept exits p.on c3 → kept2 ≡ kept + values_kept p.on
      → with_rest n exits end kept2 hole2 ps o c4 ≡ with_rest n exits end kept hole (p ∷ ps) o c
  arm_whole p ps o c c1 c2 c3 c4 kept hole kept2 hole2 e1 e2 e3 h3 e4 k4 =
      let next : c2 ≡ with_off false hole (with_instruction (instr.Jump end) c) = e2 ∙ ap (λ w. with_off false hole w) e1 in
      ap (λ k. with_rest n exits end k hole2 ps o c4) k4
      ∙ ap (λ h. with_rest n exits end (kept + values_kept p.on) h ps o c4) (h3 ∙ ap (λ w. open_test_jump n p.place p.condition w) next)
      ∙ ap (λ w. with_rest n exits end (kept + values_kept p.on) (open_test_jump n p.place p.condition (with_off false hole (with_instruction (instr.Jump end) c))) ps o w)
      (e4 ∙ ap (λ w. with_statement n kept exits p.on w) (e3 ∙ ap (λ w. with_open_test n p.place p.condition w) next))

  pub when_whole : (subject : Subject) (tests : TypedExpressions) (s : TypedStatement) (rest : TypedWhens) (c c1 c2 c3 c4 : List Instr) (always : Bool) (kept hole next : ℕ)
      → c1 ≡ with_instruction (off_instr (has_no_test tests) 0) (with_open_tests n subject (open_tests_end n subject tests c + 1) tests c) → hole ≡ open_tests_end n subject tests c
      → c2 ≡ with_statement n kept exits s c1 → next ≡ kept + values_kept s
      → c3 ≡ with_instruction (instr.Jump end) c2
      → always ≡ has_no_test tests → c4 ≡ with_off always hole c3
      → with_whens n next end exits subject rest c4 ≡ with_whens n kept end exits subject (When tests s rest) c
  when_whole subject tests s rest c c1 c2 c3 c4 always kept hole next e1 h1 e2 k2 e3 a4 e4 =
      ap (λ k. with_whens n k end exits subject rest c4) k2
      ∙ ap (λ w. with_whens n (kept + values_kept s) end exits subject rest w)
      (e4 ∙ ap (λ a. with_off a hole c3) a4 ∙ ap (λ h. with_off (has_no_test tests) h c3) h1
      ∙ ap (λ w. with_off (has_no_test tests) (open_tests_end n subject tests c) w) (e3 ∙ ap (λ w. with_instruction (instr.Jump end) w) (e2 ∙ ap (λ w. with_statement n kept exits s w) e1)))
      ∙ when_added n subject end kept exits tests s rest c
