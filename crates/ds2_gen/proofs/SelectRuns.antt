-- The tests of a `select` over a kept value.
use Rattle.std.proofs.Common.{◌≡◌, ℕ, ◌+◌, ◌≤◌, true, false, List, [], ◌∷◌, length, refl, subst, arith, length-append}
use Rattle.ds2_value.specs.Operations.{is_true}
use Rattle.ds2_value.specs.Run.{Tested}
use Rattle.ds2_value.specs.Value.{compared_of}
use Rattle.ds2_value.specs.declared.comparison.Comparison.TheVariants.{Equal}
use Rattle.ds2_value.specs.declared.ty.Ty.{Ty}
use Rattle.ds2_value.specs.declared.value.Value.{Value}
use Rattle.ds2_meaning.specs.Evaluation.{Surroundings, evaluate}
use Rattle.ds2_meaning.specs.Execution.{any_equals}
use Rattle.ds2_meaning.specs.IsTyped.{class_of}
use Rattle.ds2_meaning.specs.Location.{Holds}
use Rattle.ds2_meaning.specs.RunState.{RunState, noting, StatementOutcome, then_value, after_test}
use Rattle.ds2_meaning.specs.TypedExpression.{TypedExpression, TypedExpressions, NoExpression, Then}
use Rattle.ds2_code.specs.declared.instr.Instr.TheVariants as instr
use Rattle.ds2_code.specs.declared.parts.ProgramParts.{ProgramParts}
use Rattle.ds2_code.specs.CodeRun.{CallFrame}
use Rattle.ds2_gen.specs.CallPieces.{IsAround}
use Rattle.ds2_gen.specs.CodeCells.{Cells, IsValueCell, Placement, KeptIs, HoldState, LeaveReserved}
use Rattle.ds2_gen.specs.CodePieces.{StandsAt, ExitPoints, CarriesOut}
use Rattle.ds2_gen.specs.CoveredForms.{IsCoveredExpression, AreCoveredExpressions}
use Rattle.ds2_gen.specs.ExpressionCode.{CodeNumbers, comparison_instr, expression_code}
use Rattle.ds2_gen.specs.StatementCode.{EqualTo, equality_code, tests_size, tests_code}
use Rattle.ds2_gen.proofs.CellLemmas.{reserved_on, kept_still}
use Rattle.ds2_gen.proofs.ExpressionRuns.{expression_runs}
use Rattle.ds2_gen.proofs.PieceLemmas.{front_stands, back_stands, at_most, no_more, jumps_by}
use Rattle.ds2_gen.proofs.StepLemmas.{from, load_comes, comparison_runs}
use Rattle.ds2_gen.proofs.WayLemmas.{carries_on, operand_keeps, idle, branch_keeps, leap_keeps}

-- what follows from a place of a frame without operands whose reserved cells are as before, where no more of the budget is left than
-- so much
abbrev pub FollowsFrom : ProgramParts → Placement → ℕ → List CallFrame → Cells → ℕ → ℕ → ExitPoints → (RunState → StatementOutcome) → ℕ → Type 0
FollowsFrom code p kept frames before at to exits go left =
    (u : RunState) (d : Cells) → HoldState p u d → LeaveReserved p kept before d → u.progress.left ≤ left → CarriesOut code p kept (idle frames at d u) to exits (go u)

module _ (code : ProgramParts) (numbers : CodeNumbers) (s : Surroundings) (kept : ℕ) (frames : List CallFrame) (around : IsAround code numbers s frames) where
  equality_size : (n : ℕ) (ty : Ty) (e : TypedExpression) (at : ℕ) → at + length (equality_code numbers n ty e) ≡ at + (1 + length (expression_code numbers e) + 1)
  equality_size n ty e at = omega (arith, length-append (expression_code numbers e) (comparison_instr (class_of ty) Equal ∷ []))

  -- what follows the comparison of a kept value with another
  abbrev FollowsEquality : Value → Cells → ℕ → ℕ → ExitPoints → (Value → RunState → StatementOutcome) → ℕ → Type 0
  FollowsEquality value before at to exits go left =
      (v : Value) (u : RunState) (d : Cells) → HoldState numbers.placement u d → LeaveReserved numbers.placement kept before d → u.progress.left ≤ left
      → CarriesOut code numbers.placement kept (from frames at (compared_of Equal value v ∷ []) d u) to exits (go v u)

  equality_carries : (n : ℕ) (value : Value) (ty : Ty) (e : TypedExpression) (at mid to : ℕ) (cells : Cells) (w : RunState) (exits : ExitPoints) (go : Value → RunState → StatementOutcome)
      → IsValueCell (numbers.placement.kept_cell n) → at + (1 + length (expression_code numbers e) + 1) ≡ mid → IsCoveredExpression code numbers e → StandsAt code.instrs at (equality_code numbers n ty e)
      → KeptIs numbers.placement n value cells → HoldState numbers.placement w cells → FollowsEquality value cells mid to exits go w.progress.left
      → CarriesOut code numbers.placement kept (idle frames at cells w) to exits (then_value (evaluate s e w) go)
  equality_carries n value ty e at mid to cells w exits go is len covered has known holds next =
      let ce = expression_code numbers e in
      let i = comparison_instr (class_of ty) Equal in
      let first = at + 1 in
      let half = first + length ce in
      let end : half + 1 ≡ mid = omega arith in
      let c = load_comes code numbers.placement kept frames (numbers.placement.kept_cell n) (Holds value) ty at first [] cells w refl is known has.0 holds in
      carries_on code numbers.placement kept (idle frames at cells w) first to (value ∷ []) w exits (then_value (evaluate s e w) go) c
      (operand_keeps code numbers.placement kept (from frames first (value ∷ []) c.cells w) (value ∷ []) half to exits (evaluate s e w) go
      (expression_runs code numbers s kept frames around e first half (value ∷ []) c.cells w refl covered (front_stands code.instrs first ce (i ∷ []) has.1) c.holds)
      (λ v u d h r l.
      let f = comparison_runs code numbers.placement kept frames (class_of ty) Equal half mid value v [] d u end (back_stands code.instrs first half ce (i ∷ []) refl has.1).0 h in
      carries_on code numbers.placement kept (from frames half (v ∷ value ∷ []) d u) mid to (compared_of Equal value v ∷ []) u exits (go v u) f
      (next v u f.cells f.holds (reserved_on numbers.placement kept cells c.cells f.cells c.reserved (reserved_on numbers.placement kept c.cells d f.cells r f.reserved)) l)))

  -- the tests of a `when`
  pub equals_run : (tests : TypedExpressions) (n : ℕ) (value : Value) (ty : Ty) (at first off_at to : ℕ) (cells : Cells) (w : RunState) (exits : ExitPoints) (on off : RunState → StatementOutcome)
      → IsValueCell (numbers.placement.kept_cell n) → numbers.placement.is_reserved kept (numbers.placement.kept_cell n) ≡ true
      → at + tests_size numbers true tests ≡ first → AreCoveredExpressions code numbers tests → StandsAt code.instrs at (tests_code numbers (EqualTo n ty) first off_at tests)
      → KeptIs numbers.placement n value cells → HoldState numbers.placement w cells
      → FollowsFrom code numbers.placement kept frames cells first to exits on w.progress.left → FollowsFrom code numbers.placement kept frames cells off_at to exits off w.progress.left
      → CarriesOut code numbers.placement kept (idle frames at cells w) to exits (any_equals s value tests w on off)
  equals_run NoExpression n value ty at first off_at to cells w exits on off is reserved len covered has known holds taken passed =
      let c = jumps_by code numbers.placement kept (instr.Jump off_at) at off_at [] [] cells frames w w has.0 refl holds (at_most w.progress.left) in
      carries_on code numbers.placement kept (idle frames at cells w) off_at to [] w exits (off w) c (passed w c.cells c.holds c.reserved (at_most w.progress.left))
  equals_run (Then e NoExpression) n value ty at first off_at to cells w exits on off is reserved len covered has known holds taken passed =
      let cq = equality_code numbers n ty e in
      let mid = at + (1 + length (expression_code numbers e) + 1) in
      let next : first ≡ mid + 1 = omega arith in
      let here = back_stands code.instrs at mid cq (instr.JFalse off_at ∷ []) (equality_size n ty e at) has in
      let onward = subst (λ k. FollowsFrom code numbers.placement kept frames cells k to exits on w.progress.left) next taken in
      equality_carries n value ty e at mid to cells w exits (λ v u. after_test (is_true (compared_of Equal value v)) u on off) is refl covered.0 (front_stands code.instrs at cq (instr.JFalse off_at ∷ []) has) known holds
      (λ v u d h r l. branch_keeps code numbers.placement kept frames (is_true (compared_of Equal value v)) mid off_at to (compared_of Equal value v) d u exits on off here.0 refl h
      (λ f j q. onward (noting (Tested true) u) f j (reserved_on numbers.placement kept cells d f r q) l)
      (λ f j q. passed (noting (Tested false) u) f j (reserved_on numbers.placement kept cells d f r q) l))
  equals_run (Then e (Then f rest)) n value ty at first off_at to cells w exits on off is reserved len covered has known holds taken passed =
      let cq = equality_code numbers n ty e in
      let mid = at + (1 + length (expression_code numbers e) + 1) in
      let tail = instr.JTrue first ∷ tests_code numbers (EqualTo n ty) first off_at (Then f rest) in
      let behind = back_stands code.instrs at mid cq tail (equality_size n ty e at) has in
      let more : (mid + 1) + tests_size numbers true (Then f rest) ≡ first = omega arith in
      equality_carries n value ty e at mid to cells w exits (λ v u. after_test (is_true (compared_of Equal value v)) u on (λ x. any_equals s value (Then f rest) x on off)) is refl covered.0 (front_stands code.instrs at cq tail has) known holds
      (λ v u d h r l. leap_keeps code numbers.placement kept frames (is_true (compared_of Equal value v)) mid first to (compared_of Equal value v) d u exits on (λ x. any_equals s value (Then f rest) x on off) behind.0 refl h
      (λ g j q. taken (noting (Tested true) u) g j (reserved_on numbers.placement kept cells d g r q) l)
      (λ g j q. equals_run (Then f rest) n value ty (mid + 1) first off_at to g (noting (Tested false) u) exits on off is reserved more covered.1 behind.1
      (kept_still numbers.placement n kept value cells g reserved (reserved_on numbers.placement kept cells d g r q) known) j
      (λ x k i t m. taken x k i (reserved_on numbers.placement kept cells g k (reserved_on numbers.placement kept cells d g r q) t) (no_more x.progress.left u.progress.left w.progress.left m l))
      (λ x k i t m. passed x k i (reserved_on numbers.placement kept cells g k (reserved_on numbers.placement kept cells d g r q) t) (no_more x.progress.left u.progress.left w.progress.left m l))))
