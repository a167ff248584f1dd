-- The code of a statement follows its meaning.
use Rattle.std.proofs.Common.{◌≡◌, ℕ, zero, suc, ◌+◌, ◌<◌, ◌≤◌, true, false, List, [], ◌∷◌, ◌++◌, length, Some, refl, sym, ap, subst, arith, length-append}
use Rattle.std.specs.Prelude.{slice_get}
use Rattle.ds2_base.specs.declared.place.Place.{Place}
use Rattle.ds2_value.specs.Operations.{is_true}
use Rattle.ds2_value.specs.Value.{is_yes}
use Rattle.ds2_value.specs.declared.ty.Ty.{Ty}
use Rattle.ds2_value.specs.declared.value.Value.{Value}
use Rattle.ds2_value.specs.declared.value.Value.TheVariants.{Null}
use Rattle.ds2_meaning.specs.Evaluation.{Surroundings, evaluate}
use Rattle.ds2_meaning.specs.Execution.{write_each, any_holds, exec, exec_all, select, select_value, rounds_while, rounds_until}
use Rattle.ds2_meaning.specs.IsTyped.{expression_type}
use Rattle.ds2_meaning.specs.RunState.{RunState, StatementOutcome, Proceeds, Leaves, Continues, Returns, then_value, after_test, step_fails, store}
use Rattle.ds2_meaning.specs.TypedExpression.{TypedExpression, TypedExpressions, NoExpression, Then}
use Rattle.ds2_meaning.specs.TypedStatement.{TypedStatement, Empty, Assign, Invoke, Evaluate, SetParameters, Construct, Leave, Continue, Return, ReturnValue, Output, Put, If, IfElse, Select, SelectValue, Block, Count, While, Until, TypedStatements, Finish, Next, TypedWhens, NoOtherwise, Otherwise, When}
use Rattle.ds2_code.specs.declared.instr.Instr.TheVariants as instr
use Rattle.ds2_code.specs.declared.parts.ProgramParts.{ProgramParts}
use Rattle.ds2_code.specs.CodeRun.{CallFrame}
use Rattle.ds2_gen.specs.CallPieces.{IsAround}
use Rattle.ds2_gen.specs.CodeCells.{Cells, IsValueCell, Placement, IsPlacement, KeptIs, HoldState}
use Rattle.ds2_gen.specs.CodePieces.{StandsAt, ComesTo, ReturnWay, JumpsToEnd, HandsBack, ExitPoints, ReturnsBy, CarriesOut}
use Rattle.ds2_gen.specs.CoveredForms.{IsCoveredExpression, AreCoveredExpressions, ReturnsNothing, IsCoveredStatement, AreCoveredStatements, AreCoveredWhens}
use Rattle.ds2_gen.specs.ExpressionCode.{CodeNumbers, cell_of, truth_code, expression_code, condition_code, store_instr}
use Rattle.ds2_gen.specs.StatementCode.{return_instr, Conditions, EqualTo, step_keeps, count_test_size, values_kept, statements_keep, whens_keep, condition_size, store_kept, tests_size, tests_code, end_number, step_instr, advance_code, count_test_code, count_values_code, statement_size, statements_size, whens_size, statement_code, statements_code, whens_code}
use Rattle.ds2_gen.specs.GenLaws.{StatementsAreCarriedOut}
use Rattle.ds2_gen.proofs.CellLemmas.{kept_still}
use Rattle.ds2_gen.proofs.ExpressionRuns.{expression_runs}
use Rattle.ds2_gen.proofs.InvokeRuns.{invoke_runs, construct_runs, parameters_run}
use Rattle.ds2_gen.proofs.LoopRuns.{after_begin, count_runs}
use Rattle.ds2_gen.proofs.SelectRuns.{equals_run}
use Rattle.ds2_gen.proofs.OutputRuns.{writes_run}
use Rattle.ds2_gen.proofs.PieceLemmas.{front_stands, back_stands, at_most, no_more, comes_at_once, jumps_by}
use Rattle.ds2_gen.proofs.PutRuns.{put_carries}
use Rattle.ds2_gen.proofs.SizeLemmas.{tests_size_is, size_is, sizes_are}
use Rattle.ds2_gen.proofs.StepLemmas.{from, as_truth, truth_kept, truth_runs}
use Rattle.ds2_gen.proofs.WayLemmas.{carries_on, carries_at, carries_less, value_carries, statement_carries, jump_carries, inside, round_carries, idle, begin_carries, fails_carries, branch_carries, leap_carries, none_carries, drop_comes, store_comes, keep_comes}

-- what follows from a place of a frame without operands, where no more of the budget is left than so much
abbrev Follows : ProgramParts → Placement → ℕ → List CallFrame → ℕ → ℕ → ExitPoints → (RunState → StatementOutcome) → ℕ → Type 0
Follows code p kept frames at to exits go left =
    (u : RunState) (cells : Cells) → HoldState p u cells → u.progress.left ≤ left → CarriesOut code p kept (idle frames at cells u) to exits (go u)

round_left : (y x u w n : ℕ) → y ≤ x → x ≤ u → suc u ≡ w → w ≤ suc n → y ≤ n
round_left y x u w n a b e m = omega arith

test_left : (x u y w n : ℕ) → x ≤ u → suc u ≡ y → y ≤ w → w ≤ suc n → x ≤ n
test_left x u y w n a e b m = omega arith

module _ (code : ProgramParts) (numbers : CodeNumbers) (s : Surroundings) (kept : ℕ) (frames : List CallFrame) (around : IsAround code numbers s frames) where
  -- a condition with the jump behind it
  condition_runs : (e : TypedExpression) (at mid target to : ℕ) (cells : Cells) (w : RunState) (exits : ExitPoints) (on off : RunState → StatementOutcome)
      → at + condition_size numbers e ≡ mid → IsCoveredExpression code numbers e → StandsAt code.instrs at (condition_code numbers e) → slice_get code.instrs mid ≡ Some (instr.JFalse target)
      → HoldState numbers.placement w cells → Follows code numbers.placement kept frames (mid + 1) to exits on w.progress.left → Follows code numbers.placement kept frames target to exits off w.progress.left
      → CarriesOut code numbers.placement kept (idle frames at cells w) to exits (then_value (evaluate s e w) (λ v x. after_test (is_true v) x on off))
  condition_runs e at mid target to cells w exits on off len covered has here holds taken passed =
      let ce = expression_code numbers e in
      let ty = expression_type e in
      let half = at + length ce in
      let rest : half + length (truth_code ty) ≡ mid = omega (arith, length-append ce (truth_code ty)) in
      value_carries code numbers.placement kept (idle frames at cells w) half to exits (evaluate s e w) (λ v x. after_test (is_true v) x on off)
      (expression_runs code numbers s kept frames around e at half [] cells w refl covered (front_stands code.instrs at ce (truth_code ty) has) holds)
      (λ v x d h l.
      let c = truth_runs code numbers.placement kept frames ty half mid v [] d x rest (back_stands code.instrs at half ce (truth_code ty) refl has) h in
      carries_on code numbers.placement kept (from frames half (v ∷ []) d x) mid to (as_truth ty v ∷ []) x exits (after_test (is_true v) x on off) c
      (branch_carries code numbers.placement kept frames (is_true v) mid target to (as_truth ty v) c.cells x exits on off here (ap is_yes (truth_kept ty v)) c.holds
      (λ u e k n. taken u e k (no_more u.progress.left x.progress.left w.progress.left n l))
      (λ u e k n. passed u e k (no_more u.progress.left x.progress.left w.progress.left n l))))

  -- a condition with a jump behind it where it holds
  leap_runs : (e : TypedExpression) (at mid target to : ℕ) (cells : Cells) (w : RunState) (exits : ExitPoints) (on off : RunState → StatementOutcome)
      → at + condition_size numbers e ≡ mid → IsCoveredExpression code numbers e → StandsAt code.instrs at (condition_code numbers e) → slice_get code.instrs mid ≡ Some (instr.JTrue target)
      → HoldState numbers.placement w cells → Follows code numbers.placement kept frames target to exits on w.progress.left → Follows code numbers.placement kept frames (mid + 1) to exits off w.progress.left
      → CarriesOut code numbers.placement kept (idle frames at cells w) to exits (then_value (evaluate s e w) (λ v x. after_test (is_true v) x on off))
  leap_runs e at mid target to cells w exits on off len covered has here holds taken passed =
      let ce = expression_code numbers e in
      let ty = expression_type e in
      let half = at + length ce in
      let rest : half + length (truth_code ty) ≡ mid = omega (arith, length-append ce (truth_code ty)) in
      value_carries code numbers.placement kept (idle frames at cells w) half to exits (evaluate s e w) (λ v x. after_test (is_true v) x on off)
      (expression_runs code numbers s kept frames around e at half [] cells w refl covered (front_stands code.instrs at ce (truth_code ty) has) holds)
      (λ v x d h l.
      let c = truth_runs code numbers.placement kept frames ty half mid v [] d x rest (back_stands code.instrs at half ce (truth_code ty) refl has) h in
      carries_on code numbers.placement kept (from frames half (v ∷ []) d x) mid to (as_truth ty v ∷ []) x exits (after_test (is_true v) x on off) c
      (leap_carries code numbers.placement kept frames (is_true v) mid target to (as_truth ty v) c.cells x exits on off here (ap is_yes (truth_kept ty v)) c.holds
      (λ u e k n. taken u e k (no_more u.progress.left x.progress.left w.progress.left n l))
      (λ u e k n. passed u e k (no_more u.progress.left x.progress.left w.progress.left n l))))

  -- the tests of a `when`
  tests_run : (tests : TypedExpressions) (at first off_at to : ℕ) (cells : Cells) (w : RunState) (exits : ExitPoints) (on off : RunState → StatementOutcome)
      → at + tests_size numbers false tests ≡ first → AreCoveredExpressions code numbers tests → StandsAt code.instrs at (tests_code numbers Conditions first off_at tests)
      → HoldState numbers.placement w cells → Follows code numbers.placement kept frames first to exits on w.progress.left → Follows code numbers.placement kept frames off_at to exits off w.progress.left
      → CarriesOut code numbers.placement kept (idle frames at cells w) to exits (any_holds s tests w on off)
  tests_run NoExpression at first off_at to cells w exits on off len covered has holds taken passed =
      let c = jumps_by code numbers.placement kept (instr.Jump off_at) at off_at [] [] cells frames w w has.0 refl holds (at_most w.progress.left) in
      carries_on code numbers.placement kept (idle frames at cells w) off_at to [] w exits (off w) c (passed w c.cells c.holds (at_most w.progress.left))
  tests_run (Then e NoExpression) at first off_at to cells w exits on off len covered has holds taken passed =
      let cc = condition_code numbers e in
      let mid = at + condition_size numbers e in
      let e1 : first ≡ mid + 1 = omega arith in
      let here = back_stands code.instrs at mid cc (instr.JFalse off_at ∷ []) refl has in
      condition_runs e at mid off_at to cells w exits on off refl covered.0 (front_stands code.instrs at cc (instr.JFalse off_at ∷ []) has) here.0 holds
      (subst (λ n. Follows code numbers.placement kept frames n to exits on w.progress.left) e1 taken) passed
  tests_run (Then e (Then f rest)) at first off_at to cells w exits on off len covered has holds taken passed =
      let cc = condition_code numbers e in
      let mid = at + condition_size numbers e in
      let tail = instr.JTrue first ∷ tests_code numbers Conditions first off_at (Then f rest) in
      let behind = back_stands code.instrs at mid cc tail refl has in
      leap_runs e at mid first to cells w exits on (λ x. any_holds s (Then f rest) x on off) refl covered.0 (front_stands code.instrs at cc tail has) behind.0 holds taken
      (λ x d k l. tests_run (Then f rest) (mid + 1) first off_at to d x exits on off (omega arith) covered.1 behind.1 k
      (λ u q j n. taken u q j (no_more u.progress.left x.progress.left w.progress.left n l))
      (λ u q j n. passed u q j (no_more u.progress.left x.progress.left w.progress.left n l)))

  -- the rounds of `do while`, from the step of the test on
  while_runs : (n test mid back to : ℕ) (place : Place) (e : TypedExpression) (body : RunState → StatementOutcome) (exits : ExitPoints)
      → slice_get code.instrs test ≡ Some (instr.Tick place) → test + 1 + condition_size numbers e ≡ mid → IsCoveredExpression code numbers e → StandsAt code.instrs (test + 1) (condition_code numbers e)
      → slice_get code.instrs mid ≡ Some (instr.JFalse to) → slice_get code.instrs back ≡ Some (instr.Jump test)
      → ((u : RunState) (cells : Cells) → HoldState numbers.placement u cells → CarriesOut code numbers.placement kept (idle frames (mid + 1) cells u) back (inside to test exits) (body u))
      → (cells : Cells) (w : RunState) → HoldState numbers.placement w cells → w.progress.left ≤ n
      → CarriesOut code numbers.placement kept (idle frames test cells w) to exits (rounds_while s n place e body w)
  while_runs zero test mid back to place e body exits tick len covered has here again runs cells w holds most =
      fails_carries code numbers.placement kept frames test to place cells w exits tick holds most
  while_runs (suc n) test mid back to place e body exits tick len covered has here again runs cells w holds most =
      begin_carries code numbers.placement kept frames test to place cells w exits _ tick holds
      (λ u cells one h. condition_runs e (test + 1) mid to to cells u exits _ Proceeds len covered has here h
      (λ x d k l. round_carries code numbers.placement kept (idle frames (mid + 1) d x) test to exits (body x) (rounds_while s n place e body)
      (jump_carries code numbers.placement kept (idle frames (mid + 1) d x) back test (inside to test exits) (body x) again (runs x d k))
      (λ y f j i. while_runs n test mid back to place e body exits tick len covered has here again runs f y j (round_left y.progress.left x.progress.left u.progress.left w.progress.left n i l one most)))
      (λ x d k l. comes_at_once code numbers.placement kept to to [] d frames x refl k))

  -- the rounds of `do until`, from the body on
  until_runs : (n first test mid to : ℕ) (place : Place) (e : TypedExpression) (body : RunState → StatementOutcome) (exits : ExitPoints)
      → slice_get code.instrs test ≡ Some (instr.Tick place) → test + 1 + condition_size numbers e ≡ mid → IsCoveredExpression code numbers e → StandsAt code.instrs (test + 1) (condition_code numbers e)
      → slice_get code.instrs mid ≡ Some (instr.JFalse first) → mid + 1 ≡ to
      → ((u : RunState) (cells : Cells) → HoldState numbers.placement u cells → CarriesOut code numbers.placement kept (idle frames first cells u) test (inside to test exits) (body u))
      → (cells : Cells) (w : RunState) → HoldState numbers.placement w cells → w.progress.left ≤ n
      → CarriesOut code numbers.placement kept (idle frames first cells w) to exits (rounds_until s n place e body w)
  until_runs zero first test mid to place e body exits tick len covered has here end runs cells w holds most =
      round_carries code numbers.placement kept (idle frames first cells w) test to exits (body w) (step_fails place) (runs w cells holds)
      (λ y f j i. fails_carries code numbers.placement kept frames test to place f y exits tick j (no_more y.progress.left w.progress.left 0 i most))
  until_runs (suc n) first test mid to place e body exits tick len covered has here end runs cells w holds most =
      round_carries code numbers.placement kept (idle frames first cells w) test to exits (body w) _ (runs w cells holds)
      (λ y f j i. begin_carries code numbers.placement kept frames test to place f y exits _ tick j
      (λ u cells one h. condition_runs e (test + 1) mid first to cells u exits Proceeds (rounds_until s n place e body) len covered has here h
      (λ x d k l. comes_at_once code numbers.placement kept (mid + 1) to [] d frames x end k)
      (λ x d k l. until_runs n first test mid to place e body exits tick len covered has here end runs d x k (test_left x.progress.left u.progress.left y.progress.left w.progress.left n l one i most))))

  -- `return` without a value
  return_runs : (way : ReturnWay) (at : ℕ) (cells : Cells) (w : RunState) → ReturnsNothing way → slice_get code.instrs at ≡ Some (return_instr way) → HoldState numbers.placement w cells
      → ReturnsBy way code numbers.placement kept (idle frames at cells w) Null w
  return_runs (JumpsToEnd end) at cells w nothing here holds = jumps_by code numbers.placement kept (instr.Jump end) at end [] [] cells frames w w here refl holds (at_most w.progress.left)
  return_runs (HandsBack true) at cells w nothing here holds = absurd nothing
  return_runs (HandsBack false) at cells w nothing here holds = (at, here, comes_at_once code numbers.placement kept at at [] cells frames w refl holds)

module _ (code : ProgramParts) (numbers : CodeNumbers) (s : Surroundings) (frames : List CallFrame) (around : IsAround code numbers s frames) (sound : IsPlacement numbers.placement) where
  mutual
    pub statement_runs : (kept : ℕ) (t : TypedStatement) (at to : ℕ) (exits : ExitPoints) (cells : Cells) (w : RunState) → at + statement_size numbers t ≡ to → kept + values_kept t ≤ numbers.placement.kept_count → IsCoveredStatement code numbers exits.return t
        → StandsAt code.instrs at (statement_code numbers at kept exits t) → HoldState numbers.placement w cells
        → CarriesOut code numbers.placement kept (idle frames at cells w) to exits (exec s t w)
    statement_runs kept (Empty place) at to exits cells w len fits covered has holds =
        begin_carries code numbers.placement kept frames at to place cells w exits Proceeds has.0 holds
        (λ u cells one h. comes_at_once code numbers.placement kept (at + 1) to [] cells frames u len h)
    statement_runs kept (Assign place r e) at to exits cells w len fits covered has holds =
        let ce = expression_code numbers e in
        let i = store_instr (cell_of numbers r) in
        let mid = at + 1 + length ce in
        let end : mid + 1 ≡ to = omega arith in
        let here = back_stands code.instrs (at + 1) mid ce (i ∷ []) refl has.1 in
        begin_carries code numbers.placement kept frames at to place cells w exits _ has.0 holds
        (λ u cells one h. value_carries code numbers.placement kept (idle frames (at + 1) cells u) mid to exits (evaluate s e u) (λ v x. Proceeds (store s.home r v x))
        (expression_runs code numbers s kept frames around e (at + 1) mid [] cells u refl covered.1 (front_stands code.instrs (at + 1) ce (i ∷ []) has.1) h)
        (λ v x d k l. subst (λ home. ComesTo code numbers.placement kept (from frames mid (v ∷ []) d x) to [] (store home r v x)) (sym around.home)
        (store_comes code numbers.placement kept frames sound numbers.home r covered.0.0 mid to v d x end covered.0.1 covered.0.2 here.0 k)))
    statement_runs kept (Evaluate place e) at to exits cells w len fits covered has holds =
        let ce = expression_code numbers e in
        let mid = at + 1 + length ce in
        let end : mid + 1 ≡ to = omega arith in
        let here = back_stands code.instrs (at + 1) mid ce (instr.DropTop ∷ []) refl has.1 in
        begin_carries code numbers.placement kept frames at to place cells w exits _ has.0 holds
        (λ u cells one h. value_carries code numbers.placement kept (idle frames (at + 1) cells u) mid to exits (evaluate s e u) (λ v x. Proceeds x)
        (expression_runs code numbers s kept frames around e (at + 1) mid [] cells u refl covered (front_stands code.instrs (at + 1) ce (instr.DropTop ∷ []) has.1) h)
        (λ v x d k l. drop_comes code numbers.placement kept frames mid to v d x end here.0 k))
    statement_runs kept (Leave place) at to exits cells w len fits covered has holds =
        begin_carries code numbers.placement kept frames at to place cells w exits Leaves has.0 holds
        (λ u cells one h. jumps_by code numbers.placement kept (instr.Jump exits.leave) (at + 1) exits.leave [] [] cells frames u u has.1.0 refl h (at_most u.progress.left))
    statement_runs kept (Continue place) at to exits cells w len fits covered has holds =
        begin_carries code numbers.placement kept frames at to place cells w exits Continues has.0 holds
        (λ u cells one h. jumps_by code numbers.placement kept (instr.Jump exits.continue) (at + 1) exits.continue [] [] cells frames u u has.1.0 refl h (at_most u.progress.left))
    statement_runs kept (Return place) at to exits cells w len fits covered has holds =
        begin_carries code numbers.placement kept frames at to place cells w exits (Returns Null) has.0 holds
        (λ u cells one h. return_runs code numbers s kept frames around exits.return (at + 1) cells u covered has.1.0 h)
    statement_runs kept (ReturnValue place e) at to exits cells w len fits covered has holds =
        let ce = expression_code numbers e in
        let mid = at + 1 + length ce in
        let here = back_stands code.instrs (at + 1) mid ce (instr.RetV ∷ []) refl has.1 in
        begin_carries code numbers.placement kept frames at to place cells w exits _ has.0 holds
        (λ u cells one h. value_carries code numbers.placement kept (idle frames (at + 1) cells u) mid to exits (evaluate s e u) Returns
        (expression_runs code numbers s kept frames around e (at + 1) mid [] cells u refl covered.1 (front_stands code.instrs (at + 1) ce (instr.RetV ∷ []) has.1) h)
        (λ v x d k l. subst (λ way. ReturnsBy way code numbers.placement kept (from frames mid (v ∷ []) d x) v x) (sym covered.0)
        (mid, here.0, comes_at_once code numbers.placement kept mid mid (v ∷ []) d frames x refl k)))
    statement_runs kept (Output place outputs) at to exits cells w len fits covered has holds =
        begin_carries code numbers.placement kept frames at to place cells w exits _ has.0 holds
        (λ u cells one h. subst (λ home. ComesTo code numbers.placement kept (idle frames (at + 1) cells u) to [] (write_each home s.outputs outputs u)) (sym around.home)
        (subst (λ all. ComesTo code numbers.placement kept (idle frames (at + 1) cells u) to [] (write_each numbers.home all outputs u)) (sym around.outputs)
        (writes_run code numbers kept frames outputs (at + 1) to cells u (omega arith) covered has.1 h)))
    statement_runs kept (Put place items) at to exits cells w len fits covered has holds =
        begin_carries code numbers.placement kept frames at to place cells w exits _ has.0 holds
        (λ u cells one h. put_carries code numbers s kept frames around items (at + 1) to cells u exits (omega arith) covered has.1 h)
    statement_runs kept (If place e on) at to exits cells w len fits covered has holds =
        let cc = condition_code numbers e in
        let mid = at + 1 + condition_size numbers e in
        let first = mid + 1 in
        let end = first + statement_size numbers on in
        let at_end : end ≡ to = omega arith in
        let tail = instr.JFalse end ∷ statement_code numbers first kept exits on in
        let behind = back_stands code.instrs (at + 1) mid cc tail refl has.1 in
        begin_carries code numbers.placement kept frames at to place cells w exits _ has.0 holds
        (λ u cells one h. condition_runs code numbers s kept frames around e (at + 1) mid end to cells u exits (exec s on) Proceeds refl covered.0 (front_stands code.instrs (at + 1) cc tail has.1) behind.0 h
        (λ x d k l. statement_runs kept on first to exits d x at_end fits covered.1 behind.1 k)
        (λ x d k l. comes_at_once code numbers.placement kept end to [] d frames x at_end k))
    statement_runs kept (IfElse place e on off) at to exits cells w len fits covered has holds =
        let cc = condition_code numbers e in
        let mid = at + 1 + condition_size numbers e in
        let first = mid + 1 in
        let back = first + statement_size numbers on in
        let other = back + 1 in
        let end = other + statement_size numbers off in
        let at_end : end ≡ to = omega arith in
        let con = statement_code numbers first kept exits on in
        let later = kept + values_kept on in
        let coff = statement_code numbers other later exits off in
        let tail = instr.JFalse other ∷ (con ++ (instr.Jump end ∷ coff)) in
        let behind = back_stands code.instrs (at + 1) mid cc tail refl has.1 in
        let second = back_stands code.instrs first back con (instr.Jump end ∷ coff) (ap (λ n. first + n) (size_is numbers first kept exits on)) behind.1 in
        begin_carries code numbers.placement kept frames at to place cells w exits _ has.0 holds
        (λ u cells one h. condition_runs code numbers s kept frames around e (at + 1) mid other to cells u exits (exec s on) (exec s off) refl covered.0 (front_stands code.instrs (at + 1) cc tail has.1) behind.0 h
        (λ x d k l. carries_at code numbers.placement kept (idle frames first d x) end to exits (exec s on x) at_end
        (jump_carries code numbers.placement kept (idle frames first d x) back end exits (exec s on x) second.0
        (statement_runs kept on first back exits d x refl (omega arith) covered.1 (front_stands code.instrs first con (instr.Jump end ∷ coff) behind.1) k)))
        (λ x d k l. carries_less code numbers.placement kept sound later (omega arith) (idle frames other d x) to exits (exec s off x) (statement_runs later off other to exits d x at_end (omega arith) covered.2 second.1 k)))
    statement_runs kept (Select place whens) at to exits cells w len fits covered has holds =
        let end = at + 1 + whens_size numbers false whens in
        let at_end : end ≡ to = omega arith in
        carries_at code numbers.placement kept (idle frames at cells w) end to exits (exec s (Select place whens) w) at_end
        (begin_carries code numbers.placement kept frames at end place cells w exits (select s whens) has.0 holds
        (λ u cells one h. whens_run kept whens (at + 1) end exits cells u refl fits covered has.1 h))
    statement_runs kept (SelectValue place e whens) at to exits cells w len fits covered has holds =
        let ce = expression_code numbers e in
        let ty = expression_type e in
        let mid = at + 1 + length ce in
        let first = mid + 1 in
        let end = first + whens_size numbers true whens in
        let at_end : end ≡ to = omega arith in
        let tail = store_kept numbers kept ∷ whens_code numbers first (kept + 1) end exits (EqualTo kept ty) whens in
        let behind = back_stands code.instrs (at + 1) mid ce tail refl has.1 in
        let less : kept < numbers.placement.kept_count = omega arith in
        let more : kept ≤ kept + 1 = omega arith in
        let above : kept < kept + 1 = omega arith in
        let least : kept ≤ kept = omega arith in
        let room : (kept + 1) + whens_keep whens ≤ numbers.placement.kept_count = omega arith in
        carries_at code numbers.placement kept (idle frames at cells w) end to exits (exec s (SelectValue place e whens) w) at_end
        (begin_carries code numbers.placement kept frames at end place cells w exits _ has.0 holds
        (λ u cells one h. value_carries code numbers.placement kept (idle frames (at + 1) cells u) mid end exits (evaluate s e u) (λ v x. select_value s v whens x)
        (expression_runs code numbers s kept frames around e (at + 1) mid [] cells u refl covered.0 (front_stands code.instrs (at + 1) ce tail has.1) h)
        (λ v x d k l.
        let c = keep_comes code numbers.placement kept frames sound kept mid v [] d x less least behind.0 k in
        carries_on code numbers.placement kept (from frames mid (v ∷ []) d x) first end [] x exits (select_value s v whens x) c.0
        (carries_less code numbers.placement kept sound (kept + 1) more (idle frames first c.0.cells x) end exits (select_value s v whens x)
        (cases_run (kept + 1) kept v ty whens first end exits c.0.cells x refl room (sound.values kept less) (sound.behind kept (kept + 1) less above) c.1 covered.1 behind.1 c.0.holds)))))
    statement_runs kept (Block place body) at to exits cells w len fits covered has holds =
        begin_carries code numbers.placement kept frames at to place cells w exits (exec_all s body) has.0 holds
        (λ u cells one h. statements_run kept body (at + 1) to exits cells u (omega arith) fits covered has.1 h)
    statement_runs kept (While place e body) at to exits cells w len fits covered has holds =
        let cc = condition_code numbers e in
        let test = at + 1 in
        let mid = at + 2 + condition_size numbers e in
        let first = mid + 1 in
        let back = first + statements_size numbers body in
        let end = back + 1 in
        let at_end : end ≡ to = omega arith in
        let within = inside end test exits in
        let cb = statements_code numbers first kept within body in
        let tail = instr.JFalse end ∷ (cb ++ instr.Jump test ∷ []) in
        let behind = back_stands code.instrs (test + 1) mid cc tail (omega arith) has.1.1 in
        let jump = back_stands code.instrs first back cb (instr.Jump test ∷ []) (ap (λ n. first + n) (sizes_are numbers first kept within body)) behind.1 in
        carries_at code numbers.placement kept (idle frames at cells w) end to exits (exec s (While place e body) w) at_end
        (begin_carries code numbers.placement kept frames at end place cells w exits _ has.0 holds
        (λ u cells one h. while_runs code numbers s kept frames around u.progress.left test mid back end place e (exec_all s body) exits has.1.0 (omega arith) covered.0 (front_stands code.instrs (test + 1) cc tail has.1.1) behind.0 jump.0
        (λ x d k. statements_run kept body first back within d x refl fits covered.1 (front_stands code.instrs first cb (instr.Jump test ∷ []) behind.1) k)
        cells u h (at_most u.progress.left)))
    statement_runs kept (Until place e body) at to exits cells w len fits covered has holds =
        let cc = condition_code numbers e in
        let first = at + 1 in
        let test = first + statements_size numbers body in
        let mid = test + 1 + condition_size numbers e in
        let end = mid + 1 in
        let at_end : end ≡ to = omega arith in
        let within = inside end test exits in
        let cb = statements_code numbers first kept within body in
        let tail = instr.Tick place ∷ (cc ++ instr.JFalse first ∷ []) in
        let behind = back_stands code.instrs first test cb tail (ap (λ n. first + n) (sizes_are numbers first kept within body)) has.1 in
        let jump = back_stands code.instrs (test + 1) mid cc (instr.JFalse first ∷ []) refl behind.1 in
        carries_at code numbers.placement kept (idle frames at cells w) end to exits (exec s (Until place e body) w) at_end
        (begin_carries code numbers.placement kept frames at end place cells w exits _ has.0 holds
        (λ u cells one h. until_runs code numbers s kept frames around u.progress.left first test mid end place e (exec_all s body) exits behind.0 refl covered.0 (front_stands code.instrs (test + 1) cc (instr.JFalse first ∷ []) behind.1) jump.0 refl
        (λ x d k. statements_run kept body first test within d x refl fits covered.1 (front_stands code.instrs first cb tail has.1) k)
        cells u h (at_most u.progress.left)))
    statement_runs kept (Invoke place instance method arguments) at to exits cells w len fits covered has holds =
        begin_carries code numbers.placement kept frames at to place cells w exits _ has.0 holds
        (λ u cells one h. invoke_runs code numbers s kept frames around instance method arguments (at + 1) to cells u exits (omega arith) covered has.1 h)
    statement_runs kept (SetParameters place instance values) at to exits cells w len fits covered has holds =
        begin_carries code numbers.placement kept frames at to place cells w exits _ has.0 holds
        (λ u cells one h. parameters_run code numbers s kept frames around instance values (at + 1) to cells u exits (omega arith) covered has.1 h)
    statement_runs kept (Construct place instance constructor arguments) at to exits cells w len fits covered has holds =
        begin_carries code numbers.placement kept frames at to place cells w exits _ has.0 holds
        (λ u cells one h. construct_runs code numbers s kept frames around instance constructor arguments (at + 1) to cells u exits (omega arith) covered has.1 h)
    statement_runs kept (Count place r start end step body) at to exits cells w len fits covered has holds =
        let values = count_values_code numbers start end step in
        let first = at + 1 + length values + (step_keeps step + 4) in
        let again = first + statements_size numbers body in
        let test = again + 5 in
        let out = test + count_test_size step in
        let at_end : out ≡ to = omega arith in
        let level = end_number kept step + 1 in
        let within = inside out again exits in
        let room : level + statements_keep body ≤ numbers.placement.kept_count = omega arith in
        let less : end_number kept step < numbers.placement.kept_count = omega arith in
        let cb = statements_code numbers first level within body in
        let behind = after_begin code numbers place r kept start end step cb (advance_code numbers place r (step_instr numbers kept step) ++ count_test_code numbers test first r kept step) (at + 1) test first refl has.1 in
        let after = back_stands code.instrs first again cb (advance_code numbers place r (step_instr numbers kept step) ++ count_test_code numbers test first r kept step) (ap (λ n. first + n) (sizes_are numbers first level within body)) behind in
        carries_at code numbers.placement kept (idle frames at cells w) out to exits (exec s (Count place r start end step body) w) at_end
        (begin_carries code numbers.placement kept frames at out place cells w exits _ has.0 holds
        (λ u d one h. count_runs code numbers s frames around sound r covered.0.0 covered.0.1 covered.0.2 place kept start end step (exec_all s body) exits (at + 1) first again test less covered.1 covered.2 covered.3
        cb refl refl has.1 after
        (λ x f k. statements_run level body first again within f x refl room covered.4 (front_stands code.instrs first cb (advance_code numbers place r (step_instr numbers kept step) ++ count_test_code numbers test first r kept step) behind) k)
        d u h))

    pub statements_run : (kept : ℕ) (ts : TypedStatements) (at to : ℕ) (exits : ExitPoints) (cells : Cells) (w : RunState) → at + statements_size numbers ts ≡ to → kept + statements_keep ts ≤ numbers.placement.kept_count → AreCoveredStatements code numbers exits.return ts
        → StandsAt code.instrs at (statements_code numbers at kept exits ts) → HoldState numbers.placement w cells
        → CarriesOut code numbers.placement kept (idle frames at cells w) to exits (exec_all s ts w)
    statements_run kept Finish at to exits cells w len fits covered has holds = comes_at_once code numbers.placement kept at to [] cells frames w (omega arith) holds
    statements_run kept (Next t rest) at to exits cells w len fits covered has holds =
        let mid = at + statement_size numbers t in
        let later = kept + values_kept t in
        let ct = statement_code numbers at kept exits t in
        let cr = statements_code numbers mid later exits rest in
        statement_carries code numbers.placement kept (idle frames at cells w) mid to exits (exec s t w) (exec_all s rest)
        (statement_runs kept t at mid exits cells w refl (omega arith) covered.0 (front_stands code.instrs at ct cr has) holds)
        (λ x d k. carries_less code numbers.placement kept sound later (omega arith) (idle frames mid d x) to exits (exec_all s rest x)
        (statements_run later rest mid to exits d x (omega arith) (omega arith) covered.1 (back_stands code.instrs at mid ct cr (ap (λ n. at + n) (size_is numbers at kept exits t)) has) k))

    whens_run : (kept : ℕ) (whens : TypedWhens) (at to : ℕ) (exits : ExitPoints) (cells : Cells) (w : RunState) → at + whens_size numbers false whens ≡ to → kept + whens_keep whens ≤ numbers.placement.kept_count
        → AreCoveredWhens code numbers exits.return whens → StandsAt code.instrs at (whens_code numbers at kept to exits Conditions whens) → HoldState numbers.placement w cells
        → CarriesOut code numbers.placement kept (idle frames at cells w) to exits (select s whens w)
    whens_run kept NoOtherwise at to exits cells w len fits covered has holds = none_carries code numbers.placement kept frames at to cells w exits has.0
    whens_run kept (Otherwise t) at to exits cells w len fits covered has holds = statement_runs kept t at to exits cells w len fits covered has holds
    whens_run kept (When tests t rest) at to exits cells w len fits covered has holds =
        let first = at + tests_size numbers false tests in
        let back = first + statement_size numbers t in
        let next = back + 1 in
        let later = kept + values_kept t in
        let ct = tests_code numbers Conditions first next tests in
        let cs = statement_code numbers first kept exits t in
        let cr = whens_code numbers next later to exits Conditions rest in
        let behind = back_stands code.instrs at first ct (cs ++ (instr.Jump to ∷ cr)) (ap (λ n. at + n) (tests_size_is numbers Conditions first next tests)) has in
        let jump = back_stands code.instrs first back cs (instr.Jump to ∷ cr) (ap (λ n. first + n) (size_is numbers first kept exits t)) behind in
        tests_run code numbers s kept frames around tests at first next to cells w exits (exec s t) (select s rest) refl covered.0 (front_stands code.instrs at ct (cs ++ (instr.Jump to ∷ cr)) has) holds
        (λ x d k l. jump_carries code numbers.placement kept (idle frames first d x) back to exits (exec s t x) jump.0
        (statement_runs kept t first back exits d x refl (omega arith) covered.1 (front_stands code.instrs first cs (instr.Jump to ∷ cr) behind) k))
        (λ x d k l. carries_less code numbers.placement kept sound later (omega arith) (idle frames next d x) to exits (select s rest x)
        (whens_run later rest next to exits d x (omega arith) (omega arith) covered.2 jump.1 k))

    cases_run : (kept n : ℕ) (value : Value) (ty : Ty) (whens : TypedWhens) (at to : ℕ) (exits : ExitPoints) (cells : Cells) (w : RunState) → at + whens_size numbers true whens ≡ to
        → kept + whens_keep whens ≤ numbers.placement.kept_count → IsValueCell (numbers.placement.kept_cell n) → numbers.placement.is_reserved kept (numbers.placement.kept_cell n) ≡ true
        → KeptIs numbers.placement n value cells → AreCoveredWhens code numbers exits.return whens → StandsAt code.instrs at (whens_code numbers at kept to exits (EqualTo n ty) whens)
        → HoldState numbers.placement w cells → CarriesOut code numbers.placement kept (idle frames at cells w) to exits (select_value s value whens w)
    cases_run kept n value ty NoOtherwise at to exits cells w len fits is reserved known covered has holds = none_carries code numbers.placement kept frames at to cells w exits has.0
    cases_run kept n value ty (Otherwise t) at to exits cells w len fits is reserved known covered has holds = statement_runs kept t at to exits cells w len fits covered has holds
    cases_run kept n value ty (When tests t rest) at to exits cells w len fits is reserved known covered has holds =
        let first = at + tests_size numbers true tests in
        let back = first + statement_size numbers t in
        let next = back + 1 in
        let later = kept + values_kept t in
        let more : kept ≤ later = omega arith in
        let ct = tests_code numbers (EqualTo n ty) first next tests in
        let cs = statement_code numbers first kept exits t in
        let cr = whens_code numbers next later to exits (EqualTo n ty) rest in
        let behind = back_stands code.instrs at first ct (cs ++ (instr.Jump to ∷ cr)) (ap (λ n. at + n) (tests_size_is numbers (EqualTo n ty) first next tests)) has in
        let jump = back_stands code.instrs first back cs (instr.Jump to ∷ cr) (ap (λ n. first + n) (size_is numbers first kept exits t)) behind in
        equals_run code numbers s kept frames around tests n value ty at first next to cells w exits (exec s t) (select_value s value rest) is reserved refl covered.0 (front_stands code.instrs at ct (cs ++ (instr.Jump to ∷ cr)) has) known holds
        (λ x d k r l. jump_carries code numbers.placement kept (idle frames first d x) back to exits (exec s t x) jump.0
        (statement_runs kept t first back exits d x refl (omega arith) covered.1 (front_stands code.instrs first cs (instr.Jump to ∷ cr) behind) k))
        (λ x d k r l. carries_less code numbers.placement kept sound later more (idle frames next d x) to exits (select_value s value rest x)
        (cases_run later n value ty rest next to exits d x (omega arith) (omega arith) is (sound.grows kept later (numbers.placement.kept_cell n) more reserved) (kept_still numbers.placement n kept value cells d reserved r known) covered.2 jump.1 k))

pub statements_are_carried_out : StatementsAreCarriedOut
statements_are_carried_out code numbers s kept exits t at cells frames w around fits covered has holds =
    statement_runs code numbers s frames around around.placement kept t at (at + statement_size numbers t) exits cells w refl fits covered has holds
