-- Counted loops: their values are kept, and their rounds follow the meaning's.
use Rattle.std.proofs.Common.{◌≡◌, ℕ, zero, suc, ◌+◌, ◌<◌, ◌≤◌, true, false, List, [], ◌∷◌, ◌++◌, length, Option, Some, None, refl, sym, ◌∙◌, subst, arith, length-append}
use Rattle.std.specs.Prelude.{slice_get, pos}
use Rattle.ds2_base.specs.declared.place.Place.{Place}
use Rattle.ds2_value.specs.Operations.{is_true}
use Rattle.ds2_value.specs.Row.{Row}
use Rattle.ds2_value.specs.Run.{Event, Tested}
use Rattle.ds2_value.specs.Value.{sum_of, compared_of}
use Rattle.ds2_value.specs.declared.comparison.Comparison.{Comparison}
use Rattle.ds2_value.specs.declared.comparison.Comparison.TheVariants.{Less, LessOrEqual, GreaterOrEqual}
use Rattle.ds2_value.specs.declared.ty.Ty.TheVariants.{BigInt}
use Rattle.ds2_value.specs.declared.value.Value.{Value}
use Rattle.ds2_value.specs.declared.value.Value.TheVariants.{Int}
use Rattle.ds2_meaning.specs.declared.expressions.Operation.TheVariants.{IntegerAdd}
use Rattle.ds2_meaning.specs.declared.location.Reference.{Reference}
use Rattle.ds2_meaning.specs.declared.location.Reference.TheVariants.{At, Local}
use Rattle.ds2_meaning.specs.Evaluation.{Surroundings, evaluate}
use Rattle.ds2_meaning.specs.Execution.{step_or_one, counts_on, with_step_value, rounds_counted}
use Rattle.ds2_meaning.specs.IsTyped.{Integers}
use Rattle.ds2_meaning.specs.Location.{Home, Holds}
use Rattle.ds2_meaning.specs.RunState.{RunState, noting, attempt, StatementOutcome, Proceeds, then_value, then_round, step_fails, begin_step, after_test, variable_value, store}
use Rattle.ds2_meaning.specs.TypedExpression.{TypedExpression}
use Rattle.ds2_code.specs.declared.instr.Instr.{Instr}
use Rattle.ds2_code.specs.declared.instr.Instr.TheVariants as instr
use Rattle.ds2_code.specs.declared.parts.ProgramParts.{ProgramParts}
use Rattle.ds2_code.specs.CodeRun.{CallFrame}
use Rattle.ds2_gen.specs.CallPieces.{IsAround}
use Rattle.ds2_gen.specs.CodeCells.{nameable_of, CodeCell, Cells, IsValueCell, IsPlacement, KeptIs, HoldState, LeaveReserved}
use Rattle.ds2_gen.specs.CodePieces.{StandsAt, ComesTo, ExitPoints, CarriesOut}
use Rattle.ds2_gen.specs.CoveredForms.{HasConstant, IsCoveredExpression, IsCoveredStep}
use Rattle.ds2_gen.specs.ExpressionCode.{CodeNumbers, cell_of, load_instr, expression_code, store_instr}
use Rattle.ds2_gen.specs.StatementCode.{step_keeps, count_test_size, store_kept, end_number, step_instr, advance_code, bound_code, step_sign_code, falling_test_code, count_test_code, count_values_code, count_begin_code}
use Rattle.ds2_gen.proofs.CellLemmas.{reserved_on, kept_still}
use Rattle.ds2_gen.proofs.ExpressionRuns.{expression_runs}
use Rattle.ds2_gen.proofs.PieceLemmas.{front_stands, back_stands, at_most, no_more, comes_at_once, jumps_by}
use Rattle.ds2_gen.proofs.SelectRuns.{FollowsFrom}
use Rattle.ds2_gen.proofs.SizeLemmas.{begin_size_is}
use Rattle.ds2_gen.proofs.StepLemmas.{from, constant_runs, load_comes, variable_runs, operation_runs, comparison_runs}
use Rattle.ds2_gen.proofs.WayLemmas.{carries_on, carries_less, operand_keeps, inside, round_keeps, idle, begin_keeps, fails_carries, After, branch_keeps, leap_keeps, store_comes, keep_comes}

-- where the code of the body of a counted loop stands
pub after_begin : (code : ProgramParts) (numbers : CodeNumbers) (place : Place) (r : Reference) (kept : ℕ) (start end : TypedExpression) (step : Option TypedExpression) (cb rest : List Instr) (at test first : ℕ)
    → at + length (count_values_code numbers start end step) + (step_keeps step + 4) ≡ first
    → StandsAt code.instrs at (count_values_code numbers start end step ++ (count_begin_code numbers place r kept step test ++ (cb ++ rest))) → StandsAt code.instrs first (cb ++ rest)
after_begin code numbers place r kept start end step cb rest at test first len has =
    let values = count_values_code numbers start end step in
    let begun = count_begin_code numbers place r kept step test in
    let mid = at + length values in
    let front : mid + length begun ≡ first = omega (arith, begin_size_is numbers place r kept step test) in
    back_stands code.instrs mid first begun (cb ++ rest) front (back_stands code.instrs at mid values (begun ++ (cb ++ rest)) refl has)

value_noted : (home : Home) (r : Reference) (e : Event) (w : RunState) → variable_value home r (noting e w) ≡ variable_value home r w
value_noted home (At g) e w = refl
value_noted home (Local n) e w = refl

counted_left : (z t y x u w n : ℕ) → z ≤ t → t ≤ y → suc y ≡ x → x ≤ u → u ≤ w → w ≤ suc n → z ≤ n
counted_left z t y x u w n a b c d e f = omega arith

-- the rounds of a loop from a state on
abbrev loop_rounds : Surroundings → Place → Reference → Option Value → (RunState → StatementOutcome) → Value → RunState → StatementOutcome
loop_rounds s place r step body bound q = rounds_counted s q.progress.left place r bound step body q

spent_left : (x u w : ℕ) → x ≤ u → u ≤ w → w ≤ 0 → x ≤ 0
spent_left x u w a b c = omega arith

module _ (code : ProgramParts) (numbers : CodeNumbers) (s : Surroundings) (frames : List CallFrame) (around : IsAround code numbers s frames) (sound : IsPlacement numbers.placement) (r : Reference) (spot : CodeCell) (placed : numbers.placement.cell (nameable_of numbers.home r) ≡ Some spot) (is : IsValueCell spot) where
  module _ (kept : ℕ) where
    -- the variable of the loop is loaded and stored
    counter_loads : (at : ℕ) (stack : Row) (cells : Cells) (w : RunState) → slice_get code.instrs at ≡ Some (load_instr (cell_of numbers r) BigInt) → HoldState numbers.placement w cells
        → ComesTo code numbers.placement kept (from frames at stack cells w) (at + 1) (variable_value s.home r w ∷ stack) w
    counter_loads at stack cells w here holds =
        subst (λ h. ComesTo code numbers.placement kept (from frames at stack cells w) (at + 1) (variable_value h r w ∷ stack) w) (sym around.home)
        (variable_runs code numbers.placement kept frames numbers.home r spot BigInt at (at + 1) stack cells w refl placed is here holds)

    counter_stored : (at to : ℕ) (v : Value) (cells : Cells) (w : RunState) → at + 1 ≡ to → slice_get code.instrs at ≡ Some (store_instr (cell_of numbers r)) → HoldState numbers.placement w cells
        → ComesTo code numbers.placement kept (from frames at (v ∷ []) cells w) to [] (store s.home r v w)
    counter_stored at to v cells w e here holds =
        subst (λ h. ComesTo code numbers.placement kept (from frames at (v ∷ []) cells w) to [] (store h r v w)) (sym around.home)
        (store_comes code numbers.placement kept frames sound numbers.home r spot at to v cells w e placed is here holds)

    -- the variable is compared with the kept end, with a jump behind it where that holds
    bound_leaps : (m : ℕ) (bound : Value) (comparison : Comparison) (next : List Instr) (i : Value) (at first to : ℕ) (cells : Cells) (w : RunState) (exits : ExitPoints) (on off : RunState → StatementOutcome)
        → IsValueCell (numbers.placement.kept_cell m) → numbers.placement.is_reserved kept (numbers.placement.kept_cell m) ≡ true → variable_value s.home r w ≡ i
        → StandsAt code.instrs at (bound_code numbers r m comparison (instr.JTrue first ∷ next)) → KeptIs numbers.placement m bound cells → HoldState numbers.placement w cells
        → FollowsFrom code numbers.placement kept frames cells first to exits on w.progress.left → FollowsFrom code numbers.placement kept frames cells (at + 1 + 1 + 1 + 1) to exits off w.progress.left
        → CarriesOut code numbers.placement kept (idle frames at cells w) to exits (after_test (is_true (compared_of comparison i bound)) w on off)
    bound_leaps m bound comparison next i at first to cells w exits on off value reserved same has known holds taken passed =
        let p = numbers.placement in
        let x = variable_value s.home r w in
        let v = compared_of comparison x bound in
        let o = after_test (is_true v) w on off in
        let a = counter_loads at [] cells w has.0 holds in
        let b = load_comes code p kept frames (p.kept_cell m) (Holds bound) BigInt (at + 1) (at + 1 + 1) (x ∷ []) a.cells w refl value (kept_still p m kept bound cells a.cells reserved a.reserved known) has.1.0 a.holds in
        let f = comparison_runs code p kept frames Integers comparison (at + 1 + 1) (at + 1 + 1 + 1) x bound [] b.cells w refl has.1.1.0 b.holds in
        let till = reserved_on p kept cells a.cells f.cells a.reserved (reserved_on p kept a.cells b.cells f.cells b.reserved f.reserved) in
        subst (λ y. CarriesOut code p kept (idle frames at cells w) to exits (after_test (is_true (compared_of comparison y bound)) w on off)) same
        (carries_on code p kept (idle frames at cells w) (at + 1) to (x ∷ []) w exits o a
        (carries_on code p kept (from frames (at + 1) (x ∷ []) a.cells w) (at + 1 + 1) to (bound ∷ x ∷ []) w exits o b
        (carries_on code p kept (from frames (at + 1 + 1) (bound ∷ x ∷ []) b.cells w) (at + 1 + 1 + 1) to (v ∷ []) w exits o f
        (leap_keeps code p kept frames (is_true v) (at + 1 + 1 + 1) first to v f.cells w exits on off has.1.1.1.0 refl f.holds
        (λ d h q. taken (noting (Tested true) w) d h (reserved_on p kept cells f.cells d till q) (at_most w.progress.left))
        (λ d h q. passed (noting (Tested false) w) d h (reserved_on p kept cells f.cells d till q) (at_most w.progress.left))))))

    -- the kept step is compared with 0, with a jump behind it where that does not hold
    sign_branches : (n : ℕ) (step : Value) (comparison : Comparison) (next : List Instr) (at target to : ℕ) (cells : Cells) (w : RunState) (exits : ExitPoints) (on off : RunState → StatementOutcome)
        → IsValueCell (numbers.placement.kept_cell n) → numbers.placement.is_reserved kept (numbers.placement.kept_cell n) ≡ true → HasConstant code numbers (Int (pos 0)) BigInt
        → StandsAt code.instrs at (step_sign_code numbers n comparison (instr.JFalse target ∷ next)) → KeptIs numbers.placement n step cells → HoldState numbers.placement w cells
        → After code numbers.placement kept frames true cells w (at + 1 + 1 + 1 + 1) to exits on → After code numbers.placement kept frames false cells w target to exits off
        → CarriesOut code numbers.placement kept (idle frames at cells w) to exits (after_test (is_true (compared_of comparison step (Int (pos 0)))) w on off)
    sign_branches n step comparison next at target to cells w exits on off value reserved constant has known holds taken passed =
        let p = numbers.placement in
        let v = compared_of comparison step (Int (pos 0)) in
        let o = after_test (is_true v) w on off in
        let a = load_comes code p kept frames (p.kept_cell n) (Holds step) BigInt at (at + 1) [] cells w refl value known has.0 holds in
        let b = constant_runs code p kept frames numbers (Int (pos 0)) BigInt (at + 1) (at + 1 + 1) (step ∷ []) a.cells w refl constant has.1.0 a.holds in
        let f = comparison_runs code p kept frames Integers comparison (at + 1 + 1) (at + 1 + 1 + 1) step (Int (pos 0)) [] b.cells w refl has.1.1.0 b.holds in
        let till = reserved_on p kept cells a.cells f.cells a.reserved (reserved_on p kept a.cells b.cells f.cells b.reserved f.reserved) in
        carries_on code p kept (idle frames at cells w) (at + 1) to (step ∷ []) w exits o a
        (carries_on code p kept (from frames (at + 1) (step ∷ []) a.cells w) (at + 1 + 1) to (Int (pos 0) ∷ step ∷ []) w exits o b
        (carries_on code p kept (from frames (at + 1 + 1) (Int (pos 0) ∷ step ∷ []) b.cells w) (at + 1 + 1 + 1) to (v ∷ []) w exits o f
        (branch_keeps code p kept frames (is_true v) (at + 1 + 1 + 1) target to v f.cells w exits on off has.1.1.1.0 refl f.holds
        (λ d h q. taken d h (reserved_on p kept cells f.cells d till q))
        (λ d h q. passed d h (reserved_on p kept cells f.cells d till q)))))

    -- the test of a loop without a step
    plain_test : (m : ℕ) (bound : Value) (at first out to : ℕ) (cells : Cells) (w : RunState) (exits : ExitPoints) (on off : RunState → StatementOutcome)
        → IsValueCell (numbers.placement.kept_cell m) → numbers.placement.is_reserved kept (numbers.placement.kept_cell m) ≡ true → at + 4 ≡ out
        → StandsAt code.instrs at (bound_code numbers r m LessOrEqual (instr.JTrue first ∷ [])) → KeptIs numbers.placement m bound cells → HoldState numbers.placement w cells
        → FollowsFrom code numbers.placement kept frames cells first to exits on w.progress.left → FollowsFrom code numbers.placement kept frames cells out to exits off w.progress.left
        → CarriesOut code numbers.placement kept (idle frames at cells w) to exits (counts_on (variable_value s.home r w) bound None w on off)
    plain_test m bound at first out to cells w exits on off value reserved len has known holds taken passed =
        let end : out ≡ at + 1 + 1 + 1 + 1 = omega arith in
        bound_leaps m bound LessOrEqual [] (variable_value s.home r w) at first to cells w exits on off value reserved refl has known holds taken
        (subst (λ k. FollowsFrom code numbers.placement kept frames cells k to exits off w.progress.left) end passed)

    -- the test of a loop with a step
    module _ (n m : ℕ) (step bound : Value) (first out to : ℕ) (exits : ExitPoints) (on off : RunState → StatementOutcome) (step_value : IsValueCell (numbers.placement.kept_cell n)) (step_reserved : numbers.placement.is_reserved kept (numbers.placement.kept_cell n) ≡ true) (value : IsValueCell (numbers.placement.kept_cell m)) (reserved : numbers.placement.is_reserved kept (numbers.placement.kept_cell m) ≡ true) (constant : HasConstant code numbers (Int (pos 0)) BigInt) where
      falling_test : (i : Value) (at : ℕ) (cells : Cells) (w : RunState) → variable_value s.home r w ≡ i → at + 8 ≡ out → StandsAt code.instrs at (falling_test_code numbers out first r n m)
          → KeptIs numbers.placement n step cells → KeptIs numbers.placement m bound cells → HoldState numbers.placement w cells
          → FollowsFrom code numbers.placement kept frames cells first to exits on w.progress.left → FollowsFrom code numbers.placement kept frames cells out to exits off w.progress.left
          → CarriesOut code numbers.placement kept (idle frames at cells w) to exits
          (after_test (is_true (compared_of Less step (Int (pos 0)))) w (λ x. after_test (is_true (compared_of GreaterOrEqual i bound)) x on off) off)
      falling_test i at cells w same len has known bounded holds taken passed =
          let p = numbers.placement in
          let half = at + 1 + 1 + 1 + 1 in
          let end : out ≡ half + 1 + 1 + 1 + 1 = omega arith in
          sign_branches n step Less (bound_code numbers r m GreaterOrEqual (instr.JTrue first ∷ [])) at out to cells w exits (λ x. after_test (is_true (compared_of GreaterOrEqual i bound)) x on off) off step_value step_reserved constant has known holds
          (λ d h q. bound_leaps m bound GreaterOrEqual [] i half first to d (noting (Tested true) w) exits on off value reserved (value_noted s.home r (Tested true) w ∙ same) has.1.1.1.1
          (kept_still p m kept bound cells d reserved q bounded) h
          (λ x f j t l. taken x f j (reserved_on p kept cells d f q t) l)
          (subst (λ k. FollowsFrom code p kept frames d k to exits off w.progress.left) end (λ x f j t l. passed x f j (reserved_on p kept cells d f q t) l)))
          (λ d h q. passed (noting (Tested false) w) d h q (at_most w.progress.left))

      stepped_test : (at : ℕ) (cells : Cells) (w : RunState) → at + 17 ≡ out
          → StandsAt code.instrs at (step_sign_code numbers n GreaterOrEqual (instr.JFalse (at + 9) ∷ bound_code numbers r m LessOrEqual (instr.JTrue first ∷ (instr.Jump out ∷ falling_test_code numbers out first r n m))))
          → KeptIs numbers.placement n step cells → KeptIs numbers.placement m bound cells → HoldState numbers.placement w cells
          → FollowsFrom code numbers.placement kept frames cells first to exits on w.progress.left → FollowsFrom code numbers.placement kept frames cells out to exits off w.progress.left
          → CarriesOut code numbers.placement kept (idle frames at cells w) to exits (counts_on (variable_value s.home r w) bound (Some step) w on off)
      stepped_test at cells w len has known bounded holds taken passed =
          let p = numbers.placement in
          let i = variable_value s.home r w in
          let half = at + 1 + 1 + 1 + 1 in
          let leap = half + 1 + 1 + 1 + 1 in
          let down : leap + 1 ≡ at + 9 = omega arith in
          let end : (at + 9) + 8 ≡ out = omega arith in
          let has_bound = has.1.1.1.1 in
          let has_jump = has_bound.1.1.1.1 in
          let has_falling = subst (λ k. StandsAt code.instrs k (falling_test_code numbers out first r n m)) down has_jump.1 in
          sign_branches n step GreaterOrEqual (bound_code numbers r m LessOrEqual (instr.JTrue first ∷ (instr.Jump out ∷ falling_test_code numbers out first r n m))) at (at + 9) to cells w exits
          (λ u. after_test (is_true (compared_of LessOrEqual i bound)) u on off)
          (λ u. after_test (is_true (compared_of Less step (Int (pos 0)))) u (λ x. after_test (is_true (compared_of GreaterOrEqual i bound)) x on off) off) step_value step_reserved constant has known holds
          (λ d h q. bound_leaps m bound LessOrEqual (instr.Jump out ∷ falling_test_code numbers out first r n m) i half first to d (noting (Tested true) w) exits on off value reserved (value_noted s.home r (Tested true) w) has_bound
          (kept_still p m kept bound cells d reserved q bounded) h
          (λ x f j t l. taken x f j (reserved_on p kept cells d f q t) l)
          (λ x f j t l.
          let g = jumps_by code p kept (instr.Jump out) leap out [] [] f frames x x has_jump.0 refl j (at_most x.progress.left) in
          carries_on code p kept (idle frames leap f x) out to [] x exits (off x) g
          (passed x g.cells g.holds (reserved_on p kept cells d g.cells q (reserved_on p kept d f g.cells t g.reserved)) l)))
          (λ d h q. falling_test i (at + 9) d (noting (Tested false) w) (value_noted s.home r (Tested false) w) end has_falling
          (kept_still p n kept step cells d step_reserved q known) (kept_still p m kept bound cells d reserved q bounded) h
          (λ x f j t l. taken x f j (reserved_on p kept cells d f q t) l)
          (λ x f j t l. passed x f j (reserved_on p kept cells d f q t) l))

    -- the rounds from a test on, whatever the loop keeps
    module _ (place : Place) (bound : Value) (step : Option Value) (body : RunState → StatementOutcome) (exits : ExitPoints) (first again test to : ℕ) (i : Instr) (keeps : Cells → Type 0)
        (still : (d e : Cells) → keeps d → LeaveReserved numbers.placement kept d e → keeps e)
        (step_loads : (at : ℕ) (stack : Row) (cells : Cells) (w : RunState) → slice_get code.instrs at ≡ Some i → HoldState numbers.placement w cells → keeps cells
        → ComesTo code numbers.placement kept (from frames at stack cells w) (at + 1) (step_or_one step ∷ stack) w)
        (tests : (cells : Cells) (w : RunState) (on off : RunState → StatementOutcome) → HoldState numbers.placement w cells → keeps cells
        → FollowsFrom code numbers.placement kept frames cells first to exits on w.progress.left → FollowsFrom code numbers.placement kept frames cells to to exits off w.progress.left
        → CarriesOut code numbers.placement kept (idle frames test cells w) to exits (counts_on (variable_value s.home r w) bound step w on off))
        (runs : (u : RunState) (d : Cells) → HoldState numbers.placement u d → CarriesOut code numbers.placement kept (idle frames first d u) again (inside to again exits) (body u))
        (has : StandsAt code.instrs again (advance_code numbers place r i)) (len : again + 1 + 1 + 1 + 1 + 1 ≡ test) where
      -- the step is added, and what follows
      advance_carries : (rest : RunState → StatementOutcome) (cells : Cells) (w : RunState) → HoldState numbers.placement w cells → keeps cells
          → ((z : RunState) (d : Cells) → HoldState numbers.placement z d → keeps d → z.progress.left ≤ w.progress.left → CarriesOut code numbers.placement kept (idle frames test d z) to exits (rest z))
          → CarriesOut code numbers.placement kept (idle frames (again + 1) cells w) to exits (then_value (attempt (sum_of (variable_value s.home r w) (step_or_one step)) w) (λ v z. rest (store s.home r v z)))
      advance_carries rest cells w holds kept_values next =
          let p = numbers.placement in
          let x = variable_value s.home r w in
          let y = step_or_one step in
          let o = then_value (attempt (sum_of x y) w) (λ v z. rest (store s.home r v z)) in
          let a = counter_loads (again + 1) [] cells w has.1.0 holds in
          let b = step_loads (again + 1 + 1) (x ∷ []) a.cells w has.1.1.0 a.holds (still cells a.cells kept_values a.reserved) in
          let till = reserved_on p kept cells a.cells b.cells a.reserved b.reserved in
          carries_on code p kept (idle frames (again + 1) cells w) (again + 1 + 1) to (x ∷ []) w exits o a
          (carries_on code p kept (from frames (again + 1 + 1) (x ∷ []) a.cells w) (again + 1 + 1 + 1) to (y ∷ x ∷ []) w exits o b
          (operand_keeps code p kept (from frames (again + 1 + 1 + 1) (y ∷ x ∷ []) b.cells w) [] (again + 1 + 1 + 1 + 1) to exits (attempt (sum_of x y) w) (λ v z. rest (store s.home r v z))
          (operation_runs code p kept frames IntegerAdd (again + 1 + 1 + 1) (again + 1 + 1 + 1 + 1) x y [] b.cells w refl has.1.1.1.0 b.holds)
          (λ v z d h q l.
          let t = counter_stored (again + 1 + 1 + 1 + 1) test v d z len has.1.1.1.1.0 h in
          carries_on code p kept (from frames (again + 1 + 1 + 1 + 1) (v ∷ []) d z) test to [] (store s.home r v z) exits (rest (store s.home r v z)) t
          (next (store s.home r v z) t.cells t.holds (still cells t.cells kept_values (reserved_on p kept cells b.cells t.cells till (reserved_on p kept b.cells d t.cells q t.reserved)))
          (no_more (store s.home r v z).progress.left z.progress.left w.progress.left t.left l)))))

      counted_runs : (n : ℕ) (cells : Cells) (w : RunState) → HoldState numbers.placement w cells → keeps cells → w.progress.left ≤ n
          → CarriesOut code numbers.placement kept (idle frames test cells w) to exits (rounds_counted s n place r bound step body w)
      counted_runs zero cells w holds kept_values most =
          tests cells w (λ u. then_round (body u) (step_fails place)) Proceeds holds kept_values
          (λ u d h q l. round_keeps code numbers.placement kept (idle frames first d u) again to exits (body u) (step_fails place) (runs u d h)
          (λ x f j t k. fails_carries code numbers.placement kept frames again to place f x exits has.0 j (spent_left x.progress.left u.progress.left w.progress.left k l most)))
          (λ u d h q l. comes_at_once code numbers.placement kept to to [] d frames u refl h)
      counted_runs (suc n) cells w holds kept_values most =
          tests cells w
          (λ u. then_round (body u) (λ x. begin_step place x (λ y. then_value (attempt (sum_of (variable_value s.home r y) (step_or_one step)) y) (λ v z. rounds_counted s n place r bound step body (store s.home r v z)))))
          Proceeds holds kept_values
          (λ u d h q l. round_keeps code numbers.placement kept (idle frames first d u) again to exits (body u)
          (λ x. begin_step place x (λ y. then_value (attempt (sum_of (variable_value s.home r y) (step_or_one step)) y) (λ v z. rounds_counted s n place r bound step body (store s.home r v z)))) (runs u d h)
          (λ x f j t k. begin_keeps code numbers.placement kept frames again to place f x exits _ has.0 j
          (λ y g one b e. advance_carries (rounds_counted s n place r bound step body) g y b
          (still cells g kept_values (reserved_on numbers.placement kept cells d g q (reserved_on numbers.placement kept d f g t e)))
          (λ z a m v o. counted_runs n a z m v (counted_left z.progress.left y.progress.left y.progress.left x.progress.left u.progress.left w.progress.left n o (at_most y.progress.left) one k l most)))))
          (λ u d h q l. comes_at_once code numbers.placement kept to to [] d frames u refl h)

  -- the end of a loop is kept, its variable is set, and its first step begins
  count_begun : (m : ℕ) → m < numbers.placement.kept_count → (place : Place) (a b : Value) (at test to : ℕ) (exits : ExitPoints) (go : RunState → StatementOutcome) (cells : Cells) (w : RunState)
      → StandsAt code.instrs at (store_kept numbers m ∷ store_instr (cell_of numbers r) ∷ instr.Tick place ∷ instr.Jump test ∷ []) → HoldState numbers.placement w cells
      → ((u : RunState) (d : Cells) → HoldState numbers.placement u d → KeptIs numbers.placement m b d → LeaveReserved numbers.placement m cells d → CarriesOut code numbers.placement (m + 1) (idle frames test d u) to exits (go u))
      → CarriesOut code numbers.placement m (from frames at (b ∷ a ∷ []) cells w) to exits (begin_step place (store s.home r a w) go)
  count_begun m less place a b at test to exits go cells w has holds rounds =
      let p = numbers.placement in
      let up : m ≤ m + 1 = omega arith in
      let least : m ≤ m = omega arith in
      let above : m < m + 1 = omega arith in
      let it = keep_comes code p m frames sound m at b (a ∷ []) cells w less least has.0 holds in
      let t = counter_stored (m + 1) (at + 1) (at + 1 + 1) a it.0.cells w refl has.1.0 it.0.holds in
      let x = store s.home r a w in
      carries_on code p m (from frames at (b ∷ a ∷ []) cells w) (at + 1) to (a ∷ []) w exits (begin_step place x go) it.0
      (carries_less code p m sound (m + 1) up (from frames (at + 1) (a ∷ []) it.0.cells w) to exits (begin_step place x go)
      (carries_on code p (m + 1) (from frames (at + 1) (a ∷ []) it.0.cells w) (at + 1 + 1) to [] x exits (begin_step place x go) t
      (begin_keeps code p (m + 1) frames (at + 1 + 1) to place t.cells x exits go has.1.1.0 t.holds
      (λ u d one h q.
      let j = jumps_by code p (m + 1) (instr.Jump test) (at + 1 + 1 + 1) test [] [] d frames u u has.1.1.1.0 refl h (at_most u.progress.left) in
      let till = reserved_on p (m + 1) it.0.cells t.cells j.cells t.reserved (reserved_on p (m + 1) t.cells d j.cells q j.reserved) in
      carries_on code p (m + 1) (idle frames (at + 1 + 1 + 1) d u) test to [] u exits (go u) j
      (rounds u j.cells j.holds (kept_still p m (m + 1) b it.0.cells j.cells (sound.behind m (m + 1) less above) till it.1)
      (reserved_on p m cells it.0.cells j.cells it.0.reserved (λ k k_is. till k (sound.grows m (m + 1) k up k_is))))))))

  -- a whole loop, from its values on
  pub count_runs : (place : Place) (kept : ℕ) (start end : TypedExpression) (step : Option TypedExpression) (body : RunState → StatementOutcome) (exits : ExitPoints) (at first again test : ℕ)
      → end_number kept step < numbers.placement.kept_count → IsCoveredExpression code numbers start → IsCoveredExpression code numbers end → IsCoveredStep code numbers step
      → (cb : List Instr) → at + length (count_values_code numbers start end step) + (step_keeps step + 4) ≡ first → again + 5 ≡ test
      → StandsAt code.instrs at (count_values_code numbers start end step ++ (count_begin_code numbers place r kept step test ++ (cb ++ (advance_code numbers place r (step_instr numbers kept step) ++ count_test_code numbers test first r kept step))))
      → StandsAt code.instrs again (advance_code numbers place r (step_instr numbers kept step) ++ count_test_code numbers test first r kept step)
      → ((u : RunState) (d : Cells) → HoldState numbers.placement u d
      → CarriesOut code numbers.placement (end_number kept step + 1) (idle frames first d u) again (inside (test + count_test_size step) again exits) (body u))
      → (cells : Cells) (w : RunState) → HoldState numbers.placement w cells
      → CarriesOut code numbers.placement kept (idle frames at cells w) (test + count_test_size step) exits
      (then_value (evaluate s start w) (λ a x. then_value (evaluate s end x) (λ b y. with_step_value s step y (λ c z.
      begin_step place (store s.home r a z) (loop_rounds s place r c body b)))))
  count_runs place kept start end None body exits at first again test less from_start from_end constant cb len back has after runs cells w holds =
      let p = numbers.placement in
      let ca = expression_code numbers start in
      let ce = expression_code numbers end in
      let values = count_values_code numbers start end None in
      let advance = advance_code numbers place r (step_instr numbers kept None) in
      let tests = count_test_code numbers test first r kept None in
      let begun = count_begin_code numbers place r kept None test in
      let tail = begun ++ (cb ++ (advance ++ tests)) in
      let to = test + count_test_size None in
      let m = end_number kept None in
      let mid = at + length ca in
      let begin = at + length values in
      let to_begin : mid + length ce ≡ begin = omega (arith, length-append ca (ce ++ []), length-append ce []) in
      let least : kept ≤ m = omega arith in
      let above : m < m + 1 = omega arith in
      let five : again + 1 + 1 + 1 + 1 + 1 ≡ test = omega arith in
      let standing = front_stands code.instrs at values tail has in
      let has_begun = front_stands code.instrs begin begun (cb ++ (advance ++ tests)) (back_stands code.instrs at begin values tail refl has) in
      let has_advance = front_stands code.instrs again advance tests after in
      let has_tests = back_stands code.instrs again test advance tests back after in
      operand_keeps code p kept (idle frames at cells w) [] mid to exits (evaluate s start w) (λ a x. then_value (evaluate s end x) (λ b y. with_step_value s None y (λ c z. begin_step place (store s.home r a z) (loop_rounds s place r c body b))))
      (expression_runs code numbers s kept frames around start at mid [] cells w refl from_start (front_stands code.instrs at ca (ce ++ []) standing) holds)
      (λ a x d h q l. operand_keeps code p kept (from frames mid (a ∷ []) d x) (a ∷ []) begin to exits (evaluate s end x) (λ b y. begin_step place (store s.home r a y) (loop_rounds s place r None body b))
      (expression_runs code numbers s kept frames around end mid begin (a ∷ []) d x to_begin from_end (front_stands code.instrs mid ce [] (back_stands code.instrs at mid ca (ce ++ []) refl standing)) h)
      (λ b y f j t k. carries_less code p kept sound m least (from frames begin (b ∷ a ∷ []) f y) to exits (begin_step place (store s.home r a y) (loop_rounds s place r None body b))
      (count_begun m less place a b begin test to exits (loop_rounds s place r None body b) f y has_begun j
      (λ u g i known o. counted_runs (m + 1) place b None body exits first again test to (step_instr numbers kept None) (KeptIs p m b)
      (λ e z before same. kept_still p m (m + 1) b e z (sound.behind m (m + 1) less above) same before)
      (λ n stack e z here v before. constant_runs code p (m + 1) frames numbers (Int (pos 1)) BigInt n (n + 1) stack e z refl constant here v)
      (λ e z on off v before taken passed. plain_test (m + 1) m b test first to to e z exits on off (sound.values m less) (sound.behind m (m + 1) less above) refl has_tests before v taken passed)
      runs has_advance five u.progress.left g u i known (at_most u.progress.left)))))
  count_runs place kept start end (Some step) body exits at first again test less from_start from_end from_step cb len back has after runs cells w holds =
      let p = numbers.placement in
      let ca = expression_code numbers start in
      let ce = expression_code numbers end in
      let cs = expression_code numbers step in
      let values = count_values_code numbers start end (Some step) in
      let advance = advance_code numbers place r (step_instr numbers kept (Some step)) in
      let tests = count_test_code numbers test first r kept (Some step) in
      let begun = count_begin_code numbers place r kept (Some step) test in
      let tail = begun ++ (cb ++ (advance ++ tests)) in
      let to = test + count_test_size (Some step) in
      let m = end_number kept (Some step) in
      let mid = at + length ca in
      let half = mid + length ce in
      let begin = at + length values in
      let to_begin : half + length cs ≡ begin = omega (arith, length-append ca (ce ++ cs), length-append ce cs) in
      let least : kept ≤ m = omega arith in
      let same_number : kept ≤ kept = omega arith in
      let below : kept < numbers.placement.kept_count = omega arith in
      let step_above : kept < m = omega arith in
      let step_high : kept < m + 1 = omega arith in
      let above : m < m + 1 = omega arith in
      let five : again + 1 + 1 + 1 + 1 + 1 ≡ test = omega arith in
      let standing = front_stands code.instrs at values tail has in
      let behind = back_stands code.instrs at mid ca (ce ++ cs) refl standing in
      let has_begun = front_stands code.instrs begin begun (cb ++ (advance ++ tests)) (back_stands code.instrs at begin values tail refl has) in
      let has_advance = front_stands code.instrs again advance tests after in
      let has_tests = back_stands code.instrs again test advance tests back after in
      let step_cell = sound.values kept below in
      let step_kept = sound.behind kept (m + 1) below step_high in
      let end_cell = sound.values m less in
      let end_kept = sound.behind m (m + 1) less above in
      operand_keeps code p kept (idle frames at cells w) [] mid to exits (evaluate s start w) (λ a x. then_value (evaluate s end x) (λ b y. with_step_value s (Some step) y (λ c z. begin_step place (store s.home r a z) (loop_rounds s place r c body b))))
      (expression_runs code numbers s kept frames around start at mid [] cells w refl from_start (front_stands code.instrs at ca (ce ++ cs) standing) holds)
      (λ a x d h q l. operand_keeps code p kept (from frames mid (a ∷ []) d x) (a ∷ []) half to exits (evaluate s end x) (λ b y. then_value (evaluate s step y) (λ c z. begin_step place (store s.home r a z) (loop_rounds s place r (Some c) body b)))
      (expression_runs code numbers s kept frames around end mid half (a ∷ []) d x refl from_end (front_stands code.instrs mid ce cs behind) h)
      (λ b y f j t k. operand_keeps code p kept (from frames half (b ∷ a ∷ []) f y) (b ∷ a ∷ []) begin to exits (evaluate s step y) (λ c z. begin_step place (store s.home r a z) (loop_rounds s place r (Some c) body b))
      (expression_runs code numbers s kept frames around step half begin (b ∷ a ∷ []) f y to_begin from_step.0 (back_stands code.instrs mid half ce cs refl behind) j)
      (λ c z e v alike fewer.
      let it = keep_comes code p kept frames sound kept begin c (b ∷ a ∷ []) e z below same_number has_begun.0 v in
      carries_on code p kept (from frames begin (c ∷ b ∷ a ∷ []) e z) (begin + 1) to (b ∷ a ∷ []) z exits (begin_step place (store s.home r a z) (loop_rounds s place r (Some c) body b)) it.0
      (carries_less code p kept sound m least (from frames (begin + 1) (b ∷ a ∷ []) it.0.cells z) to exits (begin_step place (store s.home r a z) (loop_rounds s place r (Some c) body b))
      (count_begun m less place a b (begin + 1) test to exits (loop_rounds s place r (Some c) body b) it.0.cells z has_begun.1 it.0.holds
      (λ u g i known o. counted_runs (m + 1) place b (Some c) body exits first again test to (step_instr numbers kept (Some step)) (λ n. KeptIs p kept c n × KeptIs p m b n)
      (λ n there before same. (kept_still p kept (m + 1) c n there step_kept same before.0, kept_still p m (m + 1) b n there end_kept same before.1))
      (λ n stack there state here valid before. load_comes code p (m + 1) frames (p.kept_cell kept) (Holds c) BigInt n (n + 1) stack there state refl step_cell before.0 here valid)
      (λ n state on off valid before taken passed. stepped_test (m + 1) kept m c b first to to exits on off step_cell step_kept end_cell end_kept from_step.1 test n state refl has_tests before.0 before.1 valid taken passed)
      runs has_advance five u.progress.left g u i
      (kept_still p kept m c it.0.cells g (sound.behind kept m below step_above) o it.1, known) (at_most u.progress.left)))))))
