-- Calls as statements, and parameters that are set.
use Rattle.std.proofs.Common.{◌≡◌, ℕ, ◌+◌, List, [], ◌∷◌, length, Option, Some, None, refl, sym, ap, subst, arith, length-append}
use Rattle.ds2_meaning.specs.declared.location.Global.TheVariants.{Parameter}
use Rattle.ds2_meaning.specs.Evaluation.{Surroundings, callee_home, then_call, after_call, evaluate, evaluate_arguments, call}
use Rattle.ds2_meaning.specs.Execution.{dropped, constructed, with_parameters_set}
use Rattle.ds2_meaning.specs.Location.{Home, Location, Holds}
use Rattle.ds2_meaning.specs.RunState.{RunState, keep_at}
use Rattle.ds2_meaning.specs.TypedExpression.{TypedArguments}
use Rattle.ds2_meaning.specs.TypedStatement.{ParameterValue}
use Rattle.ds2_code.specs.declared.parts.ProgramParts.{ProgramParts}
use Rattle.ds2_code.specs.CodeRun.{CallFrame}
use Rattle.ds2_gen.specs.CallPieces.{IsAround}
use Rattle.ds2_gen.specs.CodeCells.{Cells, HoldState}
use Rattle.ds2_gen.specs.CodePieces.{StandsAt, ExitPoints, CarriesOut}
use Rattle.ds2_gen.specs.CoveredForms.{IsCoveredCall, IsCoveredConstructor, AreCoveredParameters}
use Rattle.ds2_gen.specs.ExpressionCode.{CodeNumbers, store_instr, expression_code, method_call_code}
use Rattle.ds2_gen.specs.StatementCode.{drop_code, invoke_code, construct_code, parameter_cell, parameters_code}
use Rattle.ds2_gen.proofs.CallRuns.{dropped_carries}
use Rattle.ds2_gen.proofs.ExpressionRuns.{expression_runs, call_runs}
use Rattle.ds2_gen.proofs.PieceLemmas.{front_stands, back_stands, comes_at_once}
use Rattle.ds2_gen.proofs.StepLemmas.{from}
use Rattle.ds2_gen.proofs.WayLemmas.{carries_on, value_carries, idle, parameter_set}

module _ (code : ProgramParts) (numbers : CodeNumbers) (s : Surroundings) (kept : ℕ) (frames : List CallFrame) (around : IsAround code numbers s frames) where
  -- a call whose result is dropped
  home_invoked : (home : Home) (k : ℕ) (arguments : TypedArguments) (at to : ℕ) (cells : Cells) (w : RunState) (exits : ExitPoints) → at + length (invoke_code numbers home k arguments) ≡ to
      → IsCoveredCall code numbers home k arguments → StandsAt code.instrs at (invoke_code numbers home k arguments) → HoldState numbers.placement w cells
      → CarriesOut code numbers.placement kept (idle frames at cells w) to exits (dropped (after_call s.home arguments (then_call (evaluate_arguments s arguments w) (s.calls home k))))
  home_invoked home k arguments at to cells w exits len covered has holds =
      let c = covered.0 in
      let cc = method_call_code numbers home k arguments in
      let cd = drop_code (numbers.callee home k) in
      let mid = at + length cc in
      let dropping : drop_code (numbers.callee home k) ≡ drop_code (Some c.callee) = ap drop_code c.placed in
      let all : mid + length cd ≡ to = omega (arith, length-append cc cd) in
      let end : mid + length (drop_code (Some c.callee)) ≡ to = subst (λ is. mid + length is ≡ to) dropping all in
      dropped_carries code numbers.placement kept c.callee frames at mid to cells w exits (after_call s.home arguments (then_call (evaluate_arguments s arguments w) (s.calls home k))) end
      (subst (λ is. StandsAt code.instrs mid is) dropping (back_stands code.instrs at mid cc cd refl has))
      (call_runs code numbers s kept frames around home k arguments c at mid [] cells w refl covered.1 (front_stands code.instrs at cc cd has) holds)

  pub invoke_runs : (instance : Option (List ℕ)) (k : ℕ) (arguments : TypedArguments) (at to : ℕ) (cells : Cells) (w : RunState) (exits : ExitPoints)
      → at + length (invoke_code numbers (callee_home numbers.home instance) k arguments) ≡ to → IsCoveredCall code numbers (callee_home numbers.home instance) k arguments
      → StandsAt code.instrs at (invoke_code numbers (callee_home numbers.home instance) k arguments) → HoldState numbers.placement w cells
      → CarriesOut code numbers.placement kept (idle frames at cells w) to exits (dropped (call s instance k arguments w))
  invoke_runs instance k arguments at to cells w exits len covered has holds =
      subst (λ h. CarriesOut code numbers.placement kept (idle frames at cells w) to exits (dropped (after_call s.home arguments (then_call (evaluate_arguments s arguments w) (s.calls (callee_home h instance) k))))) (sym around.home)
      (home_invoked (callee_home numbers.home instance) k arguments at to cells w exits len covered has holds)

  -- the constructor of an instance
  pub construct_runs : (instance : List ℕ) (constructor : Option ℕ) (arguments : TypedArguments) (at to : ℕ) (cells : Cells) (w : RunState) (exits : ExitPoints)
      → at + length (construct_code numbers instance constructor arguments) ≡ to → IsCoveredConstructor code numbers instance constructor arguments
      → StandsAt code.instrs at (construct_code numbers instance constructor arguments) → HoldState numbers.placement w cells
      → CarriesOut code numbers.placement kept (idle frames at cells w) to exits (constructed s instance constructor arguments w)
  construct_runs instance None arguments at to cells w exits len covered has holds = comes_at_once code numbers.placement kept at to [] cells frames w (omega arith) holds
  construct_runs instance (Some k) arguments at to cells w exits len covered has holds = home_invoked (Some instance) k arguments at to cells w exits len covered has holds

  -- the parameters of an instance of a thread program
  pub parameters_run : (instance : List ℕ) (ps : List ParameterValue) (at to : ℕ) (cells : Cells) (w : RunState) (exits : ExitPoints) → at + length (parameters_code numbers instance ps) ≡ to
      → AreCoveredParameters code numbers instance ps → StandsAt code.instrs at (parameters_code numbers instance ps) → HoldState numbers.placement w cells
      → CarriesOut code numbers.placement kept (idle frames at cells w) to exits (with_parameters_set s instance ps w)
  parameters_run instance [] at to cells w exits len covered has holds = comes_at_once code numbers.placement kept at to [] cells frames w (omega arith) holds
  parameters_run instance (p ∷ ps) at to cells w exits len covered has holds =
      let ce = expression_code numbers p.value in
      let spot : Location = record { home = Some instance; global = Parameter p.parameter } in
      let tail = store_instr (parameter_cell numbers instance p.parameter) ∷ parameters_code numbers instance ps in
      let mid = at + length ce in
      let end : (mid + 1) + length (parameters_code numbers instance ps) ≡ to = omega (arith, length-append ce tail) in
      let behind = back_stands code.instrs at mid ce tail refl has in
      value_carries code numbers.placement kept (idle frames at cells w) mid to exits (evaluate s p.value w) (λ v u. with_parameters_set s instance ps (keep_at spot (Holds v) u))
      (expression_runs code numbers s kept frames around p.value at mid [] cells w refl covered.1 (front_stands code.instrs at ce tail has) holds)
      (λ v x d h l.
      let c = parameter_set code numbers.placement kept frames around.placement spot (parameter_cell numbers instance p.parameter) mid (mid + 1) v d x refl refl covered.0 behind.0 h in
      carries_on code numbers.placement kept (from frames mid (v ∷ []) d x) (mid + 1) to [] (keep_at spot (Holds v) x) exits (with_parameters_set s instance ps (keep_at spot (Holds v) x)) c
      (parameters_run instance ps (mid + 1) to c.cells (keep_at spot (Holds v) x) exits end covered.2 behind.1 c.holds))
