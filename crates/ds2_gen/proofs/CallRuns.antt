-- Calls: what a method hands back goes into its variables, and the result lies above the operands, or is dropped.
use Rattle.std.proofs.Common.{◌≡◌, ℕ, suc, ◌+◌, Bool, true, false, List, [], ◌∷◌, length, Some, refl, sym, ap, ◌∙◌, subst, arith, length-append, if◌then◌else◌}
use Rattle.std.specs.Prelude.{slice_get}
use Rattle.ds2_value.specs.Row.{Row}
use Rattle.ds2_value.specs.declared.value.Value.{Value}
use Rattle.ds2_meaning.specs.Evaluation.{CallEnd, Answers, CallBreaks, Surroundings, then_call, taken_back, after_call, result_of, evaluate_arguments}
use Rattle.ds2_meaning.specs.Execution.{dropped}
use Rattle.ds2_meaning.specs.Location.{Home}
use Rattle.ds2_meaning.specs.RunState.{RunState, ExpressionsEnd, GiveAll, BreakAt, store}
use Rattle.ds2_meaning.specs.TypedExpression.{TypedArguments, NoArgument, ByValue, InOut}
use Rattle.ds2_code.specs.declared.instr.Instr.TheVariants.{DropTop}
use Rattle.ds2_code.specs.declared.parts.MethodPart.{MethodPart}
use Rattle.ds2_code.specs.declared.parts.ParameterPart.{ParameterPart}
use Rattle.ds2_code.specs.declared.parts.ProgramParts.{ProgramParts}
use Rattle.ds2_code.specs.CodeRun.{CallFrame, MachineState, Broken}
use Rattle.ds2_gen.specs.CallPieces.{stacked, with_method_result, in_out_count, ComesBack, IsAround}
use Rattle.ds2_gen.specs.CodeCells.{Cells, Placement, HoldState}
use Rattle.ds2_gen.specs.CodePieces.{StandsAt, EndsWith, ComesTo, EvaluatesTo, ExitPoints, CarriesOut}
use Rattle.ds2_gen.specs.CoveredForms.{ArgumentsFit, HasCallee, AreCoveredArguments}
use Rattle.ds2_gen.specs.ExpressionCode.{Callee, CodeNumbers, cell_of, store_instr, call_instr, back_code, method_call_code, arguments_code}
use Rattle.ds2_gen.specs.StatementCode.{drop_code}
use Rattle.ds2_gen.proofs.FunctionRuns.{AllEvaluateTo}
use Rattle.ds2_gen.proofs.PieceLemmas.{front_stands, back_stands, behind, comes_on, comes_at_once}
use Rattle.ds2_gen.proofs.StepLemmas.{from}
use Rattle.ds2_gen.proofs.WayLemmas.{idle, drop_comes, store_above}

module _ (code : ProgramParts) (p : Placement) (kept : ℕ) where
  -- a whole call: it comes to a place with the method's result above the operands below, where it has one, or its fault ends the run
  abbrev pub CallEvaluatesTo : MachineState → ℕ → Row → Bool → CallEnd → Type 0
  CallEvaluatesTo m to below has_result (Answers result vs w) = ComesTo code p kept m to (with_method_result has_result result below) w
  CallEvaluatesTo m to below has_result (CallBreaks f w) = EndsWith code m (Broken f w.progress)

  call_behind : (m : MachineState) (mid to : ℕ) (stack below : Row) (w : RunState) (has_result : Bool) (o : CallEnd) (c : ComesTo code p kept m mid stack w)
      → CallEvaluatesTo (behind m mid stack c.cells w) to below has_result o → CallEvaluatesTo m to below has_result o
  call_behind m mid to stack below w has_result (Answers result vs u) c g = comes_on code p kept m mid to stack (with_method_result has_result result below) w u c g
  call_behind m mid to stack below w has_result (CallBreaks f u) c g = c.leads.by (Broken f u.progress) g

  -- the value of a call
  pub result_evaluates : (m : MachineState) (to : ℕ) (below : Row) (has_result : Bool) (o : CallEnd) → has_result ≡ true → CallEvaluatesTo m to below has_result o → EvaluatesTo code p kept m to below (result_of o)
  result_evaluates m to below has_result (Answers result vs w) is g = subst (λ b. ComesTo code p kept m to (with_method_result b result below) w) is g
  result_evaluates m to below has_result (CallBreaks f w) is g = g

  -- a result is dropped, where there is one
  result_drops : (b : Bool) (frames : List CallFrame) (at mid to : ℕ) (cells : Cells) (w : RunState) (result : Value) (u : RunState) → mid + length (if b then DropTop ∷ [] else []) ≡ to
      → StandsAt code.instrs mid (if b then DropTop ∷ [] else []) → ComesTo code p kept (idle frames at cells w) mid (with_method_result b result []) u → ComesTo code p kept (idle frames at cells w) to [] u
  result_drops true frames at mid to cells w result u len has c =
      comes_on code p kept (idle frames at cells w) mid to (result ∷ []) [] u u c (drop_comes code p kept frames mid to result c.cells u len has.0 c.holds)
  result_drops false frames at mid to cells w result u len has c =
      comes_on code p kept (idle frames at cells w) mid to [] [] u u c (comes_at_once code p kept mid to [] c.cells frames u (omega arith) c.holds)

  pub dropped_carries : (callee : Callee) (frames : List CallFrame) (at mid to : ℕ) (cells : Cells) (w : RunState) (exits : ExitPoints) (o : CallEnd) → mid + length (drop_code (Some callee)) ≡ to
      → StandsAt code.instrs mid (drop_code (Some callee)) → CallEvaluatesTo (idle frames at cells w) mid [] callee.has_result o → CarriesOut code p kept (idle frames at cells w) to exits (dropped o)
  dropped_carries callee frames at mid to cells w exits (Answers result vs u) len has g = result_drops callee.has_result frames at mid to cells w result u len has g
  dropped_carries callee frames at mid to cells w exits (CallBreaks f u) len has g = g

module _ (code : ProgramParts) (numbers : CodeNumbers) (s : Surroundings) (kept : ℕ) (frames : List CallFrame) (around : IsAround code numbers s frames) where
  -- the variables that were handed in and out get their last values
  back_runs : (arguments : TypedArguments) (ps : List ParameterPart) (vs : List Value) (at to : ℕ) (under : Row) (cells : Cells) (w : RunState) → at + length (back_code numbers arguments) ≡ to
      → ArgumentsFit ps arguments → length vs ≡ in_out_count ps → AreCoveredArguments code numbers arguments → StandsAt code.instrs at (back_code numbers arguments) → HoldState numbers.placement w cells
      → ComesTo code numbers.placement kept (from frames at (stacked vs under) cells w) to under (taken_back numbers.home arguments vs w)
  back_runs NoArgument [] [] at to under cells w len fit count covered has holds = comes_at_once code numbers.placement kept at to under cells frames w (omega arith) holds
  back_runs NoArgument [] (v ∷ vs) at to under cells w len fit count covered has holds = absurd (omega arith)
  back_runs NoArgument (q ∷ ps) vs at to under cells w len fit count covered has holds = absurd fit
  back_runs (ByValue e rest) [] vs at to under cells w len fit count covered has holds = absurd fit
  back_runs (ByValue e rest) (q ∷ ps) vs at to under cells w len fit count covered has holds =
      back_runs rest ps vs at to under cells w len fit.1 (count ∙ ap (λ b. if b then suc (in_out_count ps) else in_out_count ps) fit.0) covered.1 has holds
  back_runs (InOut r rest) [] vs at to under cells w len fit count covered has holds = absurd fit
  back_runs (InOut r rest) (q ∷ ps) [] at to under cells w len fit count covered has holds =
      let none : 0 ≡ suc (in_out_count ps) = count ∙ ap (λ b. if b then suc (in_out_count ps) else in_out_count ps) fit.0 in
      absurd (omega arith)
  back_runs (InOut r rest) (q ∷ ps) (v ∷ vs) at to under cells w len fit count covered has holds =
      let cb = back_code numbers rest in
      let i = store_instr (cell_of numbers r) in
      let mid = at + length cb in
      let end : mid + 1 ≡ to = omega (arith, length-append cb (i ∷ [])) in
      let counted : suc (length vs) ≡ suc (in_out_count ps) = count ∙ ap (λ b. if b then suc (in_out_count ps) else in_out_count ps) fit.0 in
      let fewer : length vs ≡ in_out_count ps = omega arith in
      let u = taken_back numbers.home rest vs w in
      let c = back_runs rest ps vs at mid (v ∷ under) cells w refl fit.1 fewer covered.1 (front_stands code.instrs at cb (i ∷ []) has) holds in
      comes_on code numbers.placement kept (from frames at (stacked vs (v ∷ under)) cells w) mid to (v ∷ under) under u (store numbers.home r v u) c
      (store_above code numbers.placement kept frames around.placement numbers.home r covered.0.0 mid to v under c.cells u end covered.0.1 covered.0.2 (back_stands code.instrs at mid cb (i ∷ []) refl has).0 c.holds)

  module _ (arguments : TypedArguments) (covered : AreCoveredArguments code numbers arguments) where
    answered : (callee : Callee) (part : MethodPart) (at mid to : ℕ) (stack below : Row) (cells : Cells) (w : RunState) (o : CallEnd) → mid + length (back_code numbers arguments) ≡ to
        → ArgumentsFit part.parameters arguments → StandsAt code.instrs mid (back_code numbers arguments) → ComesBack code numbers.placement kept (from frames at stack cells w) mid below callee part o
        → CallEvaluatesTo code numbers.placement kept (from frames at stack cells w) to below callee.has_result (after_call numbers.home arguments o)
    answered callee part at mid to stack below cells w (Answers result vs u) len fit has g =
        let over = with_method_result callee.has_result result below in
        comes_on code numbers.placement kept (from frames at stack cells w) mid to (stacked vs over) over u (taken_back numbers.home arguments vs u) g.1
        (back_runs arguments part.parameters vs mid to over g.1.cells u len fit g.0 covered has g.1.holds)
    answered callee part at mid to stack below cells w (CallBreaks f u) len fit has g = g

    -- a call, from its arguments on
    pub call_comes : (home : Home) (k : ℕ) (c : HasCallee code numbers home k arguments) (at mid to : ℕ) (below : Row) (cells : Cells) (w : RunState) (values : ExpressionsEnd)
        → AllEvaluateTo code numbers.placement kept (length c.part.parameters) (from frames at below cells w) mid below values → (mid + 1) + length (back_code numbers arguments) ≡ to
        → slice_get code.instrs mid ≡ Some (call_instr (numbers.callee home k)) → StandsAt code.instrs (mid + 1) (back_code numbers arguments)
        → CallEvaluatesTo code numbers.placement kept (from frames at below cells w) to below c.callee.has_result (after_call s.home arguments (then_call values (s.calls home k)))
    call_comes home k c at mid to below cells w (GiveAll vs u) g len here has =
        let called = around.calls home k c.callee c.part kept mid vs below g.1.cells u c.placed c.coded g.0 (here ∙ ap (λ o. Some (call_instr o)) c.placed) g.1.holds in
        call_behind code numbers.placement kept (from frames at below cells w) mid to (stacked vs below) below u c.callee.has_result (after_call s.home arguments (s.calls home k vs u)) g.1
        (subst (λ h. CallEvaluatesTo code numbers.placement kept (from frames mid (stacked vs below) g.1.cells u) to below c.callee.has_result (after_call h arguments (s.calls home k vs u))) (sym around.home)
        (answered c.callee c.part mid (mid + 1) to (stacked vs below) below g.1.cells u (s.calls home k vs u) len c.fit has called))
    call_comes home k c at mid to below cells w (BreakAt f u) g len here has = g

    -- likewise where its arguments are evaluated
    pub call_whole : (home : Home) (k : ℕ) (c : HasCallee code numbers home k arguments) (at to : ℕ) (below : Row) (cells : Cells) (w : RunState) → at + length (method_call_code numbers home k arguments) ≡ to
        → StandsAt code.instrs at (method_call_code numbers home k arguments)
        → AllEvaluateTo code numbers.placement kept (length c.part.parameters) (from frames at below cells w) (at + length (arguments_code numbers arguments)) below (evaluate_arguments s arguments w)
        → CallEvaluatesTo code numbers.placement kept (from frames at below cells w) to below c.callee.has_result (after_call s.home arguments (then_call (evaluate_arguments s arguments w) (s.calls home k)))
    call_whole home k c at to below cells w len has values =
        let ca = arguments_code numbers arguments in
        let tail = call_instr (numbers.callee home k) ∷ back_code numbers arguments in
        let mid = at + length ca in
        let end : (mid + 1) + length (back_code numbers arguments) ≡ to = omega (arith, length-append ca tail) in
        let behind_arguments = back_stands code.instrs at mid ca tail refl has in
        call_comes home k c at mid to below cells w (evaluate_arguments s arguments w) values end behind_arguments.0 behind_arguments.1
