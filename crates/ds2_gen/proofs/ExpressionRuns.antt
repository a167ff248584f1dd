-- The code of an expression follows its meaning.
use Rattle.std.proofs.Common.{◌≡◌, ℕ, ◌+◌, true, List, [], ◌∷◌, ◌++◌, length, refl, sym, subst, arith, length-append, if◌then◌else◌}
use Rattle.ds2_value.specs.Operations.{widened}
use Rattle.ds2_value.specs.Row.{Row}
use Rattle.ds2_value.specs.Value.{compared_of}
use Rattle.ds2_value.specs.declared.ty.Ty.{Ty}
use Rattle.ds2_value.specs.declared.ty.Ty.TheVariants.{BigInt}
use Rattle.ds2_value.specs.declared.value.Value.{Value}
use Rattle.ds2_meaning.specs.Evaluation.{Surroundings, callee_home, then_call, after_call, result_of, evaluate, evaluate_links, evaluate_all, evaluate_arguments}
use Rattle.ds2_meaning.specs.IsTyped.{class_of, expression_type}
use Rattle.ds2_meaning.specs.Location.{Home}
use Rattle.ds2_meaning.specs.RunState.{RunState, Gives, variable_value, then_operand}
use Rattle.ds2_meaning.specs.TypedExpression.{TypedExpression, Constant, Variable, Widen, Convert, Prefixed, Chain, Compared, Applied, Called, HashCalled, IteratorCalled, Links, NoLink, Link, TypedExpressions, NoExpression, Then, TypedArguments, NoArgument, ByValue, InOut}
use Rattle.ds2_meaning.specs.ValueOperations.{operated, prefixed, converted, applied}
use Rattle.ds2_code.specs.declared.instr.Instr.TheVariants as instr
use Rattle.ds2_code.specs.declared.parts.ParameterPart.{ParameterPart}
use Rattle.ds2_code.specs.declared.parts.ProgramParts.{ProgramParts}
use Rattle.ds2_code.specs.CodeRun.{CallFrame}
use Rattle.ds2_gen.specs.CallPieces.{IsAround}
use Rattle.ds2_gen.specs.CodeCells.{Cells, HoldState}
use Rattle.ds2_gen.specs.CodePieces.{StandsAt, ComesTo, EvaluatesTo}
use Rattle.ds2_gen.specs.CoveredForms.{ArgumentsFit, HasCallee, IsCoveredExpression, AreCoveredExpressions, AreCoveredArguments, AreCoveredLinks}
use Rattle.ds2_gen.specs.ExpressionCode.{CodeNumbers, conversion_code, prefix_code, operation_instr, operand_code, widened_type, left_operand_code, comparison_instr, function_code, expressions_count, call_instr, back_code, expression_code, expressions_code, links_code, method_call_code, arguments_code}
use Rattle.ds2_gen.specs.GenLaws.{ExpressionsEvaluate}
use Rattle.ds2_gen.proofs.CallRuns.{CallEvaluatesTo, result_evaluates, call_whole}
use Rattle.ds2_gen.proofs.FunctionRuns.{AllEvaluateTo, one_more, others_evaluate, all_evaluate, function_runs}
use Rattle.ds2_gen.proofs.HashRuns.{hash_runs, iterator_runs}
use Rattle.ds2_gen.proofs.PieceLemmas.{front_stands, back_stands, comes_at_once, evaluates_on, operand_evaluates}
use Rattle.ds2_gen.proofs.StepLemmas.{from, as_operand, constant_runs, variable_runs, widening_runs, left_operand_runs, conversion_runs, prefix_runs, comparison_runs, link_runs}

module _ (code : ProgramParts) (numbers : CodeNumbers) (s : Surroundings) (kept : ℕ) (frames : List CallFrame) (around : IsAround code numbers s frames) where
  mutual
    pub expression_runs : (e : TypedExpression) (at to : ℕ) (stack : Row) (cells : Cells) (w : RunState) → at + length (expression_code numbers e) ≡ to → IsCoveredExpression code numbers e
        → StandsAt code.instrs at (expression_code numbers e) → HoldState numbers.placement w cells
        → EvaluatesTo code numbers.placement kept (from frames at stack cells w) to stack (evaluate s e w)
    expression_runs (Constant v ty) at to stack cells w len covered has holds = constant_runs code numbers.placement kept frames numbers v ty at to stack cells w len covered has.0 holds
    expression_runs (Variable r ty) at to stack cells w len covered has holds =
        subst (λ h. ComesTo code numbers.placement kept (from frames at stack cells w) to (variable_value h r w ∷ stack) w) (sym around.home)
        (variable_runs code numbers.placement kept frames numbers.home r covered.0 ty at to stack cells w len covered.1 covered.2 has.0 holds)
    expression_runs (Widen e) at to stack cells w len covered has holds =
        let ce = expression_code numbers e in
        let mid = at + length ce in
        let end : mid + 1 ≡ to = omega (arith, length-append ce (instr.IToD ∷ [])) in
        let here = back_stands code.instrs at mid ce (instr.IToD ∷ []) refl has in
        operand_evaluates code numbers.placement kept (from frames at stack cells w) mid to stack stack (evaluate s e w) (λ v u. Gives (widened v) u)
        (expression_runs e at mid stack cells w refl covered (front_stands code.instrs at ce (instr.IToD ∷ []) has) holds)
        (λ v u d h. widening_runs code numbers.placement kept frames true mid to v stack d u end here h)
    expression_runs (Convert e ty) at to stack cells w len covered has holds =
        let ce = expression_code numbers e in
        let mid = at + length ce in
        let end : mid + length (conversion_code ty) ≡ to = omega (arith, length-append ce (conversion_code ty)) in
        operand_evaluates code numbers.placement kept (from frames at stack cells w) mid to stack stack (evaluate s e w) (converted ty)
        (expression_runs e at mid stack cells w refl covered (front_stands code.instrs at ce (conversion_code ty) has) holds)
        (λ v u d h. conversion_runs code numbers.placement kept frames ty mid to v stack d u end (back_stands code.instrs at mid ce (conversion_code ty) refl has) h)
    expression_runs (Prefixed x e ty) at to stack cells w len covered has holds =
        let ce = expression_code numbers e in
        let cx = prefix_code x (expression_type e) in
        let mid = at + length ce in
        let end : mid + length cx ≡ to = omega (arith, length-append ce cx) in
        operand_evaluates code numbers.placement kept (from frames at stack cells w) mid to stack stack (evaluate s e w) (prefixed x)
        (expression_runs e at mid stack cells w refl covered (front_stands code.instrs at ce cx has) holds)
        (λ v u d h. prefix_runs code numbers.placement kept frames x (expression_type e) mid to v stack d u end (back_stands code.instrs at mid ce cx refl has) h)
    expression_runs (Chain e links) at to stack cells w len covered has holds =
        let ce = expression_code numbers e in
        let cl = links_code numbers (expression_type e) links in
        let mid = at + length ce in
        let end : mid + length cl ≡ to = omega (arith, length-append ce cl) in
        operand_evaluates code numbers.placement kept (from frames at stack cells w) mid to stack stack (evaluate s e w) (evaluate_links s links)
        (expression_runs e at mid stack cells w refl covered.0 (front_stands code.instrs at ce cl has) holds)
        (λ v u d h. links_run links (expression_type e) mid to v stack d u end covered.1 (back_stands code.instrs at mid ce cl refl has) h)
    expression_runs (Compared comparison left right) at to stack cells w len covered has holds =
        let cl = expression_code numbers left in
        let cr = expression_code numbers right in
        let i = comparison_instr (class_of (expression_type left)) comparison in
        let mid = at + length cl in
        let last = mid + length cr in
        let end : last + 1 ≡ to = omega (arith, length-append cl (cr ++ i ∷ []), length-append cr (i ∷ [])) in
        let behind_left = back_stands code.instrs at mid cl (cr ++ i ∷ []) refl has in
        let here = back_stands code.instrs mid last cr (i ∷ []) refl behind_left in
        operand_evaluates code numbers.placement kept (from frames at stack cells w) mid to stack stack (evaluate s left w)
        (λ x u. then_operand (evaluate s right u) (λ y v. Gives (compared_of comparison x y) v))
        (expression_runs left at mid stack cells w refl covered.0 (front_stands code.instrs at cl (cr ++ i ∷ []) has) holds)
        (λ x u d h. operand_evaluates code numbers.placement kept (from frames mid (x ∷ stack) d u) last to (x ∷ stack) stack (evaluate s right u) (λ y v. Gives (compared_of comparison x y) v)
        (expression_runs right mid last (x ∷ stack) d u refl covered.1 (front_stands code.instrs mid cr (i ∷ []) behind_left) h)
        (λ y v f k. comparison_runs code numbers.placement kept frames (class_of (expression_type left)) comparison last to x y stack f v end here.0 k))
    expression_runs (Applied f arguments ty) at to stack cells w len covered has holds =
        let ca = expressions_code numbers arguments in
        let n = expressions_count arguments in
        let cf = function_code f n in
        let mid = at + length ca in
        let end : mid + length cf ≡ to = omega (arith, length-append ca cf) in
        all_evaluate code numbers.placement kept n (from frames at stack cells w) mid to stack (evaluate_all s arguments w) (applied f)
        (expressions_run arguments at mid stack cells w refl covered.1 (front_stands code.instrs at ca cf has) holds)
        (λ vs u d count h. function_runs code numbers.placement kept frames f n mid to vs stack d u count covered.0 end (back_stands code.instrs at mid ca cf refl has) h)
    expression_runs (Called instance method arguments ty) at to stack cells w len covered has holds =
        let home = callee_home numbers.home instance in
        subst (λ h. EvaluatesTo code numbers.placement kept (from frames at stack cells w) to stack (result_of (after_call s.home arguments (then_call (evaluate_arguments s arguments w) (s.calls (callee_home h instance) method))))) (sym around.home)
        (result_evaluates code numbers.placement kept (from frames at stack cells w) to stack covered.0.callee.has_result (after_call s.home arguments (then_call (evaluate_arguments s arguments w) (s.calls home method))) covered.1
        (call_whole code numbers s kept frames around arguments covered.2 home method covered.0 at to stack cells w len has
        (arguments_run arguments covered.0.part.parameters at (at + length (arguments_code numbers arguments)) stack cells w refl covered.0.fit covered.2
        (front_stands code.instrs at (arguments_code numbers arguments) (call_instr (numbers.callee home method) ∷ back_code numbers arguments) has) holds)))
    expression_runs (HashCalled hash f) at to stack cells w len covered has holds = hash_runs code numbers s kept frames around hash f covered at to stack cells w len has.0 holds
    expression_runs (IteratorCalled iterator f) at to stack cells w len covered has holds = iterator_runs code numbers s kept frames around iterator f covered at to stack cells w len has.0 holds

    arguments_run : (arguments : TypedArguments) (ps : List ParameterPart) (at to : ℕ) (stack : Row) (cells : Cells) (w : RunState) → at + length (arguments_code numbers arguments) ≡ to → ArgumentsFit ps arguments
        → AreCoveredArguments code numbers arguments → StandsAt code.instrs at (arguments_code numbers arguments) → HoldState numbers.placement w cells
        → AllEvaluateTo code numbers.placement kept (length ps) (from frames at stack cells w) to stack (evaluate_arguments s arguments w)
    arguments_run NoArgument [] at to stack cells w len fit covered has holds = (refl, comes_at_once code numbers.placement kept at to stack cells frames w (omega arith) holds)
    arguments_run NoArgument (q ∷ ps) at to stack cells w len fit covered has holds = absurd fit
    arguments_run (ByValue e rest) [] at to stack cells w len fit covered has holds = absurd fit
    arguments_run (ByValue e rest) (q ∷ ps) at to stack cells w len fit covered has holds =
        let ce = expression_code numbers e in
        let cr = arguments_code numbers rest in
        let mid = at + length ce in
        let end : mid + length cr ≡ to = omega (arith, length-append ce cr) in
        others_evaluate code numbers.placement kept (length ps) (from frames at stack cells w) mid to stack (evaluate s e w) (evaluate_arguments s rest)
        (expression_runs e at mid stack cells w refl covered.0 (front_stands code.instrs at ce cr has) holds)
        (λ v u d h. arguments_run rest ps mid to (v ∷ stack) d u end fit.1 covered.1 (back_stands code.instrs at mid ce cr refl has) h)
    arguments_run (InOut r rest) [] at to stack cells w len fit covered has holds = absurd fit
    arguments_run (InOut r rest) (q ∷ ps) at to stack cells w len fit covered has holds =
        let first = at + 1 in
        let v = variable_value s.home r w in
        let c : ComesTo code numbers.placement kept (from frames at stack cells w) first (v ∷ stack) w =
        subst (λ h. ComesTo code numbers.placement kept (from frames at stack cells w) first (variable_value h r w ∷ stack) w) (sym around.home)
        (variable_runs code numbers.placement kept frames numbers.home r covered.0.0 BigInt at first stack cells w refl covered.0.1 covered.0.2 has.0 holds) in
        one_more code numbers.placement kept (length ps) (from frames at stack cells w) first to v stack w (evaluate_arguments s rest w) c
        (arguments_run rest ps first to (v ∷ stack) c.cells w (omega arith) fit.1 covered.1 has.1 c.holds)

    expressions_run : (es : TypedExpressions) (at to : ℕ) (stack : Row) (cells : Cells) (w : RunState) → at + length (expressions_code numbers es) ≡ to → AreCoveredExpressions code numbers es
        → StandsAt code.instrs at (expressions_code numbers es) → HoldState numbers.placement w cells
        → AllEvaluateTo code numbers.placement kept (expressions_count es) (from frames at stack cells w) to stack (evaluate_all s es w)
    expressions_run NoExpression at to stack cells w len covered has holds = (refl, comes_at_once code numbers.placement kept at to stack cells frames w (omega arith) holds)
    expressions_run (Then e rest) at to stack cells w len covered has holds =
        let ce = expression_code numbers e in
        let cr = expressions_code numbers rest in
        let mid = at + length ce in
        let end : mid + length cr ≡ to = omega (arith, length-append ce cr) in
        others_evaluate code numbers.placement kept (expressions_count rest) (from frames at stack cells w) mid to stack (evaluate s e w) (evaluate_all s rest)
        (expression_runs e at mid stack cells w refl covered.0 (front_stands code.instrs at ce cr has) holds)
        (λ v u d h. expressions_run rest mid to (v ∷ stack) d u end covered.1 (back_stands code.instrs at mid ce cr refl has) h)

    links_run : (links : Links) (ty : Ty) (at to : ℕ) (x : Value) (stack : Row) (cells : Cells) (w : RunState) → at + length (links_code numbers ty links) ≡ to → AreCoveredLinks code numbers links
        → StandsAt code.instrs at (links_code numbers ty links) → HoldState numbers.placement w cells
        → EvaluatesTo code numbers.placement kept (from frames at (x ∷ stack) cells w) to stack (evaluate_links s links x w)
    links_run NoLink ty at to x stack cells w len covered has holds = comes_at_once code numbers.placement kept at to (x ∷ stack) cells frames w (omega arith) holds
    links_run (Link widens o e result rest) ty at to x stack cells w len covered has holds =
        let c1 = left_operand_code widens o ty in
        let c2 = expression_code numbers e in
        let c3 = operand_code o (expression_type e) in
        let c4 = links_code numbers result rest in
        let after1 = c2 ++ (c3 ++ (operation_instr o ∷ c4)) in
        let after2 = c3 ++ (operation_instr o ∷ c4) in
        let mid1 = at + length c1 in
        let mid2 = mid1 + length c2 in
        let mid3 = mid2 + length c3 in
        let end : mid3 + 1 + length c4 ≡ to = omega (arith, length-append c1 after1, length-append c2 after2, length-append c3 (operation_instr o ∷ c4)) in
        let h1 = back_stands code.instrs at mid1 c1 after1 refl has in
        let h2 = back_stands code.instrs mid1 mid2 c2 after2 refl h1 in
        let h3 = back_stands code.instrs mid2 mid3 c3 (operation_instr o ∷ c4) refl h2 in
        let z = if widens then widened x else x in
        let left = as_operand o (widened_type widens ty) z in
        let c = left_operand_runs code numbers.placement kept frames widens o ty at mid1 x stack cells w refl (front_stands code.instrs at c1 after1 has) holds in
        evaluates_on code numbers.placement kept (from frames at (x ∷ stack) cells w) mid1 to (left ∷ stack) stack w (evaluate_links s (Link widens o e result rest) x w) c
        (operand_evaluates code numbers.placement kept (from frames mid1 (left ∷ stack) c.cells w) mid2 to (left ∷ stack) stack (evaluate s e w)
        (λ y u. then_operand (operated o z y u) (evaluate_links s rest))
        (expression_runs e mid1 mid2 (left ∷ stack) c.cells w refl covered.0 (front_stands code.instrs mid1 c2 after2 h1) c.holds)
        (λ y u d h. link_runs code numbers.placement kept frames o (widened_type widens ty) (expression_type e) mid2 mid3 to z y stack d u (evaluate_links s rest) refl
        (front_stands code.instrs mid2 c3 (operation_instr o ∷ c4) h2) h3.0 h
        (λ v q f k. links_run rest result (mid3 + 1) to v stack f q end covered.1 h3.1 k)))

  -- a call, with its arguments and what it hands back
  pub call_runs : (home : Home) (k : ℕ) (arguments : TypedArguments) (c : HasCallee code numbers home k arguments) (at to : ℕ) (stack : Row) (cells : Cells) (w : RunState)
      → at + length (method_call_code numbers home k arguments) ≡ to → AreCoveredArguments code numbers arguments → StandsAt code.instrs at (method_call_code numbers home k arguments) → HoldState numbers.placement w cells
      → CallEvaluatesTo code numbers.placement kept (from frames at stack cells w) to stack c.callee.has_result (after_call s.home arguments (then_call (evaluate_arguments s arguments w) (s.calls home k)))
  call_runs home k arguments c at to stack cells w len covered has holds =
      call_whole code numbers s kept frames around arguments covered home k c at to stack cells w len has
      (arguments_run arguments c.part.parameters at (at + length (arguments_code numbers arguments)) stack cells w refl c.fit covered
      (front_stands code.instrs at (arguments_code numbers arguments) (call_instr (numbers.callee home k) ∷ back_code numbers arguments) has) holds)

pub expressions_evaluate : ExpressionsEvaluate
expressions_evaluate code numbers s kept e at stack cells frames w around covered has holds =
    expression_runs code numbers s kept frames around e at (at + length (expression_code numbers e)) stack cells w refl covered has holds
