-- Calls of declared methods follow their meaning, however deep they lie.
use Rattle.std.proofs.Common.{◌≡◌, ℕ, zero, suc, ◌+◌, ◌<◌, ◌≤◌, Bool, true, false, nat_lt, List, [], ◌∷◌, length, map, Option, Some, None, is_some, refl, sym, ap, ◌∙◌, subst, arith, lt-ltb}
use Rattle.std.specs.Prelude.{slice_get}
use Rattle.std.proofs.lemmas.List.{length-map}
use Rattle.ds2_value.specs.Progress.{with_call, without_call, with_failure, with_place}
use Rattle.ds2_value.specs.Row.{Row}
use Rattle.ds2_value.specs.declared.fault.Fault.TheVariants.{BudgetSpent, DepthReached}
use Rattle.ds2_value.specs.declared.fault.TheConstants.{CALL_DEPTH}
use Rattle.ds2_value.specs.declared.ty.Ty.{Ty}
use Rattle.ds2_value.specs.declared.value.Value.{Value}
use Rattle.ds2_value.specs.declared.value.Value.TheVariants.{Null}
use Rattle.ds2_meaning.specs.declared.methods.Parameter.{Parameter}
use Rattle.ds2_meaning.specs.Evaluation.{Surroundings, CallEnd, Answers}
use Rattle.ds2_meaning.specs.Execution.{exec_all}
use Rattle.ds2_meaning.specs.Invocation.{method_state, back_in, returned, call_finding, carried_out, call_too_deep, invoke}
use Rattle.ds2_meaning.specs.Location.{Home}
use Rattle.ds2_meaning.specs.Method.{MethodTree, Declarations, last_values}
use Rattle.ds2_meaning.specs.RunState.{RunState, StatementOutcome, Proceeds, Leaves, Continues, Returns, Faults}
use Rattle.ds2_code.specs.declared.instr.Instr.{Instr}
use Rattle.ds2_code.specs.declared.instr.Instr.TheVariants as instr
use Rattle.ds2_code.specs.declared.parts.MethodPart.{MethodPart}
use Rattle.ds2_code.specs.declared.parts.ProgramParts.{ProgramParts}
use Rattle.ds2_code.specs.CodeRun.{CallFrame, MachineState, Broken, GoesOn, on_arguments, on_method, on_callee, perform, with_in_outs}
use Rattle.ds2_code.specs.Desk.{Taken}
use Rattle.ds2_code.specs.InstructionTable.{kind_of}
use Rattle.ds2_gen.specs.CallPieces.{stacked, with_method_result, in_out_count, ComesBack, CallsComeBack, IsAround}
use Rattle.ds2_gen.specs.CodeCells.{Cells, desk_of, Placement, IsPlacement, HoldState}
use Rattle.ds2_gen.specs.CodePieces.{StandsAt, LeadsOnTo, machine_at, ComesTo, HandsBack, ReturnsBy, CarriesOut}
use Rattle.ds2_gen.specs.ExpressionCode.{Callee, CodeNumbers}
use Rattle.ds2_gen.specs.MethodCode.{method_ending, method_end, method_exits, parameter_part, IsMethodPlacement, MayCall, HasMethod, CalleesFit, MethodsFit}
use Rattle.ds2_gen.specs.StatementCode.{statements_keep, statements_code}
use Rattle.ds2_gen.proofs.FrameLemmas.{handed_stack, handed_count, entry_cells, resumed_cells, entry_holds, resumed_holds, resumed_reserved}
use Rattle.ds2_gen.proofs.FunctionRuns.{taken_all}
use Rattle.ds2_gen.proofs.PieceLemmas.{front_stands, back_stands, at_most, leads_on, one, last, comes_on, comes_by}
use Rattle.ds2_gen.proofs.SizeLemmas.{sizes_are}
use Rattle.ds2_gen.proofs.StatementRuns.{statements_run}

-- the caller of a method, which waits
abbrev waiting : Callee → ℕ → Row → Cells → RunState → CallFrame
waiting callee at below cells w = record { stack = below; locals = cells.locals; place = w.progress.place; to = at + 1; callee = callee.number }

-- a machine before the call, and before the first instruction of the method
abbrev calling : ℕ → List Value → Row → Cells → List CallFrame → RunState → MachineState
calling at arguments below cells frames w = machine_at at (desk_of (stacked arguments below) cells) frames w.progress

abbrev begun : MethodPart → List Value → Cells → List CallFrame → ℕ → RunState → MachineState
begun part arguments cells frames left w = machine_at part.entry (desk_of [] (entry_cells arguments (length part.locals) cells)) frames (with_call left w.progress)

-- the instruction that goes back
abbrev back_instr : Bool → Instr
back_instr true = instr.RetV
back_instr false = instr.Ret

no_more_left : (x n w : ℕ) → x ≤ n → suc n ≡ w → x ≤ w
no_more_left x n w a b = omega arith

from_none : (n m : ℕ) → n ≤ m → 0 + n ≤ m
from_none n m h = omega arith

-- ---- one call

module _ (code : ProgramParts) (caller inner : Placement) (sound : IsPlacement caller) (may : MayCall caller inner) (kept : ℕ) (frames : List CallFrame) (at : ℕ) (callee : Callee) (part : MethodPart) (ps : List Parameter)
    (placement : IsMethodPlacement inner ps (length part.locals)) (same : part.parameters ≡ map parameter_part ps) (coded : slice_get code.methods callee.number ≡ Some part)
    (arguments : List Value) (below : Row) (cells : Cells) (w : RunState) (holds : HoldState caller w cells) (left : ℕ) (one_less : suc left ≡ w.progress.left)
    (enters : LeadsOnTo code (calling at arguments below cells frames w) (begun part arguments cells (waiting callee at below cells w ∷ frames) left w)) where
  -- the operands of the caller behind the method
  stack_is : (u : RunState) (d : Cells) (over : Row) → HoldState inner u d → with_in_outs part.parameters d.locals over ≡ stacked (last_values ps u.locals) over
  stack_is u d over after = ap (λ qs. with_in_outs qs d.locals over) same ∙ handed_stack inner ps u d over placement.parameters after

  goes_back : (b : Bool) (v : Value) (mid : ℕ) (u : RunState) (d : Cells) → slice_get code.instrs mid ≡ Some (back_instr b) → HoldState inner u d
      → LeadsOnTo code (machine_at mid (desk_of (with_method_result b v []) d) (waiting callee at below cells w ∷ frames) u.progress)
      (machine_at (at + 1) (desk_of (stacked (last_values ps u.locals) (with_method_result b v below)) (resumed_cells cells d)) frames (with_place w.progress.place u.progress))
  goes_back true v mid u d here after =
      let frame = waiting callee at below cells w in
      let m = machine_at mid (desk_of (v ∷ []) d) (frame ∷ frames) u.progress in
      one code instr.RetV m (machine_at (at + 1) (desk_of (stacked (last_values ps u.locals) (v ∷ below)) (resumed_cells cells d)) frames (with_place w.progress.place u.progress)) here
      (ap (λ o. on_callee (v ∷ []) o frame frames m) coded ∙ ap (λ (r : Row). GoesOn (machine_at (at + 1) (desk_of r (resumed_cells cells d)) frames (with_place w.progress.place u.progress))) (stack_is u d (v ∷ below) after))
  goes_back false v mid u d here after =
      let frame = waiting callee at below cells w in
      let m = machine_at mid (desk_of [] d) (frame ∷ frames) u.progress in
      one code instr.Ret m (machine_at (at + 1) (desk_of (stacked (last_values ps u.locals) below) (resumed_cells cells d)) frames (with_place w.progress.place u.progress)) here
      (ap (λ o. on_callee [] o frame frames m) coded ∙ ap (λ (r : Row). GoesOn (machine_at (at + 1) (desk_of r (resumed_cells cells d)) frames (with_place w.progress.place u.progress))) (stack_is u d below after))

  -- a method that has come to an instruction that goes back
  ends_back : (b : Bool) (v : Value) (mid : ℕ) (u : RunState) → callee.has_result ≡ b → slice_get code.instrs mid ≡ Some (back_instr b)
      → ComesTo code inner 0 (begun part arguments cells (waiting callee at below cells w ∷ frames) left w) mid (with_method_result b v []) u
      → ComesBack code caller kept (calling at arguments below cells frames w) (at + 1) below callee part (Answers v (last_values ps u.locals) (back_in w u))
  ends_back b v mid u is here c =
      let first = calling at arguments below cells frames w in
      let second = begun part arguments cells (waiting callee at below cells w ∷ frames) left w in
      let third = machine_at mid (desk_of (with_method_result b v []) c.cells) (waiting callee at below cells w ∷ frames) u.progress in
      let fourth = machine_at (at + 1) (desk_of (stacked (last_values ps u.locals) (with_method_result b v below)) (resumed_cells cells c.cells)) frames (with_place w.progress.place u.progress) in (
        handed_count ps u.locals ∙ ap in_out_count (sym same),
        subst (λ h. ComesTo code caller kept first (at + 1) (stacked (last_values ps u.locals) (with_method_result h v below)) (back_in w u)) (sym is)
            (record {
              cells = resumed_cells cells c.cells;
              holds = resumed_holds caller inner may ps (length part.locals) placement arguments cells w holds u c.cells c.holds c.reserved sound;
              reserved = resumed_reserved caller inner may ps (length part.locals) placement arguments cells w holds u c.cells c.holds c.reserved kept;
              left = no_more_left u.progress.left left w.progress.left c.left one_less;
              leads = leads_on code first second fourth enters (leads_on code second third fourth c.leads (goes_back b v mid u c.cells here c.holds));
            }),
      )

  -- a method that ends without `return`
  falls_back : (returns : Option Ty) → callee.has_result ≡ is_some returns → (end : ℕ) → StandsAt code.instrs end (method_ending returns) → (u : RunState)
      → ComesTo code inner 0 (begun part arguments cells (waiting callee at below cells w ∷ frames) left w) end [] u
      → ComesBack code caller kept (calling at arguments below cells frames w) (at + 1) below callee part (Answers Null (last_values ps u.locals) (back_in w u))
  falls_back None none end has u c = ends_back false Null end u none has.0 c
  falls_back (Some ty) some end has u c =
      let m = begun part arguments cells (waiting callee at below cells w ∷ frames) left w in
      ends_back true Null (end + 1) u some has.1.0
      (comes_on code inner 0 m end (end + 1) [] (Null ∷ []) u u c
      (comes_by code inner 0 (instr.Null ty) end (end + 1) [] (Null ∷ []) c.cells (waiting callee at below cells w ∷ frames) u u has.0 refl refl c.holds (at_most u.progress.left)))

  -- a method that returns
  hands_back : (b : Bool) → callee.has_result ≡ b → (v : Value) (u : RunState) → ReturnsBy (HandsBack b) code inner 0 (begun part arguments cells (waiting callee at below cells w ∷ frames) left w) v u
      → ComesBack code caller kept (calling at arguments below cells frames w) (at + 1) below callee part (Answers v (last_values ps u.locals) (back_in w u))
  hands_back true yes_it_has v u g = ends_back true v g.0 u yes_it_has g.1 g.2
  hands_back false has_none v u g = ends_back false v g.0 u has_none g.1 g.2

  -- a method, by how its statements end
  pub method_ends : (r : Option Ty) → callee.has_result ≡ is_some r → (end : ℕ) → StandsAt code.instrs end (method_ending r) → (o : StatementOutcome)
      → CarriesOut code inner 0 (begun part arguments cells (waiting callee at below cells w ∷ frames) left w) end (method_exits end (is_some r)) o
      → ComesBack code caller kept (calling at arguments below cells frames w) (at + 1) below callee part (returned ps w o)
  method_ends r is end has (Proceeds u) g = falls_back r is end has u g
  method_ends r is end has (Leaves u) g = falls_back r is end has u g
  method_ends r is end has (Continues u) g = falls_back r is end has u g
  method_ends r is end has (Returns v u) g = hands_back (is_some r) is v u g
  method_ends r is end has (Faults f u) g = enters.by (Broken f u.progress) g

-- ---- calls at a depth

full : (n : ℕ) → n + 0 ≡ CALL_DEPTH → nat_lt n CALL_DEPTH ≡ false
full n e = let same : n ≡ CALL_DEPTH = omega arith in ap (λ m. nat_lt m CALL_DEPTH) same

roomy : (n depth : ℕ) → n + suc depth ≡ CALL_DEPTH → nat_lt n CALL_DEPTH ≡ true
roomy n depth e = let less : n < CALL_DEPTH = omega arith in lt-ltb n CALL_DEPTH less

module _ (code : ProgramParts) (frames : List CallFrame) (at : ℕ) (callee : Callee) (part : MethodPart) (arguments : List Value) (below : Row) (cells : Cells) (w : RunState) where
  -- what a call does, by whether there is room
  call_performs : (room : Bool) → nat_lt (length frames) CALL_DEPTH ≡ room → slice_get code.methods callee.number ≡ Some part → length arguments ≡ length part.parameters
      → perform code (kind_of (instr.Call callee.number)) (calling at arguments below cells frames w)
      ≡ on_arguments callee.number part (Some (record { values = arguments; below = below })) w.progress.left room (calling at arguments below cells frames w)
  call_performs room there coded count =
      let m = calling at arguments below cells frames w in
      let taken : Taken = record { values = arguments; below = below } in
      ap (λ o. on_method callee.number o m) coded
      ∙ ap (λ t. on_arguments callee.number part t w.progress.left (nat_lt (length frames) CALL_DEPTH) m) (taken_all arguments below (length part.parameters) count)
      ∙ ap (λ b. on_arguments callee.number part (Some taken) w.progress.left b m) there

  -- a call at the greatest depth
  no_room : (p : Placement) (kept n : ℕ) → slice_get code.instrs at ≡ Some (instr.Call callee.number)
      → perform code (kind_of (instr.Call callee.number)) (calling at arguments below cells frames w)
      ≡ on_arguments callee.number part (Some (record { values = arguments; below = below })) n false (calling at arguments below cells frames w)
      → ComesBack code p kept (calling at arguments below cells frames w) (at + 1) below callee part (call_finding n w (λ left. call_too_deep left w))
  no_room p kept zero here does = last code (instr.Call callee.number) (calling at arguments below cells frames w) (Broken BudgetSpent (with_failure w.progress)) here does
  no_room p kept (suc left) here does = last code (instr.Call callee.number) (calling at arguments below cells frames w) (Broken DepthReached (without_call left w.progress)) here does

  -- a call where there is room
  with_room : (p : Placement) (kept n : ℕ) (go : ℕ → CallEnd) → n ≡ w.progress.left → slice_get code.instrs at ≡ Some (instr.Call callee.number)
      → perform code (kind_of (instr.Call callee.number)) (calling at arguments below cells frames w)
      ≡ on_arguments callee.number part (Some (record { values = arguments; below = below })) n true (calling at arguments below cells frames w)
      → ((left : ℕ) → suc left ≡ w.progress.left → LeadsOnTo code (calling at arguments below cells frames w) (begun part arguments cells (waiting callee at below cells w ∷ frames) left w)
      → ComesBack code p kept (calling at arguments below cells frames w) (at + 1) below callee part (go left))
      → ComesBack code p kept (calling at arguments below cells frames w) (at + 1) below callee part (call_finding n w go)
  with_room p kept zero go e here does k = last code (instr.Call callee.number) (calling at arguments below cells frames w) (Broken BudgetSpent (with_failure w.progress)) here does
  with_room p kept (suc left) go e here does k =
      k left e (one code (instr.Call callee.number) (calling at arguments below cells frames w) (begun part arguments cells (waiting callee at below cells w ∷ frames) left w) here does)

-- the code of a method follows its meaning
body_runs : (code : ProgramParts) (declared : Declarations) (numbers : CodeNumbers) (home : Home) (method : MethodTree) (part : MethodPart) (body : HasMethod code numbers declared home method part) (s : Surroundings)
    → (frames : List CallFrame) → IsAround code numbers s frames → (d : Cells) (x : RunState) → HoldState numbers.placement x d
    → CarriesOut code numbers.placement 0 (machine_at part.entry (desk_of [] d) frames x.progress) (method_end numbers part.entry method) (method_exits (method_end numbers part.entry method) (is_some method.returns)) (exec_all s method.body x)
body_runs code declared numbers home method part body s frames around d x holds =
    let end = method_end numbers part.entry method in
    let exits = method_exits end (is_some method.returns) in
    let cs = statements_code numbers part.entry 0 exits method.body in
    statements_run code numbers s frames around body.placement.sound 0 method.body part.entry end exits d x refl (from_none (statements_keep method.body) numbers.placement.kept_count body.kept) body.covered
    (front_stands code.instrs part.entry cs (method_ending method.returns) body.stands) holds

ending_stands : (code : ProgramParts) (declared : Declarations) (numbers : CodeNumbers) (home : Home) (method : MethodTree) (part : MethodPart) → HasMethod code numbers declared home method part
    → StandsAt code.instrs (method_end numbers part.entry method) (method_ending method.returns)
ending_stands code declared numbers home method part body =
    let end = method_end numbers part.entry method in
    let exits = method_exits end (is_some method.returns) in
    back_stands code.instrs part.entry end (statements_code numbers part.entry 0 exits method.body) (method_ending method.returns) (ap (λ n. part.entry + n) (sizes_are numbers part.entry 0 exits method.body)) body.stands

module _ (code : ProgramParts) (declared : Declarations) (methods : Home → ℕ → CodeNumbers) (inner : MethodsFit code declared methods) where
  pub calls_come_back : (depth : ℕ) (numbers : CodeNumbers) (frames : List CallFrame) → length frames + depth ≡ CALL_DEPTH → IsPlacement numbers.placement → CalleesFit code declared methods numbers
      → CallsComeBack code numbers (invoke declared depth) frames
  calls_come_back zero numbers frames deep sound fits home k callee part kept at arguments below cells w placed coded count here holds =
      no_room code frames at callee part arguments below cells w numbers.placement kept w.progress.left here
      (call_performs code frames at callee part arguments below cells w false (full (length frames) deep) coded count)
  calls_come_back (suc depth) numbers frames deep sound fits home k callee part kept at arguments below cells w placed coded count here holds =
      let fit = fits home k callee part placed coded in
      let body = fit.body in
      let method = fit.method in
      let below_calls = methods home k in
      let s : Surroundings = record { calls = invoke declared depth; objects = declared.objects home; outputs = []; home = home } in
      let counted : length arguments ≡ length method.parameters = count ∙ ap length body.parameters ∙ length-map method.parameters parameter_part in
      let waits = waiting callee at below cells w ∷ frames in
      let deeper : length waits + depth ≡ CALL_DEPTH = omega arith in
      let around : IsAround code below_calls s waits = record {
        home = sym body.home;
        objects = sym body.objects;
        outputs = sym body.outputs;
        placement = body.placement.sound;
        calls = calls_come_back depth below_calls waits deeper body.placement.sound (inner home k method fit.listed);
      } in
      with_room code frames at callee part arguments below cells w numbers.placement kept w.progress.left
      (λ left. carried_out (invoke declared depth) (declared.objects home) home (slice_get (declared.methods home) k) arguments left w) refl here
      (call_performs code frames at callee part arguments below cells w true (roomy (length frames) depth deep) coded count)
      (λ left less enters.
      subst (λ o. ComesBack code numbers.placement kept (calling at arguments below cells frames w) (at + 1) below callee part (carried_out (invoke declared depth) (declared.objects home) home o arguments left w)) (sym fit.listed)
      (method_ends code numbers.placement below_calls.placement sound fit.may kept frames at callee part method.parameters body.placement body.parameters coded arguments below cells w holds left less enters method.returns fit.result
      (method_end below_calls part.entry method) (ending_stands code declared below_calls home method part body)
      (exec_all s method.body (method_state method.parameters arguments left w))
      (body_runs code declared below_calls home method part body s waits around (entry_cells arguments (length part.locals) cells) (method_state method.parameters arguments left w)
      (entry_holds numbers.placement below_calls.placement fit.may method.parameters (length part.locals) body.placement arguments cells w holds left counted))))
