-- The code of a system method follows the unit's meaning.
use Rattle.std.proofs.Common.{◌≡◌, ℕ, ◌+◌, ◌<◌, ◌≤◌, Bool, true, false, ◌||◌, List, [], ◌∷◌, ◌++◌, length, bytes_eq, Some, None, refl, sym, ap, ◌∙◌, subst, arith, if◌then◌else◌}
use Rattle.std.specs.List.{range_with_len}
use Rattle.std.specs.Prelude.{slice_get, slice_set}
use Rattle.std.proofs.lemmas.Bool.{true≢false}
use Rattle.std.proofs.lemmas.Slice.Eq.{bytes_eq-Decides}
use Rattle.ds2_value.specs.Progress.{UnitOutcome, Completed, Interrupted, Strayed}
use Rattle.ds2_value.specs.declared.fault.TheConstants.{CALL_DEPTH}
use Rattle.ds2_value.specs.declared.value.Value.{Value}
use Rattle.ds2_value.specs.declared.value.Value.TheVariants.{Null}
use Rattle.ds2_meaning.specs.declared.globals.Variable.{Variable}
use Rattle.ds2_meaning.specs.Execution.{write_each}
use Rattle.ds2_meaning.specs.Location.{Home, Content, Holds, Storage}
use Rattle.ds2_meaning.specs.ProgramMeaning.{program_surroundings, unit_state, nothing_more, implicit_output, unit_end, carry_out, with_cleared, program_units}
use Rattle.ds2_meaning.specs.ProgramTree.{BodyTree, UnitTree, declarations_of, output_sources, has_variable, program_has_output}
use Rattle.ds2_meaning.specs.Reading.{with_settings}
use Rattle.ds2_meaning.specs.RunState.{RunState, StatementOutcome, Proceeds, Leaves, Continues, Returns, Faults}
use Rattle.ds2_code.specs.declared.instr.Instr.{Instr}
use Rattle.ds2_code.specs.declared.instr.Instr.TheVariants as instr
use Rattle.ds2_code.specs.declared.parts.ProgramParts.{ProgramParts}
use Rattle.ds2_code.specs.CodeBound.{HasBoundedJumps, StaysInList}
use Rattle.ds2_code.specs.CodeLaws.{IsEndOfUnit, UnitsHaveTheirEnd}
use Rattle.ds2_code.specs.CodeRun.{CodeEnd, EndReached, Broken, Over}
use Rattle.ds2_code.specs.CodeUnit.{unit_begun, outcome_of_run, code_unit, without_cleared, code_run}
use Rattle.ds2_code.specs.Desk.{ProgramData, with_slots, with_slot_settings}
use Rattle.ds2_gen.specs.CallPieces.{IsAround}
use Rattle.ds2_gen.specs.CodeCells.{Nameable, GlobalAt, LocalNamed, is_same_nameable, content_of, CodeCell, SlotCell, LocalCell, HashCell, IteratorCell, ParameterCell, Cells, desk_of, CellHas, IsSameCell, Placement, IsPlacement, HasKeptRoom, HoldState, LeaveReserved}
use Rattle.ds2_gen.specs.CodePieces.{StandsAt, EndsWith, LeadsOnTo, machine_at, ComesTo, CarriesOut}
use Rattle.ds2_gen.specs.CoveredForms.{HaveOutputs}
use Rattle.ds2_gen.specs.ExpressionCode.{CodeNumbers, store_instr}
use Rattle.ds2_gen.specs.MethodCode.{MethodsFit}
use Rattle.ds2_gen.specs.StatementCode.{outputs_code, statements_keep, statements_code}
use Rattle.ds2_gen.specs.UnitCode.{locals_code, body_start, body_end, unit_exits, plain_ending, implicit_outputs, run_ending, data_cells, HoldsStorage, EndsAlike, HaveSlots, IsUnitPlacement}
use Rattle.ds2_gen.specs.UnitTheorem.{HasSystemMethod, CodeKeepsMeaning}
use Rattle.ds2_gen.proofs.CellLemmas.{or_turned, nameable_is, some_is, get_set_same, room_kept, room_stored, with_cell, same_cell_on, cell_has_on, slot_cell_kept}
use Rattle.ds2_gen.proofs.OutputRuns.{writes_run}
use Rattle.ds2_gen.proofs.PieceLemmas.{front_stands, back_stands, at_most, leads_on, one, last, comes_on, comes_at_once}
use Rattle.ds2_gen.proofs.LoadLemmas.{clears_hold, settings_hold}
use Rattle.ds2_gen.proofs.MethodRuns.{calls_come_back}
use Rattle.ds2_gen.proofs.SizeLemmas.{sizes_are}
use Rattle.ds2_gen.proofs.StatementRuns.{statements_run}
use Rattle.ds2_gen.proofs.WayLemmas.{idle, carries_on}

nobody_waits : 0 + CALL_DEPTH ≡ CALL_DEPTH
nobody_waits = omega arith

none_before : (n m : ℕ) → n ≤ m → 0 + n ≤ m
none_before n m h = omega arith

-- ---- locals that are still to be set

-- a local of one of these variables
abbrev is_pending : List Variable → Nameable → Bool
is_pending [] x = false
is_pending (v ∷ vs) x = is_same_nameable x (LocalNamed v.name) || is_pending vs x

pending_has : (vs : List Variable) (name : List ℕ) → has_variable vs name ≡ true → is_pending vs (LocalNamed name) ≡ true
pending_has [] name e = e
pending_has (v ∷ vs) name e =
    or_turned (bytes_eq v.name name) (bytes_eq name v.name) (has_variable vs name) (is_pending vs (LocalNamed name))
    (λ h. (bytes_eq-Decides name v.name).1 (sym ((bytes_eq-Decides v.name name).0 h))) (pending_has vs name) e

or_false : (a b : Bool) → a ≡ false → b ≡ false → (a || b) ≡ false
or_false a b e f = ap (λ x. x || b) e ∙ f

-- ---- what lies in a program's data alone

in_data : (c : CodeCell) (x : Content) (d : Cells) → ((n : ℕ) → c ≡ LocalCell n → ⊥) → CellHas c x d → CellHas c x (data_cells d.state)
in_data (SlotCell n) x d out h = h
in_data (LocalCell n) x d out h = absurd (out n refl)
in_data (HashCell n) x d out h = h
in_data (IteratorCell n) x d out h = h
in_data (ParameterCell n) x d out h = h

same_in_data : (c : CodeCell) (state : ProgramData) (d : Cells) → IsSameCell c (data_cells state) d → IsSameCell c (data_cells state) (data_cells d.state)
same_in_data (SlotCell n) state d h = h
same_in_data (LocalCell n) state d h = refl
same_in_data (HashCell n) state d h = h
same_in_data (IteratorCell n) state d h = h
same_in_data (ParameterCell n) state d h = h

-- there is a slot for each local
abbrev Rooms : Placement → Cells → Type 0
Rooms p d = (name : List ℕ) (n : ℕ) → p.cell (LocalNamed name) ≡ Some (SlotCell n) → (v : Value) × (slice_get d.state.slots n ≡ Some v)

-- all but the pending locals has been set
abbrev Settled : Placement → List Variable → RunState → Cells → Type 0
Settled p vs w d = (x : Nameable) (c : CodeCell) → p.cell x ≡ Some c → is_pending vs x ≡ false → CellHas c (content_of x w.storage w.locals) d

module _ (code : ProgramParts) (numbers : CodeNumbers) (sound : IsPlacement numbers.placement) where
  -- the first of them is set to null
  module _ (v : Variable) (vs : List Variable) (n : ℕ) (placed : numbers.placement.cell (LocalNamed v.name) ≡ Some (SlotCell n)) (w : RunState) (nulled : w.locals v.name ≡ Null) (d : Cells) (rooms : Rooms numbers.placement d) (settled : Settled numbers.placement (v ∷ vs) w d) where
    settled_at : (b : Bool) (x : Nameable) (c : CodeCell) → is_same_nameable x (LocalNamed v.name) ≡ b → numbers.placement.cell x ≡ Some c → is_pending vs x ≡ false
        → CellHas c (content_of x w.storage w.locals) (with_cell (SlotCell n) Null d)
    settled_at true x c same here out =
        let it : LocalNamed v.name ≡ x = sym (nameable_is x (LocalNamed v.name) same) in
        let one_cell : SlotCell n ≡ c = some_is (SlotCell n) c (sym placed ∙ ap numbers.placement.cell it ∙ here) in
        let room = rooms v.name n placed in
        let set : slice_get (slice_set d.state.slots n Null) n ≡ Some (w.locals v.name) = get_set_same d.state.slots n room.0 Null room.1 ∙ ap Some (sym nulled) in
        subst (λ k. CellHas k (content_of x w.storage w.locals) (with_cell (SlotCell n) Null d)) one_cell
        (subst (λ y. CellHas (SlotCell n) (content_of y w.storage w.locals) (with_cell (SlotCell n) Null d)) it set)
    settled_at false x c same here out =
        let apart : c ≡ SlotCell n → ⊥ = λ e. true≢false (sym (sound.apart x (LocalNamed v.name) (SlotCell n) (here ∙ ap Some e) placed) ∙ same) in
        cell_has_on c (content_of x w.storage w.locals) d (with_cell (SlotCell n) Null d) (slot_cell_kept n c Null d apart)
        (settled x c here (or_false (is_same_nameable x (LocalNamed v.name)) (is_pending vs x) same out))

    settled_next : Settled numbers.placement vs w (with_cell (SlotCell n) Null d)
    settled_next x c here out = settled_at (is_same_nameable x (LocalNamed v.name)) x c refl here out

    rooms_next : Rooms numbers.placement (with_cell (SlotCell n) Null d)
    rooms_next name m here = let room = rooms name m here in room_kept d.state.slots n m Null room.0 room.1

    reserved_next : (kept : ℕ) → LeaveReserved numbers.placement kept d (with_cell (SlotCell n) Null d)
    reserved_next kept c is =
        slot_cell_kept n c Null d (λ e. true≢false (sym is ∙ ap (numbers.placement.is_reserved kept) e ∙ sound.unreserved (LocalNamed v.name) (SlotCell n) kept placed))

  -- one local is set
  local_leads : (v : Variable) (n at : ℕ) (cells : Cells) (w : RunState) → numbers.placement.cell (LocalNamed v.name) ≡ Some (SlotCell n)
      → slice_get code.instrs at ≡ Some (instr.Null v.ty) → slice_get code.instrs (at + 1) ≡ Some (store_instr (numbers.placement.cell (LocalNamed v.name)))
      → LeadsOnTo code (machine_at at (desk_of [] cells) [] w.progress) (machine_at (at + 1 + 1) (desk_of [] (with_cell (SlotCell n) Null cells)) [] w.progress)
  local_leads v n at cells w placed first second =
      let m = machine_at at (desk_of [] cells) [] w.progress in
      let mid = machine_at (at + 1) (desk_of (Null ∷ []) cells) [] w.progress in
      let u = machine_at (at + 1 + 1) (desk_of [] (with_cell (SlotCell n) Null cells)) [] w.progress in
      leads_on code m mid u (one code (instr.Null v.ty) m mid first refl) (one code (instr.GStore n) mid u (second ∙ ap (λ o. Some (store_instr o)) placed) refl)

  -- all locals are set
  locals_run : (vs : List Variable) (at to : ℕ) (cells : Cells) (w : RunState) → at + length (locals_code numbers vs) ≡ to → HaveSlots numbers.placement vs → StandsAt code.instrs at (locals_code numbers vs)
      → ((name : List ℕ) → w.locals name ≡ Null) → Rooms numbers.placement cells → HasKeptRoom numbers.placement cells → Settled numbers.placement vs w cells
      → ComesTo code numbers.placement 0 (machine_at at (desk_of [] cells) [] w.progress) to [] w
  locals_run [] at to cells w len slots has nulls rooms room settled = comes_at_once code numbers.placement 0 at to [] cells [] w (omega arith) ((λ x c here. settled x c here refl), room)
  locals_run (v ∷ vs) at to cells w len slots has nulls rooms room settled =
      let n = slots.0.0 in
      let placed = slots.0.1 in
      let d = with_cell (SlotCell n) Null cells in
      let c = locals_run vs (at + 1 + 1) to d w (omega arith) slots.1 has.1.1 nulls (rooms_next v vs n placed w (nulls v.name) cells rooms settled) (room_stored numbers.placement sound (SlotCell n) (Holds Null) cells room) (settled_next v vs n placed w (nulls v.name) cells rooms settled) in
      record {
        cells = c.cells;
        holds = c.holds;
        reserved = λ k is. same_cell_on k cells d c.cells (reserved_next v vs n placed w (nulls v.name) cells rooms settled 0 k is) (c.reserved k is);
        left = at_most w.progress.left;
        leads = leads_on code (machine_at at (desk_of [] cells) [] w.progress) (machine_at (at + 1 + 1) (desk_of [] d) [] w.progress) (machine_at to (desk_of [] c.cells) [] w.progress)
            (local_leads v n at cells w placed has.0 has.1.0) c.leads;
      }

  -- ---- the end of a unit

  module _ (state : ProgramData) (entry budget end last_at : ℕ) (unit : IsEndOfUnit code entry budget state) (frameless : (x : Nameable) (n : ℕ) → numbers.placement.cell x ≡ Some (LocalCell n) → ⊥) (kept_frameless : (k n : ℕ) → k < numbers.placement.kept_count → numbers.placement.kept_cell k ≡ LocalCell n → ⊥)
      (here : slice_get code.instrs last_at ≡ Some instr.End) (at_end : RunState → RunState)
      (finishes : (w : RunState) (d : Cells) → HoldState numbers.placement w d → ComesTo code numbers.placement 0 (idle [] end d w) last_at [] (at_end w)) where
    -- a unit is what the end of its run says
    outcome_is : (e : CodeEnd) → EndsWith code (unit_begun entry budget state) e → outcome_of_run (Over unit.executed e) ≡ code_unit code entry budget state
    outcome_is e h = ap (λ x. outcome_of_run (Over unit.executed x)) (unit.alone h.0 h.0 e h.1).1 ∙ sym (ap outcome_of_run unit.run)

    holds_at_end : (w : RunState) (d : Cells) → HoldState numbers.placement w d → HoldsStorage numbers.placement w.storage d.state
    holds_at_end w d holds = record {
      globals = λ at c placed. in_data c (w.storage at) d (λ n e. frameless (GlobalAt at) n (placed ∙ ap Some e)) (holds.0 (GlobalAt at) c placed);
      slots = λ name n placed. (w.locals name, holds.0 (LocalNamed name) (SlotCell n) placed);
      room = λ k less. ((holds.1 k less).0, in_data (numbers.placement.kept_cell k) (Holds (holds.1 k less).0) d (λ n e. kept_frameless k n less e) (holds.1 k less).1);
    }

    ends_complete : (w : RunState) → ComesTo code numbers.placement 0 (unit_begun entry budget state) last_at [] w
        → EndsAlike numbers.placement state (code_unit code entry budget state) (Completed w.storage w.progress 0)
    ends_complete w c =
        let ended : EndsWith code (unit_begun entry budget state) (EndReached c.cells.state w.progress) =
        c.leads.by (EndReached c.cells.state w.progress) (last code instr.End (machine_at last_at (desk_of [] c.cells) [] w.progress) (EndReached c.cells.state w.progress) here refl) in
        subst (λ o. EndsAlike numbers.placement state o (Completed w.storage w.progress 0)) (outcome_is (EndReached c.cells.state w.progress) ended)
        (refl, holds_at_end w c.cells c.holds, (λ k is. same_in_data k state c.cells (c.reserved k is)))

    completes : (w : RunState) → ComesTo code numbers.placement 0 (unit_begun entry budget state) end [] w
        → EndsAlike numbers.placement state (code_unit code entry budget state) (Completed (at_end w).storage (at_end w).progress 0)
    completes w c = ends_complete (at_end w) (comes_on code numbers.placement 0 (unit_begun entry budget state) end last_at [] [] w (at_end w) c (finishes w c.cells c.holds))

    unit_ends : (o : StatementOutcome) → CarriesOut code numbers.placement 0 (unit_begun entry budget state) end (unit_exits end) o
        → EndsAlike numbers.placement state (code_unit code entry budget state) (unit_end at_end o)
    unit_ends (Proceeds w) g = completes w g
    unit_ends (Leaves w) g = completes w g
    unit_ends (Continues w) g = completes w g
    unit_ends (Returns v w) g = completes w g
    unit_ends (Faults f w) g =
        subst (λ o. EndsAlike numbers.placement state o (Interrupted f w.progress 0)) (outcome_is (Broken f w.progress) g) (refl, refl)

-- at the begin of a unit all but the locals is settled
settled_first : (p : Placement) (locals : List Variable) (kept : Storage) (state : ProgramData) (w : RunState) → w.storage ≡ kept → IsUnitPlacement p locals → HoldsStorage p kept state
    → (x : Nameable) (c : CodeCell) → p.cell x ≡ Some c → is_pending locals x ≡ false → CellHas c (content_of x w.storage w.locals) (data_cells state)
settled_first p locals kept state w same sound holds (GlobalAt at) c here out = subst (λ (k : Storage). CellHas c (k at) (data_cells state)) (sym same) (holds.globals at c here)
settled_first p locals kept state w same sound holds (LocalNamed name) c here out = absurd (true≢false (sym (pending_has locals name (sound.alone name c here)) ∙ out))

-- a unit whose ending does what the meaning does at its end
unit_ends_alike : UnitsHaveTheirEnd → (code : ProgramParts) (methods : Home → ℕ → CodeNumbers) → (numbers : CodeNumbers) (p : UnitTree) (body : BodyTree) (entry : ℕ) (finish : List Instr) (at_end : RunState → RunState)
    → ((end : ℕ) → StandsAt code.instrs end (finish ++ instr.End ∷ []) → (w : RunState) (d : Cells) → HoldState numbers.placement w d → ComesTo code numbers.placement 0 (idle [] end d w) (end + length finish) [] (at_end w))
    → HasSystemMethod code methods numbers p body entry (finish ++ instr.End ∷ []) → MethodsFit code (declarations_of p) methods → HasBoundedJumps code.instrs → StaysInList code
    → (budget : ℕ) (kept : Storage) (state : ProgramData) → HoldsStorage numbers.placement kept state
    → EndsAlike numbers.placement state (code_unit code entry budget state) (unit_end at_end (carry_out p body budget kept))
unit_ends_alike ends code methods numbers p body entry finish at_end finishes method inner jumps stays budget kept state holds =
    let s = program_surroundings p in
    let w = unit_state budget kept in
    let start = body_start numbers entry body in
    let end = body_end numbers entry body in
    let ending = finish ++ instr.End ∷ [] in
    let sound = method.placement in
    let around : IsAround code numbers s [] = record {
      home = sym method.home;
      objects = sym method.objects;
      outputs = sym method.outputs;
      placement = sound.sound;
      calls = calls_come_back code (declarations_of p) methods inner CALL_DEPTH numbers [] nobody_waits sound.sound method.callees;
    } in
    let cl = locals_code numbers body.locals in
    let cs = statements_code numbers start 0 (unit_exits end) body.statements in
    let behind = back_stands code.instrs entry start cl (cs ++ ending) refl method.stands in
    let at_ending = back_stands code.instrs start end cs ending (ap (λ n. start + n) (sizes_are numbers start 0 (unit_exits end) body.statements)) behind in
    let last_one = back_stands code.instrs end (end + length finish) finish (instr.End ∷ []) refl at_ending in
    let c = locals_run code numbers sound.sound body.locals entry start (data_cells state) w refl sound.slots (front_stands code.instrs entry cl (cs ++ ending) method.stands)
    (λ name. refl) holds.slots holds.room (settled_first numbers.placement body.locals kept state w refl sound holds) in
    unit_ends code numbers sound.sound state entry budget end (end + length finish) (ends code entry budget state jumps stays method.inside) sound.frameless sound.kept_frameless last_one.0 at_end (finishes end at_ending) (carry_out p body budget kept)
    (carries_on code numbers.placement 0 (unit_begun entry budget state) start end [] w (unit_exits end) (carry_out p body budget kept) c
    (statements_run code numbers s [] around sound.sound 0 body.statements start end (unit_exits end) c.cells w refl (none_before (statements_keep body.statements) numbers.placement.kept_count method.kept) method.covered (front_stands code.instrs start cs ending behind) c.holds))

-- `init` and `term`, which end with their statements
plain_ends_alike : UnitsHaveTheirEnd → (code : ProgramParts) (methods : Home → ℕ → CodeNumbers) → (numbers : CodeNumbers) (p : UnitTree) (body : BodyTree) (entry : ℕ) → HasSystemMethod code methods numbers p body entry plain_ending → MethodsFit code (declarations_of p) methods → HasBoundedJumps code.instrs → StaysInList code
    → (budget : ℕ) (kept : Storage) (state : ProgramData) → HoldsStorage numbers.placement kept state
    → EndsAlike numbers.placement state (code_unit code entry budget state) (unit_end nothing_more (carry_out p body budget kept))
plain_ends_alike ends code methods numbers p body entry =
    unit_ends_alike ends code methods numbers p body entry [] nothing_more (λ end has w d holds. comes_at_once code numbers.placement 0 end (end + 0) [] d [] w (omega arith) holds)

-- what `run` writes at its end, by whether the program has an `output` statement
finished_run : (p : UnitTree) (w : RunState) (b : Bool)
    → write_each None (output_sources p) (if b then [] else range_with_len 0 (length p.outputs)) w ≡ (if b then w else write_each None (output_sources p) (range_with_len 0 (length p.outputs)) w)
finished_run p w true = refl
finished_run p w false = refl

-- the writes at the end of `run`
run_finishes : (code : ProgramParts) (numbers : CodeNumbers) (p : UnitTree) → numbers.home ≡ None → numbers.outputs ≡ output_sources p → HaveOutputs code numbers (implicit_outputs p)
    → (end : ℕ) → StandsAt code.instrs end (outputs_code (implicit_outputs p) ++ instr.End ∷ []) → (w : RunState) (d : Cells) → HoldState numbers.placement w d
    → ComesTo code numbers.placement 0 (idle [] end d w) (end + length (outputs_code (implicit_outputs p))) [] (implicit_output p w)
run_finishes code numbers p home outputs have end has w d holds =
    let ns = implicit_outputs p in
    let to = end + length (outputs_code ns) in
    subst (λ (u : RunState). ComesTo code numbers.placement 0 (idle [] end d w) to [] u) (finished_run p w (program_has_output p))
    (subst (λ all. ComesTo code numbers.placement 0 (idle [] end d w) to [] (write_each None all ns w)) outputs
    (subst (λ at. ComesTo code numbers.placement 0 (idle [] end d w) to [] (write_each at numbers.outputs ns w)) home
    (writes_run code numbers 0 [] ns end to d w refl have (front_stands code.instrs end (outputs_code ns) (instr.End ∷ []) has) holds)))

run_ends_alike : UnitsHaveTheirEnd → (code : ProgramParts) (methods : Home → ℕ → CodeNumbers) → (numbers : CodeNumbers) (p : UnitTree) (body : BodyTree) (entry : ℕ) → HaveOutputs code numbers (implicit_outputs p)
    → HasSystemMethod code methods numbers p body entry (run_ending p) → MethodsFit code (declarations_of p) methods → HasBoundedJumps code.instrs → StaysInList code
    → (budget : ℕ) (kept : Storage) (state : ProgramData) → HoldsStorage numbers.placement kept state
    → EndsAlike numbers.placement state (code_unit code entry budget state) (unit_end (implicit_output p) (carry_out p body budget kept))
run_ends_alike ends code methods numbers p body entry have method =
    unit_ends_alike ends code methods numbers p body entry (outputs_code (implicit_outputs p)) (implicit_output p) (run_finishes code numbers p method.home method.outputs have) method

-- a unit that began with data whose reserved cells were as they are at its own begin
ends_from : (p : Placement) (before mid : ProgramData) (x : UnitOutcome ProgramData) (y : UnitOutcome Storage) → LeaveReserved p 0 (data_cells before) (data_cells mid) → EndsAlike p mid x y → EndsAlike p before x y
ends_from p before mid (Completed state q n) (Completed kept r k) same e = (e.0, e.1, (λ c is. same_cell_on c (data_cells before) (data_cells mid) (data_cells state) (same c is) (e.2 c is)))
ends_from p before mid (Completed state q n) (Interrupted f r k) same e = absurd e
ends_from p before mid (Completed state q n) Strayed same e = absurd e
ends_from p before mid (Interrupted f q n) (Completed kept r k) same e = absurd e
ends_from p before mid (Interrupted f q n) (Interrupted g r k) same e = e
ends_from p before mid (Interrupted f q n) Strayed same e = absurd e
ends_from p before mid Strayed y same e = absurd e

pub code_keeps_meaning : UnitsHaveTheirEnd → CodeKeepsMeaning
code_keeps_meaning ends code p init run term methods is = record {
  in_init = plain_ends_alike ends code methods init p p.init code.init is.at_init is.inner is.jumps is.stays;
  in_run = λ budget load slots kept state same holds.
      let cleared = clears_hold code run.placement p is.roles kept state holds in
      let loaded = settings_hold run.placement is.at_run.placement.sound load slots (with_cleared p kept) (with_slots (without_cleared code.slots state.slots) state) same cleared.0 in
      let begun = with_slots (with_slot_settings slots (without_cleared code.slots state.slots)) state in
      ends_from run.placement state begun (code_run code budget slots state) ((program_units p budget).run load kept)
      (λ c k. same_cell_on c (data_cells state) (data_cells (with_slots (without_cleared code.slots state.slots) state)) (data_cells begun) (cleared.1 c k) (loaded.1 c k))
      (run_ends_alike ends code methods run p p.run code.run is.implicit is.at_run is.inner is.jumps is.stays budget (with_settings load (with_cleared p kept)) begun loaded.0);
  in_term = plain_ends_alike ends code methods term p p.term code.term is.at_term is.inner is.jumps is.stays;
}
