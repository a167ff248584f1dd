-- The words of statements: what is done with a value, a step, a test, a round of a loop.
use Rattle.std.proofs.Common.{◌≡◌, ℕ, zero, suc, ◌+◌, ◌<◌, ◌≤◌, Bool, true, false, List, [], ◌∷◌, Option, Some, None, refl, sym, ap, ◌∙◌, subst, arith}
use Rattle.std.specs.Prelude.{slice_get}
use Rattle.ds2_base.specs.declared.place.Place.{Place}
use Rattle.ds2_value.specs.Operations.{is_true}
use Rattle.ds2_value.specs.Progress.{Progress, with_failure, with_step, without_step}
use Rattle.ds2_value.specs.Row.{Row}
use Rattle.ds2_value.specs.Run.{Tested}
use Rattle.ds2_value.specs.declared.fault.Fault.TheVariants.{BudgetSpent, NoWhen as NoWhenFault}
use Rattle.ds2_value.specs.declared.value.Value.{Value}
use Rattle.ds2_meaning.specs.declared.location.Reference.{Reference}
use Rattle.ds2_meaning.specs.declared.location.Reference.TheVariants.{At, Local}
use Rattle.ds2_meaning.specs.Location.{Home, Location, Holds}
use Rattle.ds2_meaning.specs.RunState.{RunState, with_progress, noting, ExpressionEnd, Gives, Breaks, StatementOutcome, Proceeds, Leaves, Continues, Returns, Faults, raises, then_value, then_statement, then_round, step_fails, step_finding, begin_step, after_test, store, keep_at}
use Rattle.ds2_code.specs.declared.instr.Instr.{Instr}
use Rattle.ds2_code.specs.declared.instr.Instr.TheVariants.{Tick, Jump, JFalse, JTrue, NoWhen, DropTop, GStore, LStore, SetParm}
use Rattle.ds2_code.specs.declared.parts.ProgramParts.{ProgramParts}
use Rattle.ds2_code.specs.CodeRun.{CallFrame, MachineState, Broken, GoesOn, on_step, on_outcome, perform}
use Rattle.ds2_code.specs.InstructionTable.{kind_of}
use Rattle.ds2_gen.specs.CodeCells.{GlobalAt, nameable_of, CodeCell, SlotCell, LocalCell, HashCell, IteratorCell, ParameterCell, Cells, desk_of, kept_on, IsSameCell, IsValueCell, Placement, IsPlacement, KeptIs, HoldState, LeaveReserved}
use Rattle.ds2_gen.specs.CodePieces.{LeadsOnTo, machine_at, ComesTo, EvaluatesTo, ReturnWay, JumpsToEnd, HandsBack, ExitPoints, ReturnsBy, CarriesOut}
use Rattle.ds2_gen.specs.CoveredForms.{IsParameterCell}
use Rattle.ds2_gen.specs.ExpressionCode.{store_instr}
use Rattle.ds2_gen.proofs.CellLemmas.{with_cell, holds_stored, reserved_stored, holds_put, reserved_put, holds_unplaced, holds_kept, value_kept, reserved_kept}
use Rattle.ds2_gen.proofs.PieceLemmas.{at_most, last, one, behind, comes_on, comes_less, comes_by, jumps_by}

store_progress : (home : Home) (r : Reference) (v : Value) (w : RunState) → w.progress ≡ (store home r v w).progress
store_progress home (At g) v w = refl
store_progress home (Local n) v w = refl

-- the exits of the body of a loop
abbrev pub inside : ℕ → ℕ → ExitPoints → ExitPoints
inside end again exits = record { leave = end; continue = again; return = exits.return }

-- a machine of a frame without operands
abbrev pub idle : List CallFrame → ℕ → Cells → RunState → MachineState
idle frames at cells w = machine_at at (desk_of [] cells) frames w.progress

module _ (code : ProgramParts) (p : Placement) (kept : ℕ) where
  -- ---- one piece behind another

  returns_on : (way : ReturnWay) (m : MachineState) (mid : ℕ) (stack : Row) (w : RunState) (v : Value) (u : RunState) (c : ComesTo code p kept m mid stack w)
      → ReturnsBy way code p kept (behind m mid stack c.cells w) v u → ReturnsBy way code p kept m v u
  returns_on (JumpsToEnd end) m mid stack w v u c g = comes_on code p kept m mid end stack [] w u c g
  returns_on (HandsBack true) m mid stack w v u c g = (g.0, g.1, comes_on code p kept m mid g.0 stack (v ∷ []) w u c g.2)
  returns_on (HandsBack false) m mid stack w v u c g = (g.0, g.1, comes_on code p kept m mid g.0 stack [] w u c g.2)

  pub carries_on : (m : MachineState) (mid to : ℕ) (stack : Row) (w : RunState) (exits : ExitPoints) (o : StatementOutcome) (c : ComesTo code p kept m mid stack w)
      → CarriesOut code p kept (behind m mid stack c.cells w) to exits o → CarriesOut code p kept m to exits o
  carries_on m mid to stack w exits (Proceeds u) c g = comes_on code p kept m mid to stack [] w u c g
  carries_on m mid to stack w exits (Leaves u) c g = comes_on code p kept m mid exits.leave stack [] w u c g
  carries_on m mid to stack w exits (Continues u) c g = comes_on code p kept m mid exits.continue stack [] w u c g
  carries_on m mid to stack w exits (Returns v u) c g = returns_on exits.return m mid stack w v u c g
  carries_on m mid to stack w exits (Faults f u) c g = c.leads.by (Broken f u.progress) g

  pub carries_at : (m : MachineState) (to other : ℕ) (exits : ExitPoints) (o : StatementOutcome) → to ≡ other → CarriesOut code p kept m to exits o → CarriesOut code p kept m other exits o
  carries_at m to other exits o e g = subst (λ n. CarriesOut code p kept m n exits o) e g

  -- code that leaves more cells as they are
  returns_less : IsPlacement p → (more : ℕ) → kept ≤ more → (way : ReturnWay) (m : MachineState) (v : Value) (w : RunState) → ReturnsBy way code p more m v w → ReturnsBy way code p kept m v w
  returns_less sound more least (JumpsToEnd end) m v w g = comes_less code p kept sound more least m end [] w g
  returns_less sound more least (HandsBack true) m v w g = (g.0, g.1, comes_less code p kept sound more least m g.0 (v ∷ []) w g.2)
  returns_less sound more least (HandsBack false) m v w g = (g.0, g.1, comes_less code p kept sound more least m g.0 [] w g.2)

  pub carries_less : IsPlacement p → (more : ℕ) → kept ≤ more → (m : MachineState) (to : ℕ) (exits : ExitPoints) (o : StatementOutcome) → CarriesOut code p more m to exits o → CarriesOut code p kept m to exits o
  carries_less sound more least m to exits (Proceeds w) g = comes_less code p kept sound more least m to [] w g
  carries_less sound more least m to exits (Leaves w) g = comes_less code p kept sound more least m exits.leave [] w g
  carries_less sound more least m to exits (Continues w) g = comes_less code p kept sound more least m exits.continue [] w g
  carries_less sound more least m to exits (Returns v w) g = returns_less sound more least exits.return m v w g
  carries_less sound more least m to exits (Faults f w) g = g

  -- a value above operands, and what is done with it, where the reserved cells are as they were
  pub operand_keeps : (m : MachineState) (under : Row) (mid to : ℕ) (exits : ExitPoints) (o : ExpressionEnd) (go : Value → RunState → StatementOutcome) → EvaluatesTo code p kept m mid under o
      → ((v : Value) (w : RunState) (cells : Cells) → HoldState p w cells → LeaveReserved p kept (kept_on m.desk) cells → w.progress.left ≤ m.progress.left
      → CarriesOut code p kept (behind m mid (v ∷ under) cells w) to exits (go v w))
      → CarriesOut code p kept m to exits (then_value o go)
  operand_keeps m under mid to exits (Gives v w) go g k = carries_on m mid to (v ∷ under) w exits (go v w) g (k v w g.cells g.holds g.reserved g.left)
  operand_keeps m under mid to exits (Breaks f w) go g k = g

  -- a value above operands, and what is done with it
  pub operand_carries : (m : MachineState) (under : Row) (mid to : ℕ) (exits : ExitPoints) (o : ExpressionEnd) (go : Value → RunState → StatementOutcome) → EvaluatesTo code p kept m mid under o
      → ((v : Value) (w : RunState) (cells : Cells) → HoldState p w cells → w.progress.left ≤ m.progress.left → CarriesOut code p kept (behind m mid (v ∷ under) cells w) to exits (go v w))
      → CarriesOut code p kept m to exits (then_value o go)
  operand_carries m under mid to exits o go g k = operand_keeps m under mid to exits o go g (λ v w cells h r l. k v w cells h l)

  -- a value, and what is done with it
  pub value_carries : (m : MachineState) (mid to : ℕ) (exits : ExitPoints) (o : ExpressionEnd) (go : Value → RunState → StatementOutcome) → EvaluatesTo code p kept m mid [] o
      → ((v : Value) (w : RunState) (cells : Cells) → HoldState p w cells → w.progress.left ≤ m.progress.left → CarriesOut code p kept (behind m mid (v ∷ []) cells w) to exits (go v w))
      → CarriesOut code p kept m to exits (then_value o go)
  value_carries m mid to exits o go g k = operand_carries m [] mid to exits o go g k

  -- one statement after another
  pub statement_carries : (m : MachineState) (mid to : ℕ) (exits : ExitPoints) (o : StatementOutcome) (go : RunState → StatementOutcome) → CarriesOut code p kept m mid exits o
      → ((w : RunState) (cells : Cells) → HoldState p w cells → CarriesOut code p kept (behind m mid [] cells w) to exits (go w))
      → CarriesOut code p kept m to exits (then_statement o go)
  statement_carries m mid to exits (Proceeds w) go g k = carries_on m mid to [] w exits (go w) g (k w g.cells g.holds)
  statement_carries m mid to exits (Leaves w) go g k = g
  statement_carries m mid to exits (Continues w) go g k = g
  statement_carries m mid to exits (Returns v w) go g k = g
  statement_carries m mid to exits (Faults f w) go g k = g

  -- a jump behind a statement
  pub jump_carries : (m : MachineState) (mid to : ℕ) (exits : ExitPoints) (o : StatementOutcome) → slice_get code.instrs mid ≡ Some (Jump to)
      → CarriesOut code p kept m mid exits o → CarriesOut code p kept m to exits o
  jump_carries m mid to exits (Proceeds w) here g =
      comes_on code p kept m mid to [] [] w w g (jumps_by code p kept (Jump to) mid to [] [] g.cells m.frames w w here refl g.holds (at_most w.progress.left))
  jump_carries m mid to exits (Leaves w) here g = g
  jump_carries m mid to exits (Continues w) here g = g
  jump_carries m mid to exits (Returns v w) here g = g
  jump_carries m mid to exits (Faults f w) here g = g

  -- a round of a loop, whose body comes to where the next round begins, and what follows
  pub round_keeps : (m : MachineState) (again to : ℕ) (exits : ExitPoints) (o : StatementOutcome) (go : RunState → StatementOutcome) → CarriesOut code p kept m again (inside to again exits) o
      → ((w : RunState) (cells : Cells) → HoldState p w cells → LeaveReserved p kept (kept_on m.desk) cells → w.progress.left ≤ m.progress.left → CarriesOut code p kept (behind m again [] cells w) to exits (go w))
      → CarriesOut code p kept m to exits (then_round o go)
  round_keeps m again to exits (Proceeds w) go g k = carries_on m again to [] w exits (go w) g (k w g.cells g.holds g.reserved g.left)
  round_keeps m again to exits (Leaves w) go g k = g
  round_keeps m again to exits (Continues w) go g k = carries_on m again to [] w exits (go w) g (k w g.cells g.holds g.reserved g.left)
  round_keeps m again to exits (Returns v w) go g k = g
  round_keeps m again to exits (Faults f w) go g k = g

  pub round_carries : (m : MachineState) (again to : ℕ) (exits : ExitPoints) (o : StatementOutcome) (go : RunState → StatementOutcome) → CarriesOut code p kept m again (inside to again exits) o
      → ((w : RunState) (cells : Cells) → HoldState p w cells → w.progress.left ≤ m.progress.left → CarriesOut code p kept (behind m again [] cells w) to exits (go w))
      → CarriesOut code p kept m to exits (then_round o go)
  round_carries m again to exits o go g k = round_keeps m again to exits o go g (λ w cells h r l. k w cells h l)

  module _ (frames : List CallFrame) where
    -- ---- a step

    step_carries : (n at to : ℕ) (place : Place) (cells : Cells) (w : RunState) (exits : ExitPoints) (go : RunState → StatementOutcome) → n ≡ w.progress.left
        → slice_get code.instrs at ≡ Some (Tick place) → perform code (kind_of (Tick place)) (idle frames at cells w) ≡ on_step n place (idle frames at cells w) → HoldState p w cells
        → ((u : RunState) (d : Cells) → suc u.progress.left ≡ n → HoldState p u d → LeaveReserved p kept cells d → CarriesOut code p kept (idle frames (at + 1) d u) to exits (go u))
        → CarriesOut code p kept (idle frames at cells w) to exits (step_finding n place w go)
    step_carries zero at to place cells w exits go e here does holds k =
        last code (Tick place) (idle frames at cells w) (Broken BudgetSpent (without_step place w.progress)) here does
    step_carries (suc n) at to place cells w exits go e here does holds k =
        let u : RunState = with_progress (with_step place n w.progress) w in
        let less : n ≤ w.progress.left = omega arith in
        let c = comes_by code p kept (Tick place) at (at + 1) [] [] cells frames w u here refl does holds less in
        carries_on (idle frames at cells w) (at + 1) to [] u exits (go u) c (k u c.cells refl c.holds c.reserved)

    pub begin_keeps : (at to : ℕ) (place : Place) (cells : Cells) (w : RunState) (exits : ExitPoints) (go : RunState → StatementOutcome)
        → slice_get code.instrs at ≡ Some (Tick place) → HoldState p w cells
        → ((u : RunState) (d : Cells) → suc u.progress.left ≡ w.progress.left → HoldState p u d → LeaveReserved p kept cells d → CarriesOut code p kept (idle frames (at + 1) d u) to exits (go u))
        → CarriesOut code p kept (idle frames at cells w) to exits (begin_step place w go)
    begin_keeps at to place cells w exits go here holds k = step_carries w.progress.left at to place cells w exits go refl here refl holds k

    pub begin_carries : (at to : ℕ) (place : Place) (cells : Cells) (w : RunState) (exits : ExitPoints) (go : RunState → StatementOutcome)
        → slice_get code.instrs at ≡ Some (Tick place) → HoldState p w cells
        → ((u : RunState) (d : Cells) → suc u.progress.left ≡ w.progress.left → HoldState p u d → CarriesOut code p kept (idle frames (at + 1) d u) to exits (go u))
        → CarriesOut code p kept (idle frames at cells w) to exits (begin_step place w go)
    begin_carries at to place cells w exits go here holds k = begin_keeps at to place cells w exits go here holds (λ u d e h r. k u d e h)

    -- a step where the budget is spent
    pub fails_carries : (at to : ℕ) (place : Place) (cells : Cells) (w : RunState) (exits : ExitPoints) → slice_get code.instrs at ≡ Some (Tick place) → HoldState p w cells → w.progress.left ≤ 0
        → CarriesOut code p kept (idle frames at cells w) to exits (step_fails place w)
    fails_carries at to place cells w exits here holds spent =
        let none : w.progress.left ≡ zero = omega arith in
        subst (λ n. CarriesOut code p kept (idle frames at cells w) to exits (step_finding n place w Proceeds)) none
        (begin_carries at to place cells w exits Proceeds here holds (λ u d e h. absurd (omega arith)))

    -- ---- a test

    -- what a state is behind a test
    abbrev pub After : Bool → Cells → RunState → ℕ → ℕ → ExitPoints → (RunState → StatementOutcome) → Type 0
    After b before w at to exits go =
        (d : Cells) → HoldState p (noting (Tested b) w) d → LeaveReserved p kept before d → CarriesOut code p kept (idle frames at d (noting (Tested b) w)) to exits (go (noting (Tested b) w))

    -- a test that jumps where it does not hold
    pub branch_keeps : (b : Bool) (at target to : ℕ) (v : Value) (cells : Cells) (w : RunState) (exits : ExitPoints) (on off : RunState → StatementOutcome)
        → slice_get code.instrs at ≡ Some (JFalse target) → is_true v ≡ b → HoldState p w cells → After true cells w (at + 1) to exits on → After false cells w target to exits off
        → CarriesOut code p kept (machine_at at (desk_of (v ∷ []) cells) frames w.progress) to exits (after_test b w on off)
    branch_keeps true at target to v cells w exits on off here is holds k l =
        let m = machine_at at (desk_of (v ∷ []) cells) frames w.progress in
        let u : RunState = noting (Tested true) w in
        let c = comes_by code p kept (JFalse target) at (at + 1) (v ∷ []) [] cells frames w u here refl (ap (λ b. on_outcome false b target [] m) is) holds (at_most w.progress.left) in
        carries_on m (at + 1) to [] u exits (on u) c (k c.cells c.holds c.reserved)
    branch_keeps false at target to v cells w exits on off here is holds k l =
        let m = machine_at at (desk_of (v ∷ []) cells) frames w.progress in
        let u : RunState = noting (Tested false) w in
        let c = jumps_by code p kept (JFalse target) at target (v ∷ []) [] cells frames w u here (ap (λ b. on_outcome false b target [] m) is) holds (at_most w.progress.left) in
        carries_on m target to [] u exits (off u) c (l c.cells c.holds c.reserved)

    -- a test that jumps where it holds
    pub leap_keeps : (b : Bool) (at target to : ℕ) (v : Value) (cells : Cells) (w : RunState) (exits : ExitPoints) (on off : RunState → StatementOutcome)
        → slice_get code.instrs at ≡ Some (JTrue target) → is_true v ≡ b → HoldState p w cells → After true cells w target to exits on → After false cells w (at + 1) to exits off
        → CarriesOut code p kept (machine_at at (desk_of (v ∷ []) cells) frames w.progress) to exits (after_test b w on off)
    leap_keeps true at target to v cells w exits on off here is holds k l =
        let m = machine_at at (desk_of (v ∷ []) cells) frames w.progress in
        let u : RunState = noting (Tested true) w in
        let c = jumps_by code p kept (JTrue target) at target (v ∷ []) [] cells frames w u here (ap (λ b. on_outcome true b target [] m) is) holds (at_most w.progress.left) in
        carries_on m target to [] u exits (on u) c (k c.cells c.holds c.reserved)
    leap_keeps false at target to v cells w exits on off here is holds k l =
        let m = machine_at at (desk_of (v ∷ []) cells) frames w.progress in
        let u : RunState = noting (Tested false) w in
        let c = comes_by code p kept (JTrue target) at (at + 1) (v ∷ []) [] cells frames w u here refl (ap (λ b. on_outcome true b target [] m) is) holds (at_most w.progress.left) in
        carries_on m (at + 1) to [] u exits (off u) c (l c.cells c.holds c.reserved)

    pub branch_carries : (b : Bool) (at target to : ℕ) (v : Value) (cells : Cells) (w : RunState) (exits : ExitPoints) (on off : RunState → StatementOutcome)
        → slice_get code.instrs at ≡ Some (JFalse target) → is_true v ≡ b → HoldState p w cells
        → ((u : RunState) (d : Cells) → HoldState p u d → u.progress.left ≤ w.progress.left → CarriesOut code p kept (idle frames (at + 1) d u) to exits (on u))
        → ((u : RunState) (d : Cells) → HoldState p u d → u.progress.left ≤ w.progress.left → CarriesOut code p kept (idle frames target d u) to exits (off u))
        → CarriesOut code p kept (machine_at at (desk_of (v ∷ []) cells) frames w.progress) to exits (after_test b w on off)
    branch_carries b at target to v cells w exits on off here is holds k l =
        branch_keeps b at target to v cells w exits on off here is holds (λ d h r. k (noting (Tested true) w) d h (at_most w.progress.left)) (λ d h r. l (noting (Tested false) w) d h (at_most w.progress.left))

    pub leap_carries : (b : Bool) (at target to : ℕ) (v : Value) (cells : Cells) (w : RunState) (exits : ExitPoints) (on off : RunState → StatementOutcome)
        → slice_get code.instrs at ≡ Some (JTrue target) → is_true v ≡ b → HoldState p w cells
        → ((u : RunState) (d : Cells) → HoldState p u d → u.progress.left ≤ w.progress.left → CarriesOut code p kept (idle frames target d u) to exits (on u))
        → ((u : RunState) (d : Cells) → HoldState p u d → u.progress.left ≤ w.progress.left → CarriesOut code p kept (idle frames (at + 1) d u) to exits (off u))
        → CarriesOut code p kept (machine_at at (desk_of (v ∷ []) cells) frames w.progress) to exits (after_test b w on off)
    leap_carries b at target to v cells w exits on off here is holds k l =
        leap_keeps b at target to v cells w exits on off here is holds (λ d h r. k (noting (Tested true) w) d h (at_most w.progress.left)) (λ d h r. l (noting (Tested false) w) d h (at_most w.progress.left))

    -- a `select` of which no part applies
    pub none_carries : (at to : ℕ) (cells : Cells) (w : RunState) (exits : ExitPoints) → slice_get code.instrs at ≡ Some NoWhen → CarriesOut code p kept (idle frames at cells w) to exits (raises NoWhenFault w)
    none_carries at to cells w exits here = last code NoWhen (idle frames at cells w) (Broken NoWhenFault (with_failure w.progress)) here refl

    -- ---- a value is dropped or stored

    pub drop_comes : (at to : ℕ) (v : Value) (cells : Cells) (w : RunState) → at + 1 ≡ to → slice_get code.instrs at ≡ Some DropTop → HoldState p w cells
        → ComesTo code p kept (machine_at at (desk_of (v ∷ []) cells) frames w.progress) to [] w
    drop_comes at to v cells w e here holds = comes_by code p kept DropTop at to (v ∷ []) [] cells frames w w here e refl holds (at_most w.progress.left)

    stored_comes : (i : Instr) (c : CodeCell) (at to : ℕ) (v : Value) (under : Row) (cells : Cells) (w u : RunState) → at + 1 ≡ to → slice_get code.instrs at ≡ Some i
        → perform code (kind_of i) (machine_at at (desk_of (v ∷ under) cells) frames w.progress) ≡ GoesOn (machine_at (at + 1) (desk_of under (with_cell c v cells)) frames u.progress)
        → HoldState p u (with_cell c v cells) → ((k : CodeCell) → p.is_reserved kept k ≡ true → IsSameCell k cells (with_cell c v cells)) → w.progress ≡ u.progress
        → ComesTo code p kept (machine_at at (desk_of (v ∷ under) cells) frames w.progress) to under u
    stored_comes i c at to v under cells w u e here goes holds reserved same =
        let equal : u.progress.left ≡ w.progress.left = ap (λ (q : Progress). q.left) (sym same) in
        let less : u.progress.left ≤ w.progress.left = omega arith in
        record {
          cells = with_cell c v cells;
          holds = holds;
          reserved = reserved;
          left = less;
          leads = subst (λ n. LeadsOnTo code (machine_at at (desk_of (v ∷ under) cells) frames w.progress) (machine_at n (desk_of under (with_cell c v cells)) frames u.progress)) e
              (one code i (machine_at at (desk_of (v ∷ under) cells) frames w.progress) (machine_at (at + 1) (desk_of under (with_cell c v cells)) frames u.progress) here goes);
        }

    cell_comes : (c : CodeCell) (at to : ℕ) (v : Value) (under : Row) (cells : Cells) (w u : RunState) → at + 1 ≡ to → IsValueCell c → slice_get code.instrs at ≡ Some (store_instr (Some c))
        → HoldState p u (with_cell c v cells) → ((k : CodeCell) → p.is_reserved kept k ≡ true → IsSameCell k cells (with_cell c v cells)) → w.progress ≡ u.progress
        → ComesTo code p kept (machine_at at (desk_of (v ∷ under) cells) frames w.progress) to under u
    cell_comes (SlotCell n) at to v under cells w u e is here holds reserved same =
        stored_comes (GStore n) (SlotCell n) at to v under cells w u e here (ap (λ (q : Progress). GoesOn (machine_at (at + 1) (desk_of under (with_cell (SlotCell n) v cells)) frames q)) same) holds reserved same
    cell_comes (LocalCell n) at to v under cells w u e is here holds reserved same =
        stored_comes (LStore n) (LocalCell n) at to v under cells w u e here (ap (λ (q : Progress). GoesOn (machine_at (at + 1) (desk_of under (with_cell (LocalCell n) v cells)) frames q)) same) holds reserved same
    cell_comes (HashCell n) at to v under cells w u e is here holds reserved same = absurd is
    cell_comes (IteratorCell n) at to v under cells w u e is here holds reserved same = absurd is
    cell_comes (ParameterCell n) at to v under cells w u e is here holds reserved same = absurd is

    -- above other operands
    pub store_above : IsPlacement p → (home : Home) (r : Reference) (c : CodeCell) (at to : ℕ) (v : Value) (under : Row) (cells : Cells) (w : RunState) → at + 1 ≡ to → p.cell (nameable_of home r) ≡ Some c → IsValueCell c
        → slice_get code.instrs at ≡ Some (store_instr (p.cell (nameable_of home r))) → HoldState p w cells
        → ComesTo code p kept (machine_at at (desk_of (v ∷ under) cells) frames w.progress) to under (store home r v w)
    store_above sound home r c at to v under cells w e placed is here holds =
        cell_comes c at to v under cells w (store home r v w) e is (here ∙ ap (λ o. Some (store_instr o)) placed) (holds_stored p sound home r v w c cells placed holds) (reserved_stored p sound home r v w c cells placed holds kept)
        (store_progress home r v w)

    pub store_comes : IsPlacement p → (home : Home) (r : Reference) (c : CodeCell) (at to : ℕ) (v : Value) (cells : Cells) (w : RunState) → at + 1 ≡ to → p.cell (nameable_of home r) ≡ Some c → IsValueCell c
        → slice_get code.instrs at ≡ Some (store_instr (p.cell (nameable_of home r))) → HoldState p w cells
        → ComesTo code p kept (machine_at at (desk_of (v ∷ []) cells) frames w.progress) to [] (store home r v w)
    store_comes sound home r c at to v cells w e placed is here holds = store_above sound home r c at to v [] cells w e placed is here holds

    -- a parameter of an instance of a thread program gets a value
    parameter_comes : IsPlacement p → (spot : Location) (n at to : ℕ) (v : Value) (cells : Cells) (w : RunState) → at + 1 ≡ to → p.cell (GlobalAt spot) ≡ Some (ParameterCell n)
        → slice_get code.instrs at ≡ Some (SetParm n) → HoldState p w cells
        → ComesTo code p kept (machine_at at (desk_of (v ∷ []) cells) frames w.progress) to [] (keep_at spot (Holds v) w)
    parameter_comes sound spot n at to v cells w e placed here holds =
        stored_comes (SetParm n) (ParameterCell n) at to v [] cells w (keep_at spot (Holds v) w) e here refl (holds_put p sound spot (Holds v) w (ParameterCell n) cells placed holds)
        (reserved_put p sound spot (Holds v) w (ParameterCell n) cells placed holds kept) refl

    parameter_drops : (spot : Location) (at to : ℕ) (v : Value) (cells : Cells) (w : RunState) → at + 1 ≡ to → p.cell (GlobalAt spot) ≡ None → slice_get code.instrs at ≡ Some DropTop → HoldState p w cells
        → ComesTo code p kept (machine_at at (desk_of (v ∷ []) cells) frames w.progress) to [] (keep_at spot (Holds v) w)
    parameter_drops spot at to v cells w e nowhere here holds =
        comes_by code p kept DropTop at to (v ∷ []) [] cells frames w (keep_at spot (Holds v) w) here e refl (holds_unplaced p spot (Holds v) w cells nowhere holds) (at_most w.progress.left)

    pub parameter_set : IsPlacement p → (spot : Location) (o : Option CodeCell) (at to : ℕ) (v : Value) (cells : Cells) (w : RunState) → at + 1 ≡ to → p.cell (GlobalAt spot) ≡ o → IsParameterCell o
        → slice_get code.instrs at ≡ Some (store_instr (p.cell (GlobalAt spot))) → HoldState p w cells
        → ComesTo code p kept (machine_at at (desk_of (v ∷ []) cells) frames w.progress) to [] (keep_at spot (Holds v) w)
    parameter_set sound spot None at to v cells w e placed is here holds = parameter_drops spot at to v cells w e placed (here ∙ ap (λ o. Some (store_instr o)) placed) holds
    parameter_set sound spot (Some (ParameterCell n)) at to v cells w e placed is here holds = parameter_comes sound spot n at to v cells w e placed (here ∙ ap (λ o. Some (store_instr o)) placed) holds
    parameter_set sound spot (Some (SlotCell n)) at to v cells w e placed is here holds = absurd is
    parameter_set sound spot (Some (LocalCell n)) at to v cells w e placed is here holds = absurd is
    parameter_set sound spot (Some (HashCell n)) at to v cells w e placed is here holds = absurd is
    parameter_set sound spot (Some (IteratorCell n)) at to v cells w e placed is here holds = absurd is

    -- ---- a value is kept

    kept_leads : (c : CodeCell) (at : ℕ) (v : Value) (under : Row) (cells : Cells) (w : RunState) → IsValueCell c → slice_get code.instrs at ≡ Some (store_instr (Some c))
        → LeadsOnTo code (machine_at at (desk_of (v ∷ under) cells) frames w.progress) (machine_at (at + 1) (desk_of under (with_cell c v cells)) frames w.progress)
    kept_leads (SlotCell n) at v under cells w is here =
        one code (GStore n) (machine_at at (desk_of (v ∷ under) cells) frames w.progress) (machine_at (at + 1) (desk_of under (with_cell (SlotCell n) v cells)) frames w.progress) here refl
    kept_leads (LocalCell n) at v under cells w is here =
        one code (LStore n) (machine_at at (desk_of (v ∷ under) cells) frames w.progress) (machine_at (at + 1) (desk_of under (with_cell (LocalCell n) v cells)) frames w.progress) here refl
    kept_leads (HashCell n) at v under cells w is here = absurd is
    kept_leads (IteratorCell n) at v under cells w is here = absurd is
    kept_leads (ParameterCell n) at v under cells w is here = absurd is

    pub keep_comes : IsPlacement p → (n at : ℕ) (v : Value) (under : Row) (cells : Cells) (w : RunState) → n < p.kept_count → kept ≤ n → slice_get code.instrs at ≡ Some (store_instr (Some (p.kept_cell n)))
        → HoldState p w cells → (c : ComesTo code p kept (machine_at at (desk_of (v ∷ under) cells) frames w.progress) (at + 1) under w) × KeptIs p n v c.cells
    keep_comes sound n at v under cells w less least here holds = (
      record {
        cells = with_cell (p.kept_cell n) v cells;
        holds = holds_kept p sound n less v cells w holds;
        reserved = reserved_kept p sound n less v cells kept least;
        left = at_most w.progress.left;
        leads = kept_leads (p.kept_cell n) at v under cells w (sound.values n less) here;
      },
      value_kept p sound n less v cells holds.1,
    )
