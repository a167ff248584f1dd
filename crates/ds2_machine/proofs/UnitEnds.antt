-- What a machine tells of the end of a unit.
use Rattle.std.proofs.Common.{◌≡◌, ℕ, ◌+◌, ◌*◌, ◌<◌, ◌≤◌, ◌^◌, Bool, List, [], Result, Ok, Err, IfOk, length, refl, sym, ap, ◌∙◌, subst, arith, true, false}
use Rattle.std.specs.Prelude.{IsTrue}
use Rattle.std.proofs.Math.Nat.{mul-le-mul_left}
use Rattle.ds2_value.specs.Progress.{UnitOutcome, Completed, Interrupted, Strayed, has_end}
use Rattle.ds2_value.specs.Run.{Written}
use Rattle.ds2_code.specs.declared.parts.ProgramParts.{ProgramParts}
use Rattle.ds2_code.specs.CodeBound.{work_left}
use Rattle.ds2_code.specs.CodeLaws.{RunHasOneEnd, UnitsBeginWithLittle, unit_executed}
use Rattle.ds2_code.specs.CodeRun.{MachineState, CodeEnd, Stuck, CodeRun, UnderWay, Over, run_code}
use Rattle.ds2_code.specs.CodeUnit.{unit_begun, outcome_of_run, most_executed, code_unit, without_cleared}
use Rattle.ds2_value.specs.Row.{Row}
use Rattle.ds2_code.specs.declared.parts.Slot.{Slot}
use Rattle.ds2_code.specs.Desk.{ProgramData, SlotSettings, with_slots, with_slot_settings}
use Rattle.ds2_code.specs.ValidCode.{EndsInTime}
use Rattle.ds2_machine.specs.declared.unit_end.UnitEnd.{UnitEnd}
use Rattle.ds2_machine.specs.declared.state.Halt.{Halt}
use Rattle.ds2_machine.specs.declared.state.Halt.TheVariants as halt
use Rattle.ds2_machine.specs.declared.state.State.{State}
use Rattle.ds2_machine.specs.AtRest.{MachineAtRest, IsEndingAt, IsUnitEnd}
use Rattle.ds2_machine.specs.MachineView.{data_of_state, end_of_state, HasRunTo}

-- a run that begins a unit has fewer than 2 ^ 63 instructions before it
pub begun_small : UnitsBeginWithLittle → (code : ProgramParts) (entry budget : ℕ) (state : ProgramData) (m : MachineState) → m ≡ unit_begun entry budget state → length code.instrs < 2 ^ 32 → budget ≤ 1000000000 → work_left code.instrs m < 2 ^ 63
begun_small law code entry budget state m is short few =
    let rest : budget * length code.instrs ≤ budget * 2 ^ 32 = mul-le-mul_left budget (omega arith) in
    let P : MachineState → Type 0 = λ z. work_left code.instrs z < 2 ^ 63 in
    subst P (sym is) (omega (arith, law code entry budget state, rest))

over_same : (n k : ℕ) (e f : CodeEnd) → k ≡ n → f ≡ e → Over k f ≡ Over n e
over_same n k e f p q = cc

module _ (one_end : RunHasOneEnd) (code : ProgramParts) (entry budget : ℕ) (state : ProgramData) (ends : EndsInTime code budget (code_unit code entry budget state)) where
  outcome_by : (n : ℕ) (e : CodeEnd) → run_code code n (unit_begun entry budget state) ≡ Over n e → (s : CodeRun) → run_code code (most_executed code budget) (unit_begun entry budget state) ≡ s → IsTrue (has_end (outcome_of_run s)) → outcome_of_run s ≡ outcome_of_run (Over n e)
  outcome_by n e h (UnderWay m) is end = absurd cc
  outcome_by n e h (Over k f) is end =
      let same = one_end code (most_executed code budget) n k n (unit_begun entry budget state) f e is h in
      ap outcome_of_run (over_same n k e f same.0 same.1)

  outcome_is : (n : ℕ) (e : CodeEnd) → run_code code n (unit_begun entry budget state) ≡ Over n e → code_unit code entry budget state ≡ outcome_of_run (Over n e)
  outcome_is n e h = outcome_by n e h (run_code code (most_executed code budget) (unit_begun entry budget state)) refl ends.end

  module _ {S : Type 0} (has_taken : S → S → List Written → List (List ℕ) → Type 0) (before after : S) (m : MachineState) (begins : m ≡ unit_begun entry budget state) where
    from_begin : (n : ℕ) (h : Halt) (s : State) → HasRunTo has_taken before after code m n h s → HasRunTo has_taken before after code (unit_begun entry budget state) n h s
    from_begin n h s ran = let P : MachineState → Type 0 = λ z. HasRunTo has_taken before after code z n h s in subst P begins ran

    stuck_end : (b : UnitOutcome ProgramData) → b ≡ outcome_of_run (Over 0 Stuck) → IsTrue (has_end b) → ⊥
    stuck_end b is end = let no : has_end b ≡ false = ap has_end is in cc

    pub never_stuck : (n : ℕ) (h : Halt) (s : State) → HasRunTo has_taken before after code m n h s → h ≡ halt.Stuck → ⊥
    never_stuck n h s ran is =
        let r = from_begin n h s ran in
        stuck_end (code_unit code entry budget state) (outcome_is n (end_of_state h s r.told) r.run ∙ ap (λ z. outcome_of_run (Over n (end_of_state z s r.told))) is) ends.end

    told_by : (n : ℕ) (h : Halt) (s : State) (end : UnitEnd) → HasRunTo has_taken before after code (unit_begun entry budget state) n h s → IsEndingAt h s.place end.ending → end.left ≡ s.left → end.executed ≡ n
        → IsUnitEnd has_taken before after (code_unit code entry budget state) end (data_of_state s)
    told_by n halt.Normal s end r at left number =
        let P : UnitOutcome ProgramData → Type 0 = λ z. IsUnitEnd has_taken before after z end (data_of_state s) in
        subst P (sym (outcome_is n (end_of_state halt.Normal s r.told) r.run)) (at, left, number, r.taken, refl)
    told_by n (halt.Faulted fault) s end r at left number =
        let P : UnitOutcome ProgramData → Type 0 = λ z. IsUnitEnd has_taken before after z end (data_of_state s) in
        subst P (sym (outcome_is n (end_of_state (halt.Faulted fault) s r.told) r.run)) (at, left, number, r.taken)
    told_by n halt.Stuck s end r at left number = absurd at

    pub told : (n : ℕ) (h : Halt) (s : State) (end : UnitEnd) → HasRunTo has_taken before after code m n h s → IsEndingAt h s.place end.ending → end.left ≡ s.left → end.executed ≡ n
        → IsUnitEnd has_taken before after (code_unit code entry budget state) end (data_of_state s)
    told n h s end ran at left number = told_by n h s end (from_begin n h s ran) at left number

-- how many instructions a unit executes, as its end tells
executed_by : {S : Type 0} (has_taken : S → S → List Written → List (List ℕ) → Type 0) (before after : S) (outcome : UnitOutcome ProgramData) (end : UnitEnd) (now : ProgramData) → IsUnitEnd has_taken before after outcome end now → end.executed ≡ unit_executed outcome
executed_by has_taken before after (Completed state p n) end now h = h.2
executed_by has_taken before after (Interrupted fault p n) end now h = h.2
executed_by has_taken before after Strayed end now h = absurd h

pub bound : {S E : Type 0} (has_taken : S → S → List Written → List (List ℕ) → Type 0) (before after : S) (code : ProgramParts) (budget : ℕ) (outcome : UnitOutcome ProgramData) (r : Result UnitEnd E) (now : ProgramData) → EndsInTime code budget outcome
    → IfOk r (λ end. IsUnitEnd has_taken before after outcome end now) → IfOk r (λ end. end.executed ≤ (budget + 1) * length code.instrs)
bound has_taken before after code budget outcome (Ok end) now ends h = omega (arith, ends.bound, executed_by has_taken before after outcome end now h)
bound has_taken before after code budget outcome (Err e) now ends h = tt

-- the data behind a load
pub loaded_state : (now : MachineAtRest) (inside : State) (was_spent : Bool) (number : ℕ) (parts : List Slot) (load : SlotSettings) (cleared set : Row) → record { state = data_of_state inside; spent = was_spent; program = number } ≡ now
    → cleared ≡ without_cleared parts inside.slots → set ≡ with_slot_settings load cleared
    → with_slots (with_slot_settings load (without_cleared parts now.state.slots)) now.state ≡ record { slots = set; hashes = inside.objects.hashes; iterators = inside.objects.iterators; parameters = inside.parameters }
loaded_state now inside was_spent number parts load cleared set view is_cleared is_set =
    sym (ap (λ (z : MachineAtRest). with_slots (with_slot_settings load (without_cleared parts z.state.slots)) z.state) view)
    ∙ ap (λ (s : Row). record { slots = s; hashes = inside.objects.hashes; iterators = inside.objects.iterators; parameters = inside.parameters }) (ap (with_slot_settings load) (sym is_cleared) ∙ sym is_set)
