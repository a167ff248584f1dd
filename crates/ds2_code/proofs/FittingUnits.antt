-- A unit of valid code leaves what fits: a run, one instruction after the other.
use Rattle.std.proofs.Common.{◌≡◌, ℕ, zero, suc, ◌+◌, true, false, List, [], ◌∷◌, Option, Some, None, refl, subst, IsTrue}
use Rattle.std.specs.Prelude.{slice_get}
use Rattle.ds2_value.specs.Progress.{has_end}
use Rattle.ds2_code.specs.declared.parts.ProgramParts.{ProgramParts}
use Rattle.ds2_code.specs.CodeRun.{MachineState, EndReached, Broken, Stuck, NextState, GoesOn, Stops, after_instruction, CodeRun, UnderWay, Over, and_one, then_run, run_code}
use Rattle.ds2_code.specs.CodeUnit.{unit_begun, outcome_of_run, most_executed, code_unit, without_cleared}
use Rattle.ds2_code.specs.Desk.{ProgramData, SlotSettings, with_slots, with_slot_settings}
use Rattle.ds2_code.specs.ValidCode.{IsValidProgram, IsValidChain, unit_entries, EndsInTime, ValidCodeEnds}
use Rattle.ds2_code.specs.Fitting.{AreSettingsOfSlots, IsDataOfCode, AreRowsOfOutputs, IsFitting, UnitsBeginFitting, InstructionsKeepTypes, UnitsEndFitting, FaultsLeaveRows, LeavesWhatFits, EndsFitting, ValidCodeLeavesWhatFits}
use Rattle.ds2_code.proofs.FittingLists.{settings_of_types, cleared_of_types}

no_end : IsTrue false → ⊥
no_end h = let e : false ≡ true = h in cc

module _ (begins : UnitsBeginFitting) (keeps : InstructionsKeepTypes) (ends : UnitsEndFitting) (faults : FaultsLeaveRows) (code : ProgramParts) (stage : Option ProgramParts) (room : ℕ) where
  -- a run that has come so far
  abbrev RunFits : CodeRun → Type 0
  RunFits (UnderWay m) = IsFitting code stage room m
  RunFits (Over n (EndReached state p)) = IsDataOfCode code stage room state × AreRowsOfOutputs code p.rows
  RunFits (Over n (Broken fault p)) = AreRowsOfOutputs code p.rows
  RunFits (Over n Stuck) = Unit {0}

  one_more : (s : CodeRun) → RunFits s → RunFits (and_one s)
  one_more (UnderWay m) h = h
  one_more (Over n (EndReached state p)) h = h
  one_more (Over n (Broken fault p)) h = h
  one_more (Over n Stuck) h = h

  then_fits : (n : ℕ) (m : MachineState) (x : NextState) → IsFitting code stage room m → after_instruction code (slice_get code.instrs m.at) m ≡ x
      → ((next : MachineState) → IsFitting code stage room next → RunFits (run_code code n next)) → RunFits (then_run x (run_code code n))
  then_fits n m (GoesOn next) f e ih = one_more (run_code code n next) (ih next (keeps code stage room m next f e))
  then_fits n m (Stops (EndReached state p)) f e ih = ends code stage room m state p f e
  then_fits n m (Stops (Broken fault p)) f e ih = faults code stage room m fault p f e
  then_fits n m (Stops Stuck) f e ih = tt

  run_fits : (n : ℕ) (m : MachineState) → IsFitting code stage room m → RunFits (run_code code n m)
  run_fits zero m f = f
  run_fits (suc n) m f = then_fits n m (after_instruction code (slice_get code.instrs m.at) m) f refl (run_fits n)

  leaves : (s : CodeRun) → RunFits s → IsTrue (has_end (outcome_of_run s)) → LeavesWhatFits code stage room (outcome_of_run s)
  leaves (UnderWay m) f h = no_end h
  leaves (Over n (EndReached state p)) f h = f
  leaves (Over n (Broken fault p)) f h = f
  leaves (Over n Stuck) f h = no_end h

  unit_fits : (k entry budget : ℕ) (state : ProgramData) → IsValidProgram code stage → slice_get (unit_entries code) k ≡ Some entry → IsDataOfCode code stage (most_executed code budget + room) state
      → EndsInTime code budget (code_unit code entry budget state) → EndsFitting code stage budget room (code_unit code entry budget state)
  unit_fits k entry budget state valid is d in_time = record {
    in_time = in_time;
    leaves = leaves (run_code code (most_executed code budget) (unit_begun entry budget state)) (run_fits (most_executed code budget) (unit_begun entry budget state) (begins code stage k entry budget room state valid is d)) in_time.end;
  }

-- each program of a chain is valid beside the next one
pub valid_beside : (code : ProgramParts) (stages : List ProgramParts) → IsValidChain code stages → (k : ℕ) (c : ProgramParts) → slice_get (code ∷ stages) k ≡ Some c → IsValidProgram c (slice_get stages k)
valid_beside code [] v zero c g = let w : code ≡ c = cc in subst (λ z. IsValidProgram z None) w v
valid_beside code [] v (suc k) c g = absurd cc
valid_beside code (s ∷ ss) v zero c g = let w : code ≡ c = cc in subst (λ z. IsValidProgram z (Some s)) w v.0
valid_beside code (s ∷ ss) v (suc k) c g = valid_beside s ss v.1 k c g

loaded_data : (code : ProgramParts) (stage : Option ProgramParts) (room : ℕ) (load : SlotSettings) (state : ProgramData) → AreSettingsOfSlots code.slots load → IsDataOfCode code stage room state
    → IsDataOfCode code stage room (with_slots (with_slot_settings load (without_cleared code.slots state.slots)) state)
loaded_data code stage room load state l d = record {
  slots = settings_of_types code.slots load (without_cleared code.slots state.slots) l (cleared_of_types code.slots state.slots d.slots);
  hashes = d.hashes;
  parameters = d.parameters;
}

pub valid_code_leaves_what_fits : ValidCodeEnds → UnitsBeginFitting → InstructionsKeepTypes → UnitsEndFitting → FaultsLeaveRows → ValidCodeLeavesWhatFits
valid_code_leaves_what_fits law begins keeps ends faults parts k code budget room load state valid here l d =
    let stage = slice_get parts.stages k in
    let program = valid_beside parts.program parts.stages valid.chain k code here in
    let units = law parts k code budget load state valid here in
    let loaded = with_slots (with_slot_settings load (without_cleared code.slots state.slots)) state in
    let ready = loaded_data code stage (most_executed code budget + room) load state l d in
    record {
      init = unit_fits begins keeps ends faults code stage room 0 code.init budget state program refl d units.init;
      run = unit_fits begins keeps ends faults code stage room 1 code.run budget loaded program refl ready units.run;
      term = unit_fits begins keeps ends faults code stage room 2 code.term budget state program refl d units.term;
    }
