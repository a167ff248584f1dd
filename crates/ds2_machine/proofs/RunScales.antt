-- Decimals keep the scales of their types along a run.
use Rattle.std.proofs.Common.{◌≡◌, ℕ, ◌+◌, List, [], ◌∷◌, ◌++◌, Option, Some, None, length, replicate, true, false, refl, sym, ap, ◌∙◌, subst, Result, Ok, Err, IfOk}
use Rattle.std.specs.Prelude.{slice_get}
use Rattle.std.specs.List.{zip}
use Rattle.ds2_base.specs.declared.place.Place.{Place}
use Rattle.ds2_value.specs.Row.{Row}
use Rattle.ds2_value.specs.Run.{Written}
use Rattle.ds2_value.specs.declared.fault.Ending.{Ending}
use Rattle.ds2_value.specs.declared.value.Value.TheVariants.{Null}
use Rattle.ds2_code.specs.declared.instr.Instr.{Instr}
use Rattle.ds2_code.specs.declared.instr.Instr.TheVariants as instr
use Rattle.ds2_code.specs.declared.parts.ProgramParts.{ProgramParts}
use Rattle.ds2_code.specs.declared.parts.Slot.{Slot}
use Rattle.ds2_code.specs.declared.parts.StagedParts.{StagedParts}
use Rattle.ds2_code.specs.CodeRun.{MachineState, perform, after_instruction}
use Rattle.ds2_code.specs.CodeUnit.{unit_begun, opening_data, without_cleared}
use Rattle.ds2_code.specs.Desk.{ProgramData, with_slots, take_off, SlotSettings, with_slot_settings}
use Rattle.ds2_code.specs.InstructionTable.{kind_of}
use Rattle.ds2_code.specs.ValidCode.{unit_entries}
use Rattle.ds2_code.specs.Scales.{AreScaled, AreGivenScaled, AreSettingsScaled, types_of_slots, IsDataScaled, IsScaled, UnitsBeginScaled, InstructionsKeepScales, ProductsHaveScales, UnitsEndScaled, SettingsKeepScales, ClearingKeepsScales, LoadedHashesAreScaled}
use Rattle.ds2_machine.specs.AtRest.{MachineAtRest, staged_program, IsProgramOfValid, IsEndingAt, is_early}
use Rattle.ds2_machine.specs.MachineView.{UnitTold, nothing_told, machine_of_state, data_of_state, progress_of_state, next_of_state, way_of_next, IsStateScaled, IsSunkStep}
use Rattle.ds2_machine.specs.Executable.{HasScalesFor}
use Rattle.ds2_machine.specs.declared.state.Halt.{Halt}
use Rattle.ds2_machine.specs.declared.state.Halt.TheVariants as halt
use Rattle.ds2_machine.specs.declared.state.State.{State}
use Rattle.ds2_machine.proofs.Executable.{valid_in_chain}

pub may_compute : ProductsHaveScales → (code : ProgramParts) (m : MachineState) (i : Instr) → IsScaled code m.at m.desk m.frames → slice_get code.instrs m.at ≡ Some i → HasScalesFor i m.desk.stack
may_compute law code m instr.DMul s here = λ n t number taken.
    let two : n ≡ 2 = cc in law code m t s here (ap (λ k. take_off k [] m.desk.stack) (sym two) ∙ taken)
may_compute law code m (instr.Const a) s here = λ n t number taken. refl
may_compute law code m (instr.Null a) s here = λ n t number taken. refl
may_compute law code m (instr.GLoad a) s here = λ n t number taken. refl
may_compute law code m (instr.GStore a) s here = λ n t number taken. refl
may_compute law code m (instr.LLoad a) s here = λ n t number taken. refl
may_compute law code m (instr.LStore a) s here = λ n t number taken. refl
may_compute law code m instr.DropTop s here = λ n t number taken. refl
may_compute law code m instr.IToD s here = λ n t number taken. refl
may_compute law code m (instr.Rescale a b) s here = λ n t number taken. refl
may_compute law code m (instr.Pad a) s here = λ n t number taken. refl
may_compute law code m (instr.Cut a) s here = λ n t number taken. refl
may_compute law code m instr.IAdd s here = λ n t number taken. refl
may_compute law code m instr.ISub s here = λ n t number taken. refl
may_compute law code m instr.IMul s here = λ n t number taken. refl
may_compute law code m instr.INeg s here = λ n t number taken. refl
may_compute law code m instr.DAdd s here = λ n t number taken. refl
may_compute law code m instr.DSub s here = λ n t number taken. refl
may_compute law code m instr.DDiv s here = λ n t number taken. refl
may_compute law code m instr.DNeg s here = λ n t number taken. refl
may_compute law code m (instr.ICmp a) s here = λ n t number taken. refl
may_compute law code m (instr.DCmp a) s here = λ n t number taken. refl
may_compute law code m (instr.TCmp a) s here = λ n t number taken. refl
may_compute law code m instr.And s here = λ n t number taken. refl
may_compute law code m instr.Or s here = λ n t number taken. refl
may_compute law code m instr.Not s here = λ n t number taken. refl
may_compute law code m instr.ITruth s here = λ n t number taken. refl
may_compute law code m instr.DTruth s here = λ n t number taken. refl
may_compute law code m (instr.Choose a) s here = λ n t number taken. refl
may_compute law code m (instr.Least a) s here = λ n t number taken. refl
may_compute law code m (instr.Greatest a) s here = λ n t number taken. refl
may_compute law code m (instr.Apply f) s here = λ n t number taken. refl
may_compute law code m instr.Cat s here = λ n t number taken. refl
may_compute law code m (instr.Tick a) s here = λ n t number taken. refl
may_compute law code m (instr.Jump a) s here = λ n t number taken. refl
may_compute law code m (instr.JFalse a) s here = λ n t number taken. refl
may_compute law code m (instr.JTrue a) s here = λ n t number taken. refl
may_compute law code m (instr.Call a) s here = λ n t number taken. refl
may_compute law code m instr.Ret s here = λ n t number taken. refl
may_compute law code m instr.RetV s here = λ n t number taken. refl
may_compute law code m instr.NoWhen s here = λ n t number taken. refl
may_compute law code m (instr.Output a) s here = λ n t number taken. refl
may_compute law code m instr.Show s here = λ n t number taken. refl
may_compute law code m (instr.Put a) s here = λ n t number taken. refl
may_compute law code m (instr.HCall a b) s here = λ n t number taken. refl
may_compute law code m (instr.ICall a b) s here = λ n t number taken. refl
may_compute law code m (instr.SetParm a) s here = λ n t number taken. refl
may_compute law code m instr.End s here = λ n t number taken. refl

module _ (code : ProgramParts) {S : Type 0} (has_taken : S → S → List Written → List (List ℕ) → Type 0) (before after : S) (i : Instr) (old new : State) (o : Option Halt) (here : slice_get code.instrs old.at ≡ Some i) (step : IsSunkStep has_taken before after (λ told. perform code (kind_of i) (machine_of_state old told)) new o) (scaled : IsStateScaled code old) where
  abbrev told_then : UnitTold
  told_then = record { way = way_of_next (perform code (kind_of i) (machine_of_state old nothing_told)); rows = [] ++ step.rows; lines = [] ++ step.lines }

  leads : (x : Option Halt) → o ≡ x → after_instruction code (slice_get code.instrs old.at) (machine_of_state old nothing_told) ≡ next_of_state x new told_then
  leads x is = ap (λ z. after_instruction code z (machine_of_state old nothing_told)) here ∙ step.next nothing_told ∙ ap (λ z. next_of_state z new told_then) is

  pub goes_on_scaled : InstructionsKeepScales → o ≡ None → IsStateScaled code new
  goes_on_scaled law is = law code (machine_of_state old nothing_told) (machine_of_state new told_then) scaled (leads None is)

  pub ends_scaled : UnitsEndScaled → (h : Halt) → o ≡ Some h → h ≡ halt.Normal → IsDataScaled code (data_of_state new)
  ends_scaled law h is normal = law code (machine_of_state old nothing_told) (data_of_state new) (progress_of_state new told_then) scaled (leads (Some halt.Normal) (is ∙ ap (λ z. Some z) normal))

pub begun_scaled : UnitsBeginScaled → (code : ProgramParts) → IsProgramOfValid code → (k entry budget : ℕ) (state : ProgramData) (m : MachineState) → slice_get (unit_entries code) k ≡ Some entry → IsDataScaled code state
    → m ≡ unit_begun entry budget state → IsScaled code m.at m.desk m.frames
begun_scaled law code valid k entry budget state m is scaled begins =
    let v = valid_in_chain valid.parts.program valid.parts.stages valid.valid.chain valid.number code valid.here in
    let P : MachineState → Type 0 = λ z. IsScaled code z.at z.desk z.frames in
    subst P (sym begins) (law code v.0 k entry budget state v.1 is scaled)

pub normal_by : (h : Halt) (place : Place) (ending : Ending) → IsEndingAt h place ending → is_early ending ≡ false → h ≡ halt.Normal
normal_by halt.Normal place ending at early = refl
normal_by (halt.Faulted fault) place ending at early = absurd (let no : is_early ending ≡ true = ap is_early at in cc)
normal_by halt.Stuck place ending at early = absurd at

nulls_have_scales : (slots : List Slot) → AreScaled (replicate (length slots) Null) (types_of_slots slots)
nulls_have_scales [] = tt
nulls_have_scales (s ∷ slots) = (refl, nulls_have_scales slots)

given_scaled : (slots : List Slot) (ns : List ℕ) (given : Row) → AreGivenScaled slots ns given → AreSettingsScaled slots (zip ns given)
given_scaled slots [] [] h = tt
given_scaled slots (n ∷ ns) [] h = tt
given_scaled slots [] (v ∷ given) h = tt
given_scaled slots (n ∷ ns) (v ∷ given) h = (h.0, given_scaled slots ns given h.1)

pub opening_scaled : SettingsKeepScales → LoadedHashesAreScaled → (code : ProgramParts) (given : Row) (tables : List (List Row)) (parameters : ℕ) → AreGivenScaled code.slots code.parameters given → IsDataScaled code (opening_data code given tables parameters)
opening_scaled law loaded code given tables parameters h = record {
  slots = law code.slots (zip code.parameters given) (replicate (length code.slots) Null) (given_scaled code.slots code.parameters given h) (nulls_have_scales code.slots);
  hashes = loaded code tables;
}

pub loaded_scaled : SettingsKeepScales → ClearingKeepsScales → (code : ProgramParts) (load : SlotSettings) (state : ProgramData) → AreSettingsScaled code.slots load → IsDataScaled code state → IsDataScaled code (with_slots (with_slot_settings load (without_cleared code.slots state.slots)) state)
loaded_scaled law clearing code load state h s = record {
  slots = law code.slots load (without_cleared code.slots state.slots) h (clearing code.slots state.slots s.slots);
  hashes = s.hashes;
}

pub opened_scaled : {E : Type 0} (r : Result MachineAtRest E) (parts : StagedParts) (state : ProgramData) (number : ℕ) → IsDataScaled (staged_program parts number) state
    → IfOk r (λ machine. machine ≡ record { state = state; spent = false; program = number }) → IfOk r (λ machine. IsDataScaled (staged_program parts machine.program) machine.state)
opened_scaled (Ok machine) parts state number h e = subst (λ (z : MachineAtRest). IsDataScaled (staged_program parts z.program) z.state) (sym e) h
opened_scaled (Err e) parts state number h k = tt
