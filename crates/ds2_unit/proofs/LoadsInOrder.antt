-- The loop over the loads of a program.
use Rattle.std.proofs.Common.{◌≡◌, ℕ, suc, ◌+◌, ◌<◌, Bool, false, true, List, [], ◌∷◌, length, refl, sym, ap, ◌∙◌, subst, arith}
use Rattle.std.specs.List.{AllByRecursion}
use Rattle.ds2_value.specs.Run.{Written}
use Rattle.ds2_table.specs.OneThread.{run_all}
use Rattle.ds2_value.specs.declared.fault.Ending.TheVariants.{Normal}
use Rattle.ds2_code.specs.declared.parts.ProgramParts.{ProgramParts}
use Rattle.ds2_code.specs.declared.parts.Slot.{Slot}
use Rattle.ds2_code.specs.declared.parts.StagedParts.{StagedParts}
use Rattle.ds2_code.specs.CodeUnit.{code_run}
use Rattle.ds2_code.specs.Desk.{SlotSettings}
use Rattle.ds2_code.specs.Scales.{AreSettingsScaled, IsDataScaled}
use Rattle.ds2_machine.specs.AtRest.{MachineAtRest, IsUnitEnd, is_early, staged_program}
use Rattle.ds2_machine.specs.declared.unit_end.UnitEnd.{UnitEnd}
use Rattle.ds2_code_answer.specs.CodeAnswer.{code_units}
use Rattle.ds2_loads.specs.Sources.{IsNextLoad}
use Rattle.ds2_unit.specs.UnitsRun.{HasRunLoads}
use Rattle.ds2_unit.specs.declared.units_end.UnitsEnd.{UnitsEnd}
use Rattle.ds2_unit.proofs.UnitsInOrder.{LoadsLead, lead_at_first, lead_on, halted, all_run}

-- ---- one load

pub next_is : (b : Bool) (before : List SlotSettings) (load : SlotSettings) (after : List SlotSettings) → b ≡ true → IsNextLoad b before load after → before ≡ load ∷ after
next_is true before load after e h = h
next_is false before load after e h = absurd cc

pub none_is : (b : Bool) (before : List SlotSettings) (load : SlotSettings) (after : List SlotSettings) → b ≡ false → IsNextLoad b before load after → before ≡ []
none_is true before load after e h = absurd cc
none_is false before load after e h = h

pub first_scaled : (slots : List Slot) (before : List SlotSettings) (load : SlotSettings) (left : List SlotSettings) → AllByRecursion (AreSettingsScaled slots) before → before ≡ load ∷ left → AreSettingsScaled slots load
first_scaled slots before load left h is =
    let P : List SlotSettings → Type 0 = λ xs. AllByRecursion (AreSettingsScaled slots) xs in
    let both = subst P is h in both.0

pub fewer_left : (before : List SlotSettings) (load : SlotSettings) (left : List SlotSettings) → before ≡ load ∷ left → length left < length before
fewer_left before load left is = let one : length before ≡ suc (length left) = ap length is in omega (arith, one)

-- ---- the loop

-- between two loads: the machine is ready for the next one, its data and the loads that are left are scaled, and whatever comes of those
-- comes of all of them
pub record IsOnLoads {S : Type 0} (has_taken : S → S → List Written → List (List ℕ) → Type 0) (parts : StagedParts) (budget : ℕ) (first now : S) (executed : ℕ) (all left : List SlotSettings) (begun m : MachineAtRest) : Type 0 where
  pub ready : m.spent ≡ false
  pub scaled : IsDataScaled (staged_program parts m.program) m.state
  pub program : m.program ≡ begun.program
  pub loads : AllByRecursion (AreSettingsScaled (staged_program parts m.program).slots) left
  pub leads : LoadsLead has_taken (staged_program parts begun.program) budget first now executed all left begun.state m.state

module _ {S : Type 0} (has_taken : S → S → List Written → List (List ℕ) → Type 0) (parts : StagedParts) (budget : ℕ) where
  pub on_first : (s : S) (executed : ℕ) (all : List SlotSettings) (m : MachineAtRest) → executed ≡ 0 → m.spent ≡ false → IsDataScaled (staged_program parts m.program) m.state
      → AllByRecursion (AreSettingsScaled (staged_program parts m.program).slots) all → IsOnLoads has_taken parts budget s s executed all all m m
  on_first s executed all m none ready scaled loads = record {
    ready = ready;
    scaled = scaled;
    program = refl;
    loads = loads;
    leads = lead_at_first has_taken (staged_program parts m.program) budget s executed all m.state none;
  }

  module _ (first now next : S) (executed : ℕ) (all before left : List SlotSettings) (load : SlotSettings) (begun m u : MachineAtRest) (unit : UnitEnd)
      (so_far : IsOnLoads has_taken parts budget first now executed all before begun m) (is : before ≡ load ∷ left)
      (ran : IsUnitEnd has_taken now next (code_run (staged_program parts m.program) budget load m.state) unit u.state) (spent : u.spent ≡ is_early unit.ending) where
    same_program : staged_program parts m.program ≡ staged_program parts begun.program
    same_program = ap (staged_program parts) so_far.program

    as_begun : IsUnitEnd has_taken now next (code_run (staged_program parts begun.program) budget load m.state) unit u.state
    as_begun =
        let P : ProgramParts → Type 0 = λ p. IsUnitEnd has_taken now next (code_run p budget load m.state) unit u.state in
        subst P same_program ran

    pub on_next : (sum : ℕ) → sum ≡ executed + unit.executed → u.spent ≡ false → (u.spent ≡ false → IsDataScaled (staged_program parts u.program) u.state) → u.program ≡ m.program
        → IsOnLoads has_taken parts budget first next sum all left begun u
    on_next sum counts ready scaled program =
        let P : List SlotSettings → Type 0 = λ xs. AllByRecursion (AreSettingsScaled (staged_program parts m.program).slots) xs in
        let Q : ℕ → Type 0 = λ n. AllByRecursion (AreSettingsScaled (staged_program parts n).slots) left in
        let both = subst P is so_far.loads in
        record {
          ready = ready;
          scaled = scaled ready;
          program = program ∙ so_far.program;
          loads = subst Q (sym program) both.1;
          leads = lead_on has_taken (staged_program parts begun.program) budget first now next executed all before left load begun.state m u unit so_far.leads is as_begun sum (sym spent ∙ ready) counts;
        }

    pub stops_here : (end : UnitsEnd) → u.spent ≡ true → end.ending ≡ unit.ending → end.executed ≡ executed + unit.executed
        → HasRunLoads has_taken first next (run_all (code_units (staged_program parts begun.program) budget) all begun.state) end u
    stops_here end early ending counts =
        halted has_taken (staged_program parts begun.program) budget first now next executed all before left load begun.state m u unit so_far.leads is as_begun end (sym spent ∙ early) early ending counts

  pub all_on : (first now : S) (executed : ℕ) (all left : List SlotSettings) (begun m : MachineAtRest) (end : UnitsEnd) → IsOnLoads has_taken parts budget first now executed all left begun m
      → left ≡ [] → end.ending ≡ Normal → end.executed ≡ executed → HasRunLoads has_taken first now (run_all (code_units (staged_program parts begun.program) budget) all begun.state) end m
  all_on first now executed all left begun m end so_far none ending counts =
      all_run has_taken (staged_program parts begun.program) budget first now executed all left begun.state m end so_far.leads none so_far.ready ending counts
