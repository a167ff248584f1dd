-- When the code of a thread program is group independent at a grain: its groups there give the same, the executed instructions among it,
-- from any data that hold what may have been kept.
use Rattle.std.specs.Prelude.{◌≡◌, ℕ, List}
use Rattle.ds2_value.specs.Progress.{Progress}
use Rattle.ds2_table.specs.OneThread.{Units}
use Rattle.ds2_schedule.specs.Groups.{UnitRun, Normally, ByFault, StageUnits, run_loads, IsSameEnd, AreSameButEarly}
use Rattle.ds2_schedule.specs.Schedule.{Agree}
use Rattle.ds2_meaning.specs.IsTyped.{IsTypedUnit}
use Rattle.ds2_meaning.specs.Location.{Storage}
use Rattle.ds2_meaning.specs.ProgramTree.{UnitTree}
use Rattle.ds2_code.specs.CodeUnit.{code_init, code_run, code_term}
use Rattle.ds2_code.specs.Desk.{ProgramData}
use Rattle.ds2_program_code.specs.LoadSettings.{slot_settings}
use Rattle.ds2_program_code.specs.ProgramCode.{program_code}
use Rattle.ds2_program_code.specs.ProgramRuns.{HoldsProgram}
use Rattle.ds2_locality.specs.declared.locality.Verdict.TheVariants.{Local}
use Rattle.ds2_locality.specs.Independence.{UnitsGave, units_of_stage, LocatedLoad, settings_at, IsGroupOfReading, fixed_locations}
use Rattle.ds2_locality.specs.KeptLocations.{is_flag_before}
use Rattle.ds2_locality.specs.Soundness.{ObjectsTold}
use Rattle.ds2_locality.specs.Verdict.{JudgedThread, verdict_of}

-- of the course of a unit of code it is seen how many instructions it executed
abbrev pub seen_count : Progress → ℕ → ℕ
seen_count unit executed = executed

-- the units of a program's code on loads by their locations
abbrev pub coded_units : UnitTree → ℕ → Units LocatedLoad ProgramData
coded_units p budget = record {
  init = code_init (program_code p) budget;
  run = λ load state. code_run (program_code p) budget (slot_settings p (settings_at load)) state;
  term = code_term (program_code p) budget;
}

-- the code of a thread program as units of a stage
abbrev pub coded_stage : UnitTree → StageUnits ProgramData LocatedLoad (UnitsGave ℕ)
coded_stage p = units_of_stage seen_count (coded_units p)

-- data hold what agrees on the fixed locations with what was kept before
pub record HoldsAgreeing (p : UnitTree) (before : Storage) (state : ProgramData) : Type 0 where
  pub kept : Storage
  pub holds : HoldsProgram p kept state
  pub agrees : Agree (fixed_locations p) kept before

-- two runs of code give the same and end alike: after a normal end each in data that hold what agrees with what was kept before it
abbrev pub AreSameCodeRuns : UnitTree → Storage → Storage → UnitRun ProgramData (UnitsGave ℕ) → UnitRun ProgramData (UnitsGave ℕ) → Type 0
AreSameCodeRuns p kept changed (Normally s o) (Normally t q) = (o ≡ q) × HoldsAgreeing p kept s × HoldsAgreeing p changed t
AreSameCodeRuns p kept changed (ByFault o) (ByFault q) = o ≡ q
AreSameCodeRuns p kept changed _ _ = ⊥

-- the code of a thread program is group independent at a grain: for every budget, two groups at that grain that are equal but for the flags
-- of the BY variables before it give equal rows, lines, endings and numbers of executed instructions from any data that hold what agrees on
-- the fixed locations, and leave these as they were; and so does `term`
pub record IsCodeIndependentAt (p : UnitTree) (grain : ℕ) : Type 0 where
  pub groups : (budget : ℕ) (ls ks : List LocatedLoad) (kept changed : Storage) (state second : ProgramData) → HoldsProgram p kept state → HoldsProgram p changed second
      → IsGroupOfReading p.reading p grain ls → IsGroupOfReading p.reading p grain ks → AreSameButEarly (is_flag_before grain p.reading) ls ks → Agree (fixed_locations p) kept changed
      → AreSameCodeRuns p kept changed (run_loads (coded_stage p) budget ls state) (run_loads (coded_stage p) budget ks second)
  pub terms : (budget : ℕ) (kept changed : Storage) (state second : ProgramData) → HoldsProgram p kept state → HoldsProgram p changed second → Agree (fixed_locations p) kept changed
      → IsSameEnd ((coded_stage p).term budget state) ((coded_stage p).term budget second)

-- the code of a typed thread program that is local at a grain is group independent there
abbrev pub LocalCodeIsIndependent : Type 0
LocalCodeIsIndependent = (t : JudgedThread) → IsTypedUnit t.program → ObjectsTold t → (grain : ℕ) → verdict_of t ≡ Local grain
    → IsCodeIndependentAt t.program grain
