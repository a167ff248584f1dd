-- Programs whose units have ends have endings, and so has valid code.
use Rattle.std.proofs.Common.{◌≡◌, ℕ, zero, suc, Bool, true, false, List, [], ◌∷◌, length, map, drop, Option, Some, None, refl, ap, slice_get}
use Rattle.std.specs.Prelude.{is_some}
use Rattle.ds2_value.specs.Progress.{UnitOutcome, Completed, Interrupted, Strayed, has_end}
use Rattle.ds2_value.specs.Row.{Row}
use Rattle.ds2_value.specs.declared.fault.Ending.{Ending}
use Rattle.ds2_value.specs.declared.fault.Ending.TheVariants.{Normal, Faulted}
use Rattle.ds2_table.specs.OneThread.{Units, Reads, ReadsFrom, Reached, Standing, Halted, Astray, GroupResult, then_loads, run_all, Answer, nothing_left, then_unit, behind_loads, last_unit, run_each, with_groups, stage_rows, after_stage, alone_answer}
use Rattle.ds2_table.specs.Table.{Contents}
use Rattle.ds2_code.specs.declared.parts.ProgramParts.{ProgramParts}
use Rattle.ds2_code.specs.declared.parts.StagedParts.{StagedParts}
use Rattle.ds2_code.specs.Desk.{ProgramData, SlotSettings}
use Rattle.ds2_code.specs.ValidCode.{EndsInTime, HasUnitsThatEnd, IsValidStaged, ValidCodeEnds}
use Rattle.ds2_code_answer.specs.CodeAnswer.{code_units, code_program}
use Rattle.ds2_code_answer.specs.CodeTables.{tables_of_stage}
use Rattle.ds2_code_answer.specs.Endings.{HaveUnitsEnds, HasUnitsWithEnds, HasEndings, UnitsGiveEndings, ValidCodeHasEndings}

-- ---- programs

grouped : (groups : ℕ) (answer : Answer) → HasEndings answer → HasEndings (with_groups groups answer)
grouped groups answer has = record { program = has.program; stages = has.stages }

stage_then : (ending : Option Ending) (stage : Answer) (go : List Row → Answer) → is_some ending ≡ true → HasEndings stage → ((rows : List Row) → HasEndings (go rows))
    → HasEndings (after_stage ending stage go)
stage_then (Some Normal) stage go is has rest = record { program = (rest (stage_rows stage)).program; stages = cc }
stage_then (Some (Faulted fault place)) stage go is has rest = record { program = refl; stages = cc }
stage_then None stage go is has rest = absurd cc

module _ {C : Type 0} where
  -- a program stands somewhere, or has ended by a fault
  abbrev has_come : Reached C → Bool
  has_come (Standing c) = true
  has_come (Halted fault place) = true
  has_come Astray = false

  load_then : (o : UnitOutcome C) (go : C → GroupResult C) → has_end o ≡ true → ((c : C) → has_come (go c).reached ≡ true) → has_come (then_loads o go).reached ≡ true
  load_then (Completed c unit n) go ends rest = rest c
  load_then (Interrupted fault unit n) go ends rest = refl
  load_then Strayed go ends rest = absurd cc

  unit_then : (o : UnitOutcome C) (go : C → Answer) → has_end o ≡ true → ((c : C) → HasEndings (go c)) → HasEndings (then_unit o go)
  unit_then (Completed c unit n) go ends rest = record { program = (rest c).program; stages = (rest c).stages }
  unit_then (Interrupted fault unit n) go ends rest = record { program = refl; stages = refl }
  unit_then Strayed go ends rest = absurd cc

  loads_then : (reached : Reached C) (go : C → Answer) → has_come reached ≡ true → ((c : C) → HasEndings (go c)) → HasEndings (behind_loads reached go)
  loads_then (Standing c) go come rest = rest c
  loads_then (Halted fault place) go come rest = record { program = refl; stages = refl }
  loads_then Astray go come rest = absurd cc

module _ {L C : Type 0} (units : Units L C) (ends : HaveUnitsEnds units) where
  each_load : (loads : List L) (c : C) → has_come (run_all units loads c).reached ≡ true
  each_load [] c = refl
  each_load (l ∷ loads) c = load_then (units.run l c) (run_all units loads) (ends.run l c) (λ d. each_load loads d)

  last_ends : (c : C) → HasEndings (last_unit units c)
  last_ends c = unit_then (units.term c) (λ d. nothing_left (Some Normal)) (ends.term c) (λ d. record { program = refl; stages = refl })

  each_ends : (loads : List L) (c : C) → HasEndings (run_each units loads c)
  each_ends loads c =
      let rest = loads_then (run_all units loads c).reached (last_unit units) (each_load loads c) last_ends in
      record { program = rest.program; stages = rest.stages }

pub units_give_endings : (L C : Type 0) → UnitsGiveEndings L C
units_give_endings L C (Reads units loads groups) c ends =
    grouped groups (then_unit (units.init c) (run_each units loads)) (unit_then (units.init c) (run_each units loads) (ends.init c) (λ d. each_ends units ends loads d))
units_give_endings L C (ReadsFrom units stage opened parameters load) c ends =
    unit_then (units.init c)
    (λ d. let answer = alone_answer stage (opened (parameters d)) in
    after_stage answer.ending answer (λ rows. with_groups (length rows) (run_each units (map load rows) d)))
    (ends.0.init c)
    (λ d. let answer = alone_answer stage (opened (parameters d)) in
    let has = units_give_endings L C stage (opened (parameters d)) ends.1 in
    stage_then answer.ending answer (λ rows. with_groups (length rows) (run_each units (map load rows) d)) has.program has
    (λ rows. grouped (length rows) (run_each units (map load rows) d) (each_ends units ends.0 (map load rows) d)))

-- ---- valid code

-- the first of the programs that are left behind so many, and those behind it
first_left : (all : List ProgramParts) (k : ℕ) (x : ProgramParts) (more : List ProgramParts) → drop k all ≡ x ∷ more → (slice_get all k ≡ Some x) × (drop (suc k) all ≡ more)
first_left [] zero x more left = absurd cc
first_left [] (suc k) x more left = absurd cc
first_left (y ∷ all) zero x more left = (let same : y ≡ x = cc in ap Some same, cc)
first_left (y ∷ all) (suc k) x more left = first_left all k x more left

module _ (law : ValidCodeEnds) (parts : StagedParts) (valid : IsValidStaged parts) (budget grain : ℕ) where
  ends_at : (k : ℕ) (code : ProgramParts) → slice_get (parts.program ∷ parts.stages) k ≡ Some code → HaveUnitsEnds (code_units code budget)
  ends_at k code at = record {
    init = λ state. EndsInTime.end (HasUnitsThatEnd.init (law parts k code budget [] state valid at));
    run = λ load state. EndsInTime.end (HasUnitsThatEnd.run (law parts k code budget load state valid at));
    term = λ state. EndsInTime.end (HasUnitsThatEnd.term (law parts k code budget [] state valid at));
  }

  ends_below : (k : ℕ) (code : ProgramParts) (stages : List ProgramParts) (tables : List Contents) → slice_get (parts.program ∷ parts.stages) k ≡ Some code
      → drop k parts.stages ≡ stages → HasUnitsWithEnds (code_program code stages tables budget grain)
  ends_below k code [] tables at left = ends_at k code at
  ends_below k code (stage ∷ stages) tables at left =
      let next = first_left parts.stages k stage stages left in
      (ends_at k code at, ends_below (suc k) stage stages (tables_of_stage code tables) next.0 next.1)

pub valid_code_has_endings : ValidCodeEnds → ValidCodeHasEndings
valid_code_has_endings law parts k code tables budget grain state valid at =
    units_give_endings SlotSettings ProgramData (code_program code (drop k parts.stages) tables budget grain) state
    (ends_below law parts valid budget grain k code (drop k parts.stages) tables at refl)
