-- Code that is group independent by the fixed locations of its tree is so by what is fixed in the code.
use Rattle.std.proofs.Common.{◌≡◌, ℕ, true, not, ◌&&◌, List, [], ◌∷◌, Option, Some, None, refl, sym, ap, ◌∙◌, subst}
use Rattle.std.specs.List.{AllByRecursion}
use Rattle.ds2_value.specs.Progress.{UnitOutcome, Completed, Interrupted, Strayed}
use Rattle.ds2_value.specs.declared.value.Value.{Value}
use Rattle.ds2_value.specs.declared.value.Value.TheVariants.{Null}
use Rattle.ds2_schedule.specs.Groups.{UnitRun, Normally, ByFault, with_before, then_from, run_loads, IsSameRun}
use Rattle.ds2_schedule.specs.Schedule.{Agree}
use Rattle.ds2_meaning.specs.declared.location.Global.{Global}
use Rattle.ds2_meaning.specs.declared.readings.Reading.{Reading}
use Rattle.ds2_meaning.specs.declared.readings.Reading.TheVariants.{Nothing, Once, Set, Merge, From}
use Rattle.ds2_meaning.specs.Location.{Location, Holds, Items, Position}
use Rattle.ds2_meaning.specs.ProgramMeaning.{is_cleared_at}
use Rattle.ds2_meaning.specs.ProgramTree.{UnitTree}
use Rattle.ds2_meaning.specs.Reading.{Settings}
use Rattle.ds2_code.specs.CodeUnit.{code_run}
use Rattle.ds2_code.specs.Desk.{ProgramData}
use Rattle.ds2_gen.specs.CodeCells.{CodeCell, SlotCell, LocalCell, HashCell, IteratorCell, ParameterCell}
use Rattle.ds2_gen.specs.UnitTheorem.{AreSameSettings}
use Rattle.ds2_program_code.specs.PlacedProgram.{program_cell, first_of_run, system_placement}
use Rattle.ds2_program_code.specs.CodeParts.{slot_of_global}
use Rattle.ds2_program_code.specs.LoadSettings.{slot_settings, LoadsHaveSlots, TypedLoadsHaveSlots}
use Rattle.ds2_program_code.specs.ProgramCode.{program_code}
use Rattle.ds2_locality.specs.Independence.{UnitsGave, unit_ended, LocatedLoad, settings_at, IsGroupOfReading, is_fixed, fixed_locations}
use Rattle.ds2_locality.specs.KeptLocations.{is_column_or_flag, seen_at}
use Rattle.ds2_locality.proofs.Fixed.{group_loads}
use Rattle.ds2_same_meaning.specs.CodeIndependence.{seen_count, coded_stage, AreSameCodeRuns, LocalCodeIsIndependent}
use Rattle.ds2_same_meaning.specs.CodeStates.{or_absent, kept_in_cell, kept_by_code, is_data_of_code}
use Rattle.ds2_same_meaning.specs.FixedInCode.{DataLocation, SlotAt, HashAt, IteratorAt, ParameterAt, HoldSame, IsFixedInCode, SetsNoKeptSlot}
use Rattle.ds2_same_meaning.specs.IndependenceInCode.{cell_of_data, FixedIsFixedInCode, AgreeInCode, IndependenceHoldsInCode, LocalCodeIsIndependentInCode}
use Rattle.ds2_same_meaning.proofs.CodeStage.{data_hold, held_data}
use Rattle.ds2_same_meaning.proofs.FixedCode.{slot_is_kept}
use Rattle.ds2_same_meaning.proofs.LeftUnchanged.{and_then, itself, runs_leave_fixed_in_code}
use Rattle.ds2_same_meaning.proofs.LocalCode.{IsTableLoad, IsRowLoad, over_tables, of_row}

-- ---- data that agree

turned : (there : DataLocation) (d e : ProgramData) → HoldSame there d e → HoldSame there e d
turned (SlotAt n) d e h = sym h
turned (HashAt n) d e h = sym h
turned (IteratorAt n) d e h = sym h
turned (ParameterAt n) d e h = sym h

same_in_cell : (there : DataLocation) (s t : ProgramData) → HoldSame there s t → kept_in_cell s (Some (cell_of_data there)) ≡ kept_in_cell t (Some (cell_of_data there))
same_in_cell (SlotAt n) s t e = ap (λ (o : Option Value). Holds (or_absent Null o)) e
same_in_cell (HashAt n) s t e = ap (λ o. Items (or_absent [] o)) e
same_in_cell (IteratorAt n) s t e = ap (λ (o : Option (Option ℕ)). Position (or_absent None o)) e
same_in_cell (ParameterAt n) s t e = ap (λ (o : Option Value). Holds (or_absent Null o)) e

-- ---- what runs leave

-- where a run ended normally, its data hold what was held before
abbrev HoldsStill : DataLocation → ProgramData → UnitRun ProgramData (UnitsGave ℕ) → Type 0
HoldsStill there before (Normally u o) = HoldSame there before u
HoldsStill there before (ByFault o) = Unit {0}

module _ (p : UnitTree) where
  abbrev SetsNone : LocatedLoad → Type 0
  SetsNone load = SetsNoKeptSlot (program_code p) (slot_settings p (settings_at load))

  abbrev LeavesInCode : ProgramData → UnitRun ProgramData (UnitsGave ℕ) → Type 0
  LeavesInCode before (Normally u o) = (there : DataLocation) → IsFixedInCode (program_code p) there → HoldSame there before u
  LeavesInCode before (ByFault o) = Unit {0}

  module _ (there : DataLocation) (fixed : IsFixedInCode (program_code p) there) (before : ProgramData) where
    unit_holds : (budget : ℕ) (load : LocatedLoad) (state : ProgramData) → SetsNone load → HoldSame there before state → (o : UnitOutcome ProgramData)
        → code_run (program_code p) budget (slot_settings p (settings_at load)) state ≡ o → HoldsStill there before (unit_ended seen_count o)
    unit_holds budget load state sets h (Completed u unit n) e =
        and_then there before state u h (runs_leave_fixed_in_code (program_code p) budget (slot_settings p (settings_at load)) state u unit n there fixed sets e)
    unit_holds budget load state sets h (Interrupted fault unit n) e = tt
    unit_holds budget load state sets h Strayed e = tt

    before_holds : (o : UnitsGave ℕ) (r : UnitRun ProgramData (UnitsGave ℕ)) → HoldsStill there before r → HoldsStill there before (with_before (coded_stage p) o r)
    before_holds o (Normally u q) h = h
    before_holds o (ByFault q) h = h

    then_holds : (r : UnitRun ProgramData (UnitsGave ℕ)) (go : ProgramData → UnitRun ProgramData (UnitsGave ℕ)) → HoldsStill there before r
        → ((u : ProgramData) → HoldSame there before u → HoldsStill there before (go u)) → HoldsStill there before (then_from (coded_stage p) r go)
    then_holds (Normally u o) go h later = before_holds o (go u) (later u h)
    then_holds (ByFault o) go h later = tt

    loads_hold : (budget : ℕ) (loads : List LocatedLoad) (state : ProgramData) → AllByRecursion SetsNone loads → HoldSame there before state → HoldsStill there before (run_loads (coded_stage p) budget loads state)
    loads_hold budget [] state sets h = h
    loads_hold budget (load ∷ loads) state sets h =
        let o = code_run (program_code p) budget (slot_settings p (settings_at load)) state in
        then_holds (unit_ended seen_count o) (run_loads (coded_stage p) budget loads) (unit_holds budget load state sets.0 h o refl) (λ u k. loads_hold budget loads u sets.1 k)

  left_by : (before : ProgramData) (r : UnitRun ProgramData (UnitsGave ℕ)) → ((there : DataLocation) → IsFixedInCode (program_code p) there → HoldsStill there before r) → LeavesInCode before r
  left_by before (Normally u o) holds = holds
  left_by before (ByFault o) holds = tt

  leaves : (budget : ℕ) (loads : List LocatedLoad) (state : ProgramData) → AllByRecursion SetsNone loads → LeavesInCode state (run_loads (coded_stage p) budget loads state)
  leaves budget loads state sets =
      left_by state (run_loads (coded_stage p) budget loads state) (λ there fixed. loads_hold there fixed state budget loads state sets (itself there state))

  -- ---- what the loads of a group set

  abbrev OwnSettings : Settings → Type 0
  OwnSettings load = AllByRecursion (λ (set : Global × Value). is_column_or_flag p.reading None set.0 ≡ true) load

  abbrev HaveTheirSlots : Settings → Type 0
  HaveTheirSlots load = AreSameSettings (system_placement p (first_of_run p) p.run) load (slot_settings p load)

  no_kept : (load : Settings) → OwnSettings load → HaveTheirSlots load → SetsNoKeptSlot (program_code p) (slot_settings p load)
  no_kept [] own slots = tt
  no_kept (set ∷ more) own slots = (
    slot_is_kept p (record { home = None; global = set.0 }) (slot_of_global p None set.0) slots.0 ∙ ap (λ b. not b && not (is_cleared_at p None set.0)) own.0,
    no_kept more own.1 slots.2,
  )

  all_set_none : (Kind : LocatedLoad → Type 0) → ((load : LocatedLoad) → Kind load → HaveTheirSlots (settings_at load)) → (loads : List LocatedLoad) → AllByRecursion Kind loads
      → AllByRecursion (λ (load : LocatedLoad). OwnSettings (settings_at load)) loads → AllByRecursion SetsNone loads
  all_set_none Kind slots [] kinds own = tt
  all_set_none Kind slots (load ∷ loads) kinds own = (no_kept (settings_at load) own.0 (slots load kinds.0), all_set_none Kind slots loads kinds.1 own.1)

  module _ (slots : LoadsHaveSlots p) where
    table_slots : (load : LocatedLoad) → IsTableLoad p load → HaveTheirSlots (settings_at load)
    table_slots load h = subst HaveTheirSlots (sym h.2) (slots.over_tables h.0 h.1)

    row_slots : (load : LocatedLoad) → IsRowLoad p load → HaveTheirSlots (settings_at load)
    row_slots load h = subst HaveTheirSlots (sym h.1) (slots.of_rows h.0)

    by_reading : (r : Reading) (grain : ℕ) (loads : List LocatedLoad) → IsGroupOfReading r p grain loads → AllByRecursion (λ (load : LocatedLoad). OwnSettings (settings_at load)) loads → AllByRecursion SetsNone loads
    by_reading Nothing grain loads g own = all_set_none (IsTableLoad p) table_slots loads (over_tables p grain loads g) own
    by_reading Once grain loads g own = all_set_none (IsTableLoad p) table_slots loads (over_tables p grain loads g) own
    by_reading (Set inputs bys) grain loads g own = all_set_none (IsTableLoad p) table_slots loads (over_tables p grain loads g) own
    by_reading (Merge inputs bys retains) grain loads g own = all_set_none (IsTableLoad p) table_slots loads (over_tables p grain loads g) own
    by_reading (From instance workers columns) grain loads g own = all_set_none (IsRowLoad p) row_slots loads (of_row p loads g) own

    group_sets : (grain : ℕ) (loads : List LocatedLoad) → IsGroupOfReading p.reading p grain loads → AllByRecursion SetsNone loads
    group_sets grain loads g = by_reading p.reading grain loads g (group_loads p grain loads g)

  -- ---- two runs

  module _ (fixed : (at : Location) → is_fixed p at ≡ true → (there : DataLocation) → program_cell p at ≡ Some (cell_of_data there) → IsFixedInCode (program_code p) there) where
    agree_by : (s t : ProgramData) → ((there : DataLocation) → IsFixedInCode (program_code p) there → HoldSame there s t) → (at : Location) → is_fixed p at ≡ true → (o : Option CodeCell) → program_cell p at ≡ o
        → kept_in_cell s o ≡ kept_in_cell t o
    agree_by s t agree at f None e = refl
    agree_by s t agree at f (Some (SlotCell n)) e = same_in_cell (SlotAt n) s t (agree (SlotAt n) (fixed at f (SlotAt n) e))
    agree_by s t agree at f (Some (LocalCell n)) e = refl
    agree_by s t agree at f (Some (HashCell n)) e = same_in_cell (HashAt n) s t (agree (HashAt n) (fixed at f (HashAt n) e))
    agree_by s t agree at f (Some (IteratorCell n)) e = same_in_cell (IteratorAt n) s t (agree (IteratorAt n) (fixed at f (IteratorAt n) e))
    agree_by s t agree at f (Some (ParameterCell n)) e = same_in_cell (ParameterAt n) s t (agree (ParameterAt n) (fixed at f (ParameterAt n) e))

    agree_kept : (s t : ProgramData) → AgreeInCode p s t → Agree (fixed_locations p) (kept_by_code p s) (kept_by_code p t)
    agree_kept s t agree = λ at f. ap (seen_at p at) (agree_by s t agree.2 at f (program_cell p at) refl)

  same_runs : (s t : ProgramData) → is_data_of_code p s ≡ true → is_data_of_code p t ≡ true → (x y : UnitRun ProgramData (UnitsGave ℕ)) → AreSameCodeRuns p (kept_by_code p s) (kept_by_code p t) x y
      → LeavesInCode s x → LeavesInCode t y → IsSameRun (AgreeInCode p) s t x y
  same_runs s t is_s is_t (Normally u o) (Normally v q) r a b = (
    r.0,
    (held_data p r.1.kept u r.1.holds, is_s, λ there fixed. turned there s u (a there fixed)),
    (held_data p r.2.kept v r.2.holds, is_t, λ there fixed. turned there t v (b there fixed)),
  )
  same_runs s t is_s is_t (Normally u o) (ByFault q) r a b = absurd r
  same_runs s t is_s is_t (ByFault o) (Normally v q) r a b = absurd r
  same_runs s t is_s is_t (ByFault o) (ByFault q) r a b = r

pub independence_holds_in_code : FixedIsFixedInCode → TypedLoadsHaveSlots → IndependenceHoldsInCode
independence_holds_in_code law slots p typed grain free = record {
  groups = λ budget ls ks s t gl gk alike agree.
      same_runs p s t agree.0 agree.1 (run_loads (coded_stage p) budget ls s) (run_loads (coded_stage p) budget ks t)
      (free.groups budget ls ks (kept_by_code p s) (kept_by_code p t) s t (data_hold p s agree.0) (data_hold p t agree.1) gl gk alike (agree_kept p (law p typed) s t agree))
      (leaves p budget ls s (group_sets p (slots p typed) grain ls gl)) (leaves p budget ks t (group_sets p (slots p typed) grain ks gk));
  terms = λ budget s t agree.
      free.terms budget (kept_by_code p s) (kept_by_code p t) s t (data_hold p s agree.0) (data_hold p t agree.1) (agree_kept p (law p typed) s t agree);
}

pub local_code_is_independent_in_code : LocalCodeIsIndependent → IndependenceHoldsInCode → LocalCodeIsIndependentInCode
local_code_is_independent_in_code law holds t typed told grain local = holds t.program typed grain (law t typed told grain local)
