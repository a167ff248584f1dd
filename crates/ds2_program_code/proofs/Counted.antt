-- Units that end as units mean execute equally many instructions where the ways that are meant are equal.
use Rattle.std.proofs.Common.{◌≡◌, ℕ, IsTrue, refl, sym, ap, ◌∙◌}
use Rattle.ds2_value.specs.Progress.{Progress, UnitOutcome, Completed, Interrupted, Strayed, has_end}
use Rattle.ds2_meaning.specs.Location.{Storage}
use Rattle.ds2_meaning.specs.ProgramMeaning.{program_units}
use Rattle.ds2_meaning.specs.ProgramTree.{UnitTree}
use Rattle.ds2_meaning.specs.Reading.{Settings}
use Rattle.ds2_code.specs.declared.parts.ProgramParts.{ProgramParts}
use Rattle.ds2_code.specs.CodeLaws.{unit_way, unit_executed, UnitsCountAlike}
use Rattle.ds2_code.specs.CodeUnit.{code_unit, without_cleared}
use Rattle.ds2_code.specs.Desk.{ProgramData, SlotSettings, with_slots, with_slot_settings}
use Rattle.ds2_gen.specs.GenLaws.{way_meant}
use Rattle.ds2_program_code.specs.LoadSettings.{slot_settings, table_load, stage_load}
use Rattle.ds2_program_code.specs.ProgramCode.{program_code}
use Rattle.ds2_program_code.specs.ProgramRuns.{EndsLikeUnit, RunsLikeUnit, UnitsRunAsMeant, TypedUnitsRunAsMeant}
use Rattle.ds2_program_code.specs.CountsByWay.{RunsCountByWay, CountsByWay, TypedUnitsCountByWay}

-- a unit that ends as one means has an end, and the way that it means
ends_on_way : (p : UnitTree) (x : UnitOutcome ProgramData) (y : UnitOutcome Storage) → EndsLikeUnit p x y → IsTrue (has_end x) × (unit_way x ≡ way_meant y)
ends_on_way p (Completed state q n) (Completed kept r k) e = (refl, ap (λ (t : Progress). t.way) e.0)
ends_on_way p (Completed state q n) (Interrupted f r k) e = absurd e
ends_on_way p (Completed state q n) Strayed e = absurd e
ends_on_way p (Interrupted f q n) (Completed kept r k) e = absurd e
ends_on_way p (Interrupted f q n) (Interrupted g r k) e = (refl, ap (λ (t : Progress). t.way) e.1)
ends_on_way p (Interrupted f q n) Strayed e = absurd e
ends_on_way p Strayed y e = absurd e

-- the data with which `run` begins
abbrev loaded_data : ProgramParts → SlotSettings → ProgramData → ProgramData
loaded_data code load state = with_slots (with_slot_settings load (without_cleared code.slots state.slots)) state

module _ (count : UnitsCountAlike) (p : UnitTree) where
  counted : (code : ProgramParts) (entry budget other : ℕ) (state second : ProgramData) (unit next : UnitOutcome Storage)
      → EndsLikeUnit p (code_unit code entry budget state) unit → EndsLikeUnit p (code_unit code entry other second) next → way_meant unit ≡ way_meant next
      → unit_executed (code_unit code entry budget state) ≡ unit_executed (code_unit code entry other second)
  counted code entry budget other state second unit next a b same =
      let first = ends_on_way p (code_unit code entry budget state) unit a in
      let last = ends_on_way p (code_unit code entry other second) next b in
      count code entry budget other state second first.0 last.0 (first.1 ∙ same ∙ sym last.1)

  runs_counted : (load next : Settings) → RunsLikeUnit p load → RunsLikeUnit p next → RunsCountByWay p (program_code p) load next
  runs_counted load next a b budget other kept changed state second holds held same =
      let code = program_code p in
      counted code code.run budget other (loaded_data code (slot_settings p load) state) (loaded_data code (slot_settings p next) second) ((program_units p budget).run load kept) ((program_units p other).run next changed)
      (a budget kept state holds) (b other changed second held) same

  units_counted : UnitsRunAsMeant p → CountsByWay p (program_code p)
  units_counted runs =
      let code = program_code p in
      record {
        in_init = λ budget other kept changed state second holds held same.
            counted code code.init budget other state second ((program_units p budget).init kept) ((program_units p other).init changed) (runs.in_init budget kept state holds) (runs.in_init other changed second held) same;
        over_tables = λ tables others load next.
            runs_counted (table_load p tables load) (table_load p others next) (runs.over_tables tables load) (runs.over_tables others next);
        of_rows = λ row other. runs_counted (stage_load p row) (stage_load p other) (runs.of_rows row) (runs.of_rows other);
        in_term = λ budget other kept changed state second holds held same.
            counted code code.term budget other state second ((program_units p budget).term kept) ((program_units p other).term changed) (runs.in_term budget kept state holds) (runs.in_term other changed second held) same;
      }

pub typed_units_count_by_way : UnitsCountAlike → TypedUnitsRunAsMeant → TypedUnitsCountByWay
typed_units_count_by_way count runs p typed = units_counted count p (runs p typed)
