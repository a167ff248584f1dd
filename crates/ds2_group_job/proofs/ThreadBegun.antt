-- A thread program whose `init` has come to a normal end.
use Rattle.std.proofs.Common.{◌≡◌, ℕ, false, true, List, [], ◌∷◌, ◌++◌, length, map, refl, sym, ap, ◌∙◌, subst}
use Rattle.std.specs.List.{AllByRecursion}
use Rattle.std.specs.Prelude.{Some}
use Rattle.std.proofs.lemmas.List.{length-map}
use Rattle.ds2_value.specs.declared.fault.Ending.{Ending}
use Rattle.ds2_value.specs.declared.fault.Ending.TheVariants.{Normal, Faulted}
use Rattle.ds2_table.specs.Loads.{groups}
use Rattle.ds2_table.specs.OneThread.{groups_at}
use Rattle.ds2_table.specs.Table.{Contents}
use Rattle.ds2_code.specs.declared.parts.ProgramParts.{ProgramParts}
use Rattle.ds2_code.specs.declared.parts.Slot.{Slot}
use Rattle.ds2_code.specs.CodeUnit.{code_init}
use Rattle.ds2_code.specs.Desk.{ProgramData, SlotSettings}
use Rattle.ds2_code_answer.specs.CodeLoads.{code_keyed_loads, code_group_count}
use Rattle.ds2_machine.specs.AtRest.{IsUnitEnd, is_early}
use Rattle.ds2_machine.specs.declared.record.UnitRecord.{UnitRecord}
use Rattle.ds2_machine.specs.declared.unit_end.UnitEnd.{UnitEnd}
use Rattle.ds2_code.specs.Scales.{AreSettingsScaled}
use Rattle.ds2_loads.specs.GroupedLoads.{settings_of_code, loads_in_groups, loads_of_groups}
use Rattle.ds2_group_job.specs.StageJobs.{AreGroupsScaled}
use Rattle.ds2_group_job.specs.WhateverRan.{GivesWhateverRan, IsIndependentFrom}
use Rattle.ds2_group_job.proofs.GroupSteps.{HasKeptRows}
use Rattle.ds2_group_job.proofs.KeptUnits.{went_on}

-- ---- scales

all_in_front : {A : Type 0} (P : A → Type 0) (xs ys : List A) → AllByRecursion P (xs ++ ys) → AllByRecursion P xs
all_in_front P [] ys h = tt
all_in_front P (x ∷ xs) ys h = (h.0, all_in_front P xs ys h.1)

all_behind : {A : Type 0} (P : A → Type 0) (xs ys : List A) → AllByRecursion P (xs ++ ys) → AllByRecursion P ys
all_behind P [] ys h = h
all_behind P (x ∷ xs) ys h = all_behind P xs ys h.1

groups_scaled : (slots : List Slot) (gs : List (List SlotSettings)) → AllByRecursion (AreSettingsScaled slots) (loads_of_groups gs) → AreGroupsScaled slots gs
groups_scaled slots [] h = tt
groups_scaled slots (g ∷ gs) h = (all_in_front (AreSettingsScaled slots) g (loads_of_groups gs) h, groups_scaled slots gs (all_behind (AreSettingsScaled slots) g (loads_of_groups gs) h))

pub groups_are_scaled : (slots : List Slot) (gs : List (List SlotSettings)) (loads : List SlotSettings) → loads_of_groups gs ≡ loads → AllByRecursion (AreSettingsScaled slots) loads → AreGroupsScaled slots gs
groups_are_scaled slots gs loads is h =
    let P : List SlotSettings → Type 0 = λ ls. AllByRecursion (AreSettingsScaled slots) ls in
    groups_scaled slots gs (subst P (sym is) h)

-- ---- groups

pub as_many_groups : (grain : ℕ) (stage : ProgramParts) (tables : List Contents) (gs : List (List SlotSettings)) → gs ≡ loads_in_groups grain stage tables → length gs ≡ code_group_count grain stage tables
as_many_groups grain stage tables gs is = ap length is ∙ length-map (groups grain (code_keyed_loads stage tables)) (map (settings_of_code stage tables))

-- behind a fault there are none
pub none_told : (ending : Ending) (n m : ℕ) → is_early ending ≡ true → groups_at (Some ending) n ≡ groups_at (Some ending) m
none_told Normal n m early = absurd cc
none_told (Faulted fault place) n m early = refl

-- ---- behind `init`

module _ (stage : ProgramParts) (tables : List Contents) (budget grain : ℕ) (begun : ProgramData) where
  pub free_behind : IsIndependentFrom stage tables budget grain begun → (before after : UnitRecord) (unit : UnitEnd) (now : ProgramData)
      → IsUnitEnd HasKeptRows before after (code_init stage budget begun) unit now → is_early unit.ending ≡ false → GivesWhateverRan stage budget (loads_in_groups grain stage tables) now
  free_behind free before after unit now ran fine =
      let it = went_on (code_init stage budget begun) before after unit now ran fine in
      free now it.course it.executed it.is
