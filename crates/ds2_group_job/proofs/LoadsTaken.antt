-- The loads of one of the groups.
use Rattle.std.proofs.Common.{◌≡◌, ℕ, zero, suc, List, [], ◌∷◌, refl, subst, Option, Some, None}
use Rattle.std.specs.List.{AllByRecursion}
use Rattle.std.specs.Prelude.{slice_get}
use Rattle.ds2_code.specs.declared.parts.Slot.{Slot}
use Rattle.ds2_code.specs.Desk.{SlotSettings}
use Rattle.ds2_code.specs.Scales.{AreSettingsScaled}
use Rattle.ds2_group_job.specs.GroupRuns.{loads_or_none, group_at_number}
use Rattle.ds2_group_job.specs.StageJobs.{AreGroupsScaled}

chosen_scaled : (slots : List Slot) (o : Option (List SlotSettings)) → ((g : List SlotSettings) → o ≡ Some g → AllByRecursion (AreSettingsScaled slots) g) → AllByRecursion (AreSettingsScaled slots) (loads_or_none o)
chosen_scaled slots None h = tt
chosen_scaled slots (Some g) h = h g refl

there_scaled : (slots : List Slot) (groups : List (List SlotSettings)) (n : ℕ) → AreGroupsScaled slots groups → (g : List SlotSettings) → slice_get groups n ≡ Some g → AllByRecursion (AreSettingsScaled slots) g
there_scaled slots [] n all g is = absurd cc
there_scaled slots (x ∷ groups) zero all g is =
    let same : x ≡ g = cc in
    subst (λ (ls : List SlotSettings). AllByRecursion (AreSettingsScaled slots) ls) same all.0
there_scaled slots (x ∷ groups) (suc n) all g is = there_scaled slots groups n all.1 g is

pub group_scaled : (slots : List Slot) (groups : List (List SlotSettings)) (n : ℕ) → AreGroupsScaled slots groups → AllByRecursion (AreSettingsScaled slots) (group_at_number groups n)
group_scaled slots groups n all = chosen_scaled slots (slice_get groups n) (there_scaled slots groups n all)
