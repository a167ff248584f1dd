-- What the groups of the sample job give.
use Rattle.std.specs.Prelude.{ℕ, List, [], ◌∷◌, ◌==◌, if◌then◌else◌}
use Rattle.std.specs.List.{list_any}
use Rattle.ds2_bags.specs.declared.group_end.GroupEnd.{GroupEnd}
use Rattle.ds2_value.specs.declared.fault.Ending.{Ending}
use Rattle.ds2_value.specs.declared.fault.Ending.TheVariants.{Normal, Faulted}
use Rattle.ds2_value.specs.declared.fault.Fault.TheVariants.{Range}
use Rattle.ds2_value.specs.declared.value.Value.TheVariants.{Null}

-- Whether a group faults.
abbrev pub sample_ending : List ℕ → ℕ → Ending
sample_ending faults g = if list_any (λ k. k == g) faults then Faulted Range (record { line = 1; column = 1 }) else Normal

-- A row without a value, and as many instructions as the group's number says.
abbrev pub sample_end : List ℕ → ℕ → GroupEnd
sample_end faults g = record { rows = (Null ∷ []) ∷ []; lines = []; ending = sample_ending faults g; executed = g }
