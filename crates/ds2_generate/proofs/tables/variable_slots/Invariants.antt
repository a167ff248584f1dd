use Rattle.std.proofs.Common.{◌≡◌, ◌++◌, drop}
use Rattle.ds2_generate.specs.PartsAmong.{variable_slots_among}
use Rattle.ds2_numbering.specs.SoughtLocations.{home_of_name}
use Rattle.ds2_generate.proofs.tables.variable_slots.Given as goal

abbrev pub invariant-variables : goal.invariant-variables
invariant-variables l = l.list ++ variable_slots_among l.slots (home_of_name l.home) (drop l.variable-index l.variables) ≡ variable_slots_among l.slots (home_of_name l.home) l.variables
