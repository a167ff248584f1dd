use Rattle.std.proofs.Common.{◌≡◌, drop}
use Rattle.ds2_names.specs.NameRules.{from_each}
use Rattle.ds2_scope.specs.Collected.{repeated_renamings}
use Rattle.ds2_scope.specs.Earliest.{earlier_of, earliest}
use Rattle.ds2_scope.proofs.duplicates.repeated_renaming_in.Given as goal

abbrev pub invariant-options : goal.invariant-options
invariant-options l = earlier_of l.found (earliest (from_each repeated_renamings (drop l.option-index l.options))) ≡ earliest (from_each repeated_renamings l.options)
