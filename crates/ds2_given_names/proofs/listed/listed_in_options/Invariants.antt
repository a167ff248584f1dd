use Rattle.std.proofs.Common.{◌≡◌, ◌++◌, drop}
use Rattle.ds2_names.specs.NameRules.{from_each}
use Rattle.ds2_scope.specs.Collected.{listed_in_option}
use Rattle.ds2_given_names.proofs.listed.listed_in_options.Given as goal

abbrev pub invariant-options : goal.invariant-options
invariant-options l = l.names ++ from_each (listed_in_option l.word) (drop l.option-index l.options) ≡ from_each (listed_in_option l.word) l.options
