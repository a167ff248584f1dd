use Rattle.std.proofs.Common.{◌≡◌, ◌++◌, drop}
use Rattle.ds2_misplaced.specs.MisplacedParts.{option_names}
use Rattle.ds2_misplaced.proofs.methods_and_outputs.option_names.Given as goal

abbrev pub invariant-options : goal.invariant-options
invariant-options l = l.names ++ option_names (drop l.option-index l.options) ≡ option_names l.options
