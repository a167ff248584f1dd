use Rattle.std.proofs.Common.{◌≡◌, drop}
use Rattle.ds2_names.specs.NameRules.{handed_constants}
use Rattle.ds2_scope.specs.Earliest.{earlier_of, earliest}
use Rattle.ds2_misplaced.proofs.constants.handed_constants.Given as goal

abbrev pub invariant-constants : goal.invariant-constants
invariant-constants l = earlier_of l.found (earliest (handed_constants l.left (drop l.constant-index l.constants))) ≡ earliest (handed_constants l.flags l.constants)
