use Rattle.std.proofs.Common.{◌≡◌, drop}
use Rattle.std.specs.List.{list_any}
use Rattle.ds2_elaboration.specs.ProgramTypes.{says_overwrite}
use Rattle.ds2_unit_parts.proofs.outputs.any_overwrites.Given as goal

abbrev pub invariant-options : goal.invariant-options
invariant-options l = list_any says_overwrite (drop l.option-index l.options) ≡ list_any says_overwrite l.options
