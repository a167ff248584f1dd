use Rattle.std.proofs.Common.{◌≡◌, drop}
use Rattle.ds2_meaning.specs.ProgramTree.{is_listed}
use Rattle.ds2_local.proofs.reading.is_listed.Given as goal

abbrev pub invariant-names : goal.invariant-names
invariant-names l = is_listed (drop l.other-index l.names) l.name ≡ is_listed l.names l.name
