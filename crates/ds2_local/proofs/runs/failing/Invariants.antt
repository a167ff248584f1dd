use Rattle.std.proofs.Common.{◌≡◌, drop}
use Rattle.ds2_local.specs.RunGrounds.{find_dirty}
use Rattle.ds2_local.proofs.runs.failing.Given as goal

abbrev pub invariant-reads : goal.invariant-reads
invariant-reads l = find_dirty l.dirty (drop l.read-index l.reads) ≡ find_dirty l.dirty l.reads
