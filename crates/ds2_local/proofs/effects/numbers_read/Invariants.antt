use Rattle.std.proofs.Common.{◌≡◌, ◌++◌, map, drop}
use Rattle.ds2_recorded_walk.specs.declared.record.RecordedRead.{RecordedRead}
use Rattle.ds2_local.proofs.effects.numbers_read.Given as goal

abbrev pub invariant-reads : goal.invariant-reads
invariant-reads l = l.numbers ++ map (λ (r : RecordedRead). r.location) (drop l.read-index l.reads) ≡ map (λ (r : RecordedRead). r.location) l.reads
