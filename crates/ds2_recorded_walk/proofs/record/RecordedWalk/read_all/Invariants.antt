use Rattle.std.proofs.Common.{◌≡◌, drop}
use Rattle.ds2_recorded_walk.specs.RecordedWalks.{with_reads}
use Rattle.ds2_recorded_walk.proofs.record.RecordedWalk.read_all.Given as goal

abbrev pub invariant-numbers : goal.invariant-numbers
invariant-numbers l = with_reads l.place (drop l.number-index l.numbers) l.self ≡ with_reads l.place l.numbers l.fn.self
