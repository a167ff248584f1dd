use Rattle.std.proofs.Common.{◌+◌, ◌-◌, length}
use Rattle.ds2_group_job.proofs.reader.+below.Given as goal

abbrev pub decreases-run_below : goal.decreases-run_below
decreases-run_below g l = (length l.reader.now.place.code.now.stages - l.reader.now.place.number) + (length l.reader.now.place.code.now.stages - l.reader.now.place.number)

abbrev pub decreases-run_kept : goal.decreases-run_kept
decreases-run_kept g l = (length l.reader.now.place.code.now.stages - l.reader.now.place.number) + (length l.reader.now.place.code.now.stages - l.reader.now.place.number) + 1
