use Rattle.std.proofs.Common.{◌-◌, length}
use Rattle.ds2_merge.specs.KeyPlaces.{ordered_rows}
use Rattle.ds2_merge.proofs.KeyWalk.{IsWithinRows}
use Rattle.ds2_merge.proofs.next_key.end_of_key.Given as goal

abbrev pub invariant-rows : goal.invariant-rows
invariant-rows l = IsWithinRows l.rows l.start l.end

abbrev pub decreases-rows : goal.decreases-rows
decreases-rows l = length (ordered_rows l.rows) - l.end
