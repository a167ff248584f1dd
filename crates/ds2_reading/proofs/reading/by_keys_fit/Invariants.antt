use Rattle.std.proofs.Common.{◌≡◌, length}
use Rattle.std.specs.List.{list_all}
use Rattle.ds2_reading.specs.ReadingFits.{by_key_fits}
use Rattle.ds2_reading.proofs.reading.by_keys_fit.Given as goal

abbrev pub invariant-bys : goal.invariant-bys
invariant-bys l = list_all (by_key_fits l.tables l.reads) l.rest ≡ list_all (by_key_fits l.tables l.reads) l.bys

abbrev pub decreases-bys : goal.decreases-bys
decreases-bys l = length l.rest
