use Rattle.std.proofs.Common.{◌≡◌, length}
use Rattle.std.specs.List.{list_all}
use Rattle.ds2_code.specs.ValidCode.{read_fits}
use Rattle.ds2_valid_code.proofs.layout.reads_fit.Given as goal

abbrev pub invariant-reads : goal.invariant-reads
invariant-reads l = list_all (read_fits l.slots l.bys) l.rest ≡ list_all (read_fits l.slots l.bys) l.reads

abbrev pub decreases-reads : goal.decreases-reads
decreases-reads l = length l.rest
