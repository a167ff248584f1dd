use Rattle.std.proofs.Common.{◌≡◌, ◌++◌, length}
use Rattle.ds2_code_answer.specs.CodeLoads.{reads_numbered}
use Rattle.ds2_loads.proofs.statement.read_tables.Given as goal

abbrev pub invariant-reads : goal.invariant-reads
invariant-reads l = l.tables ++ reads_numbered l.number l.rest ≡ reads_numbered l.first l.reads

abbrev pub decreases-reads : goal.decreases-reads
decreases-reads l = length l.rest
