use Rattle.std.proofs.Common.{◌≡◌, ◌++◌, length, map}
use Rattle.ds2_code.specs.declared.parts.ReadPart.{ReadPart}
use Rattle.ds2_store_steps.proofs.references.add_reads.Given as goal

abbrev pub invariant-reads : goal.invariant-reads
invariant-reads l = l.references ++ map (λ (r : ReadPart). r.table) l.rest ≡ l.initial.references ++ map (λ (r : ReadPart). r.table) l.reads

abbrev pub decreases-reads : goal.decreases-reads
decreases-reads l = length l.rest
