use Rattle.std.proofs.Common.{List, length}
use Rattle.ds2_code.specs.declared.parts.ReadPart.{ReadPart}
use Rattle.ds2_code.specs.declared.parts.StagedParts.{StagedParts}
use Rattle.ds2_object.specs.ObjectSpelling.{has_maker}
use Rattle.ds2_object_words.specs.CodeParts.{read_spelled}
use Rattle.ds2_object.proofs.WalkLemmas.{WalkLeft}
use Rattle.ds2_object.proofs.linked.tables_are_made.Given as goal

abbrev pub invariant-tables : goal.invariant-tables
invariant-tables l = WalkLeft l.made (λ (earlier : List StagedParts) (t : ReadPart). has_maker earlier t.table) read_spelled l.tables l.rest

abbrev pub decreases-tables : goal.decreases-tables
decreases-tables l = length l.rest
