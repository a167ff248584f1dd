use Rattle.ds2_object_words.proofs.WriteSteps.{column_written}
use Rattle.ds2_object_words.proofs.types.ColumnSpelled.write.Goals as goal

pub returns : goal.returns
returns c = column_written c.in_ok-write.ensures c.in_ok-write-2.ensures
