use Rattle.ds2_object_words.proofs.WriteSteps.{method_written}
use Rattle.ds2_object_words.proofs.parts.MethodPartSpelled.write.Goals as goal

pub returns : goal.returns
returns c = method_written c.in_ok-write.ensures c.in_ok-write-2.ensures c.in_ok-write-3.ensures c.in_ok-write-4.ensures
