use Rattle.ds2_object_words.proofs.WriteSteps.{parameter_written}
use Rattle.ds2_object_words.proofs.parts.ParameterPartSpelled.write.Goals as goal

pub returns : goal.returns
returns c = parameter_written c.in_ok-write.ensures c.in_ok-write-2.ensures
