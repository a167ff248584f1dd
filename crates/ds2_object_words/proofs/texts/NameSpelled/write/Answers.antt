use Rattle.ds2_object_words.proofs.WordSteps.{name_length}
use Rattle.ds2_object_words.proofs.texts.NameSpelled.write.Goals as goal

pub write_text-requires : goal.write_text-requires
write_text-requires c = rw c.as_str.ensures.bytes (name_length c.args.self.now c.as_str.ensures.own c.as_str.ensures.utf8)
