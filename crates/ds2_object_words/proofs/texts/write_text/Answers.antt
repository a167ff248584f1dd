use Rattle.ds2_object_words.proofs.WordSteps.{text_written}
use Rattle.ds2_object_words.proofs.texts.write_text.Goals as goal

pub returns : goal.returns
returns c = text_written c.in_ok-write.ensures c.in_ok-append.ensures.ok c.as_bytes.ensures.value c.utf8.text
