use Rattle.ds2_object_words.proofs.WordSteps.{text_read, text_refused}
use Rattle.ds2_object_words.proofs.texts.read_text.Goals as goal

pub returns-in-Ok : goal.returns-in-Ok
returns-in-Ok c =
    rw c.in-Ok.ensures.cases.0 (text_read c.args.bytes.now c.in_ok-taken.taken.now c.counted.new.bytes c.in_ok-taken.ensures c.in-Ok.ensures.cases.1)

pub returns-in-Err : goal.returns-in-Err
returns-in-Err c =
    rw c.bad.ensures
    (text_refused c.args.bytes.now c.in_ok-taken.taken.now c.counted.new.bytes c.left-left.result c.in_ok-taken.ensures c.in-Err.ensures.cases.0 c.left-left.ensures)
