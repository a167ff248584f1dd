use Rattle.ds2_object_words.proofs.WriteSteps.{short_items}
use Rattle.ds2_object_programs.proofs.WriteSteps.{threads_written, stage_written}
use Rattle.ds2_object_programs.proofs.write.write_staged.Goals as goal

pub returns : goal.returns
returns c =
    stage_written c.args.threads c.args.stage.now c.args.slots.now c.in_ok-push.ensures.ok (threads_written c.args.threads c.in_ok-push-2.ensures.ok c.requires.threads)
    c.in_ok-write_thread.ensures c.in_ok-write.ensures

pub write-requires : goal.write-requires
write-requires c = short_items c.args.slots.now c.requires.slots
