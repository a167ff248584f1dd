use Rattle.ds2_object_programs.proofs.WriteSteps.{stage_rules}
use Rattle.ds2_object_programs.proofs.write.write_stage.Goals as goal

pub write_staged-requires-clause-threads : goal.write_staged-requires-clause-threads
write_staged-requires-clause-threads c = let k = stage_rules c.args.reading.now c.args.stage.now _ _ c.in-Stage.is c.requires in k.threads_allowed

pub write_staged-requires-clause-stage : goal.write_staged-requires-clause-stage
write_staged-requires-clause-stage c = let k = stage_rules c.args.reading.now c.args.stage.now _ _ c.in-Stage.is c.requires in k.stage_allowed

pub write_staged-requires-clause-slots : goal.write_staged-requires-clause-slots
write_staged-requires-clause-slots c = let k = stage_rules c.args.reading.now c.args.stage.now _ _ c.in-Stage.is c.requires in k.slots_short
