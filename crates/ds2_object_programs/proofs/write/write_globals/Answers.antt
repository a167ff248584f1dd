use Rattle.ds2_object_programs.proofs.WriteSteps.{part_rules, globals_written}
use Rattle.ds2_object_programs.proofs.write.write_globals.Goals as goal

pub returns : goal.returns
returns c = globals_written c.args.program.now c.in_ok-write.ensures c.in_ok-write-2.ensures c.in_ok-write-3.ensures c.in_ok-write-4.ensures c.in_ok-write-5.ensures

pub write-requires : goal.write-requires
write-requires c = let k = part_rules c.args.program.now c.requires in k.slots

pub write-requires-2 : goal.write-requires-2
write-requires-2 c = let k = part_rules c.args.program.now c.requires in k.constants

pub write-requires-3 : goal.write-requires-3
write-requires-3 c = let k = part_rules c.args.program.now c.requires in k.hashes

pub write-requires-4 : goal.write-requires-4
write-requires-4 c = let k = part_rules c.args.program.now c.requires in k.iterators

pub write-requires-5 : goal.write-requires-5
write-requires-5 c = let k = part_rules c.args.program.now c.requires in k.parameters
