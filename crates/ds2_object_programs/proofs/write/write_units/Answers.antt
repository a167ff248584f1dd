use Rattle.ds2_object_programs.proofs.WriteSteps.{part_rules, units_written}
use Rattle.ds2_object_programs.proofs.write.write_units.Goals as goal

pub returns : goal.returns
returns c = units_written c.args.program.now c.in_ok-write.ensures c.in_ok-write-2.ensures c.in_ok-write-3.ensures c.in_ok-write-4.ensures

pub write-requires : goal.write-requires
write-requires c = let k = part_rules c.args.program.now c.requires in k.outputs
