use Rattle.ds2_object_programs.proofs.WriteSteps.{part_rules, thread_rules, thread_written}
use Rattle.ds2_object_programs.proofs.write.write_thread.Goals as goal

pub returns : goal.returns
returns c =
    thread_written c.args.program.now c.in_ok-write_thread_name.ensures c.in_ok-write_globals.ensures c.in_ok-write.ensures c.in_ok-write_reading.ensures c.in_ok-write_units.ensures
    (rw c.as_slice.ensures at c.in_ok-write_instrs.ensures)

pub write_thread_name-requires : goal.write_thread_name-requires
write_thread_name-requires c = let k = thread_rules c.args.program.now c.requires in k.named

pub write_globals-requires : goal.write_globals-requires
write_globals-requires c = let k = thread_rules c.args.program.now c.requires in k.program

pub write-requires : goal.write-requires
write-requires c =
    let k = thread_rules c.args.program.now c.requires in
    let m = part_rules c.args.program.now k.program in
    m.methods

pub write_reading-requires-clause-tables : goal.write_reading-requires-clause-tables
write_reading-requires-clause-tables c = let k = thread_rules c.args.program.now c.requires in k.tables

pub write_reading-requires-clause-rules : goal.write_reading-requires-clause-rules
write_reading-requires-clause-rules c = let k = thread_rules c.args.program.now c.requires in k.reads

pub write_units-requires : goal.write_units-requires
write_units-requires c = let k = thread_rules c.args.program.now c.requires in k.program

pub write_instrs-requires : goal.write_instrs-requires
write_instrs-requires c =
    let k = thread_rules c.args.program.now c.requires in
    let m = part_rules c.args.program.now k.program in
    rw c.as_slice.ensures m.instrs
