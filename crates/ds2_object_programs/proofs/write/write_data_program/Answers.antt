use Rattle.ds2_object_programs.proofs.WriteSteps.{part_rules, data_rules, data_written}
use Rattle.ds2_object_programs.proofs.write.write_data_program.Goals as goal

pub returns : goal.returns
returns c =
    data_written c.args.parts.now c.in_ok-write_no_name.ensures c.in_ok-write_globals.ensures c.in_ok-write.ensures (rw c.as_slice.ensures at c.in_ok-write_data_reading.ensures)
    c.in_ok-write_units.ensures (rw c.as_slice-2.ensures at c.in_ok-write_instrs.ensures)

pub write_no_name-requires : goal.write_no_name-requires
write_no_name-requires c = let k = data_rules c.args.parts.now c.requires in k.unnamed

pub write_globals-requires : goal.write_globals-requires
write_globals-requires c = let k = data_rules c.args.parts.now c.requires in k.program

pub write-requires : goal.write-requires
write-requires c =
    let k = data_rules c.args.parts.now c.requires in
    let m = part_rules c.args.parts.now.program k.program in
    m.methods

pub write_data_reading-requires : goal.write_data_reading-requires
write_data_reading-requires c = let k = data_rules c.args.parts.now c.requires in rw c.as_slice.ensures k.reads

pub write_units-requires : goal.write_units-requires
write_units-requires c = let k = data_rules c.args.parts.now c.requires in k.program

pub write_instrs-requires : goal.write_instrs-requires
write_instrs-requires c =
    let k = data_rules c.args.parts.now c.requires in
    let m = part_rules c.args.parts.now.program k.program in
    rw c.as_slice-2.ensures m.instrs
