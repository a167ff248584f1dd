use Rattle.ds2_unit.proofs.StagedCode.{reads_none, valid_alone}
use Rattle.ds2_group_job.proofs.reader.run_plain.Goals as goal

pub run_into-requires-clause-tables : goal.run_into-requires-clause-tables
run_into-requires-clause-tables g c = c.requires.ready.tables

pub run_into-requires-clause-budget : goal.run_into-requires-clause-budget
run_into-requires-clause-budget g c = c.requires.ready.budget

pub run_into-requires-clause-reads : goal.run_into-requires-clause-reads
run_into-requires-clause-reads g c = reads_none c.args.program.now.code.now.program (valid_alone c.args.program.now.code.now c.parts-valid.ensures.valid c.requires.stages)
