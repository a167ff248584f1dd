use Rattle.ds2_unit.proofs.ThreadEnds.{machine_of_place}
use Rattle.ds2_unit.proofs.thread_run.open_thread.Goals as goal

pub open_machine-requires : goal.open_machine-requires
open_machine-requires c = record { place = record { here = c.requires.thread.here; there = c.requires.thread.there } }

pub returns-clause-machine : goal.returns-clause-machine
returns-clause-machine c = machine_of_place c.args.run.now c.args.run.now.number c.open_machine.result c.open_machine.ensures.machine
