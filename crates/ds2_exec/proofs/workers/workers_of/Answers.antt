use Rattle.ds2_exec.proofs.workers.workers_of.Goals as goal

pub returns-in-Some-clause-local : goal.returns-in-Some-clause-local
returns-in-Some-clause-local c = (c.in-Some.field-0, c.in-Some.ensures)
