use Rattle.ds2_unit.proofs.thread_run.open_loads.Goals as goal

pub open-requires-clause-reads : goal.open-requires-clause-reads
open-requires-clause-reads c = c.requires.thread.reads

pub open-requires-clause-reading : goal.open-requires-clause-reading
open-requires-clause-reading c = c.requires.thread.statement

pub open-requires-clause-types : goal.open-requires-clause-types
open-requires-clause-types c = c.requires.thread.types

pub open-requires-clause-fits : goal.open-requires-clause-fits
open-requires-clause-fits c = c.requires.thread.fits

pub open-requires-clause-grain : goal.open-requires-clause-grain
open-requires-clause-grain c = c.requires.thread.parts
