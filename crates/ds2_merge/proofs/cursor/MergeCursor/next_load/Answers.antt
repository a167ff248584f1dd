use Rattle.std.proofs.Common.{ap}
use Rattle.ds2_merge.proofs.Opening.{cursor_of}
use Rattle.ds2_merge.proofs.cursor.MergeCursor.next_load.Goals as goal

pub next_load-requires : goal.next_load-requires
next_load-requires c = c.self.invariant.0

pub invariant_of-self : goal.invariant_of-self
invariant_of-self c = (c.next_load.ensures.place, c.self.invariant.1)

pub returns-clause-load : goal.returns-clause-load
returns-clause-load c = rw (← c.self.view_is) c.next_load.ensures.load

pub returns-clause-left : goal.returns-clause-left
returns-clause-left c = rw (← c.self.view_is) (ap (cursor_of c.self.inside.rows c.self.inside.grain) c.next_load.ensures.given)
