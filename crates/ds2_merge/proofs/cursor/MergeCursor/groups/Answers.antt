use Rattle.std.proofs.Common.{List, length, ap, arith}
use Rattle.ds2_merge.specs.declared.key_place.KeyPlace.{KeyPlace}
use Rattle.ds2_merge.proofs.cursor.MergeCursor.groups.Goals as goal

pub returns : goal.returns
returns c = rw (← c.self.view_is) (omega (arith, c.self.invariant.1.count, c.len.ensures, ap (λ (ps : List KeyPlace). length ps) c.deref.ensures))
