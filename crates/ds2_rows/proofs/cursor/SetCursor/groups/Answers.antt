use Rattle.std.proofs.Common.{ℕ, List, length, ap, arith}
use Rattle.ds2_rows.proofs.cursor.SetCursor.groups.Goals as goal

pub returns : goal.returns
returns c = rw (← c.self.view_is) (omega (arith, c.self.invariant.1.count, c.len.ensures, ap (λ (ps : List ℕ). length ps) c.deref.ensures))
