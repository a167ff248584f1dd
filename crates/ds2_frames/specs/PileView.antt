-- Values of all methods that are under way in one list.
use Rattle.std.specs.Prelude.{List}
use Rattle.ds2_value.specs.Row.{Row}

-- those of the method at work, the lowest first and the topmost first, and those of the callers, the lowest first
pub record PileView : Type 0 where
  pub own : Row
  pub stack : Row
  pub below : Row
