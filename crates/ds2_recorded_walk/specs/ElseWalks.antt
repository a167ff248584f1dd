-- The walk of the else part of a chain.
use Rattle.std.specs.Prelude.{Some, None}
use Rattle.ds2_locality.specs.Walk.{DirtySet, WalkEnd, GoesOn, WaysOut, way_on, WalkScope, walk}
use Rattle.ds2_deeds.specs.ElseParts.{ElsePart}

-- where there is no else part, the way goes on
abbrev pub else_walk : WalkScope → ElsePart → DirtySet → WalkEnd WaysOut
else_walk s None dirty = GoesOn (way_on dirty)
else_walk s (Some statement) dirty = walk s statement dirty
