-- The else part of a chain, which there may be or not.
use Rattle.std.specs.Prelude.{List, [], Option, Some, None}
use Rattle.ds2_meaning.specs.TypedStatement.{TypedStatement}
use Rattle.ds2_locality.specs.Deeds.{CodeScope, Deed, statement_deeds}

-- an else part
abbrev pub ElsePart : Type 0
ElsePart = Option TypedStatement

-- its deeds
abbrev pub else_deeds : CodeScope → ElsePart → List Deed
else_deeds c None = []
else_deeds c (Some s) = statement_deeds c s
