-- The flags that are known to be 1 in a walk.
use Rattle.std.specs.Prelude.{Bool, List}
use Rattle.ds2_value.specs.Value.{not_of}
use Rattle.ds2_value.specs.declared.truth.Truth.{Truth}
use Rattle.ds2_value.specs.declared.truth.Truth.TheVariants.{Unknown}
use Rattle.ds2_meaning.specs.declared.expressions.Prefix.{Prefix}
use Rattle.ds2_meaning.specs.declared.expressions.Prefix.TheVariants as prefix
use Rattle.ds2_meaning.specs.declared.readings.ByVariable.{ByVariable}
use Rattle.ds2_meaning.specs.Location.{Location}
use Rattle.ds2_locality.specs.KeptLocations.{is_first_of_by}

-- `first.v` of these BY variables is known to be 1
abbrev pub first_flags : List ByVariable → Location → Bool
first_flags bys at = is_first_of_by bys at.home at.global

-- what an operator before a condition makes of what that is decided as
abbrev pub prefix_decided : Prefix → Truth → Truth
prefix_decided prefix.Not a = not_of a
prefix_decided _ a = Unknown
