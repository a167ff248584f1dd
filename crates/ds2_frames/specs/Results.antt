-- The result of a method.
use Rattle.std.specs.Prelude.{[], ◌∷◌, Option, Some, None}
use Rattle.ds2_value.specs.Row.{Row}
use Rattle.ds2_value.specs.declared.value.Value.{Value}

-- a result as the list of it, or of none
abbrev pub as_list : Option Value → Row
as_list None = []
as_list (Some v) = v ∷ []
