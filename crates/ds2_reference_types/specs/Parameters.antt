-- Parameters, one by one.
use Rattle.std.specs.Prelude.{List, [], ◌∷◌, Option, Some, None}

-- the first item of a list, where there is one
abbrev pub front_of : {A : Type 0} → List A → Option A
front_of [] = None
front_of (x ∷ xs) = Some x

-- the items behind the first
abbrev pub behind_front : {A : Type 0} → List A → List A
behind_front [] = []
behind_front (x ∷ xs) = xs
