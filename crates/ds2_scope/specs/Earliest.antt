-- Which of several places is the earliest.
use Rattle.std.specs.Prelude.{if◌then◌else◌, List, [], ◌∷◌, Option, Some, None}
use Rattle.ds2_base.specs.declared.place.Place.{Place}
use Rattle.ds2_names.specs.SourceUnit.{is_earlier}

-- the earlier of two places, where there are some
abbrev pub earlier_of : Option Place → Option Place → Option Place
earlier_of None other = other
earlier_of (Some a) None = Some a
earlier_of (Some a) (Some b) = if is_earlier b a then Some b else Some a

-- the earliest of several places, where there are some
abbrev pub earliest : List Place → Option Place
earliest [] = None
earliest (p ∷ places) = earlier_of (Some p) (earliest places)
