-- Where a program keeps something, and what is kept there.
use Rattle.std.specs.Prelude.{ℕ, ◌&&◌, Bool, false, bytes_eq, if◌then◌else◌, List, [], Option, None}
use Rattle.std.specs.Option.{option_eq}
use Rattle.ds2_value.specs.HashList.{HashItems}
use Rattle.ds2_value.specs.declared.value.Value.{Value}
use Rattle.ds2_value.specs.declared.value.Value.TheVariants.{Null}
use Rattle.ds2_meaning.specs.declared.location.Global.{Global}
use Rattle.ds2_meaning.specs.declared.location.Global.TheVariants.{Named, First, Last, Present, Parameter}

-- whether two globals are one: they are of one sort and have one name
abbrev pub is_same_global : Global → Global → Bool
is_same_global (Named a) (Named b) = bytes_eq a b
is_same_global (First a) (First b) = bytes_eq a b
is_same_global (Last a) (Last b) = bytes_eq a b
is_same_global (Present a) (Present b) = bytes_eq a b
is_same_global (Parameter a) (Parameter b) = bytes_eq a b
is_same_global _ _ = false

-- whose code is carried out: the program's own, or that of an instance's package
abbrev pub Home : Type 0
Home = Option (List ℕ)

-- whether two homes are one
abbrev pub is_same_home : Home → Home → Bool
is_same_home = option_eq bytes_eq

-- a global of the program, or of an instance that it declares
pub record Location : Type 0 where
  pub home : Home
  pub global : Global

-- whether two locations are one
abbrev pub is_same_location : Location → Location → Bool
is_same_location a b = is_same_home a.home b.home && is_same_global a.global b.global

-- what a location holds: the value of a variable, the items of a hash object, or where an iterator stands in them
pub data Content : Type 0 where
  Holds : Value → Content
  Items : HashItems → Content
  Position : Option ℕ → Content

-- what each location holds
abbrev pub Storage : Type 0
Storage = Location → Content

-- the value that is kept
abbrev pub held : Content → Value
held (Holds v) = v
held _ = Null

-- the items that are kept
abbrev pub items_held : Content → HashItems
items_held (Items items) = items
items_held _ = []

-- the position that is kept
abbrev pub position_held : Content → Option ℕ
position_held (Position position) = position
position_held _ = None

-- a location gets a new content, and every other one keeps its own
abbrev pub with_content : Location → Content → Storage → Storage
with_content at c before = λ other. if is_same_location other at then c else before other
