-- What a program keeps from one load to the next, and which flags come before a grain.
use Rattle.std.specs.Prelude.{ℕ, ◌-◌, Bool, true, false, not, ◌&&◌, List, take, drop, is_some, Some, None}
use Rattle.ds2_meaning.specs.declared.location.Global.{Global}
use Rattle.ds2_meaning.specs.declared.location.Global.TheVariants.{Named, First, Last, Present, Parameter}
use Rattle.ds2_meaning.specs.declared.readings.ByVariable.{ByVariable}
use Rattle.ds2_meaning.specs.declared.readings.Reading.{Reading}
use Rattle.ds2_meaning.specs.IsTyped.{is_by, is_present}
use Rattle.ds2_meaning.specs.HashObjects.{DeclaredObjects, hash_named, iterator_named}
use Rattle.ds2_meaning.specs.Location.{Home, Location, Content, Storage, Holds, Items, Position, held, items_held, position_held}
use Rattle.ds2_meaning.specs.ProgramMeaning.{is_cleared_at}
use Rattle.ds2_meaning.specs.ProgramTree.{UnitTree, objects_of}
use Rattle.ds2_meaning.specs.Reading.{inputs_of, bys_of, is_column}

-- a global of a home is a column or a flag of the program's reading statement
abbrev pub is_column_or_flag : Reading → Home → Global → Bool
is_column_or_flag reading None (Named name) = is_column reading name
is_column_or_flag reading None (First name) = is_by (bys_of reading) name
is_column_or_flag reading None (Last name) = is_by (bys_of reading) name
is_column_or_flag reading None (Present name) = is_present (inputs_of reading) name
is_column_or_flag reading None (Parameter name) = false
is_column_or_flag reading (Some instance) global = false

-- what a location holds stays from one load to the next but for what `run` does: it is no column or flag of the reading statement, and
-- `run` does not set it to null. So it is a retained variable, a parameter, a variable of an instance, a hash object or an iterator
abbrev pub is_kept : UnitTree → Location → Bool
is_kept p at = not (is_column_or_flag p.reading at.home at.global) && not (is_cleared_at p at.home at.global)

-- a global is a hash object among these
abbrev pub is_hash_global : DeclaredObjects → Global → Bool
is_hash_global objects (Named name) = is_some (hash_named objects.hashes name)
is_hash_global objects _ = false

-- a global is an iterator among these
abbrev pub is_iterator_global : DeclaredObjects → Global → Bool
is_iterator_global objects (Named name) = is_some (iterator_named objects.iterators name)
is_iterator_global objects _ = false

-- a content as that of a hash object, of an iterator, or else of a variable
abbrev pub seen_in_kind : (is_hash is_iterator : Bool) → Content → Content
seen_in_kind true is_iterator c = Items (items_held c)
seen_in_kind false true c = Position (position_held c)
seen_in_kind false false c = Holds (held c)

-- a content at a location, as a program sees it there: the items of a hash object, the position of an iterator, else the value of a
-- variable
abbrev pub seen_at : UnitTree → Location → Content → Content
seen_at p at c = seen_in_kind (is_hash_global (objects_of p at.home) at.global) (is_iterator_global (objects_of p at.home) at.global) c

-- what a location holds, as a program sees it
abbrev pub seen_content : UnitTree → Storage → Location → Content
seen_content p c at = seen_at p at (c at)

-- the BY variables before the one of this number, counted from 1; of the grain 0 there is none
abbrev pub bys_before : ℕ → Reading → List ByVariable
bys_before grain reading = take (grain - 1) (bys_of reading)

-- the BY variable of this number and the later ones
abbrev pub bys_from : ℕ → Reading → List ByVariable
bys_from grain reading = drop (grain - 1) (bys_of reading)

-- a global of a home is `first.v` or `last.v` of one of these BY variables
abbrev pub is_flag_of_by : List ByVariable → Home → Global → Bool
is_flag_of_by bys None (First name) = is_by bys name
is_flag_of_by bys None (Last name) = is_by bys name
is_flag_of_by bys _ _ = false

-- a global of a home is `first.v` of one of these BY variables
abbrev pub is_first_of_by : List ByVariable → Home → Global → Bool
is_first_of_by bys None (First name) = is_by bys name
is_first_of_by bys _ _ = false

-- a location is a flag of a BY variable before the one at the grain: groups at the grain may differ in it by what stands beside them
abbrev pub is_flag_before : ℕ → Reading → Location → Bool
is_flag_before grain reading at = is_flag_of_by (bys_before grain reading) at.home at.global
