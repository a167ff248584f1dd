-- Locations, as a program names them.
use Rattle.std.specs.Prelude.{ℕ, List, Some, None}
use Rattle.ds2_meaning.specs.declared.location.Global.{Global}
use Rattle.ds2_meaning.specs.declared.location.Global.TheVariants as global
use Rattle.ds2_meaning.specs.Location.{Home, Location}
use Rattle.ds2_numbering.specs.declared.sought.GlobalSort.{GlobalSort}
use Rattle.ds2_numbering.specs.declared.sought.GlobalSort.TheVariants as sort
use Rattle.ds2_numbering.specs.declared.sought.HomeName.{HomeName}
use Rattle.ds2_numbering.specs.declared.sought.HomeName.TheVariants as home_name
use Rattle.ds2_numbering.specs.declared.sought.Sought.{Sought}

-- the home of a name
abbrev pub home_of_name : HomeName → Home
home_of_name home_name.Own = None
home_of_name (home_name.Instance name) = Some name.now

-- the global of a sort and a name
abbrev pub global_of_sort : GlobalSort → List ℕ → Global
global_of_sort sort.Named name = global.Named name
global_of_sort sort.First name = global.First name
global_of_sort sort.Last name = global.Last name
global_of_sort sort.Present name = global.Present name
global_of_sort sort.Parameter name = global.Parameter name

-- the location that is looked for
abbrev pub location_sought : Sought → Location
location_sought s = record { home = home_of_name s.home; global = global_of_sort s.sort s.name.now }

-- a parameter of an instance of a thread program
abbrev pub stage_parameter_at : List ℕ → List ℕ → Location
stage_parameter_at instance name = record { home = Some instance; global = global.Parameter name }
