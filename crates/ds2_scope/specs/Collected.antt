-- What one part of a unit gives names to.
use Rattle.std.specs.Prelude.{ℕ, if◌then◌else◌, List, [], ◌∷◌, ◌++◌, map}
use Rattle.ds2_base.specs.declared.place.Place.{Place}
use Rattle.ds2_token.specs.Words.{is_word}
use Rattle.ds2_tree.specs.Globals.{Method, GlobalItem, Declared, Listed, Defined}
use Rattle.ds2_tree.specs.declared.globals.Declaration.TheVariants as declaration
use Rattle.ds2_tree.specs.declared.globals.Parameter as source_parameter
use Rattle.ds2_tree.specs.declared.readings.ByVariable as source_by
use Rattle.ds2_tree.specs.declared.readings.Input as source_input
use Rattle.ds2_tree.specs.declared.units.OutputOption.{OutputOption}
use Rattle.ds2_tree.specs.declared.units.OutputOption.TheVariants as option
use Rattle.ds2_tree.specs.declared.units.OutputTable as source_output
use Rattle.ds2_tree.specs.declared.units.Renaming.{Renaming}
use Rattle.ds2_names.specs.NameRules.{from_each, later_places, options_of, renamings_in}
use Rattle.ds2_names.specs.SourceUnit.{PlacedName, placed_name, local_names, flag_names, SourceInstance, source_instances}

-- the names of variables that a part of a unit declares
abbrev pub declared_in : GlobalItem → List PlacedName
declared_in (Declared (declaration.Variables v)) = map placed_name v.names
declared_in _ = []

-- the method that a part of a unit is, where it is one
abbrev pub methods_in : GlobalItem → List Method
methods_in (Defined m) = m ∷ []
methods_in _ = []

-- the name of a method
abbrev pub method_name : Method → PlacedName
method_name m = placed_name m.name

-- the name of a parameter
abbrev pub parameter_name : source_parameter.Parameter → PlacedName
parameter_name p = placed_name p.name

-- the instance that a part of a unit declares, where it declares one
abbrev pub instances_in : GlobalItem → List SourceInstance
instances_in g = source_instances (g ∷ [])

-- the name of an instance
abbrev pub instance_name : SourceInstance → PlacedName
instance_name i = placed_name i.name

-- the name of an output
abbrev pub output_table_name : source_output.OutputTable → PlacedName
output_table_name o = placed_name o.table

-- the old name of a renaming
abbrev pub old_name : Renaming → PlacedName
old_name r = placed_name r.old

-- the later ones of two parameters or locals of one name
abbrev pub repeated_locals : Method → List Place
repeated_locals m = later_places (local_names m)

-- the later ones of two renamings of one column in an option
abbrev pub repeated_renamings : OutputOption → List Place
repeated_renamings x = later_places (map old_name (renamings_in x))

-- the name of a BY variable
abbrev pub by_name : source_by.ByVariable → PlacedName
by_name b = placed_name b.name

-- the flag of a table, where it has one
abbrev pub flags_in : source_input.Input → List PlacedName
flags_in input = flag_names (input ∷ [])

-- the names that a part of a unit lists behind a word
abbrev pub listed_in : List ℕ → GlobalItem → List PlacedName
listed_in word (Listed keyword names end) = if is_word word keyword then map placed_name names else []
listed_in word _ = []

-- the names that an option lists behind a word
abbrev pub listed_in_option : List ℕ → OutputOption → List PlacedName
listed_in_option word (option.Listed keyword equals opening listed closing) = if is_word word keyword then map placed_name listed else []
listed_in_option word _ = []
