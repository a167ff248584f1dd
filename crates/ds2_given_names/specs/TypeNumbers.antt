-- Numbers of types and of threads outside their bounds, part by part.
use Rattle.std.specs.Prelude.{List, [], ◌∷◌, ◌++◌, map}
use Rattle.ds2_base.specs.declared.place.Place.{Place}
use Rattle.ds2_tree.specs.Globals.{Method, GlobalItem, Declared}
use Rattle.ds2_tree.specs.declared.globals.Parameter as source_parameter
use Rattle.ds2_tree.specs.declared.globals.Declaration.TheVariants as declaration
use Rattle.ds2_tree.specs.declared.globals.TypeName.{TypeName}
use Rattle.ds2_names.specs.NameRules.{from_each}
use Rattle.ds2_names.specs.SourceUnit.{UnitSource, variable_declarations, source_methods}
use Rattle.ds2_names.specs.UnitRules.{bad_type_numbers, declared_types, method_types, bad_reading_number}

-- the type of the variables that a part of a unit declares
abbrev pub types_in : GlobalItem → List TypeName
types_in (Declared (declaration.Variables v)) = v.ty ∷ []
types_in _ = []

-- the numbers of types outside their bounds
abbrev pub bad_in_types : List TypeName → List Place
bad_in_types types = from_each bad_type_numbers types

-- those of the types of a method
abbrev pub bad_in_method : Method → List Place
bad_in_method m = bad_in_types (method_types m)

-- that of its reading statement
abbrev pub bad_in_reading : Method → List Place
bad_in_reading m = bad_reading_number m.reading

-- those of a unit
abbrev pub bad_numbers_by : UnitSource → List Place
bad_numbers_by u =
    bad_in_types (declared_types (variable_declarations u.globals))
    ++ bad_in_types (map (λ (p : source_parameter.Parameter). p.ty) u.parameters)
    ++ from_each bad_in_method (source_methods u.globals)
    ++ from_each bad_in_reading (source_methods u.globals)
