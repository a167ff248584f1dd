-- What becomes of a source: the typed programs of its data programs in order, each with the thread program that it reads from, or the
-- first refusal. A unit's names come before its types, and an earlier unit before a later one.
use Rattle.std.specs.Prelude.{ℕ, bytes_eq, if◌then◌else◌, List, [], ◌∷◌, ◌++◌, option_and_then, Option, Some, None, Result, Ok, Err}
use Rattle.ds2_base.specs.declared.place.Refusal.{Refusal}
use Rattle.ds2_tree.specs.Units.{SourcePart, APackage, AThread, AData}
use Rattle.ds2_value.specs.Row.{Columns}
use Rattle.ds2_meaning.specs.declared.globals.OutputTable as typed_output
use Rattle.ds2_meaning.specs.declared.refusals.ScopeKind.{ScopeKind}
use Rattle.ds2_meaning.specs.declared.refusals.TypeKind.{TypeKind}
use Rattle.ds2_meaning.specs.ProgramMeaning.{output_columns}
use Rattle.ds2_meaning.specs.ProgramTree.{UnitTree, ProgramTree, reader_of}
use Rattle.ds2_names.specs.SourceLimits.{before_all, behind_part, scope_refusal, unit_of_part}
use Rattle.ds2_names.specs.SourceUnit.{TableColumns, UnitSource, unit_of_data, unit_of_package, unit_of_thread, spelled_name}
use Rattle.ds2_elaboration.specs.ProgramTypes.{type_refusal, typed_program, typed_package}
use Rattle.ds2_elaboration.specs.UnitsBefore.{PackageTypes, UnitsBefore}

-- ---- one unit

-- why a unit is refused: its names or its types
pub data ProgramRefusal : Type 0 where
  OfNames : Refusal ScopeKind → ProgramRefusal
  OfTypes : Refusal TypeKind → ProgramRefusal

-- a unit is refused for its names, and for its types where its names are sound
abbrev pub names_before_types : Option (Refusal ScopeKind) → Option (Refusal TypeKind) → Option ProgramRefusal
names_before_types (Some refusal) types = Some (OfNames refusal)
names_before_types None (Some refusal) = Some (OfTypes refusal)
names_before_types None None = None

-- the refusal of a unit behind others, where it is refused
abbrev pub unit_refusal : TableColumns → UnitsBefore → UnitSource → Option ProgramRefusal
unit_refusal tables before u = names_before_types (scope_refusal tables before.names u) (type_refusal tables before u)

-- ---- a source

-- the columns of the table of this name among outputs, else these
abbrev pub made_columns : List typed_output.OutputTable → List ℕ → Columns → Columns
made_columns [] name others = others
made_columns (o ∷ outputs) name others = if bytes_eq o.name name then output_columns o else made_columns outputs name others

-- the tables behind a program: those that it makes, and the others as before
abbrev pub tables_behind : TableColumns → UnitTree → TableColumns
tables_behind tables p = λ name. made_columns p.outputs name (tables name)

-- what the tables are behind a part of a source: a data program makes some
abbrev pub tables_behind_part : TableColumns → UnitsBefore → SourcePart → TableColumns
tables_behind_part tables before (AData u) = tables_behind tables (reader_of (typed_program tables before (unit_of_data u)))
tables_behind_part tables before _ = tables

-- the package that a part of a source is
abbrev pub package_in : TableColumns → UnitsBefore → SourcePart → List PackageTypes
package_in tables before (APackage u) = typed_package tables before (unit_of_package u) (spelled_name u.name) ∷ []
package_in tables before _ = []

-- the thread program that a part of a source is
abbrev pub threads_in : TableColumns → UnitsBefore → SourcePart → List ProgramTree
threads_in tables before (AThread u) = typed_program tables before (unit_of_thread u) ∷ []
threads_in tables before _ = []

-- the data program that a part of a source is
abbrev pub program_in : TableColumns → UnitsBefore → SourcePart → List ProgramTree
program_in tables before (AData u) = typed_program tables before (unit_of_data u) ∷ []
program_in tables before _ = []

-- before the first unit of a source
abbrev pub before_source : List SourcePart → UnitsBefore
before_source parts = record { names = before_all parts; packages = []; threads = [] }

-- what stands before the unit that follows a part of a source, with types: names, and the packages and thread programs up to it
abbrev pub units_behind : TableColumns → SourcePart → UnitsBefore → UnitsBefore
units_behind tables part before = record {
  names = behind_part tables part before.names;
  packages = package_in tables before part ++ before.packages;
  threads = threads_in tables before part ++ before.threads;
}

-- the refusal of a part of a source, where it is refused
abbrev pub part_refusal : TableColumns → UnitsBefore → SourcePart → Option ProgramRefusal
part_refusal tables before part = option_and_then (unit_refusal tables before) (unit_of_part part)

-- a unit that is refused ends a source; else its typed programs stand before those of the rest
abbrev pub with_programs : Option ProgramRefusal → List ProgramTree → Result (List ProgramTree) ProgramRefusal → Result (List ProgramTree) ProgramRefusal
with_programs (Some refusal) own others = Err refusal
with_programs None own (Ok programs) = Ok (own ++ programs)
with_programs None own (Err refusal) = Err refusal

-- what becomes of these parts behind others, each over the tables of the store and those that earlier programs make
abbrev pub elaborated_parts : TableColumns → UnitsBefore → List SourcePart → Result (List ProgramTree) ProgramRefusal
elaborated_parts tables before [] = Ok []
elaborated_parts tables before (part ∷ parts) =
    with_programs (part_refusal tables before part) (program_in tables before part)
    (elaborated_parts (tables_behind_part tables before part) (units_behind tables part before) parts)

-- what becomes of a source, over the tables of the store
abbrev pub elaborated_source : TableColumns → List SourcePart → Result (List ProgramTree) ProgramRefusal
elaborated_source tables parts = elaborated_parts tables (before_source parts) parts

-- what becomes of the thread programs among these parts behind others
abbrev pub threads_of_parts : TableColumns → UnitsBefore → List SourcePart → List ProgramTree
threads_of_parts tables before [] = []
threads_of_parts tables before (part ∷ parts) =
    threads_in tables before part ++ threads_of_parts (tables_behind_part tables before part) (units_behind tables part before) parts

-- what becomes of the thread programs of a source that is not refused, in order, whether a program reads from them or not
abbrev pub elaborated_threads : TableColumns → List SourcePart → List ProgramTree
elaborated_threads tables parts = threads_of_parts tables (before_source parts) parts
