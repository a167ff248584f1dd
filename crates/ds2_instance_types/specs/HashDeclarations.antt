-- Hash objects of a unit, as the code holds them.
use Rattle.std.specs.Prelude.{ℕ, List, [], ◌∷◌, ◌++◌, option_copied}
use Rattle.std.specs.Option.{option_map, option_map_or}
use Rattle.ds2_base.specs.declared.place.Place.{Place}
use Rattle.ds2_token.specs.declared.token.Token.{Token}
use Rattle.ds2_value.specs.Row.{Columns}
use Rattle.ds2_value.specs.declared.ty.Ty.{Ty}
use Rattle.ds2_meaning.specs.declared.hashes.DeclaredHash.{DeclaredHash}
use Rattle.ds2_meaning.specs.declared.hashes.HashVariable.{HashVariable}
use Rattle.ds2_meaning.specs.declared.location.Reference.{Reference}
use Rattle.ds2_meaning.specs.declared.location.Reference.TheVariants.{At, Local}
use Rattle.ds2_meaning.specs.declared.readings.MentionedTable.{MentionedTable}
use Rattle.ds2_names.specs.SourceUnit.{InstanceOf, HashObject, TableColumns, spelled_name}
use Rattle.ds2_scope.specs.CodeUnits.{names_bracketed}
use Rattle.ds2_elaboration.specs.ExpressionTypes.{KnownVariable, TypeScope, global_variable}
use Rattle.ds2_elaboration.specs.ProgramTypes.{clashing_load, hash_load, typed_hash_variables}
use Rattle.ds2_elaboration.specs.SourceTypes.{type_of_column}
use Rattle.ds2_elaboration.specs.Typings.{TypeRefusals}
use Rattle.ds2_instance_types.specs.declared.hashes.HashDeclaration.{HashDeclaration}

-- a variable of a method as a variable of a hash object, which is a global
abbrev pub variables_of_reference : Reference → Ty → List HashVariable
variables_of_reference (At global) ty = record { global = global; ty = ty } ∷ []
variables_of_reference (Local name) ty = []

-- the key and data variables of a hash object, by their names
abbrev pub hash_variables_of : HashDeclaration → List Token
hash_variables_of h = names_bracketed h.keys.now ++ names_bracketed h.items.now

-- a declaration as that of a hash object
abbrev pub hash_sort : HashDeclaration → InstanceOf
hash_sort h = HashObject (names_bracketed h.keys.now) (names_bracketed h.items.now) (option_copied h.table)

-- a hash object of this name, typed
abbrev pub hash_declared : TableColumns → List MentionedTable → TypeScope → List ℕ → HashDeclaration → DeclaredHash
hash_declared tables made scope name h = record {
  name = name;
  key_variables = typed_hash_variables scope (names_bracketed h.keys.now);
  data_variables = typed_hash_variables scope (names_bracketed h.items.now);
  loaded = option_map (hash_load tables made) (option_copied h.table);
}

-- what a variable of a hash object breaks over a table with these columns, whose text stands at this place
abbrev pub load_rules : Columns → TypeScope → Place → Token → TypeRefusals
load_rules columns scope text variable =
    option_map_or (λ (v : KnownVariable). clashing_load text columns v (type_of_column (spelled_name variable) columns)) (global_variable scope (spelled_name variable)) []
