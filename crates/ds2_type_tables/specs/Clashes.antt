-- Columns whose tables do not join, by their names.
use Rattle.std.specs.Prelude.{◌≡◌, ℕ, nat_eq, bytes_eq, if◌then◌else◌, List, []}
use Rattle.std.specs.Cmp.Lexicographic.{pointwise}
use Rattle.std.specs.HashMap.{HashMap, get}
use Rattle.ds2_base.specs.declared.place.Refusal.{Refusal}
use Rattle.ds2_meaning.specs.declared.refusals.TypeKind.{TypeKind}
use Rattle.ds2_meaning.specs.declared.refusals.TypeKind.TheVariants.{TypeClash}
use Rattle.ds2_names.specs.NameRules.{from_each}
use Rattle.ds2_names.specs.SourceUnit.{PlacedName}
use Rattle.ds2_elaboration.specs.Typings.{TypeRefusals, type_refusal_at}
use Rattle.ds2_types.specs.Judgements.{first_type_refusal}

-- TypeClash at the place of a column, where it has this name
abbrev pub clash_of_column : List ℕ → PlacedName → TypeRefusals
clash_of_column name c = if bytes_eq c.name name then type_refusal_at TypeClash c.place else []

-- a table tells of each name which broken rule is given of these columns
abbrev pub HasClashes : {S : Type 0} → HashMap (List ℕ) (Refusal TypeKind) S → List PlacedName → Type 0
HasClashes clashes columns = (name : List ℕ) → get (pointwise nat_eq) clashes name ≡ first_type_refusal (from_each (clash_of_column name) columns)
