-- Tables whose columns are schemas.
use Rattle.std.proofs.Common.{◌≡◌, Bool, true, false, List, [], ◌∷◌, bytes_eq, refl}
use Rattle.std.specs.Prelude.{if◌then◌else◌}
use Rattle.ds2_value.specs.Row.{Columns}
use Rattle.ds2_value.specs.Schema.{is_schema}
use Rattle.ds2_names.specs.declared.schemas.NamedSchema.{NamedSchema}
use Rattle.ds2_names.specs.SourceUnit.{columns_stored}
use Rattle.ds2_elaboration.specs.TypedPrograms.{HaveSchemas}

chosen : (here : Bool) (a b : Columns) → is_schema a ≡ true → is_schema b ≡ true → is_schema (if here then a else b) ≡ true
chosen true a b h k = h
chosen false a b h k = k

pub one_schema : (t : NamedSchema) (tables : List NamedSchema) → is_schema t.schema ≡ true → HaveSchemas (columns_stored tables) → HaveSchemas (columns_stored (t ∷ tables))
one_schema t tables h others name = chosen (bytes_eq t.name name) t.schema (columns_stored tables name) h (others name)

pub no_schema : HaveSchemas (columns_stored [])
no_schema name = refl
