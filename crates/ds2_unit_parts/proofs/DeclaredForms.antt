-- The type of a declared variable, as a table tells it.
use Rattle.std.proofs.Common.{◌≡◌, ℕ, List, Option, Some, None, refl}
use Rattle.std.specs.Option.{option_map}
use Rattle.ds2_value.specs.declared.ty.Ty.{Ty}
use Rattle.ds2_reference_types.specs.declared.scopes.KnownName.{KnownName}
use Rattle.ds2_type_tables.specs.Tables.{local_of}

-- the type of a variable that is there
pub type_of_local : (name : List ℕ) (ty : Option Ty) → option_map (λ (k : KnownName). k.ty) (local_of name ty) ≡ ty
type_of_local name None = refl
type_of_local name (Some ty) = refl
