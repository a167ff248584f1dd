-- What a column keeps.
use Rattle.std.specs.Prelude.{◌≡◌, Bool, List, [], ◌∷◌, ◌++◌, ◌≤◌, length}
use Rattle.ds2_columns.specs.Columns.{IsColumn}
use Rattle.ds2_columns.specs.Marks.{with_nulls}
use Rattle.ds2_value.specs.declared.ty.Ty.{Ty}
use Rattle.ds2_value.specs.declared.value.Value.{Value}

-- what holds of a type, marks and values that are kept: none is marked that is not there, and each fits
pub record KeepsColumn (ty : Ty) (marks : List Bool) (values : List Value) : Type 0 where
  pub marked : length marks ≤ length values
  pub column : IsColumn (record { ty = ty; values = with_nulls marks values })

-- values with one more behind them
pub record HasOneMore (before now : List Value) : Type 0 where
  pub last : Value
  pub grown : now ≡ before ++ last ∷ []
