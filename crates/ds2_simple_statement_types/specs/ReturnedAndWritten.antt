-- What a returned value breaks, and the numbers of outputs.
use Rattle.std.specs.Prelude.{ℕ, bytes_eq, List, position, unwrap_or, Option, Some, None}
use Rattle.ds2_base.specs.declared.place.Place.{Place}
use Rattle.ds2_token.specs.declared.token.Token.{Token}
use Rattle.ds2_value.specs.declared.ty.Ty.{Ty}
use Rattle.ds2_names.specs.SourceUnit.{spelled_name}
use Rattle.ds2_elaboration.specs.Typings.{TypeRefusals, ElaboratedExpression, assigned_refusals}

-- something as it is
abbrev pub as_it_is : {A : Type 0} → A → A
as_it_is x = x

-- what a returned value breaks
abbrev pub returned_refusals : Place → Option Ty → ElaboratedExpression → TypeRefusals
returned_refusals place None e = e.refusals
returned_refusals place (Some ty) e = assigned_refusals ty place e

-- the number of the output that a token names
abbrev pub output_number : List (List ℕ) → Token → ℕ
output_number outputs table = unwrap_or (position (λ name. bytes_eq name (spelled_name table)) outputs) 0
