-- Flags of BY variables.
use Rattle.std.specs.Prelude.{ℕ, codes, if◌then◌else◌, List, [], Option, Some, None}
use Rattle.ds2_base.specs.declared.place.Place.{Place}
use Rattle.ds2_token.specs.Words.{is_word}
use Rattle.ds2_token.specs.declared.token.Token.{Token}
use Rattle.ds2_meaning.specs.declared.location.Global.{Global}
use Rattle.ds2_meaning.specs.declared.location.Global.TheVariants.{First, Last}
use Rattle.ds2_elaboration.specs.ExpressionTypes.{flag_node}
use Rattle.ds2_elaboration.specs.Typings.{ElaboratedExpression, form_of_operands, elaborated_nameless}

-- the flag of the BY variable of this name that a word names
abbrev pub flag_named : Token → List ℕ → Option Global
flag_named object name = if is_word (codes "first") object then Some (First name) else if is_word (codes "last") object then Some (Last name) else None

-- a flag, or a word at this place that names none
abbrev pub flag_form : Place → Option Global → ElaboratedExpression
flag_form place None = elaborated_nameless place
flag_form place (Some flag) = form_of_operands [] (flag_node flag)
