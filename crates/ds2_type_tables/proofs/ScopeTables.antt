-- A scope of these tables is that of the definitions.
use Rattle.std.proofs.Common.{◌≡◌, ℕ, Bool, true, false, if◌then◌else◌, List, [], Option, Some, None, refl, sym, ap, ◌∙◌, subst}
use Rattle.std.specs.Prelude.{nat_eq}
use Rattle.std.specs.Cmp.Lexicographic.{pointwise}
use Rattle.std.specs.HashMap.{get}
use Rattle.ds2_value.specs.declared.ty.Ty.{Ty}
use Rattle.ds2_value.specs.declared.ty.Ty.TheVariants.{BigInt}
use Rattle.ds2_meaning.specs.IsTyped.{type_in}
use Rattle.ds2_meaning.specs.ProgramTree.{is_listed}
use Rattle.ds2_meaning.specs.declared.location.Global.TheVariants.{Present}
use Rattle.ds2_meaning.specs.declared.location.Reference.TheVariants.{At}
use Rattle.ds2_elaboration.specs.ExpressionTypes.{TypeScope, KnownVariable, known_variable, known_parameter, known_global, known_before_globals}
use Rattle.ds2_reference_types.specs.Scopes.{known_or, known_in, IsKnownAs, IsKnownVariable}
use Rattle.ds2_reference_types.specs.declared.scopes.KnownName.{KnownName}
use Rattle.ds2_reference_types.specs.declared.scopes.Scope.{Scope}
use Rattle.ds2_type_tables.specs.Globals.{column_known_as, parameter_known_as, known_flag, flag_of_name, global_known_as, HasGlobals}
use Rattle.ds2_type_tables.specs.Tables.{local_of, HasLocals}

flag_is : (types : TypeScope) (name : List ℕ) (listed : Bool)
    → IsKnownAs (if listed then Some (known_flag name) else None) (if listed then Some (record { reference = At (Present name); ty = BigInt; refusals = [] }) else None)
flag_is types name true = record { reference = refl; ty = refl; refusal = refl }
flag_is types name false = tt

parameter_is : (types : TypeScope) (name : List ℕ) (ty : Option Ty) → IsKnownAs (known_or (parameter_known_as name ty) (flag_of_name types.flags name)) (known_parameter types name ty)
parameter_is types name None = flag_is types name (is_listed types.flags name)
parameter_is types name (Some ty) = record { reference = refl; ty = refl; refusal = refl }

pub global_is : (types : TypeScope) (name : List ℕ) (ty : Option Ty)
    → IsKnownAs (known_or (column_known_as types.unjoined name ty) (known_or (parameter_known_as name (type_in types.parameters name)) (flag_of_name types.flags name))) (known_global types name ty)
global_is types name None = parameter_is types name (type_in types.parameters name)
global_is types name (Some ty) = record { reference = refl; ty = refl; refusal = refl }

name_is : (types : TypeScope) (name : List ℕ) (ty : Option Ty)
    → IsKnownAs (known_or (local_of name ty) (global_known_as types.unjoined types.variables types.parameters types.flags name)) (known_before_globals types name ty)
name_is types name None = global_is types name (type_in types.variables name)
name_is types name (Some ty) = record { reference = refl; ty = refl; refusal = refl }

-- each name stands for what the definitions say
pub variables_of_tables : (types : TypeScope) (scope : Scope) → HasLocals scope.locals.now types.locals → HasGlobals scope.globals.now types.unjoined types.variables types.parameters types.flags
    → (name : List ℕ) → IsKnownAs (known_in scope name) (known_variable types name)
variables_of_tables types scope h k name =
    subst (λ (x : Option KnownName). IsKnownAs x (known_variable types name))
    (sym (ap (λ (x : Option KnownName). known_or x (get (pointwise nat_eq) scope.globals.now name)) (h name) ∙ ap (known_or (local_of name (type_in types.locals name))) (k name)))
    (name_is types name (type_in types.locals name))
