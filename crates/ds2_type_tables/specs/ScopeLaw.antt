-- What scopes of tables stand for.
use Rattle.std.specs.Prelude.{ℕ, List}
use Rattle.ds2_elaboration.specs.ExpressionTypes.{TypeScope, known_variable}
use Rattle.ds2_reference_types.specs.Scopes.{known_in, IsKnownAs, IsScopeOf}
use Rattle.ds2_reference_types.specs.declared.scopes.Scope.{Scope}
use Rattle.ds2_type_tables.specs.Bys.{HasBys}
use Rattle.ds2_type_tables.specs.Callables.{HasCallables}
use Rattle.ds2_type_tables.specs.Globals.{HasGlobals}
use Rattle.ds2_type_tables.specs.Objects.{HasObjects}
use Rattle.ds2_type_tables.specs.Tables.{HasLocals}

-- in a scope of these tables each name stands for what the definitions say
abbrev pub TablesTellVariables : Type 0
TablesTellVariables =
    (types : TypeScope) (scope : Scope) → HasLocals scope.locals.now types.locals → HasGlobals scope.globals.now types.unjoined types.variables types.parameters types.flags
    → (name : List ℕ) → IsKnownAs (known_in scope name) (known_variable types name)

-- a scope of these tables is what the definitions say that a method sees
abbrev pub TablesMakeScope : Type 0
TablesMakeScope =
    (types : TypeScope) (scope : Scope) → HasLocals scope.locals.now types.locals → HasGlobals scope.globals.now types.unjoined types.variables types.parameters types.flags
    → HasBys scope.bys.now types.bys → HasCallables scope.methods.now types.methods → HasObjects scope.objects.now types.objects → IsScopeOf types scope
