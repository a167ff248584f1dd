-- What the statements of a method see, as the code looks it up.
use Rattle.std.specs.Prelude.{◌≡◌, ℕ, nat_eq, bytes_eq, List, length, position}
use Rattle.std.specs.Cmp.Lexicographic.{pointwise}
use Rattle.std.specs.HashMap.{get}
use Rattle.ds2_elaboration.specs.ExpressionTypes.{TypeScope}
use Rattle.ds2_reference_types.specs.Scopes.{IsScopeOf}
use Rattle.ds2_simple_statement_types.specs.declared.method_scope.MethodScope.{MethodScope}

-- the code looks up what the statements of a method see
pub record IsMethodScope (types : TypeScope) (scope : MethodScope) : Type 0 where
  pub names : IsScopeOf types scope.names
  pub outputs : (name : List ℕ) → get (pointwise nat_eq) scope.outputs.now name ≡ position (λ output. bytes_eq output name) types.outputs
  pub count : scope.output_count ≡ length types.outputs
  pub returns : scope.returns ≡ types.returns
