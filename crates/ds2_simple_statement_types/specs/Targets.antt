-- The variables that statements set, as the code holds them.
use Rattle.std.specs.Prelude.{◌≡◌, Option, Some, None}
use Rattle.ds2_elaboration.specs.ExpressionTypes.{KnownVariable}
use Rattle.ds2_types.specs.Judgements.{first_type_refusal}
use Rattle.ds2_reference_types.specs.Scopes.{reference_of}
use Rattle.ds2_reference_types.specs.declared.scopes.KnownName.{KnownName}
use Rattle.ds2_simple_statement_types.specs.declared.targets.Target.{Target}

-- what the code knows of a variable
pub record IsTargetOf (t : Target) (k : KnownName) : Type 0 where
  pub reference : t.reference ≡ reference_of k.standing k.name
  pub ty : t.ty ≡ k.ty
  pub refusal : t.refusal ≡ k.refusal

-- a variable that may be set
pub record IsHeldTarget (t : Target) (v : KnownVariable) : Type 0 where
  pub reference : t.reference ≡ v.reference
  pub ty : t.ty ≡ v.ty
  pub refusal : t.refusal ≡ first_type_refusal v.refusals

-- both are there, or neither
abbrev pub IsTargetAs : Option Target → Option KnownVariable → Type 0
IsTargetAs None None = Unit {0}
IsTargetAs (Some t) (Some v) = IsHeldTarget t v
IsTargetAs _ _ = ⊥
