-- Instances with one more declaration, as the code holds them.
use Rattle.std.specs.Prelude.{Some, Result, Ok, Err}
use Rattle.ds2_base.specs.declared.place.Refusal.{Refusal}
use Rattle.ds2_meaning.specs.declared.refusals.TypeKind.{TypeKind}
use Rattle.ds2_names.specs.Refusals.{type_rank, first_of_both}
use Rattle.ds2_instance_types.specs.declared.declarations.TypedDeclaration.{TypedDeclaration}
use Rattle.ds2_instance_types.specs.declared.instances.FurtherInstance.{FurtherInstance}
use Rattle.ds2_instance_types.specs.declared.instances.TypedInstances.{TypedInstances}

-- what stands of instances and of one more declaration
abbrev pub instances_and : Result TypedInstances (Refusal TypeKind) → Result TypedDeclaration (Refusal TypeKind) → Result FurtherInstance (Refusal TypeKind)
instances_and (Ok all) (Ok own) = Ok (record { all = all; own = own })
instances_and (Ok all) (Err r) = Err r
instances_and (Err r) (Ok own) = Err r
instances_and (Err r) (Err q) = Err (first_of_both type_rank r (Some q))
