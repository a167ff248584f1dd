-- The instances of a unit, typed, as the code holds them.
use Rattle.std.specs.Prelude.{◌≡◌, List, ◌++◌, map}
use Rattle.ds2_meaning.specs.TypedStatement.{TypedStatements}
use Rattle.ds2_meaning.specs.View.{constructors_first, instance_tree}
use Rattle.ds2_names.specs.NameRules.{from_each}
use Rattle.ds2_names.specs.SourceUnit.{SourceInstance, TableColumns, spelled_name}
use Rattle.ds2_elaboration.specs.ExpressionTypes.{TypeScope}
use Rattle.ds2_elaboration.specs.ProgramTypes.{behind_constructors, constructions_of_sort, hash_of_sort, instance_of_sort, instance_refusals, iterator_of_sort, thread_instance_of}
use Rattle.ds2_elaboration.specs.Typings.{TypeRefusals}
use Rattle.ds2_elaboration.specs.UnitsBefore.{UnitsBefore}
use Rattle.ds2_instance_types.specs.Declarations.{packages_declared, hashes_declared, iterators_declared, threads_declared}
use Rattle.ds2_instance_types.specs.PackageInstances.{construction_of}
use Rattle.ds2_instance_types.specs.declared.declarations.TypedDeclaration.{TypedDeclaration}
use Rattle.ds2_instance_types.specs.declared.instances.TypedInstances.{TypedInstances}

-- the rules of types that these instances break
abbrev pub instances_rules : TableColumns → UnitsBefore → TypeScope → List SourceInstance → TypeRefusals
instances_rules tables before scope instances = from_each (λ (i : SourceInstance). instance_refusals tables before scope i i.sort) instances

-- lists with what one more declaration becomes
pub record IsGrownBy (old : TypedInstances) (d : TypedDeclaration) (new : TypedInstances) : Type 0 where
  pub instances : new.instances ≡ old.instances ++ packages_declared d
  pub hashes : new.hashes ≡ old.hashes ++ hashes_declared d
  pub iterators : new.iterators ≡ old.iterators ++ iterators_declared d
  pub threads : new.threads ≡ old.threads ++ threads_declared d

-- what these instances become, one after the other
pub record AreDeclared (tables : TableColumns) (before : UnitsBefore) (scope : TypeScope) (instances : List SourceInstance) (t : TypedInstances) : Type 0 where
  pub packages : map instance_tree t.instances ≡ from_each (λ (i : SourceInstance). instance_of_sort before (spelled_name i.name) i.sort) instances
  pub calls : map construction_of t.instances ≡ from_each (λ (i : SourceInstance). constructions_of_sort before i i.sort) instances
  pub hashes : t.hashes ≡ from_each (λ (i : SourceInstance). hash_of_sort tables before.names.made scope (spelled_name i.name) i.sort) instances
  pub iterators : t.iterators ≡ from_each (λ (i : SourceInstance). iterator_of_sort (spelled_name i.name) i.sort) instances
  pub threads : t.threads ≡ from_each (λ (i : SourceInstance). thread_instance_of before (spelled_name i.name) i.sort) instances

-- these instances of a unit whose declarations see a scope, typed: instances of packages with the calls of their constructors, hash
-- objects, iterators, and instances of thread programs, each kind in order
pub record AreInstancesOf (tables : TableColumns) (before : UnitsBefore) (scope : TypeScope) (instances : List SourceInstance) (t : TypedInstances) : Type 0 where
  pub packages : map instance_tree t.instances ≡ from_each (λ (i : SourceInstance). instance_of_sort before (spelled_name i.name) i.sort) instances
  pub constructors : (statements : TypedStatements) → constructors_first t.instances statements ≡ behind_constructors before instances statements
  pub hashes : t.hashes ≡ from_each (λ (i : SourceInstance). hash_of_sort tables before.names.made scope (spelled_name i.name) i.sort) instances
  pub iterators : t.iterators ≡ from_each (λ (i : SourceInstance). iterator_of_sort (spelled_name i.name) i.sort) instances
  pub threads : t.threads ≡ from_each (λ (i : SourceInstance). thread_instance_of before (spelled_name i.name) i.sort) instances
