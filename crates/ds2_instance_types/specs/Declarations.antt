-- Declarations of instances, one by one.
use Rattle.std.specs.Prelude.{◌≡◌, List, [], ◌∷◌, map, Result, Ok, Err}
use Rattle.ds2_base.specs.declared.place.Refusal.{Refusal}
use Rattle.ds2_meaning.specs.View.{instance_tree}
use Rattle.ds2_meaning.specs.declared.hashes.DeclaredHash.{DeclaredHash}
use Rattle.ds2_meaning.specs.declared.hashes.DeclaredIterator.{DeclaredIterator}
use Rattle.ds2_meaning.specs.declared.hashes.ThreadInstance.{ThreadInstance}
use Rattle.ds2_meaning.specs.declared.refusals.TypeKind.{TypeKind}
use Rattle.ds2_meaning.specs.declared.units.Instance as typed
use Rattle.ds2_names.specs.SourceUnit.{InstanceOf, SourceInstance, TableColumns, spelled_name}
use Rattle.ds2_scope.specs.declared.instances.Instance.{Instance}
use Rattle.ds2_elaboration.specs.ExpressionTypes.{TypeScope}
use Rattle.ds2_elaboration.specs.ProgramTypes.{constructions_of_sort, hash_of_sort, instance_of_sort, iterator_of_sort, thread_instance_of}
use Rattle.ds2_elaboration.specs.UnitsBefore.{UnitsBefore}
use Rattle.ds2_instance_types.specs.PackageInstances.{construction_of}
use Rattle.ds2_instance_types.specs.declared.declarations.TypedDeclaration as code
use Rattle.ds2_instance_types.specs.declared.declarations.TypedDeclaration.TheVariants as declaration

-- the declaration of an instance as one of this sort
abbrev pub declared_of_sort : Instance → InstanceOf → SourceInstance
declared_of_sort i sort = record { keyword = i.keyword.now; name = i.name.now; sort = sort }

-- the instance of a package that a declaration becomes, where it becomes one
abbrev pub packages_declared : code.TypedDeclaration → List typed.Instance
packages_declared (declaration.Package i) = i ∷ []
packages_declared _ = []

-- likewise a hash object
abbrev pub hashes_declared : code.TypedDeclaration → List DeclaredHash
hashes_declared (declaration.Hash h) = h ∷ []
hashes_declared _ = []

-- likewise an iterator
abbrev pub iterators_declared : code.TypedDeclaration → List DeclaredIterator
iterators_declared (declaration.Iterator i) = i ∷ []
iterators_declared _ = []

-- likewise an instance of a thread program
abbrev pub threads_declared : code.TypedDeclaration → List ThreadInstance
threads_declared (declaration.Thread t) = t ∷ []
threads_declared _ = []

-- what an instance of a unit whose declarations see a scope becomes
pub record IsDeclared (tables : TableColumns) (before : UnitsBefore) (scope : TypeScope) (i : SourceInstance) (d : code.TypedDeclaration) : Type 0 where
  pub packages : map instance_tree (packages_declared d) ≡ instance_of_sort before (spelled_name i.name) i.sort
  pub calls : map construction_of (packages_declared d) ≡ constructions_of_sort before i i.sort
  pub hashes : hashes_declared d ≡ hash_of_sort tables before.names.made scope (spelled_name i.name) i.sort
  pub iterators : iterators_declared d ≡ iterator_of_sort (spelled_name i.name) i.sort
  pub threads : threads_declared d ≡ thread_instance_of before (spelled_name i.name) i.sort

-- what stands of an instance of a package, as what its declaration becomes
abbrev pub package_declared : Result typed.Instance (Refusal TypeKind) → Result code.TypedDeclaration (Refusal TypeKind)
package_declared (Ok own) = Ok (declaration.Package own)
package_declared (Err refusal) = Err refusal
