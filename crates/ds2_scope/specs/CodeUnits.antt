-- Units and instances, as the code holds them.
use Rattle.std.specs.Prelude.{List, [], ◌∷◌, map, option_copied, Option, Some, None}
use Rattle.ds2_token.specs.declared.token.Token.{Token}
use Rattle.ds2_tree.specs.UnitViews.{global_tree}
use Rattle.ds2_tree.specs.declared.globals.BracketedName.{BracketedName}
use Rattle.ds2_names.specs.SourceUnit as source
use Rattle.ds2_scope.specs.declared.unit.Unit.{Unit}
use Rattle.ds2_scope.specs.declared.unit.UnitKind.{UnitKind}
use Rattle.ds2_scope.specs.declared.unit.UnitKind.TheVariants as kind
use Rattle.ds2_scope.specs.declared.instances.Instance.{Instance}
use Rattle.ds2_scope.specs.declared.instances.InstanceSort.{InstanceSort}
use Rattle.ds2_scope.specs.declared.instances.InstanceSort.TheVariants as sort

-- the kind of a unit
abbrev pub unit_kind : UnitKind → source.UnitKind
unit_kind kind.Package = source.OfPackage
unit_kind kind.Thread = source.OfThread
unit_kind kind.Data = source.OfData

-- a unit of a source
abbrev pub unit_source : Unit → source.UnitSource
unit_source u = record {
  kind = unit_kind u.kind;
  name = option_copied u.name;
  parameters = u.parameters.now;
  outputs = u.outputs.now;
  globals = map global_tree u.globals.now;
}

-- the names of names between brackets
abbrev pub names_bracketed : List BracketedName → List Token
names_bracketed names = map (λ (n : BracketedName). n.name) names

-- what an instance is one of
abbrev pub instance_sort : InstanceSort → source.InstanceOf
instance_sort (sort.Package package' arguments) = source.AnyPackage package'.now arguments.now
instance_sort (sort.Hash keys items table) = source.HashObject (names_bracketed keys.now) (names_bracketed items.now) (option_copied table)
instance_sort (sort.Iterator hash) = source.HashIterator hash.now
instance_sort (sort.Thread thread) = source.AnyThread thread.now

-- an instance of a unit
abbrev pub source_instance : Instance → source.SourceInstance
source_instance i = record { keyword = i.keyword.now; name = i.name.now; sort = instance_sort i.sort }

-- instances of a unit
abbrev pub instances_in_source : List Instance → List source.SourceInstance
instances_in_source instances = map source_instance instances

-- an instance, where there is one, as a list
abbrev pub instance_listed : Option Instance → List source.SourceInstance
instance_listed None = []
instance_listed (Some i) = source_instance i ∷ []
