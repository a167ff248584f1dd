use Rattle.std.proofs.Common.{List, [], ◌++◌, map, Some, None}
use Rattle.std.specs.Prelude.{flat_map}
use Rattle.ds2_locality.specs.Verdict.{hashes_kept_at, iterators_kept_at}
use Rattle.ds2_meaning.specs.declared.hashes.DeclaredHash.{DeclaredHash}
use Rattle.ds2_meaning.specs.declared.hashes.DeclaredIterator.{DeclaredIterator}
use Rattle.ds2_meaning.specs.declared.units.Instance.{Instance}
use Rattle.ds2_meaning.specs.ProgramTree.{InstanceTree}
use Rattle.ds2_meaning.specs.View.{instance_tree, objects_tree}
use Rattle.ds2_deeds.specs.CodeTrees.{nameless_tree}
use Rattle.ds2_deeds.specs.NamedLocations.{locations_named}
use Rattle.ds2_deeds.proofs.TableLemmas.{told_as, then_told}
use Rattle.ds2_deeds.proofs.table.add_objects.Goals as goal

pub returns : goal.returns
returns c =
    let hashes = told_as (λ (l : List DeclaredHash). hashes_kept_at None (objects_tree l [])) _ _ _ _ c.as_slice.ensures c.in_ok-add_hashes.ensures in
    let instance_hashes = told_as (λ (l : List Instance). flat_map (λ (i : InstanceTree). hashes_kept_at (Some i.name) i.objects) (map instance_tree l)) _ _ _ _ c.as_slice-instances.ensures c.in_ok-add_instance_hashes.ensures in
    let iterators = told_as (λ (l : List DeclaredIterator). iterators_kept_at None (objects_tree [] l)) _ _ _ _ c.as_slice-2.ensures c.in_ok-add_iterators.ensures in
    let instance_iterators = told_as (λ (l : List Instance). flat_map (λ (i : InstanceTree). iterators_kept_at (Some i.name) i.objects) (map instance_tree l)) _ _ _ _ c.as_slice-instances.ensures c.in_ok-add_instance_iterators.ensures in
    let p = nameless_tree c.args.program.now in
    let before = locations_named c.args.locations.now in
    let first = locations_named c.add_hashes.new.locations in
    let second = locations_named c.add_instance_hashes.new.locations in
    let third = locations_named c.add_iterators.new.locations in
    let last = locations_named c.add_instance_iterators.new.locations in
    let own_hashes = hashes_kept_at None p.objects in
    let other_hashes = flat_map (λ (i : InstanceTree). hashes_kept_at (Some i.name) i.objects) p.instances in
    let own_iterators = iterators_kept_at None p.objects in
    let other_iterators = flat_map (λ (i : InstanceTree). iterators_kept_at (Some i.name) i.objects) p.instances in
    let all_hashes = then_told before own_hashes other_hashes first second hashes instance_hashes in
    let and_iterators = then_told before (own_hashes ++ other_hashes) own_iterators second third all_hashes iterators in
    then_told before (own_hashes ++ other_hashes ++ own_iterators) other_iterators third last and_iterators instance_iterators
