use Rattle.std.proofs.Common.{List, [], Some, ap, ◌∙◌}
use Rattle.ds2_meaning.specs.declared.hashes.DeclaredHash.{DeclaredHash}
use Rattle.ds2_meaning.specs.declared.units.TypedPackage.{TypedPackage}
use Rattle.ds2_meaning.specs.Location.{Location, is_same_location}
use Rattle.ds2_meaning.specs.View.{instance_tree, objects_tree}
use Rattle.ds2_program_code.specs.PlacedProgram.{hashes_at}
use Rattle.ds2_numbering.specs.CellNumbers.{instance_hashes}
use Rattle.ds2_numbering.specs.Searching.{search_by}
use Rattle.ds2_numbering.specs.SoughtLocations.{location_sought}
use Rattle.ds2_numbering.proofs.SearchLemmas.{mapped_list_searched}
use Rattle.ds2_numbering.proofs.find.search_instance_hashes.Goals as goal

pub instances-preserved : goal.instances-preserved
instances-preserved c =
    let test = λ (other : Location). is_same_location (location_sought c.args.sought.now) other in
    let x = c.instance-item.result in
    let s = c.instances.search in
    let is = c.in_ok-search.ensures ∙ ap (λ (l : List DeclaredHash). search_by test (hashes_at (Some x.name) (objects_tree l [])) s) c.as_slice-hashes.ensures
    ∙ ap (λ (p : TypedPackage). search_by test (hashes_at (Some x.name) (objects_tree p.hashes [])) s) c.get.ensures in
    mapped_list_searched test instance_tree instance_hashes c.args.instances.now c.instances.instance-index x s c.in_ok-search.search _ c.instances-test.true c.instance-item.is is c.instances.invariant
