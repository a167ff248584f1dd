use Rattle.std.proofs.Common.{List, [], Some, ap}
use Rattle.std.proofs.lemmas.Result.{on_ok_weaker}
use Rattle.ds2_locality.specs.Deeds.{CodeScope}
use Rattle.ds2_locality.specs.Verdict.{hashes_kept_at, own_object_at}
use Rattle.ds2_meaning.specs.declared.hashes.DeclaredHash.{DeclaredHash}
use Rattle.ds2_meaning.specs.HashObjects.{hash_named}
use Rattle.ds2_meaning.specs.ProgramTree.{objects_of}
use Rattle.ds2_meaning.specs.View.{objects_tree}
use Rattle.ds2_deeds.specs.CodeTrees.{nameless_tree}
use Rattle.ds2_deeds.specs.NamedLocations.{locations_named}
use Rattle.ds2_deeds.proofs.TableLemmas.{told_as, then_told}
use Rattle.ds2_deeds.proofs.table.add_declared_hashes.Goals as goal

pub returns : goal.returns
returns c =
    let p = nameless_tree c.args.program.now in
    let name = c.args.name.now in
    let before = locations_named c.args.locations.now in
    let first = locations_named c.add_own_hash.new.locations in
    let last = locations_named c.add_hashes.new.locations in
    let own = told_as (λ (l : List DeclaredHash). own_object_at name (hash_named l name)) _ _ before first c.as_slice.ensures c.in_ok-add_own_hash.ensures in
    let scope = ap (λ (s : CodeScope). s.objects.hashes) c.method_scope-scope.ensures in
    on_ok_weaker c.add_hashes.result
    (λ e.
    then_told before (own_object_at name (hash_named p.objects.hashes name)) (hashes_kept_at (Some name) (objects_of p (Some name))) first last own
    (told_as (λ (l : List DeclaredHash). hashes_kept_at (Some name) (objects_tree l [])) _ _ first last scope e)) c.add_hashes.ensures
