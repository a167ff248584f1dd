use Rattle.std.proofs.Common.{List, [], ◌∷◌, map, Some, refl}
use Rattle.std.proofs.lemmas.List.{drop_all}
use Rattle.ds2_meaning.specs.declared.globals.OutputColumn.{OutputColumn}
use Rattle.ds2_meaning.specs.HashObjects.{object_at}
use Rattle.ds2_locality.specs.Deeds.{columns_at}
use Rattle.ds2_locality.specs.Walk.{WalkScope, read_locations}
use Rattle.ds2_deeds.specs.NamedLocations.{code_home}
use Rattle.ds2_deeds.proofs.DeedLemmas.{drop_next}
use Rattle.ds2_recorded_walk.proofs.GoesLemmas.{goes_here, leaves_whole, none_left, read_one, reads_gone}
use Rattle.ds2_recorded_walk.proofs.walk_reads.read_columns.Goals as goal

pub columns-init : goal.columns-init
columns-init c = leaves_whole c.args.scope.now c.args.walk.now _

pub columns-preserved : goal.columns-preserved
columns-preserved c =
    let s = c.args.scope.now in
    let home = code_home s.body.home in
    reads_gone s c.args.place (λ (x : OutputColumn). object_at home x.source ∷ []) (λ l. columns_at home (Some (map (λ (x : OutputColumn). x.source) l))) (λ x xs. refl) _ _ c.column-item.result
    (drop_next c.args.columns.now c.columns.column-index c.column-item.result c.columns-test.true c.column-item.is) c.columns.invariant
    (read_one s c.args.place c.named_location.ensures c.in_ok-read_at.ensures)

pub returns : goal.returns
returns c =
    let s = c.args.scope.now in
    let home = code_home s.body.home in
    goes_here s (λ calls. refl)
    (none_left s (λ (l : List OutputColumn) (w : WalkScope). read_locations c.args.place (columns_at home (Some (map (λ (x : OutputColumn). x.source) l)))) _
    (drop_all c.columns.column-index c.args.columns.now c.columns-test.false) refl c.columns.invariant)
