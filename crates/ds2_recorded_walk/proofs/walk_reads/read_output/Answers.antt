use Rattle.std.proofs.Common.{◌≡◌, List, length, map, Option, Some, None, option_map, refl, sym, ap, ◌∙◌}
use Rattle.std.specs.Prelude.{ℕ, slice_get}
use Rattle.std.proofs.lemmas.Option.{slice_get_read, slice_get_past, slice_get-map}
use Rattle.ds2_emitter.proofs.Appended.{on_ok}
use Rattle.ds2_meaning.specs.declared.globals.OutputColumn.{OutputColumn}
use Rattle.ds2_meaning.specs.ProgramTree.{sources}
use Rattle.ds2_locality.specs.Deeds.{columns_at}
use Rattle.ds2_locality.specs.Walk.{WalkScope, read_locations}
use Rattle.ds2_deeds.specs.NamedLocations.{code_home}
use Rattle.ds2_recorded_walk.proofs.GoesLemmas.{goes_nowhere, goes_here, gone_by}
use Rattle.ds2_recorded_walk.proofs.walk_reads.read_output.Goals as goal

pub returns-in-None : goal.returns-in-None
returns-in-None c =
    let s = c.args.scope.now in
    let outputs = s.body.outputs.now in
    let none : slice_get (map sources outputs) c.args.number ≡ None = slice_get-map sources outputs c.args.number ∙ ap (option_map sources) (slice_get_past outputs c.args.number c.in-None.ensures.lookup.3) in
    goes_here s (λ calls. ap (λ (o : Option (List (List ℕ))). read_locations c.args.place (columns_at (code_home s.body.home) o)) (sym none)) (goes_nowhere s c.args.walk.now)

pub returns-in-Some : goal.returns-in-Some
returns-in-Some c =
    let s = c.args.scope.now in
    let outputs = s.body.outputs.now in
    let output = c.in-Some.output.now in
    let found = c.in-Some.ensures.lookup in
    let there : slice_get (map sources outputs) c.args.number ≡ Some (sources output) =
    slice_get-map sources outputs c.args.number ∙ ap (option_map sources) (slice_get_read outputs (length outputs) c.args.number output refl found.3.0 found.1) in
    on_ok c.read_columns.result c.read_columns.ensures
    (λ p. goes_here s (λ calls. ap (λ (o : Option (List (List ℕ))). read_locations c.args.place (columns_at (code_home s.body.home) o)) (sym there))
    (gone_by s (λ (l : List OutputColumn) (w : WalkScope). read_locations c.args.place (columns_at w.code.home (Some (map (λ (x : OutputColumn). x.source) l)))) _ _ c.as_slice.ensures p))
