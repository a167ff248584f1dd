use Rattle.std.proofs.Common.{ℕ, List, ◌∷◌, drop, get_or, refl, sym, ap, ◌∙◌, drop-cons, add-one}
use Rattle.std.specs.Prelude.{slice_get}
use Rattle.std.proofs.lemmas.List.{drop_all}
use Rattle.ds2_locality.specs.Deeds.{columns_at, columns_written}
use Rattle.ds2_locality.specs.Walk.{WalkScope, read_locations}
use Rattle.ds2_deeds.specs.CodeTrees.{scope_of}
use Rattle.ds2_recorded_walk.proofs.GoesLemmas.{goes_here, leaves_whole, none_left, reads_gone}
use Rattle.ds2_recorded_walk.proofs.walk_reads.read_outputs.Goals as goal

pub outputs-init : goal.outputs-init
outputs-init c = leaves_whole c.args.scope.now c.args.walk.now _

pub outputs-preserved : goal.outputs-preserved
outputs-preserved c =
    let s = c.args.scope.now in
    let code = scope_of s.body in
    let numbers = c.args.outputs.now in
    let i = c.outputs.number-index in
    reads_gone s c.args.place (λ (n : ℕ). columns_at code.home (slice_get code.outputs n)) (columns_written code) (λ x xs. refl) _ _ (get_or numbers i 0)
    (drop-cons numbers i 0 c.outputs-test.true ∙ ap (λ j. get_or numbers i 0 ∷ drop j numbers) (sym (add-one i))) c.outputs.invariant
    (goes_here s (λ calls. refl) c.in_ok-read_output.ensures)

pub returns : goal.returns
returns c =
    let s = c.args.scope.now in
    goes_here s (λ calls. refl)
    (none_left s (λ (l : List ℕ) (w : WalkScope). read_locations c.args.place (columns_written (scope_of s.body) l)) _ (drop_all c.outputs.number-index c.args.outputs.now c.outputs-test.false) refl c.outputs.invariant)
