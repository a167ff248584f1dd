use Rattle.std.proofs.Common.{List, [], ◌∷◌, refl}
use Rattle.std.proofs.lemmas.List.{drop_all}
use Rattle.ds2_meaning.specs.declared.hashes.HashVariable.{HashVariable}
use Rattle.ds2_locality.specs.Deeds.{global_at, variables_at}
use Rattle.ds2_locality.specs.Walk.{WalkScope, read_locations}
use Rattle.ds2_deeds.specs.NamedLocations.{code_home}
use Rattle.ds2_deeds.proofs.DeedLemmas.{drop_next}
use Rattle.ds2_recorded_walk.proofs.GoesLemmas.{goes_here, leaves_whole, none_left, read_one, reads_gone}
use Rattle.ds2_recorded_walk.proofs.walk_reads.read_variables.Goals as goal

pub variables-init : goal.variables-init
variables-init c = leaves_whole c.args.scope.now c.args.walk.now _

pub variables-preserved : goal.variables-preserved
variables-preserved c =
    let s = c.args.scope.now in
    let home = code_home s.body.home in
    reads_gone s c.args.place (λ (v : HashVariable). global_at home v.global ∷ []) (variables_at home) (λ x xs. refl) _ _ c.variable-item.result
    (drop_next c.args.variables.now c.variables.variable-index c.variable-item.result c.variables-test.true c.variable-item.is) c.variables.invariant
    (read_one s c.args.place c.global_location-at.ensures c.in_ok-read_at.ensures)

pub returns : goal.returns
returns c =
    let s = c.args.scope.now in
    let home = code_home s.body.home in
    goes_here s (λ calls. refl)
    (none_left s (λ (l : List HashVariable) (w : WalkScope). read_locations c.args.place (variables_at home l)) _ (drop_all c.variables.variable-index c.args.variables.now c.variables-test.false) refl c.variables.invariant)
