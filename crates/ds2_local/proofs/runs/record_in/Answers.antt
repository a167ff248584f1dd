use Rattle.ds2_meaning.specs.ProgramTree.{program_has_output}
use Rattle.ds2_meaning.specs.View.{system_tree}
use Rattle.ds2_deeds.specs.CodeTrees.{nameless_tree}
use Rattle.ds2_local.specs.JudgedTrees.{place_of_system}
use Rattle.ds2_local.proofs.BodyLemmas.{run_recorded}
use Rattle.ds2_local.proofs.runs.record_in.Goals as goal

pub returns : goal.returns
returns c =
    let p = c.args.program.now in
    run_recorded c.args.scope.now (system_tree p.run).statements (program_has_output (nameless_tree p)) (place_of_system p.run) _ _ _ _ _ c.all-locations.ensures c.new-walk.ensures c.in_ok-walk_system.ensures c.in_ok-end.ensures
    c.in_ok-walk_implicit_output.ensures
