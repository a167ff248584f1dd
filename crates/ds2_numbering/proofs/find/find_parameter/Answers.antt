use Rattle.std.proofs.Common.{ap, arith}
use Rattle.std.proofs.lemmas.Grind.{common_steps}
use Rattle.ds2_meaning.specs.Location.{Location, is_same_location}
use Rattle.ds2_meaning.specs.Reading.{stage_instance}
use Rattle.ds2_meaning.specs.View.{reading_with_run}
use Rattle.ds2_program_code.specs.PlacedProgram.{parameter_locations}
use Rattle.ds2_numbering.specs.CellNumbers.{read_parameters, tree_of}
use Rattle.ds2_numbering.specs.Searching.{unbegun, search_by}
use Rattle.ds2_numbering.specs.SoughtLocations.{location_sought}
use Rattle.ds2_numbering.proofs.SearchLemmas.{first_found, list_searched, parameters_read}
use Rattle.ds2_numbering.proofs.find.find_parameter.Goals as goal

pub threads-preserved : goal.threads-preserved
threads-preserved c =
    let p = c.args.program.now in
    let test = λ (other : Location). is_same_location (location_sought c.args.sought.now) other in
    list_searched test (read_parameters (stage_instance (reading_with_run p.run p.reading))) c.as_slice-threads.result.now c.threads.thread-index c.thread-item.result c.threads.search c.in_ok-search.search _
    c.threads-test.true c.thread-item.is c.in_ok-search.ensures c.threads.invariant

pub returns : goal.returns
returns c =
    let p = c.args.program.now in
    let test = λ (other : Location). is_same_location (location_sought c.args.sought.now) other in
    let all = ap (λ l. search_by test l unbegun) (parameters_read (stage_instance (reading_with_run p.run p.reading)) p.threads) in
    first_found test (parameter_locations (tree_of p)) c.threads.search (grind (arith, common_steps, c.threads.invariant, all))
