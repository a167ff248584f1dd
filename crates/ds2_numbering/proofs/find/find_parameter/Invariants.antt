use Rattle.std.proofs.Common.{◌≡◌, drop}
use Rattle.std.specs.Prelude.{flat_map}
use Rattle.ds2_meaning.specs.Reading.{stage_instance}
use Rattle.ds2_meaning.specs.View.{reading_with_run}
use Rattle.ds2_numbering.specs.CellNumbers.{read_parameters}
use Rattle.ds2_numbering.specs.Searching.{unbegun, search_among}
use Rattle.ds2_numbering.specs.SoughtLocations.{location_sought}
use Rattle.ds2_numbering.proofs.find.find_parameter.Given as goal

abbrev pub invariant-threads : goal.invariant-threads
invariant-threads l =
    search_among (location_sought l.sought) (flat_map (read_parameters (stage_instance (reading_with_run l.program.run l.program.reading))) (drop l.thread-index l.threads)) l.search
    ≡ search_among (location_sought l.sought) (flat_map (read_parameters (stage_instance (reading_with_run l.program.run l.program.reading))) l.threads) unbegun
