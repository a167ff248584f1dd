use Rattle.std.proofs.Common.{◌≡◌, map, drop}
use Rattle.ds2_meaning.specs.declared.globals.Variable.{Variable}
use Rattle.ds2_numbering.specs.Searching.{search_among}
use Rattle.ds2_numbering.specs.SoughtLocations.{location_sought, stage_parameter_at}
use Rattle.ds2_numbering.proofs.find.search_parameters.Given as goal

abbrev pub invariant-parameters : goal.invariant-parameters
invariant-parameters l =
    search_among (location_sought l.sought) (map (λ (v : Variable). stage_parameter_at l.instance v.name) (drop l.parameter-index l.parameters)) l.search
    ≡ search_among (location_sought l.sought) (map (λ (v : Variable). stage_parameter_at l.instance v.name) l.parameters) l.fn.begun
