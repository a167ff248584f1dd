use Rattle.std.proofs.Common.{sym, ◌∙◌, length, refl}
use Rattle.std.proofs.lemmas.Option.{slice_get_read}
use Rattle.ds2_deeds.specs.NamedLocations.{location_named}
use Rattle.ds2_deeds.proofs.NumberLemmas.{number_at}
use Rattle.ds2_deeds.proofs.numbers.number_of.Goals as goal

pub returns-then-is_one_location : goal.returns-then-is_one_location
returns-then-is_one_location c =
    let names = c.args.numbers.locations.now in
    let number = c.sought-number.result in
    let other = c.in-Some.other.now in
    let lookup = c.in-Some.ensures.lookup in
    let here = slice_get_read names (length names) number other refl lookup.3.0 lookup.1 in
    number_at names number other (location_named c.args.at) c.args.numbers.distinct here (sym c.is_one_location.ensures ∙ c.if-is_one_location.true)
