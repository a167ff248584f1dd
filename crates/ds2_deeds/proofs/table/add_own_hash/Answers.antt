use Rattle.std.proofs.Common.{sym, ap, ◌∙◌}
use Rattle.std.specs.Option.{option_copied}
use Rattle.std.proofs.lemmas.Result.{on_ok_weaker}
use Rattle.ds2_meaning.specs.HashObjects.{hash_named}
use Rattle.ds2_deeds.specs.NamedLocations.{locations_named}
use Rattle.ds2_deeds.proofs.TableLemmas.{none_told, own_told}
use Rattle.ds2_deeds.proofs.table.add_own_hash.Goals as goal

pub returns-in-None : goal.returns-in-None
returns-in-None c = none_told (locations_named c.args.locations.now) c.args.name.now (hash_named c.args.hashes.now c.args.name.now) (sym c.find_hash.ensures ∙ ap (λ o. option_copied o) c.in-None.is)

pub returns-in-Some : goal.returns-in-Some
returns-in-Some c =
    on_ok_weaker c.add.result
    (own_told (locations_named c.args.locations.now) c.args.name.now (hash_named c.args.hashes.now c.args.name.now) _ (sym c.find_hash.ensures ∙ ap (λ o. option_copied o) c.in-Some.is) _ _ c.named_location.ensures) c.add.ensures
