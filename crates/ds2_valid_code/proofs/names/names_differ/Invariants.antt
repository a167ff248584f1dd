use Rattle.std.proofs.Common.{◌≡◌, ℕ, List, true, take}
use Rattle.std.specs.Prelude.{map}
use Rattle.ds2_valid_code.specs.SeenNames.{has_name}
use Rattle.ds2_code.specs.ValidCode.{names_differ}
use Rattle.ds2_valid_code.proofs.NameLemmas.{stands_among}
use Rattle.ds2_valid_code.proofs.names.names_differ.Given as goal

abbrev pub invariant-items : goal.invariant-items
invariant-items g l = record {
  differ : names_differ (map g.T.Named.own_name (take l.item-index l.items)) ≡ true;
  seen : (name : List ℕ) → has_name l.seen name ≡ stands_among name (map g.T.Named.own_name (take l.item-index l.items));
}
