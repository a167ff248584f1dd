use Rattle.std.proofs.Common.{◌≡◌}
use Rattle.ds2_merge.specs.KeyPlaces.{most_between}
use Rattle.ds2_merge.proofs.next_key.most_between.Given as goal

abbrev pub invariant-tables : goal.invariant-tables
invariant-tables l = l.most ≡ most_between l.begins l.ends l.table
