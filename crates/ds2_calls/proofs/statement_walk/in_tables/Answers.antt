use Rattle.std.proofs.Common.{◌+◌, [], ◌∷◌, drop, arith}
use Rattle.std.specs.Prelude.{map}
use Rattle.std.proofs.lemmas.Grind.{common_steps}
use Rattle.ds2_names.specs.Uses.{WritesTo}
use Rattle.ds2_calls.proofs.UseLemmas.{one_more_use}
use Rattle.ds2_calls.proofs.statement_walk.in_tables.Goals as goal

pub tables-preserved : goal.tables-preserved
tables-preserved g c =
    let k = one_more_use (g.R.UseRule.places c.args.rule.now) c.tables.found (WritesTo c.table-item.result ∷ []) (map WritesTo (drop (c.tables.table-index + 1) c.args.tables.now)) in
    grind (arith, common_steps, k, c.tables.invariant)
