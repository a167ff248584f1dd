use Rattle.std.proofs.Common.{◌≡◌, drop}
use Rattle.std.specs.Prelude.{◌&&◌}
use Rattle.ds2_statement_types.specs.Returning.{chained_return}
use Rattle.ds2_statement_types.proofs.ReturningForms.{parts_return}
use Rattle.ds2_statement_types.proofs.returning.+returning.Given as goal

abbrev pub invariant-others_return-others : goal.invariant-others_return-others
invariant-others_return-others l = (l.all && chained_return (drop l.x-index l.others)) ≡ chained_return l.others

abbrev pub invariant-whens_return-whens : goal.invariant-whens_return-whens
invariant-whens_return-whens l = (l.all && parts_return (drop l.when-index l.whens)) ≡ parts_return l.whens
