use Rattle.ds2_scope.proofs.NameTableLemmas.{got, put}
use Rattle.ds2_scope.proofs.name_table.NameTable.insert.Goals as goal

pub returns-clause-old : goal.returns-clause-old
returns-clause-old g c = got _ c.self.inside.entries c.args.name _ _ c.self.view_is c.in_ok-insert.ensures.old c.into_vec.ensures

pub returns-clause-updates : goal.returns-clause-updates
returns-clause-updates g c = put _ c.self.inside.entries c.insert.new.self c.args.name _ _ c.self.view_is c.in_ok-insert.ensures.updates c.into_vec.ensures
