use Rattle.ds2_scope.proofs.NameTableLemmas.{got, put}
use Rattle.ds2_scope.proofs.name_table.NameTable.remove.Goals as goal

pub returns-clause-value : goal.returns-clause-value
returns-clause-value g c = got _ c.self.inside.entries c.args.name.now _ _ c.self.view_is c.remove.ensures.value c.as_slice.ensures

pub returns-clause-updates : goal.returns-clause-updates
returns-clause-updates g c = put _ c.self.inside.entries c.remove.new.self c.args.name.now _ _ c.self.view_is c.remove.ensures.updates c.as_slice.ensures
