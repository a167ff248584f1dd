use Rattle.ds2_scope.proofs.NameTableLemmas.{is_new, has_further}
use Rattle.ds2_scope.proofs.name_table.NameSet.insert.Goals as goal

pub returns-clause-added : goal.returns-clause-added
returns-clause-added c = is_new c.self.inside.names c.args.self.now c.self.view_is c.args.name _ _ c.in_ok-insert.ensures.old c.is_none.ensures

pub returns-clause-updates : goal.returns-clause-updates
returns-clause-updates c = has_further c.self.inside.names c.args.self.now c.self.view_is c.insert.new.self c.args.name _ c.in_ok-insert.ensures.updates
