use Rattle.ds2_scope.proofs.NameTableLemmas.{got}
use Rattle.ds2_scope.proofs.name_table.NameTable.get.Goals as goal

pub returns : goal.returns
returns g c = got _ c.self.inside.entries c.args.name.now _ _ c.self.view_is c.get.ensures.value c.as_slice.ensures
