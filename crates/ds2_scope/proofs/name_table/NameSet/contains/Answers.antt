use Rattle.std.proofs.Common.{◌≡◌, nat_eq, ◌∙◌, arith}
use Rattle.std.proofs.lemmas.Grind.{common_steps}
use Rattle.std.specs.Prelude.{is_some}
use Rattle.std.specs.Cmp.Lexicographic.{pointwise}
use Rattle.std.specs.HashMap.{get}
use Rattle.ds2_scope.proofs.NameTableLemmas.{has_name}
use Rattle.ds2_scope.proofs.name_table.NameSet.contains.Goals as goal

pub returns : goal.returns
returns c =
    let found : c.is_some.result ≡ is_some (get (pointwise nat_eq) c.self.inside.names c.args.name.now) = grind (arith, common_steps) in
    found ∙ has_name c.self.inside.names c.args.self.now c.self.view_is c.args.name.now
