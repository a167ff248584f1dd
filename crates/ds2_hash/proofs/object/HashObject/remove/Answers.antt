use Rattle.std.proofs.Common.{rules}
use Rattle.ds2_hash.proofs.ItemLemmas.{removes_nothing, removes_item}
use Rattle.ds2_hash.proofs.object.HashObject.remove.Goals as goal

pub returns-in_err-position : goal.returns-in_err-position
returns-in_err-position c =
    removes_nothing c.args.key.now c.args.self.now _ _ c.from_residual.result c.self.view_is c.in_err-position.ensures.index c.in_err-position.ensures.unchanged (search rules)

pub returns : goal.returns
returns c = removes_item c.args.key.now c.args.self.now _ _ _ c.self.view_is c.in_ok-position.ensures.index c.in_ok-position.ensures.entries
