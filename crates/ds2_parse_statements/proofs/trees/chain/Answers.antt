use Rattle.std.proofs.Common.{◌<◌, length, rules}
use Rattle.ds2_parse_statements.proofs.TreeSteps.{chain_built}
use Rattle.ds2_parse_statements.proofs.trees.chain.Goals as goal

pub returns : goal.returns
returns c =
    let some : 0 < length c.args.rest = search (rules, c.is_empty.ensures, c.if-is_empty.false) in
    chain_built c.args.kind c.args.first c.in_ok-new.field-0 c.args.rest some c.in_ok-new.ensures.ok
