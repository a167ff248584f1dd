use Rattle.std.proofs.Common.{◌≡◌, ◌++◌, drop}
use Rattle.ds2_tree.specs.Lists.{one_token, all_spelled}
use Rattle.ds2_spelling.proofs.tokens.push_tokens.Given as goal

abbrev pub invariant-loop-token : goal.invariant-loop-token
invariant-loop-token l = l.out ++ all_spelled one_token (drop l.token-index l.tokens) ≡ l.fn.out ++ all_spelled one_token l.tokens
