use Rattle.std.proofs.Common.{◌∙◌, ◌<◌, ◌≤◌, length, arith}
use Rattle.ds2_valid_code.proofs.OwnerLemmas.{entry_read, entry_beyond}
use Rattle.ds2_valid_code.proofs.scan.entry_at.Goals as goal

pub returns-then-at-len : goal.returns-then-at-len
returns-then-at-len c =
    let beyond : length c.args.code.now.instrs ≤ c.args.at = omega (arith, c.len.ensures, c.if-at-len.true) in
    entry_beyond c.args.code.now c.args.at beyond

pub returns : goal.returns
returns c =
    let inside : c.args.at < length c.args.code.now.instrs = omega (arith, c.len.ensures, c.if-at-len.false) in
    c.copied.ensures ∙ c.get.ensures.value ∙ entry_read c.args.code.now c.args.entries.now c.args.at c.requires inside
