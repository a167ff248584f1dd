use Rattle.std.proofs.Common.{Option, ap, ◌∙◌}
use Rattle.ds2_meaning.specs.HashObjects.{object_at}
use Rattle.ds2_meaning.specs.Location.{Home, Location}
use Rattle.ds2_gen.specs.CodeCells.{CodeCell}
use Rattle.ds2_gen.specs.ExpressionCode.{hash_instr}
use Rattle.ds2_numbering.specs.CellNumbers.{cell_among, tree_of}
use Rattle.ds2_numbering.proofs.numbering.BodyNumbersNumbering.hash_call.Goals as goal

pub returns : goal.returns
returns c =
    let b = c.args.self.now in
    let at = c.named.ensures ∙ ap (λ (h : Home). object_at h c.args.hash.now) c.home.ensures in
    let found = c.in_ok-cell.ensures ∙ ap (λ (x : Location). cell_among b.slots.now (tree_of b.program.now) x) at in
    c.hash_instr.ensures ∙ ap (λ (x : Option CodeCell). hash_instr x c.args.function) found
