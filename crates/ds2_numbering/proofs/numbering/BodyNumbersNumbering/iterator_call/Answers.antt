use Rattle.std.proofs.Common.{Option, ap, ◌∙◌}
use Rattle.ds2_meaning.specs.HashObjects.{object_at}
use Rattle.ds2_meaning.specs.Location.{Home, Location}
use Rattle.ds2_gen.specs.CodeCells.{CodeCell}
use Rattle.ds2_gen.specs.ExpressionCode.{iterator_instr}
use Rattle.ds2_numbering.specs.CellNumbers.{cell_among, tree_of}
use Rattle.ds2_numbering.proofs.numbering.BodyNumbersNumbering.iterator_call.Goals as goal

pub returns : goal.returns
returns c =
    let b = c.args.self.now in
    let at = c.named.ensures ∙ ap (λ (h : Home). object_at h c.args.iterator.now) c.home.ensures in
    let found = c.in_ok-cell.ensures ∙ ap (λ (x : Location). cell_among b.slots.now (tree_of b.program.now) x) at in
    c.iterator_instr.ensures ∙ ap (λ (x : Option CodeCell). iterator_instr x c.args.function) found
