use Rattle.std.proofs.Common.{Option, ap, ◌∙◌}
use Rattle.ds2_meaning.specs.Location.{Location}
use Rattle.ds2_gen.specs.CodeCells.{CodeCell}
use Rattle.ds2_gen.specs.ExpressionCode.{store_instr}
use Rattle.ds2_numbering.specs.CellNumbers.{cell_among, tree_of}
use Rattle.ds2_numbering.proofs.numbering.BodyNumbersNumbering.store_parameter.Goals as goal

pub returns : goal.returns
returns c =
    let b = c.args.self.now in
    let found = c.in_ok-cell.ensures ∙ ap (λ (x : Location). cell_among b.slots.now (tree_of b.program.now) x) c.parameter.ensures in
    c.store_instr.ensures ∙ ap (λ (x : Option CodeCell). store_instr x) found
