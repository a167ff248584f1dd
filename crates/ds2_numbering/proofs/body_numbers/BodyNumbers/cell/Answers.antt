use Rattle.std.proofs.Common.{option_map, Option}
use Rattle.ds2_gen.specs.CodeCells.{SlotCell}
use Rattle.ds2_numbering.specs.CellNumbers.{code_cell}
use Rattle.ds2_numbering.specs.declared.cell.Cell.{Cell}
use Rattle.ds2_numbering.proofs.BodyLemmas.{if_seen, chosen_first, chosen_next}
use Rattle.ds2_numbering.proofs.body_numbers.BodyNumbers.cell.Goals as goal

pub returns-in-None : goal.returns-in-None
returns-in-None c =
    if_seen (λ (cell : Option Cell). option_map code_cell cell) _ _ c.other_cell.result (chosen_next (λ n. SlotCell n) _ _ _ c.number.ensures c.in-None.is) c.other_cell.ensures

pub returns-in-Some : goal.returns-in-Some
returns-in-Some c = chosen_first (λ n. SlotCell n) _ _ _ _ c.number.ensures c.in-Some.is
