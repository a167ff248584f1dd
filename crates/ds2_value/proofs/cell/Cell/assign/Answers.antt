use Rattle.ds2_value.proofs.CutLemmas.{fits-filled, fits-cut}
use Rattle.ds2_value.proofs.cell.Cell.assign.Goals as goal

pub returns-in_ok-filled_to-in-Txt-Char-clause-of_type : goal.returns-in_ok-filled_to-in-Txt-Char-clause-of_type
returns-in_ok-filled_to-in-Txt-Char-clause-of_type c =
    rw (c.in-Txt-Char.is-1, c.in_ok-filled_to-in-Txt-Char.ensures) (fits-filled c.in-Txt-Char.n c.in-Txt-Char.t.now c.is_text.ensures)

pub returns-in_ok-of-in-Txt-Varchar-clause-of_type : goal.returns-in_ok-of-in-Txt-Varchar-clause-of_type
returns-in_ok-of-in-Txt-Varchar-clause-of_type c =
    rw (c.in-Txt-Varchar.is-1, c.in_ok-of-in-Txt-Varchar.ensures.text, c.cut_to.ensures) (fits-cut c.in-Txt-Varchar.n c.in-Txt-Varchar.t.now c.is_text-in-Txt-Varchar.ensures)
