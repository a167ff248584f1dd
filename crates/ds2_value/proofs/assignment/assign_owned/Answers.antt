use Rattle.ds2_value.proofs.CutLemmas.{fits-filled, fits-cut}
use Rattle.ds2_value.proofs.assignment.assign_owned.Goals as goal

pub returns-in_ok-kept_or_filled-in-Char-clause-of_type : goal.returns-in_ok-kept_or_filled-in-Char-clause-of_type
returns-in_ok-kept_or_filled-in-Char-clause-of_type c =
    rw (c.in-Char.is, c.in_ok-kept_or_filled-in-Char.ensures.text) (fits-filled c.in-Char.n c.in-Txt.t c.kept_or_filled.ensures.utf8)

pub returns-in-Varchar-clause-of_type : goal.returns-in-Varchar-clause-of_type
returns-in-Varchar-clause-of_type c = rw (c.in-Varchar.is, c.shortened_to.ensures.text) (fits-cut c.in-Varchar.n c.in-Txt.t c.shortened_to.ensures.utf8)
