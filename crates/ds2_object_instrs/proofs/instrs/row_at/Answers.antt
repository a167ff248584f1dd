use Rattle.ds2_object_instrs.proofs.instrs.row_at.Goals as goal

pub returns : goal.returns
returns c = c.row_among.ensures
