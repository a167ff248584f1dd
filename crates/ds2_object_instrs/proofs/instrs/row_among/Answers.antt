use Rattle.std.proofs.Common.{option_map, ap, ◌∙◌}
use Rattle.ds2_object_instrs.specs.InstrSpelling.{instr_row_of}
use Rattle.ds2_object_instrs.proofs.ReadSteps.{got_mapped}
use Rattle.ds2_object_instrs.proofs.instrs.row_among.Goals as goal

pub returns : goal.returns
returns c = ap (option_map instr_row_of) c.instr_at.ensures ∙ got_mapped instr_row_of c.args.instrs.now c.args.number
