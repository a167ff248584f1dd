use Rattle.std.proofs.Common.{Option, option_map, sym, ap, subst, ◌∙◌}
use Rattle.ds2_code.specs.declared.instr.Instr.{Instr}
use Rattle.ds2_object_words.specs.Parts.{FieldRead, ReadsPart}
use Rattle.ds2_object_instrs.specs.InstrSpelling.{instr_row_of}
use Rattle.ds2_object_instrs.proofs.ReadSteps.{known_code, unknown_code}
use Rattle.ds2_object_instrs.proofs.instrs.read_instr.Goals as goal

pub returns-in-Some : goal.returns-in-Some
returns-in-Some c =
    subst (λ (r : FieldRead (Option Instr)). ReadsPart c.read_row.result r c.read_row.new.bytes)
    (sym (known_code c.args.bytes.now c.byte.new.self c.in_ok-code.code (instr_row_of c.in-Some.row) c.in_ok-code.ensures (sym c.row_at.ensures ∙ ap (option_map instr_row_of) c.in-Some.is)))
    c.read_row.ensures

pub returns-in-None : goal.returns-in-None
returns-in-None c =
    rw c.bad.ensures
    (unknown_code c.args.bytes.now c.byte.new.self c.in_ok-code.code c.left-left.result c.in_ok-code.ensures (sym c.row_at.ensures ∙ ap (option_map instr_row_of) c.in-None.is) c.left-left.ensures)
