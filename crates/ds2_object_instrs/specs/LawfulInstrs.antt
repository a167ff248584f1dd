-- The laws of written instructions.
use Rattle.std.specs.Prelude.{◌≡◌, Some}
use Rattle.ds2_code.specs.declared.instr.Instr.{Instr}
use Rattle.ds2_object_words.specs.PartLaws.{IsLawfulPart}
use Rattle.ds2_object_instrs.specs.declared.instrs.WrittenInstr.{WrittenInstr}
use Rattle.ds2_object_instrs.specs.InstrSpelling.{written_instr_part, written_instr_of, instr_of}

-- what is spelled is read and what is read is spelled; an instruction is what is written of it, and no other one is written so
pub record AreLawfulInstrs : Type 0 where
  pub part : IsLawfulPart written_instr_part
  pub again : (i : Instr) → instr_of (written_instr_of i) ≡ Some i
  pub only : (w : WrittenInstr) (i : Instr) → instr_of w ≡ Some i → written_instr_of i ≡ w
