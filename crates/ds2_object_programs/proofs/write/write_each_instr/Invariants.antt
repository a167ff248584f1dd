use Rattle.std.proofs.Common.{length, map}
use Rattle.ds2_object_words.proofs.ListSteps.{ItemsLeft}
use Rattle.ds2_object_instrs.specs.InstrSpelling.{written_instr_part, written_instr_of}
use Rattle.ds2_object_programs.proofs.WriteSteps.{written_spelled}
use Rattle.ds2_object_programs.proofs.write.write_each_instr.Given as goal

abbrev pub invariant-instrs : goal.invariant-instrs
invariant-instrs l = ItemsLeft written_instr_part written_spelled l.fn.out (map written_instr_of l.instrs) l.out (map written_instr_of l.rest)

abbrev pub decreases-instrs : goal.decreases-instrs
decreases-instrs l = length l.rest
