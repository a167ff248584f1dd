use Rattle.std.proofs.Common.{◌≡◌, true, false, refl, sym, ◌∙◌}
use Rattle.ds2_valid_code.proofs.ProgramExact.{parts_valid, valid_parts}
use Rattle.ds2_valid_code.proofs.program.verify.Goals as goal

pub returns-then-passes : goal.returns-then-passes
returns-then-passes c = (parts_valid c.args.parts (sym c.in_ok-passes.ensures ∙ c.if-passes.true), refl)

pub returns-else-passes : goal.returns-else-passes
returns-else-passes c = λ v. let k : true ≡ false = sym (valid_parts c.args.parts v) ∙ sym c.in_ok-passes.ensures ∙ c.if-passes.false in cc
