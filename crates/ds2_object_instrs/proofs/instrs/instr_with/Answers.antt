use Rattle.std.proofs.Common.{option_map, refl, sym, ap, ◌∙◌}
use Rattle.ds2_code.specs.declared.instr.Instr.TheVariants as instr
use Rattle.ds2_object_instrs.proofs.ReadSteps.{number_made}
use Rattle.ds2_object_instrs.proofs.instrs.instr_with.Goals as goal

pub returns-in-Some-number : goal.returns-in-Some-number
returns-in-Some-number c =
    sym (ap (option_map instr.GLoad) c.in-Some-number.is)
    ∙ number_made instr.GLoad c.args.row _ c.args.fields c.number-in-GLoad-1.result c.in-GLoad-of_row.is refl c.number-in-GLoad-1.ensures

pub returns-in-None-number : goal.returns-in-None-number
returns-in-None-number c =
    sym (ap (option_map instr.GLoad) c.in-None-number.is)
    ∙ number_made instr.GLoad c.args.row _ c.args.fields c.number-in-GLoad-1.result c.in-GLoad-of_row.is refl c.number-in-GLoad-1.ensures
