use Rattle.std.proofs.Common.{◌+◌, ◌∙◌, sym, ap}
use Rattle.std.specs.Option.{option_copied}
use Rattle.ds2_code.specs.declared.instr.Instr.TheVariants.{Call}
use Rattle.ds2_numbering.specs.CellNumbers.{tree_of}
use Rattle.ds2_numbering.specs.SoughtLocations.{home_of_name}
use Rattle.ds2_numbering.proofs.CalleeLemmas.{no_callee, called_by_number}
use Rattle.ds2_numbering.proofs.methods.call_instr.Goals as goal

pub returns-in-None : goal.returns-in-None
returns-in-None c = sym (no_callee (tree_of c.args.program.now) (home_of_name c.args.home) c.args.method (option_copied c.home_method.result) c.home_method.ensures (ap option_copied c.in-None.is))

pub returns-in_ok-number-in-Some : goal.returns-in_ok-number-in-Some
returns-in_ok-number-in-Some c =
    ap (λ n. Call n) (c.in_ok-number-in-Some.ensures ∙ ap (λ f. f + c.args.method) c.in_ok-first-in-Some.ensures)
    ∙ sym (called_by_number (tree_of c.args.program.now) (home_of_name c.args.home) c.args.method (option_copied c.home_method.result) _ c.home_method.ensures (ap option_copied c.in-Some.is))
