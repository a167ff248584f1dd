use Rattle.std.proofs.Common.{◌∙◌, sym, ap}
use Rattle.std.specs.Option.{option_copied}
use Rattle.ds2_emitter.specs.Dropped.{dropped_result}
use Rattle.ds2_numbering.specs.CellNumbers.{tree_of}
use Rattle.ds2_numbering.specs.SoughtLocations.{home_of_name}
use Rattle.ds2_numbering.proofs.CalleeLemmas.{none_dropped, result_dropped}
use Rattle.ds2_numbering.proofs.methods.leaves_result.Goals as goal

pub returns-in-None : goal.returns-in-None
returns-in-None c = none_dropped (tree_of c.args.program.now) (home_of_name c.args.home) c.args.method (option_copied c.home_method.result) c.home_method.ensures (ap option_copied c.in-None.is)

pub returns-in-Some : goal.returns-in-Some
returns-in-Some c =
    result_dropped (tree_of c.args.program.now) (home_of_name c.args.home) c.args.method (option_copied c.home_method.result) _ c.home_method.ensures (ap option_copied c.in-Some.is)
    ∙ ap dropped_result (sym c.is_some.ensures)
