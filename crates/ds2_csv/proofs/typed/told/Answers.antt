use Rattle.std.proofs.Common.{sym}
use Rattle.ds2_csv.proofs.TypedLemmas.{told-more}
use Rattle.ds2_csv.proofs.typed.told.Goals as goal

pub returns-in_ok-value-in-Some-clause-known : goal.returns-in_ok-value-in-Some-clause-known
returns-in_ok-value-in-Some-clause-known c rows cells count holds =
    told-more c.args.known.now c.replace.new.self rows cells c.args.text.now c.args.i c.in-Some.inference.now c.read_cell-in-Some.new.self (sym c.in-Some.ensures) c.replace.ensures.new
    c.in_ok-value-in-Some.ensures.known count holds
