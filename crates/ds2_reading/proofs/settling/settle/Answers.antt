use Rattle.std.proofs.Common.{arith}
use Rattle.ds2_reading.proofs.Runs.{none_settled, now_headed, rising_run, all_settled, one_more}
use Rattle.ds2_reading.proofs.settling.settle.Goals as goal

pub runs-init : goal.runs-init
runs-init c = none_settled c.args.inputs.now c.args.numbers.now

pub settle_run-requires-clause-headed : goal.settle_run-requires-clause-headed
settle_run-requires-clause-headed c = now_headed c.args.inputs.now c.requires.keys c.args.numbers.now c.runs.from c.runs.numbers c.requires.headed c.requires.rising c.runs.invariant

pub settle_run-requires-clause-rising : goal.settle_run-requires-clause-rising
settle_run-requires-clause-rising c =
    let run = c.end_of_run-end.ensures in
    rising_run c.args.inputs.now c.requires.keys c.args.numbers.now c.runs.from c.runs.numbers c.requires.headed c.requires.rising c.runs.invariant c.end_of_run-end.result run.within

pub runs-preserved : goal.runs-preserved
runs-preserved c =
    one_more c.args.inputs.now c.requires.keys c.args.numbers.now c.runs.from c.runs.numbers c.requires.headed c.requires.rising c.runs.invariant c.end_of_run-end.result _
    c.end_of_run-end.ensures c.settle_run.ensures

pub returns-clause-moved : goal.returns-clause-moved
returns-clause-moved c = c.runs.invariant.moved

pub returns-clause-sorted : goal.returns-clause-sorted
returns-clause-sorted c =
    all_settled c.args.inputs.now c.requires.keys c.args.numbers.now c.runs.from c.runs.numbers c.requires.headed c.requires.rising c.runs.invariant (omega arith)
