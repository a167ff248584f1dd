use Rattle.std.proofs.Common.{◌≤◌, ◌^◌, ℕ, refl, sym, subst, arith}
use Rattle.ds2_schedule.specs.Runs.{run_count}
use Rattle.ds2_schedule.proofs.Runs.{one_at_least, few_runs}
use Rattle.ds2_schedule.proofs.Ticket.{opens}
use Rattle.ds2_schedule.proofs.tickets.Tickets.open.Goals as goal

pub number_of_runs-runs-requires : goal.number_of_runs-runs-requires
number_of_runs-runs-requires c = omega (arith, c.length_of_runs-length.ensures, one_at_least c.args.groups c.args.workers)

pub of_words-requires : goal.of_words-requires
of_words-requires c = (0, refl, opens c.number_of_runs-runs.result)

pub invariant_of-result-clause-long : goal.invariant_of-result-clause-long
invariant_of-result-clause-long c = omega (arith, c.length_of_runs-length.ensures, one_at_least c.args.groups c.args.workers)

pub invariant_of-result-clause-all : goal.invariant_of-result-clause-all
invariant_of-result-clause-all c = c.number_of_runs-runs.ensures

pub invariant_of-result-clause-few : goal.invariant_of-result-clause-few
invariant_of-result-clause-few c =
    let few = few_runs c.args.groups c.args.workers (omega arith) c.requires.0 c.requires.1 in
    let same = subst (λ (l : ℕ). run_count c.args.groups l ≤ 2 ^ 58) (sym c.length_of_runs-length.ensures) few in
    omega (arith, same, c.number_of_runs-runs.ensures)
