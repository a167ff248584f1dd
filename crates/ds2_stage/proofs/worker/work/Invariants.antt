use Rattle.std.proofs.Common.{◌≡◌, length}
use Rattle.std.specs.Prelude.{map}
use Rattle.std.specs.List.{All}
use Rattle.ds2_bags.specs.Endings.{ended_by_fault}
use Rattle.ds2_stage.specs.Working.{IsWorking}
use Rattle.ds2_stage.proofs.worker.work.Given as goal

abbrev pub invariant-loop : goal.invariant-loop
invariant-loop g l = record {
  of : All (λ d. d.job.now ≡ l.job) l.worker.dones.items;
  working : IsWorking (g.J.Answers.answer l.job) l.shared.tickets l.fn.pass l.worker.pass (map (λ d. record { group = d.group; rows = length d.end.rows; faulted = ended_by_fault d.end.ending }) l.worker.dones.items) l.next l.end;
  fits : g.J.Job.fits l.job l.worker.state;
}
