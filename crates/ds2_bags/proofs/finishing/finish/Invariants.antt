use Rattle.std.proofs.Common.{◌≡◌, ◌-◌, ◌<◌, ◌≤◌, ◌++◌, ℕ, None, vec_len}
use Rattle.std.specs.Prelude.{slice_index_or, vec_capacity}
use Rattle.ds2_schedule.specs.Schedule.{one_thread}
use Rattle.ds2_bags.specs.StageEnds.{Brings, program_of_job, first_faulted}
use Rattle.ds2_bags.proofs.Rest.{IsRunningRest}
use Rattle.ds2_bags.proofs.finishing.finish.Given as goal

abbrev pub invariant-loop-g : goal.invariant-loop-g
invariant-loop-g g l = record {
  count : l.groups ≡ g.J.Answers.count l.job;
  placed : vec_len l.placed ≡ l.groups;
  left : (k : ℕ) → l.g ≤ k → k < l.groups → Brings (g.J.Answers.answer l.job) k (slice_index_or l.placed.items k None);
  made : vec_len l.ends ≡ l.g;
  room : l.groups ≤ vec_capacity l.ends;
  in_turn : l.ends.items ++ one_thread (program_of_job (g.J.Answers.answer l.job)) tt l.g (l.groups - l.g) ≡ one_thread (program_of_job (g.J.Answers.answer l.job)) tt 0 l.groups;
  fault : first_faulted (g.J.Answers.answer l.job) l.g (l.groups - l.g) ≡ first_faulted (g.J.Answers.answer l.job) 0 l.groups;
  fits : g.J.Job.fits l.job l.worker;
  same : (k : ℕ) → l.g ≤ k → slice_index_or l.placed.items k None ≡ slice_index_or l.fn.placed k None;
  spare : (vec_len l.ran ≤ l.g) × (l.groups ≤ vec_capacity l.ran);
  rest : IsRunningRest (g.J.Answers.answer l.job) (λ k. slice_index_or l.fn.placed k None) l.groups l.g l.ran.items;
}
