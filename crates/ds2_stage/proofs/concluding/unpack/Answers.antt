use Rattle.std.proofs.Common.{◌≡◌, ap, ◌∙◌, refl, arith, length, map}
use Rattle.std.specs.Prelude.{◌==◌}
use Rattle.std.specs.List.{All, list_any}
use Rattle.ds2_bags.specs.Endings.{ended_by_fault}
use Rattle.ds2_bags.proofs.Placed.{All_front, All_last, All_pushed}
use Rattle.ds2_stage.specs.Ended.{IsEndedBag}
use Rattle.ds2_stage.specs.Gathered.{IsEndedPass, times_shown}
use Rattle.ds2_stage.specs.Passes.{PassView}
use Rattle.ds2_stage.proofs.Lists.{sum_pushed}
use Rattle.ds2_stage.proofs.Ended.{sum_moved, any_moved, any_all_moved}
use Rattle.ds2_stage.proofs.concluding.unpack.Goals as goal

pub loop-bag-preserved : goal.loop-bag-preserved
loop-bag-preserved g c =
    let items = c.in-Some.ensures.items in
    let i = c.loop-bag.invariant in
    let t = c.args.shared.now.tickets in
    let one = All_last (λ b. IsEndedBag (g.J.Answers.answer c.args.job.now) t b.pass (map (λ d. record { group = d.group; rows = length d.end.rows; faulted = ended_by_fault d.end.ending }) b.dones) (record { short = b.short; odd = b.odd; stop = b.stop }) × All (λ d. d.job.now ≡ c.args.job.now) b.dones) c.pop.new.self.items c.loop-bag.bags.items c.in-Some.bag items i.left in
    record {
      left = All_front (λ b. IsEndedBag (g.J.Answers.answer c.args.job.now) t b.pass (map (λ d. record { group = d.group; rows = length d.end.rows; faulted = ended_by_fault d.end.ending }) b.dones) (record { short = b.short; odd = b.odd; stop = b.stop }) × All (λ d. d.job.now ≡ c.args.job.now) b.dones) c.pop.new.self.items c.loop-bag.bags.items c.in-Some.bag items i.left;
      made = omega (arith, i.made, c.push_reserved.ensures.len, c.in-Some.ensures.len);
      room = (omega (arith, i.room.0, c.push_reserved.ensures.len, c.push_reserved.ensures.capacity, c.in-Some.ensures.len), omega (arith, i.room.1, c.push_reserved-in-Some.ensures.len, c.push_reserved-in-Some.ensures.capacity, c.in-Some.ensures.len));
      parts = omega (arith, i.parts, one.0.parts, c.in-Some.ensures.len, sum_pushed (λ (p : PassView). p.parts) c.loop-bag.passes.items c.push_reserved.new.self.items c.in-Some.bag.pass c.push_reserved.ensures.items);
      passes = All_pushed (IsEndedPass t) c.loop-bag.passes.items c.push_reserved.new.self.items c.in-Some.bag.pass c.push_reserved.ensures.items i.passes one.0.pass;
      jobs = All_pushed (λ bag. All (λ d. d.job.now ≡ c.args.job.now) bag) c.loop-bag.dones.items c.push_reserved-in-Some.new.self.items c.in-Some.bag.dones c.push_reserved-in-Some.ensures.items i.jobs one.1;
      numbers = λ x. sum_moved (times_shown x) (λ b. times_shown x b.pass) c.loop-bag.passes.items c.push_reserved.new.self.items c.in-Some.bag.pass c.pop.new.self.items c.loop-bag.bags.items c.in-Some.bag _ c.push_reserved.ensures.items items refl (i.numbers x);
      named = λ k. any_moved (λ bag. list_any (λ d. d.group == k) bag) (λ b. list_any (λ d. d.group == k) b.dones) c.loop-bag.dones.items c.push_reserved-in-Some.new.self.items c.in-Some.bag.dones c.pop.new.self.items c.loop-bag.bags.items c.in-Some.bag _ c.push_reserved-in-Some.ensures.items items refl (i.named k);
    }

pub returns-clause-named : goal.returns-clause-named
returns-clause-named g c = λ k.
    ap (list_any (λ bag. list_any (λ d. d.group == k) bag)) c.of-2.ensures
    ∙ any_all_moved (λ bag. list_any (λ d. d.group == k) bag) (λ b. list_any (λ d. d.group == k) b.dones) c.loop-bag.dones.items c.loop-bag.bags.items _ (omega (arith, c.in_default.ensures.cases.0)) (c.loop-bag.invariant.named k)
