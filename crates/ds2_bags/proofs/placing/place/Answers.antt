use Rattle.std.proofs.Common.{◌≡◌, ◌∙◌}
use Rattle.std.specs.Prelude.{◌==◌}
use Rattle.std.specs.List.{All, list_any}
use Rattle.ds2_bags.proofs.Placed.{All_front, All_last, placed_last}
use Rattle.ds2_bags.proofs.placing.place.Goals as goal

pub place_bag-requires-clause-job : goal.place_bag-requires-clause-job
place_bag-requires-clause-job g c κs outlives = All_last (λ bag. All (λ d. d.job.now ≡ c.args.job.now) bag) c.pop.new.self.items c.loop-bag.left.items c.in-Some.bag c.in-Some.ensures.items c.loop-bag.invariant.job

pub loop-bag-preserved : goal.loop-bag-preserved
loop-bag-preserved g c =
    let items = c.in-Some.ensures.items in
    record {
      job = All_front (λ bag. All (λ d. d.job.now ≡ c.args.job.now) bag) c.pop.new.self.items c.loop-bag.left.items c.in-Some.bag items c.loop-bag.invariant.job;
      same = λ k below. placed_last (λ bag. list_any (λ d. d.group == k) bag) c.pop.new.self.items c.loop-bag.left.items c.in-Some.bag _ _ _ items (c.place_bag.ensures k below) ∙ c.loop-bag.invariant.same k below;
    }
