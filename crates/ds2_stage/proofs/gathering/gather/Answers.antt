use Rattle.std.proofs.Common.{◌∙◌, ap, sym, arith}
use Rattle.std.proofs.Common.{subst}
use Rattle.ds2_stage.specs.Gathered.{HasJoined}
use Rattle.ds2_stage.specs.Passes.{PassView}
use Rattle.ds2_stage.proofs.Joined.{may_join, gathering_goes_on, gathering_ends}
use Rattle.ds2_stage.proofs.gathering.gather.Goals as goal

pub merge-requires-clause-of : goal.merge-requires-clause-of
merge-requires-clause-of g c =
    let i = c.loop-pass.invariant.gathering in
    (i.of, (may_join c.args.shared.now.tickets c.args.caller c.args.workers c.pop.new.self.items c.loop-pass.left.items c.loop-pass.all c.in-Some.pass c.in-Some.ensures.items i).0)

pub merge-requires-clause-may : goal.merge-requires-clause-may
merge-requires-clause-may g c =
    let i = c.loop-pass.invariant.gathering in
    (may_join c.args.shared.now.tickets c.args.caller c.args.workers c.pop.new.self.items c.loop-pass.left.items c.loop-pass.all c.in-Some.pass c.in-Some.ensures.items i).1

pub loop-pass-preserved : goal.loop-pass-preserved
loop-pass-preserved g c =
    let i = c.loop-pass.invariant.gathering in
    let m = c.merge.ensures in
    record {
      gathering = gathering_goes_on c.args.shared.now.tickets c.args.caller c.args.workers c.pop.new.self.items c.loop-pass.left.items c.loop-pass.all c.in-Some.pass c.merge.new.self c.in-Some.ensures.items i m.sums m.seat.0 m.seat.1 m.all;
    }

pub returns-clause-seat : goal.returns-clause-seat
returns-clause-seat g c =
    let t = c.args.shared.now.tickets in
    let joined = gathering_ends t c.args.caller c.args.workers c.loop-pass.left.items c.loop-pass.all c.requires.some (omega (arith, c.in_default.ensures.cases.0)) c.loop-pass.invariant.gathering in
    subst (HasJoined t c.args.workers) (sym (c.into_seat.ensures ∙ ap (λ (p : PassView). p.seat) c.totals-totals.ensures.pass)) joined
