use Rattle.std.proofs.Common.{◌≡◌, ◌≤◌, length, ◌∙◌, arith}
use Rattle.std.proofs.lemmas.Result.{IfOk-weaker}
use Rattle.ds2_recorded_walk.specs.LocationBits.{either_on}
use Rattle.ds2_recorded_walk.proofs.SetLemmas.{as_long, either_turned}
use Rattle.ds2_recorded_walk.proofs.location_set.LocationSet.united.Goals as goal

pub returns-then-self-other : goal.returns-then-self-other
returns-then-self-other c =
    let a = c.args.self.now in
    let b = c.args.other.now in
    let test = c.if-self-other.true in
    let long = as_long c.self.inside.count c.self.inside.out a c.self.view_is in
    let longer = as_long c.other.inside.count c.other.inside.out b c.other.view_is in
    let le : length a ≤ length b = omega (arith, test, long, longer) in
    IfOk-weaker c.united_with_fewer.result (λ set. set ≡ either_on b a) (λ set. set ≡ either_on a b) (λ set e. e ∙ either_turned b a) (c.united_with_fewer.ensures le)

pub returns : goal.returns
returns c =
    let a = c.args.self.now in
    let b = c.args.other.now in
    let test = c.if-self-other.false in
    let long = as_long c.self.inside.count c.self.inside.out a c.self.view_is in
    let less = as_long c.other.inside.count c.other.inside.out b c.other.view_is in
    let le : length b ≤ length a = omega (arith, test, long, less) in c.united_with_fewer-2.ensures le
