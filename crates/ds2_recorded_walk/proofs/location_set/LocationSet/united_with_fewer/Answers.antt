use Rattle.std.proofs.Common.{◌≡◌, ◌≤◌, length, refl, sym, ap, ◌∙◌, arith}
use Rattle.std.proofs.lemmas.Result.{IfOk-weaker}
use Rattle.ds2_recorded_walk.specs.LocationBits.{either_on}
use Rattle.ds2_recorded_walk.specs.MarkedSets.{marks_without}
use Rattle.ds2_recorded_walk.proofs.SetLemmas.{as_long, either_nothing, none_in, with_fewer}
use Rattle.ds2_recorded_walk.proofs.location_set.LocationSet.united_with_fewer.Goals as goal

pub returns-then-other-eq0 : goal.returns-then-other-eq0
returns-then-other-eq0 c = λ le.
    let a = c.args.self.now in
    let b = c.args.other.now in
    let test = c.if-other-eq0.true in
    let zero : c.other.inside.count ≡ 0 = omega (arith, test) in
    let none = none_in c.other.inside.count c.other.inside.out b c.other.view_is zero in
    IfOk-weaker c.copy.result (λ set. set ≡ a) (λ set. set ≡ either_on a b) (λ set e. e ∙ sym (either_nothing a) ∙ ap (either_on a) (sym none)) c.copy.ensures

pub returns : goal.returns
returns c = λ le.
    let out = c.self.inside.out in
    let count = c.self.inside.count in
    let bits = c.args.other.now in
    let long = as_long count out c.args.self.now c.self.view_is in
    let few : length bits ≤ count = omega (arith, le, long) in
    c.all_but.ensures ∙ with_fewer count out (record { from = out.from; marks = c.in_ok-marks.marks }) bits refl (c.in_ok-marks.ensures ∙ ap (λ l. marks_without out.from l bits) c.as_slice.ensures) few
    ∙ ap (λ l. either_on l bits) c.self.view_is
