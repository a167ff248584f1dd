use Rattle.std.proofs.Common.{◌≡◌, length, Some, sym, ap, subst, ◌∙◌}
use Rattle.std.proofs.lemmas.Result.{IfOk-weaker}
use Rattle.ds2_deeds.specs.NamedLocations.{locations_named}
use Rattle.ds2_locality.specs.declared.locality.Verdict.TheVariants.{Local}
use Rattle.ds2_locality.specs.Verdict.{at_finest, coarsest, ground_at}
use Rattle.ds2_meaning.specs.Reading.{bys_of}
use Rattle.ds2_local.specs.RunGrounds.{ground_of_read, IsNotLocalBy}
use Rattle.ds2_local.proofs.FinestLemmas.{not_local_is}
use Rattle.ds2_local.proofs.RunLemmas.{bys_counted}
use Rattle.ds2_local.proofs.verdict.verdict_on_walks.Goals as goal

pub returns-in-Some : goal.returns-in-Some
returns-in-Some c = λ t held.
    let b = c.args.bodies.now in
    let ls = locations_named b.numbers.locations.now in
    let bys = bys_counted t b held.judged c.bys_read-count.result.now c.bys_read-count.ensures in
    let found = c.in_ok-read.ensures t held in
    let here = ap (λ l. ground_at t (coarsest (length l))) (sym bys) ∙ ap (λ n. ground_at t n) (sym c.coarsest_grain.ensures) ∙ found.is ∙ ap (λ r. ground_of_read ls r) c.in-Some.is in
    IfOk-weaker c.not_local.result (λ verdict. IsNotLocalBy (ground_of_read ls (Some c.in-Some.read)) verdict) (λ verdict. verdict ≡ at_finest (ground_at t) (length (bys_of t.program.reading)))
    (λ verdict is. not_local_is (ground_at t) (λ p q. c.coarser_holds.ensures t p q) (length (bys_of t.program.reading)) verdict _ here is) c.not_local.ensures

pub returns-in_ok-finest_grain-in-None : goal.returns-in_ok-finest_grain-in-None
returns-in_ok-finest_grain-in-None c = λ t held.
    let b = c.args.bodies.now in
    let ls = locations_named b.numbers.locations.now in
    let bys = bys_counted t b held.judged c.bys_read-count.result.now c.bys_read-count.ensures in
    let found = c.in_ok-read.ensures t held in
    let holds = ap (λ n. ground_at t n) (sym c.coarsest_grain.ensures) ∙ found.is ∙ ap (λ r. ground_of_read ls r) c.in-None.is in
    IfOk-weaker c.local.result (λ verdict. verdict ≡ Local _) (λ verdict. verdict ≡ at_finest (ground_at t) (length (bys_of t.program.reading)))
    (λ verdict e. e ∙ sym (c.in_ok-finest_grain-in-None.ensures t held holds) ∙ ap (λ l. at_finest (ground_at t) (length l)) bys) c.local.ensures
