use Rattle.std.proofs.Common.{◌≡◌, ap, sym, ◌∙◌}
use Rattle.std.specs.Option.{option_or}
use Rattle.std.proofs.lemmas.Result.{IfOk-weaker}
use Rattle.ds2_deeds.specs.NamedLocations.{locations_named}
use Rattle.ds2_recorded_walk.specs.LocationBits.{both_on, either_on}
use Rattle.ds2_local.specs.RunGrounds.{find_dirty, IsGroundAt}
use Rattle.ds2_local.proofs.RunLemmas.{grain_found}
use Rattle.ds2_local.proofs.runs.failing_at_grain.Goals as goal

pub returns : goal.returns
returns c = λ t held.
    let b = c.args.bodies.now in
    let first = c.in_ok-first.first in
    let later = c.args.later.now in
    let dirty = c.in_ok-dirty.ensures ∙ ap (λ l. either_on c.args.cells.now l) c.as_slice.ensures in
    IfOk-weaker c.failing_in_walks.result
    (λ read. read ≡ option_or (find_dirty c.as_slice-2.result.now first.reads) (find_dirty (either_on (both_on c.as_slice-2.result.now first.onward) c.as_slice-3.result.now) later.reads))
    (λ read. IsGroundAt t (locations_named b.numbers.locations.now) c.args.grain read)
    (λ read e. grain_found t b held.judged held.told c.args.cells.now held.are_cells c.args.grain _ _ _ first c.as_slice-3.result.now c.as_slice-2.result.now read later c.bys_read.ensures c.bys_at.ensures.before c.bys_at.ensures.from
    (c.in_ok-first.ensures t held.judged) (c.as_slice-3.ensures ∙ c.in_ok-flags.ensures)
    (c.as_slice-2.ensures ∙ dirty ∙ ap (λ l. either_on c.args.cells.now l) (sym c.as_slice-3.ensures)) held.later_tells e)
    c.failing_in_walks.ensures
