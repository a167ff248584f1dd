use Rattle.std.proofs.Common.{◌≡◌, ◌+◌, length, map, ap, ◌∙◌}
use Rattle.std.specs.List.{list_any, range_with_len}
use Rattle.std.proofs.lemmas.Result.{IfOk-weaker}
use Rattle.ds2_value.specs.declared.fault.TheConstants.{CALL_DEPTH}
use Rattle.ds2_deeds.specs.NamedLocations.{locations_named}
use Rattle.ds2_deeds.specs.NumberedCalls.{changes_number, with_called}
use Rattle.ds2_recorded_walk.specs.LocationBits.{both_on}
use Rattle.ds2_local.specs.RunGrounds.{AreCells}
use Rattle.ds2_local.proofs.CellLemmas.{both_as, cells_told}
use Rattle.ds2_local.proofs.runs.cells.Goals as goal

pub returns : goal.returns
returns c = λ t holds tells.
    let b = c.args.bodies.now in
    let all =
    c.in_ok-deeds.ensures ∙ ap (λ rounds. with_called b.deeds.now rounds c.as_slice.result.now) c.in_ok-rounds.ensures
    ∙ ap (λ l. with_called b.deeds.now (length b.deeds.now + CALL_DEPTH) l) c.as_slice.ensures in
    let changed = c.in_ok-changed.ensures ∙ ap (λ l. map (λ n. list_any (changes_number n) l) (range_with_len 0 (length b.numbers.locations.now))) c.as_slice-2.ensures in
    IfOk-weaker c.common.result (λ bits. bits ≡ both_on c.as_slice-3.result.now c.as_slice-4.result.now) (λ bits. AreCells t (locations_named b.numbers.locations.now) bits)
    (λ bits e. cells_told t b holds tells _ _ _ _ bits c.in_ok-own.ensures all changed c.in_ok-kept.ensures
    (both_as bits _ _ _ _ e c.as_slice-3.ensures c.as_slice-4.ensures))
    c.common.ensures
