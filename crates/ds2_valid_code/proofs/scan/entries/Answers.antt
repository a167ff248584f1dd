use Rattle.std.proofs.Common.{subst}
use Rattle.ds2_code.specs.ValidCode.{unit_entries}
use Rattle.ds2_valid_code.specs.CodeScan.{no_entries, with_entries, with_unit_entries, HasEntries}
use Rattle.ds2_valid_code.proofs.OwnerLemmas.{none_written}
use Rattle.ds2_valid_code.proofs.scan.entries.Goals as goal

pub returns : goal.returns
returns c =
    let code = c.args.code.now in
    let units = subst (λ ps. HasEntries c.write_points.new.entries (with_entries (no_entries code.instrs) ps)) c.unit_points.ensures
    (c.in_ok-write_points.ensures (no_entries code.instrs) (none_written c.new-entries.result code.instrs c.new-entries.ensures.empty)) in
    subst (λ ps. HasEntries c.write_points-2.new.entries (with_entries (with_unit_entries (no_entries code.instrs) (unit_entries code)) ps)) c.requires
    (c.in_ok-write_points-2.ensures (with_unit_entries (no_entries code.instrs) (unit_entries code)) units)
