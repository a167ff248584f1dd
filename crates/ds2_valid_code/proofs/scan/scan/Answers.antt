use Rattle.std.proofs.Common.{◌≡◌, ◌<◌, [], false, length, Some, None, sym, ap, ◌∙◌}
use Rattle.std.specs.Prelude.{slice_get, if◌then◌else◌}
use Rattle.ds2_code.specs.ValidCode.{stage_parameters}
use Rattle.ds2_valid_code.specs.declared.owner.CodeOwner.TheVariants.{Unit as UnitCode}
use Rattle.ds2_valid_code.specs.CodeScan.{standing, arriving, scan_code, entry_table}
use Rattle.ds2_valid_code.proofs.ScanLemmas.{marks_joined, scan_stops_at}
use Rattle.ds2_valid_code.proofs.scan.scan.Goals as goal

pub returns-then-not-arrives : goal.returns-then-not-arrives
returns-then-not-arrives c =
    let code = c.args.code.now in
    let parameters = stage_parameters (slice_get c.args.stages.now 0) in
    let table = entry_table code in
    let instrs = c.as_slice-instrs.result.now in
    let s = standing c.scan.owner c.scan.types in
    let within : c.scan.instr-index < length instrs = c.scan-test.true in
    let not : c.arrives.result ≡ false = cc in
    ap (λ z. scan_code code parameters table 0 false (standing UnitCode []) z) (sym c.as_slice-instrs.ensures)
    ∙ sym c.scan.invariant.1
    ∙ ap (marks_joined c.scan.marks.items)
    (scan_stops_at code parameters table c.scan.at c.scan.came s instrs c.scan.instr-index within
    (ap (λ o. arriving o c.scan.came s) (sym c.entry_at.ensures)
    ∙ c.arrives.ensures
    ∙ ap (λ b. if b then Some (standing c.arrives.new.owner c.arrives.new.types) else None) not))
