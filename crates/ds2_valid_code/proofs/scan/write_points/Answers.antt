use Rattle.std.proofs.Common.{sym, ap, ◌∙◌, subst}
use Rattle.std.proofs.lemmas.List.{drop_more, drop_all}
use Rattle.ds2_valid_code.specs.CodeScan.{with_entries, HasEntries}
use Rattle.ds2_valid_code.proofs.scan.write_points.Goals as goal

pub points-preserved : goal.points-preserved
points-preserved c = λ table has.
    let r = c.points.invariant table has in
    (_, c.in_ok-write.ensures r.0 r.1, sym (ap (with_entries r.0) (drop_more c.args.points.now c.points.point-index _ c.points-test.true)) ∙ r.2)

pub returns : goal.returns
returns c = λ table has.
    let r = c.points.invariant table has in
    subst (HasEntries c.points.entries) (ap (with_entries r.0) (sym (drop_all c.points.point-index c.args.points.now c.points-test.false)) ∙ r.2) r.1
