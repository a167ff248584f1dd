use Rattle.std.proofs.Common.{arith, ◌∙◌}
use Rattle.std.proofs.lemmas.Bool.{ltb-true, ne_eqb}
use Rattle.ds2_csv_cells.proofs.Pointing.{magnitude-pointed}
use Rattle.ds2_csv_cells.proofs.text.add_magnitude.Goals as goal

pub returns-then-digits-scale : goal.returns-then-digits-scale
returns-then-digits-scale c =
    magnitude-pointed c.args.out.now c.add_pointed.new.out c.as_bytes-digits.result.now c.args.n c.args.scale (omega arith) (ne_eqb _ _ c.if-scale-eq0.false)
    (c.as_bytes-digits.ensures.value ∙ c.format.ensures.text) (omega (arith, ltb-true)) c.in_ok-add_pointed.ensures
