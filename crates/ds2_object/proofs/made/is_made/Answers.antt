use Rattle.std.proofs.Common.{ap, ◌∙◌}
use Rattle.std.proofs.lemmas.Bool.{ne_eqb}
use Rattle.ds2_object.specs.MadeTables.{has_bytes}
use Rattle.ds2_object.proofs.MadeLemmas.{looked_up}
use Rattle.ds2_object.proofs.made.is_made.Goals as goal

pub returns : goal.returns
returns c = λ earlier has.
    looked_up c.args.table.now c.args.made.now _ c.write.new.out c.contains.result earlier (ne_eqb _ _ c.if-table-eq0.false) c.new-key.ensures c.in_ok-write.ensures (c.contains.ensures ∙ ap (has_bytes c.args.made.now) c.as_slice.ensures) has
