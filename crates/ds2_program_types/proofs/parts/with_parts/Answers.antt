use Rattle.ds2_program_types.specs.UnitsAtHand.{columns_at_hand, source_at_hand}
use Rattle.ds2_program_types.proofs.PartForms.{same_places, same_program}
use Rattle.ds2_program_types.proofs.parts.with_parts.Goals as goal

pub returns : goal.returns
returns c = λ before m h n a k.
    let u = source_at_hand c.args.unit in
    let tables = columns_at_hand c.args.unit in
    let program = c.program_of.result in
    record {
      tree = same_program tables before u n program c.in_ok-parts.parts c.args.instances c.args.methods c.program_of.ensures (c.in_ok-parts.ensures before m h) a k;
      places = same_places tables before u program c.in_ok-parts.parts c.args.instances c.args.methods c.program_of.ensures k;
    }
