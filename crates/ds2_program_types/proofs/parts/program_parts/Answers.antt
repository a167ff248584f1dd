use Rattle.ds2_program_types.specs.UnitsAtHand.{source_at_hand}
use Rattle.ds2_program_types.proofs.parts.program_parts.Goals as goal

pub returns : goal.returns
returns c = λ before m h. record {
  declared = c.in_ok-declared.ensures;
  columns = c.in_ok-read.ensures before (source_at_hand c.args.unit) h.reads h.columns;
  retained = c.in_ok-kept.ensures;
  reading = c.in_ok-reading.ensures before m h;
  outputs = c.in_ok-outputs.ensures before h;
}
