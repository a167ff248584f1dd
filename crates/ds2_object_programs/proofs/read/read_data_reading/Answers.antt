use Rattle.ds2_object_programs.proofs.ReadSteps.{stops_at, reading_stops_tag}
use Rattle.ds2_object_programs.proofs.read.read_data_reading.Goals as goal

pub returns-in_err-tag : goal.returns-in_err-tag
returns-in_err-tag c =
    stops_at c.from_residual.result c.in_err-tag.field-0.0 _ _ c.from_residual.ensures.1 (reading_stops_tag c.args.bytes.now c.in_err-tag.field-0.0 c.in_err-tag.ensures)
