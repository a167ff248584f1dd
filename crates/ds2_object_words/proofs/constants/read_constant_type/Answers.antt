use Rattle.ds2_object_words.proofs.WordSteps.{type_bounds}
use Rattle.ds2_object_words.proofs.constants.read_constant_type.Goals as goal

pub returns-in-Decimal-clause-bounds : goal.returns-in-Decimal-clause-bounds
returns-in-Decimal-clause-bounds c = rw c.in-Decimal.is at (type_bounds c.args.bytes.now c.read.new.bytes c.in_ok-read.field-0 c.in_ok-read.ensures)

pub returns-in-Varchar-clause-bounds : goal.returns-in-Varchar-clause-bounds
returns-in-Varchar-clause-bounds c = rw c.in-Varchar.is at (type_bounds c.args.bytes.now c.read.new.bytes c.in_ok-read.field-0 c.in_ok-read.ensures)
