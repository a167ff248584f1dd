use Rattle.std.proofs.Common.{refl}
use Rattle.std.specs.Str.{chars}
use Rattle.ds2_answer.proofs.schema.sales_schema.Goals as goal

pub column-requires : goal.column-requires
unfolding chars
column-requires c = refl

pub column-requires-2 : goal.column-requires-2
unfolding chars
column-requires-2 c = refl
