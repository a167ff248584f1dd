use Rattle.std.proofs.Common.{◌≡◌, ◌^◌}
use Rattle.ds2_value.proofs.decimal_text.power_of_ten.Given as goal

abbrev pub invariant-tens : goal.invariant-tens
invariant-tens l = l.unit ≡ 10 ^ l.i
