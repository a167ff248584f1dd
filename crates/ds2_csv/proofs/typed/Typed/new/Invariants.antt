use Rattle.std.proofs.Common.{◌≡◌, take}
use Rattle.ds2_csv.proofs.TypedLemmas.{empty-columns}
use Rattle.ds2_csv.proofs.typed.Typed.new.Given as goal

abbrev pub invariant-columns : goal.invariant-columns
invariant-columns l = l.values.items ≡ empty-columns (take l.column-index l.columns)
