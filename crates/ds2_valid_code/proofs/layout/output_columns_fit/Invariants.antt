use Rattle.std.proofs.Common.{◌≡◌, length}
use Rattle.ds2_code.specs.ValidCode.{types_fit}
use Rattle.std.specs.Prelude.{ℕ, List, map}
use Rattle.ds2_code.specs.OperandTypes.{slot_type}
use Rattle.ds2_valid_code.proofs.layout.output_columns_fit.Given as goal

abbrev pub invariant-columns : goal.invariant-columns
invariant-columns l = types_fit l.slots (map (λ (c : List ℕ × ℕ). slot_type l.made c.1) l.rest) l.left ≡ types_fit l.slots (map (λ (c : List ℕ × ℕ). slot_type l.made c.1) l.columns) l.into

abbrev pub decreases-columns : goal.decreases-columns
decreases-columns l = length l.rest
