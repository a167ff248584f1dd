use Rattle.std.proofs.Common.{◌≡◌, length}
use Rattle.ds2_answer.specs.TablePlans.{same_columns}
use Rattle.ds2_store_steps.proofs.references.same_columns.Given as goal

abbrev pub invariant-columns : goal.invariant-columns
invariant-columns l = same_columns l.left l.others_left ≡ same_columns l.some l.others

abbrev pub decreases-columns : goal.decreases-columns
decreases-columns l = length l.left
