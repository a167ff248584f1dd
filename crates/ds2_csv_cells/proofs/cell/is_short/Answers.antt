use Rattle.std.proofs.Common.{◌≡◌, ◌∙◌, true, arith}
use Rattle.std.specs.Prelude.{nat_le}
use Rattle.std.proofs.lemmas.Bool.Decides.{nat_tests}
use Rattle.std.proofs.Common.{length, ◌≤◌, ℕ}
use Rattle.ds2_csv_cells.proofs.CellLemmas.{short-text}
use Rattle.ds2_csv_cells.proofs.cell.is_short.Goals as goal

small : (k n : ℕ) → k ≤ n → nat_le k n ≡ true
small k n h = grind (arith, nat_tests)

pub returns-then-text-n : goal.returns-then-text-n
returns-then-text-n c = small (length c.args.text.now) c.args.n c.if-text-n.true ∙ short-text c.args.text.now c.args.n c.utf8.text c.if-text-n.true
