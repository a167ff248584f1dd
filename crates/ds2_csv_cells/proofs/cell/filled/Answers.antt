use Rattle.std.proofs.Common.{◌≡◌, ◌∙◌, ◌++◌, ◌-◌, ap, List, ℕ}
use Rattle.std.specs.Prelude.{replicate}
use Rattle.ds2_base.specs.Characters.{char_count}
use Rattle.ds2_csv_cells.specs.Cells.{filled}
use Rattle.ds2_csv_cells.proofs.CellLemmas.{count-filled}
use Rattle.ds2_csv_cells.proofs.cell.filled.Goals as goal

value : (c : goal.In_ok-filled) → c.in_ok-filled.filled ≡ filled c.args.n c.args.text.now
value c = c.in_ok-filled.ensures.text ∙ ap (λ (k : ℕ). c.args.text.now ++ replicate (c.args.n - k) 32) c.char_count.ensures

pub returns-clause-value : goal.returns-clause-value
returns-clause-value c = value c

pub returns-clause-full : goal.returns-clause-full
returns-clause-full c = ap (λ (t : List ℕ). char_count t) (value c) ∙ count-filled c.args.n c.args.text.now c.utf8.text c.requires
