use Rattle.std.proofs.Common.{◌≡◌, ◌++◌, string_bytes}
use Rattle.std.specs.Prelude.{replicate}
use Rattle.ds2_base.proofs.text.Text.filled.Given as goal

abbrev pub invariant-blanks : goal.invariant-blanks
invariant-blanks l = string_bytes l.text ≡ l.s ++ replicate l.i 32
