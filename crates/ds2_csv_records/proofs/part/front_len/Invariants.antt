use Rattle.std.proofs.Common.{◌≡◌, ℕ, ◌<◌, ◌==◌, true, get_or}
use Rattle.std.specs.Prelude.{◌||◌}
use Rattle.ds2_csv_records.proofs.part.front_len.Given as goal

abbrev pub invariant-bytes : goal.invariant-bytes
invariant-bytes l = (k : ℕ) → k < l.i → ((get_or l.text k 0 == l.mark) || (get_or l.text k 0 == l.other)) ≡ true
