-- The replays of some histories, by computing them.
use Rattle.std.proofs.Common.{refl}
use Rattle.ds2_schedule.specs.Runs.{run_length, run_count}
use Rattle.ds2_schedule.specs.Histories.{HistoriesReplay}

pub histories_replay : HistoriesReplay
unfolding run_length run_count
histories_replay = record { none = refl; one = refl; fault = refl; two = refl; four = refl; many = refl; refused = refl }
