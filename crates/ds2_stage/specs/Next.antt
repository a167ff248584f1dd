-- A worker's next group.
use Rattle.std.specs.Prelude.{ℕ, ◌<◌, List, Option, Some, None}
use Rattle.ds2_schedule.specs.declared.tickets.Tickets.{Tickets}
use Rattle.ds2_bags.specs.declared.group_end.GroupEnd.{GroupEnd}
use Rattle.ds2_schedule.specs.Bags.{GroupRun}
use Rattle.ds2_stage.specs.Bags.{HasWorked, not_early}
use Rattle.ds2_stage.specs.Passes.{PassView}
use Rattle.ds2_stage.specs.Working.{IsWorking}

-- A group, and where its run ends; or none, where every run was drawn.
abbrev pub IsAtNext : (ℕ → GroupEnd) → Tickets → PassView → PassView → List GroupRun → Option (ℕ × ℕ) → Type 0
IsAtNext answer t before now runs None = HasWorked answer t before now runs not_early
IsAtNext answer t before now runs (Some at) = IsWorking answer t before now runs at.0 at.1 × (at.0 < at.1)
