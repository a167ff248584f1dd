-- How a worker comes out of a group.
use Rattle.std.specs.Prelude.{◌≡◌, ℕ, List, Bool, true, false}
use Rattle.ds2_bags.specs.declared.group_end.GroupEnd.{GroupEnd}
use Rattle.ds2_schedule.specs.Bags.{GroupRun}
use Rattle.ds2_stage.specs.declared.group.Went.{Went}
use Rattle.ds2_stage.specs.declared.group.Went.TheVariants.{On, Fault, Short, Refused}
use Rattle.ds2_stage.specs.Odds.{IsOdd}
use Rattle.ds2_stage.specs.Passes.{PassView}
use Rattle.ds2_stage.specs.Working.{IsOneMore}

-- Whether the worker runs further groups.
abbrev pub goes_on : Went → Bool
goes_on (On least) = true
goes_on Fault = false
goes_on Short = false
goes_on (Refused odd) = false

-- Of a job of m groups: what the pass and the groups that were run are behind group g. A group without an answer, or that was not handed in, changes nothing.
abbrev pub HasGone : (ℕ → GroupEnd) → ℕ → ℕ → PassView → PassView → List GroupRun → List GroupRun → Went → Type 0
HasGone answer m g before after runs more (On least) = IsOneMore answer g before after runs more false
HasGone answer m g before after runs more Fault = IsOneMore answer g before after runs more true
HasGone answer m g before after runs more Short = (after ≡ before) × (more ≡ runs)
HasGone answer m g before after runs more (Refused odd) = (after ≡ before) × (more ≡ runs) × IsOdd m odd
