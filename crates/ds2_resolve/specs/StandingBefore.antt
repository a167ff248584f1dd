-- What the code keeps of what stands before a unit.
use Rattle.std.specs.Prelude.{◌≡◌, ◌-◌, ℕ, nat_eq, length, List, ◌++◌}
use Rattle.std.specs.Cmp.Lexicographic.{pointwise}
use Rattle.std.specs.HashSet.{contains}
use Rattle.ds2_calls.specs.KnownUnits.{KnowsCalls}
use Rattle.ds2_tree.specs.Globals.{GlobalItem}
use Rattle.ds2_names.specs.NameRules.{from_each}
use Rattle.ds2_names.specs.SourceLimits.{BeforeUnit, mentioned_table, tables_of_store, first_mentions, tokens_behind}
use Rattle.ds2_names.specs.SourceUnit.{PlacedName, UnitSource, names_alone, source_instances}
use Rattle.ds2_scope.specs.NameSets.{HasNames}
use Rattle.ds2_scope.specs.UnitsKnown.{KnowsUnits}
use Rattle.ds2_scope.specs.declared.unit.UnitKind.{UnitKind}
use Rattle.ds2_scope.specs.declared.unit.UnitKind.TheVariants as kind
use Rattle.ds2_resolve.specs.declared.before.UnitsBefore.{UnitsBefore}
use Rattle.ds2_resolve.specs.StoreMentions.{is_of_store, stored_in_global, first_by}
use Rattle.ds2_resolve.specs.TableMakers.{maker_in}

-- the tables of the store that a unit mentions for the first time
abbrev pub first_tables : UnitsBefore → List GlobalItem → List PlacedName
first_tables b globals = first_by (contains (pointwise nat_eq) b.mentioned) (from_each (stored_in_global (is_of_store b.makers)) globals)

-- how many units of a kind stand before a unit
abbrev pub count_of_kind : UnitsBefore → UnitKind → ℕ
count_of_kind b kind.Package = b.known.package_count
count_of_kind b kind.Thread = b.known.thread_count
count_of_kind b kind.Data = b.count

-- what is kept tells of what stands before a unit: the packages and thread programs, how many data programs there are, the last one that
-- makes each table, the tables of the store that are mentioned and how many of 16 are left, and the count of tokens
pub record TellsOfUnits (b : UnitsBefore) (units : BeforeUnit) : Type 0 where
  pub known : KnowsUnits b.known units.known
  pub calls : KnowsCalls b.calls units.known
  pub count : b.count ≡ units.data_programs
  pub makers : (name : List ℕ) → maker_in b.makers name ≡ (mentioned_table units.made name).maker
  pub mentioned : HasNames b.mentioned units.mentioned
  pub room : b.room ≡ 16 - length units.mentioned
  pub tokens : b.tokens ≡ units.tokens

-- what stands before a unit, with the mentions and the tokens of that unit
abbrev pub behind_mentions : UnitSource → BeforeUnit → BeforeUnit
behind_mentions u before = record {
  known = before.known;
  data_programs = before.data_programs;
  made = before.made;
  mentioned = names_alone (first_mentions before.mentioned (tables_of_store before.made u.globals)) ++ before.mentioned;
  tokens = tokens_behind before.known before.tokens (source_instances u.globals);
}
