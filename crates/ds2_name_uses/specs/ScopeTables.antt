-- The names of a unit in tables, and the tests that these make.
use Rattle.std.specs.Prelude.{◌≡◌, not, ◌&&◌, nat_eq, bytes_eq, codes}
use Rattle.std.specs.Cmp.Lexicographic.{pointwise}
use Rattle.std.specs.HashSet as set
use Rattle.ds2_calls.specs.UnitsCalls.{calls_by_tables}
use Rattle.ds2_names.specs.NameRules.{columns_are_known, output_names}
use Rattle.ds2_names.specs.SourceUnit.{SourceNames, is_package, names_alone}
use Rattle.ds2_name_uses.specs.declared.scope.UnitTables.{UnitTables}
use Rattle.ds2_name_uses.specs.declared.scope.Scope.{Scope}
use Rattle.ds2_name_uses.specs.UseRules.{NameTests, settable_names}
use Rattle.ds2_scope.specs.NameSets.{HasNames}

-- tables of what a unit gives names to
pub record AreTablesOf (t : UnitTables) (names : SourceNames) : Type 0 where
  pub settable : HasNames t.settable (names_alone (settable_names names))
  pub flags : HasNames t.flags (names_alone names.flags)
  pub bys : HasNames t.bys (names_alone names.bys)
  pub outputs : HasNames t.outputs (names_alone (output_names names))
  pub is_open : t.is_open ≡ not (columns_are_known names)
  pub is_program : t.is_program ≡ not (is_package names.unit.kind)

-- the tests that tables make
abbrev pub tests_by : Scope → NameTests
tests_by s = record {
  is_local = set.contains (pointwise nat_eq) s.locals;
  is_settable = set.contains (pointwise nat_eq) s.unit.now.settable;
  is_flag = set.contains (pointwise nat_eq) s.unit.now.flags;
  is_by = set.contains (pointwise nat_eq) s.unit.now.bys;
  is_output = λ name. set.contains (pointwise nat_eq) s.unit.now.outputs name && not (bytes_eq name (codes "_null_"));
  calls = calls_by_tables s.calls;
  is_open = s.unit.now.is_open;
  is_program = s.unit.now.is_program;
  is_init = s.is_init;
}
