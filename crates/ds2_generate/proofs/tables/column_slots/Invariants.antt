use Rattle.std.proofs.Common.{◌≡◌, ◌++◌, map, drop}
use Rattle.std.specs.Prelude.{None}
use Rattle.ds2_value.specs.declared.schema.Column.{Column}
use Rattle.ds2_meaning.specs.declared.location.Global.TheVariants.{Named}
use Rattle.ds2_generate.specs.PartsAmong.{slot_among}
use Rattle.ds2_generate.proofs.tables.column_slots.Given as goal

abbrev pub invariant-columns : goal.invariant-columns
invariant-columns l = l.list ++ map (λ (c : Column). slot_among l.slots (record { home = None; global = Named c.name })) (drop l.column-index l.columns) ≡ map (λ (c : Column). slot_among l.slots (record { home = None; global = Named c.name })) l.columns
