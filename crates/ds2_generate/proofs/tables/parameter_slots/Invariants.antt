use Rattle.std.proofs.Common.{◌≡◌, ◌++◌, map, drop}
use Rattle.std.specs.Prelude.{None}
use Rattle.ds2_meaning.specs.declared.globals.Variable.{Variable}
use Rattle.ds2_meaning.specs.declared.location.Global.TheVariants.{Parameter}
use Rattle.ds2_generate.specs.PartsAmong.{slot_among}
use Rattle.ds2_generate.proofs.tables.parameter_slots.Given as goal

abbrev pub invariant-parameters : goal.invariant-parameters
invariant-parameters l = l.list ++ map (λ (v : Variable). slot_among l.slots (record { home = None; global = Parameter v.name })) (drop l.parameter-index l.parameters) ≡ map (λ (v : Variable). slot_among l.slots (record { home = None; global = Parameter v.name })) l.parameters
