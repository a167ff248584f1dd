use Rattle.std.proofs.Common.{◌≡◌, ◌++◌, map, drop}
use Rattle.ds2_meaning.specs.declared.globals.Variable.{Variable}
use Rattle.ds2_generate.proofs.slots.add_variable_types.Given as goal

abbrev pub invariant-variables : goal.invariant-variables
invariant-variables l = l.types ++ map (λ (v : Variable). v.ty) (drop l.variable-index l.variables) ≡ l.fn.types ++ map (λ (v : Variable). v.ty) l.variables
