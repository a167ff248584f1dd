use Rattle.std.proofs.Common.{◌≡◌, ◌++◌}
use Rattle.ds2_deeds.specs.NamedLocations.{code_home}
use Rattle.ds2_deeds.specs.NamedMethods.{methods_named, home_methods}
use Rattle.ds2_deeds.proofs.methods.add_methods.Given as goal

abbrev pub invariant-methods : goal.invariant-methods
invariant-methods l = methods_named l.methods ≡ methods_named l.fn.methods ++ home_methods (code_home l.home) l.number
