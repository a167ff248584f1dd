use Rattle.std.proofs.Common.{refl}
use Rattle.ds2_program_types.proofs.parts.program_of.Goals as goal

pub returns : goal.returns
returns c = record {
  declared = refl;
  columns = refl;
  retained = refl;
  instances = refl;
  hashes = refl;
  iterators = refl;
  threads = refl;
  reading = refl;
  outputs = refl;
  methods = refl;
  init = refl;
  run = refl;
  term = refl;
}
