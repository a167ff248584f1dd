use Rattle.std.proofs.Common.{◌≡◌, length}
use Rattle.std.specs.List.{list_all}
use Rattle.std.specs.Option.{option_map_or}
use Rattle.std.proofs.Common.{true}
use Rattle.ds2_code.specs.ValidCode.{hash_table_fits}
use Rattle.ds2_code.specs.declared.parts.HashPart.{HashPart}
use Rattle.ds2_valid_code.proofs.layout.hashes_fit.Given as goal

abbrev pub invariant-hashes : goal.invariant-hashes
invariant-hashes l = list_all (λ (hash : HashPart). option_map_or (hash_table_fits l.slots hash) hash.loaded true) l.rest ≡ list_all (λ (hash : HashPart). option_map_or (hash_table_fits l.slots hash) hash.loaded true) l.hashes

abbrev pub decreases-hashes : goal.decreases-hashes
decreases-hashes l = length l.rest
