use Rattle.std.proofs.Common.{Option, sym, ap, ◌∙◌}
use Rattle.std.specs.Option.{option_copied}
use Rattle.ds2_emitter.proofs.Appended.{on_ok}
use Rattle.ds2_meaning.specs.declared.hashes.DeclaredHash.{DeclaredHash}
use Rattle.ds2_locality.specs.Walk.{walk_hash_call}
use Rattle.ds2_recorded_walk.specs.RecordedStatements.{walk_scope}
use Rattle.ds2_recorded_walk.proofs.GoesLemmas.{goes_nowhere, goes_both, goes_here}
use Rattle.ds2_recorded_walk.proofs.walk_reads.walk_hash_call.Goals as goal

pub returns-in-None : goal.returns-in-None
returns-in-None c =
    let s = c.args.scope.now in
    goes_here s (λ calls. ap (λ (o : Option DeclaredHash). walk_hash_call (walk_scope s calls).code c.args.function o c.args.place) (sym (ap option_copied c.in-None.is) ∙ c.find_hash.ensures)) (goes_nowhere s c.args.walk.now)

pub returns-in_ok-read_for_hash_call-in-Some : goal.returns-in_ok-read_for_hash_call-in-Some
returns-in_ok-read_for_hash_call-in-Some c =
    let s = c.args.scope.now in
    on_ok c.clean_for_hash_call.result c.clean_for_hash_call.ensures
    (λ p. goes_here s (λ calls. ap (λ (o : Option DeclaredHash). walk_hash_call (walk_scope s calls).code c.args.function o c.args.place) (sym (ap option_copied c.in-Some.is) ∙ c.find_hash.ensures))
    (goes_both s c.in_ok-read_for_hash_call-in-Some.ensures p))
