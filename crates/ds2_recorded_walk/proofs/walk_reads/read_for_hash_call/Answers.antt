use Rattle.std.proofs.Common.{refl, sym}
use Rattle.ds2_emitter.proofs.Appended.{on_ok}
use Rattle.ds2_value.specs.declared.hash_function.HashFunction.{HashFunction}
use Rattle.ds2_locality.specs.Walk.{WalkScope, read_by_hash, read_locations}
use Rattle.ds2_recorded_walk.proofs.GoesLemmas.{goes_nowhere, goes_here, gone_by, read_one}
use Rattle.ds2_recorded_walk.proofs.walk_reads.read_for_hash_call.Goals as goal

pub returns-in-Find : goal.returns-in-Find
returns-in-Find c =
    on_ok c.read_keys.result c.read_keys.ensures
    (λ p. gone_by c.args.scope.now (λ (f : HashFunction) (w : WalkScope). read_locations c.args.place (read_by_hash w.code.home f c.args.hash.now)) _ _ (sym c.in-Find.is) p)

pub returns-in-Check : goal.returns-in-Check
returns-in-Check c =
    on_ok c.read_keys-in-Check.result c.read_keys-in-Check.ensures
    (λ p. gone_by c.args.scope.now (λ (f : HashFunction) (w : WalkScope). read_locations c.args.place (read_by_hash w.code.home f c.args.hash.now)) _ _ (sym c.in-Check.is) p)

pub returns-in-Remove : goal.returns-in-Remove
returns-in-Remove c =
    on_ok c.read_keys-in-Remove.result c.read_keys-in-Remove.ensures
    (λ p. gone_by c.args.scope.now (λ (f : HashFunction) (w : WalkScope). read_locations c.args.place (read_by_hash w.code.home f c.args.hash.now)) _ _ (sym c.in-Remove.is) p)

pub returns-in-Add : goal.returns-in-Add
returns-in-Add c =
    on_ok c.read_item.result c.read_item.ensures
    (λ p. gone_by c.args.scope.now (λ (f : HashFunction) (w : WalkScope). read_locations c.args.place (read_by_hash w.code.home f c.args.hash.now)) _ _ (sym c.in-Add.is) p)

pub returns-in-Replace : goal.returns-in-Replace
returns-in-Replace c =
    on_ok c.read_item-in-Replace.result c.read_item-in-Replace.ensures
    (λ p. gone_by c.args.scope.now (λ (f : HashFunction) (w : WalkScope). read_locations c.args.place (read_by_hash w.code.home f c.args.hash.now)) _ _ (sym c.in-Replace.is) p)

pub returns-in-NumItems : goal.returns-in-NumItems
returns-in-NumItems c =
    let s = c.args.scope.now in
    on_ok c.read_at.result c.read_at.ensures
    (λ p. gone_by s (λ (f : HashFunction) (w : WalkScope). read_locations c.args.place (read_by_hash w.code.home f c.args.hash.now)) _ _ (sym c.in-NumItems.is)
    (goes_here s (λ calls. refl) (read_one s c.args.place c.named_location.ensures p)))

pub returns-in-Clear : goal.returns-in-Clear
returns-in-Clear c =
    gone_by c.args.scope.now (λ (f : HashFunction) (w : WalkScope). read_locations c.args.place (read_by_hash w.code.home f c.args.hash.now)) _ _ (sym c.in-Clear.is) (goes_nowhere c.args.scope.now c.args.walk.now)
