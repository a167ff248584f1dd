use Rattle.std.proofs.Common.{sym}
use Rattle.ds2_emitter.proofs.Appended.{on_ok}
use Rattle.ds2_value.specs.declared.hash_function.HashFunction.{HashFunction}
use Rattle.ds2_locality.specs.Walk.{WalkScope, DirtySet, GoesOn, all_cleaned, cleaned_by_hash}
use Rattle.ds2_recorded_walk.proofs.GoesLemmas.{goes_nowhere, gone_by}
use Rattle.ds2_recorded_walk.proofs.walk_reads.clean_for_hash_call.Goals as goal

pub returns-in-Find : goal.returns-in-Find
returns-in-Find c =
    let s = c.args.scope.now in
    gone_by s (λ (f : HashFunction) (w : WalkScope) (d : DirtySet). GoesOn (all_cleaned (cleaned_by_hash w.code.home w.code.objects.iterators f c.args.hash.now) d)) _ _ (sym c.in-Find.is) (goes_nowhere s c.args.walk.now)

pub returns-in-Check : goal.returns-in-Check
returns-in-Check c =
    let s = c.args.scope.now in
    gone_by s (λ (f : HashFunction) (w : WalkScope) (d : DirtySet). GoesOn (all_cleaned (cleaned_by_hash w.code.home w.code.objects.iterators f c.args.hash.now) d)) _ _ (sym c.in-Check.is) (goes_nowhere s c.args.walk.now)

pub returns-in-Remove : goal.returns-in-Remove
returns-in-Remove c =
    let s = c.args.scope.now in
    gone_by s (λ (f : HashFunction) (w : WalkScope) (d : DirtySet). GoesOn (all_cleaned (cleaned_by_hash w.code.home w.code.objects.iterators f c.args.hash.now) d)) _ _ (sym c.in-Remove.is) (goes_nowhere s c.args.walk.now)

pub returns-in-Add : goal.returns-in-Add
returns-in-Add c =
    let s = c.args.scope.now in
    gone_by s (λ (f : HashFunction) (w : WalkScope) (d : DirtySet). GoesOn (all_cleaned (cleaned_by_hash w.code.home w.code.objects.iterators f c.args.hash.now) d)) _ _ (sym c.in-Add.is) (goes_nowhere s c.args.walk.now)

pub returns-in-Replace : goal.returns-in-Replace
returns-in-Replace c =
    let s = c.args.scope.now in
    gone_by s (λ (f : HashFunction) (w : WalkScope) (d : DirtySet). GoesOn (all_cleaned (cleaned_by_hash w.code.home w.code.objects.iterators f c.args.hash.now) d)) _ _ (sym c.in-Replace.is) (goes_nowhere s c.args.walk.now)

pub returns-in-NumItems : goal.returns-in-NumItems
returns-in-NumItems c =
    let s = c.args.scope.now in
    gone_by s (λ (f : HashFunction) (w : WalkScope) (d : DirtySet). GoesOn (all_cleaned (cleaned_by_hash w.code.home w.code.objects.iterators f c.args.hash.now) d)) _ _ (sym c.in-NumItems.is) (goes_nowhere s c.args.walk.now)

pub returns-in-Clear : goal.returns-in-Clear
returns-in-Clear c =
    let s = c.args.scope.now in
    on_ok c.clean_items.result c.clean_items.ensures
    (λ p. gone_by s (λ (f : HashFunction) (w : WalkScope) (d : DirtySet). GoesOn (all_cleaned (cleaned_by_hash w.code.home w.code.objects.iterators f c.args.hash.now) d)) _ _ (sym c.in-Clear.is) p)
