use Rattle.std.proofs.Common.{[], ◌∷◌}
use Rattle.std.proofs.lemmas.Result.{on_ok_weaker}
use Rattle.ds2_meaning.specs.Location.{Location}
use Rattle.ds2_locality.specs.Deeds.{MentionObject}
use Rattle.ds2_deeds.specs.NumberedDeeds.{numbers_of}
use Rattle.ds2_deeds.proofs.DeedLemmas.{equal_added, two_added}
use Rattle.ds2_deeds.proofs.object_deeds.add_call_of_hash.Goals as goal

pub returns : goal.returns
returns c =
    let n = numbers_of c.args.numbers in
    let first = equal_added n (λ (at : Location). MentionObject at ∷ []) _ _ _ _ c.named_location.ensures c.in_ok-add_object.ensures in
    on_ok_weaker c.add_hash_changes.result (λ e. two_added n _ _ _ _ _ first (two_added n _ _ _ _ _ c.in_ok-add_hash_variables.ensures e)) c.add_hash_changes.ensures
