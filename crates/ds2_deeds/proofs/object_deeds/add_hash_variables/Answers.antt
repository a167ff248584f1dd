use Rattle.std.proofs.Common.{List, map, sym, ap, ◌∙◌}
use Rattle.std.proofs.lemmas.List.{map-append}
use Rattle.std.proofs.lemmas.Result.{on_ok_weaker}
use Rattle.ds2_meaning.specs.declared.hashes.HashVariable.{HashVariable}
use Rattle.ds2_locality.specs.Deeds.{Deed, Mention, variables_at}
use Rattle.ds2_deeds.specs.NamedLocations.{code_home}
use Rattle.ds2_deeds.specs.NumberedDeeds.{numbers_of, with_deeds}
use Rattle.ds2_deeds.proofs.DeedLemmas.{equal_added, two_added}
use Rattle.ds2_deeds.proofs.object_deeds.add_hash_variables.Goals as goal

pub returns : goal.returns
returns c =
    let n = numbers_of c.args.numbers in
    let home = code_home c.args.home in
    let hash = c.args.hash.now in
    let keys = equal_added n (λ (l : List HashVariable). map Mention (variables_at home l)) _ _ _ _ c.as_slice.ensures c.in_ok-add_mentions.ensures in
    let both = ap (λ (l : List Deed). with_deeds n l c.args.deeds.now) (map-append Mention (variables_at home hash.key_variables) (variables_at home hash.data_variables)) in
    on_ok_weaker c.add_mentions-2.result
    (λ e. two_added n _ _ _ _ _ keys (equal_added n (λ (l : List HashVariable). map Mention (variables_at home l)) _ _ _ _ c.as_slice-2.ensures e) ∙ sym both) c.add_mentions-2.ensures
