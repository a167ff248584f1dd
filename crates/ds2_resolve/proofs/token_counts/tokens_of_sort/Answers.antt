use Rattle.std.proofs.Common.{nat_eq, ap, sym, ◌∙◌}
use Rattle.std.specs.Prelude.{unwrap_or}
use Rattle.std.specs.Cmp.Lexicographic.{pointwise}
use Rattle.std.specs.HashMap.{get}
use Rattle.ds2_names.specs.SourceLimits.{tokens_of_sort}
use Rattle.ds2_names.specs.SourceUnit.{package_named, spelled_name}
use Rattle.ds2_scope.specs.CodeUnits.{instance_sort}
use Rattle.ds2_resolve.proofs.TokenLemmas.{tokens_are}
use Rattle.ds2_resolve.proofs.token_counts.tokens_of_sort.Goals as goal

pub returns-in_ok-name-in-Package : goal.returns-in_ok-name-in-Package
returns-in_ok-name-in-Package c = λ units kept.
    let name = spelled_name c.in-Package.«package».now in
    c.tokens_of.ensures
    ∙ ap (λ n. unwrap_or (get (pointwise nat_eq) c.args.known.now.packages n) 0) c.in_ok-name-in-Package.ensures
    ∙ ap (λ o. unwrap_or o 0) (kept.packages name)
    ∙ tokens_are (package_named units name)
    ∙ sym (ap (λ s. tokens_of_sort units (instance_sort s)) c.in-Package.is)
