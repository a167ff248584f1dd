use Rattle.std.proofs.Common.{[], refl, sym, ap, ◌∙◌}
use Rattle.ds2_tree.specs.UnitViews.{thread_tree}
use Rattle.ds2_names.specs.NameRules.{columns_left}
use Rattle.ds2_names.specs.SourceLimits.{chain_length}
use Rattle.ds2_names.specs.SourceUnit.{KnownThread, spelled_name, names_alone, names_of_unit, unit_of_thread}
use Rattle.ds2_resolve.proofs.BeforeLemmas.{thread_behind}
use Rattle.ds2_resolve.proofs.before.UnitsBefore.enter_thread.Goals as goal

pub returns : goal.returns
returns c = λ tables units columns kept.
    let u = thread_tree c.args.unit.now in
    let names = names_of_unit tables units.known (unit_of_thread u) in
    let t : KnownThread = record { name = spelled_name u.name; parameters = names_alone names.parameters; columns = columns_left names []; chain = chain_length units.known names.instances } in
    let chain = c.in_ok-chain.ensures units.known kept.known ∙ ap (chain_length units.known) c.requires in
    thread_behind c.args.self.now _ units u tables kept
    (c.in_ok-add_thread-2.ensures units.known t kept.known (sym c.in_ok-name.ensures) (λ i. record { columns = sym columns i; chain = sym chain i }))
    (c.in_ok-add_thread.ensures units.known t refl refl kept.calls)
    refl refl refl refl refl
