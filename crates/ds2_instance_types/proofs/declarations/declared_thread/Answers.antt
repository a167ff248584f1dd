use Rattle.std.proofs.Common.{ap, ◌∙◌}
use Rattle.std.specs.Prelude.{option_copied}
use Rattle.std.specs.Option.{option_map}
use Rattle.ds2_elaboration.specs.UnitsBefore.{typed_thread_named}
use Rattle.ds2_meaning.specs.ProgramTree.{reader_of}
use Rattle.ds2_meaning.specs.View.{typed_thread_program}
use Rattle.ds2_meaning.specs.declared.units.TypedThread.{TypedThread}
use Rattle.ds2_instance_types.proofs.DeclarationForms.{known_thread, unknown_thread}
use Rattle.ds2_instance_types.proofs.declarations.declared_thread.Goals as goal

pub returns-in-None : goal.returns-in-None
returns-in-None c = λ tables before scope t.
    unknown_thread tables before scope c.args.instance.now c.args.named.now (option_map typed_thread_program (option_copied c.thread_named.result))
    (c.thread_named.ensures before t ∙ ap (typed_thread_named before.threads) (c.as_slice.ensures ∙ c.in_ok-spelled.ensures)) (ap (λ o. option_map typed_thread_program (option_copied o)) c.in-None.is)

pub returns : goal.returns
returns c = λ tables before scope t.
    known_thread tables before scope c.args.instance.now c.args.named.now (option_map typed_thread_program (option_copied c.thread_named.result))
    (c.thread_named.ensures before t ∙ ap (typed_thread_named before.threads) (c.as_slice.ensures ∙ c.in_ok-spelled.ensures)) (typed_thread_program c.in-Some.thread.now) _
    (ap (λ o. option_map typed_thread_program (option_copied o)) c.in-Some.is)
    (λ i. record { name = c.in_ok-own-in-Some.ensures i; parameters = (c.in_ok-parameters-in-Some.ensures ∙ c.parameters_of.ensures ∙ ap (λ (k : TypedThread). (reader_of (typed_thread_program k)).parameters) c.get.ensures) i })
