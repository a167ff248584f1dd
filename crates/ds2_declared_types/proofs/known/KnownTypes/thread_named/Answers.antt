use Rattle.std.proofs.Common.{List, ap, ◌∙◌}
use Rattle.std.specs.Prelude.{map}
use Rattle.ds2_elaboration.specs.UnitsBefore.{typed_thread_named}
use Rattle.ds2_meaning.specs.ProgramTree.{ProgramTree}
use Rattle.ds2_meaning.specs.View.{typed_thread_program}
use Rattle.ds2_declared_types.proofs.known.KnownTypes.thread_named.Goals as goal

pub returns : goal.returns
returns c = λ before h.
    c.first_thread.ensures ∙ ap (λ (l : List ProgramTree). typed_thread_named l c.args.name.now) (ap (map typed_thread_program) c.as_slice.ensures ∙ h.threads)
