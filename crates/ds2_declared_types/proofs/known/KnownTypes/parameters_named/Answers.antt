use Rattle.std.proofs.Common.{[], Option, sym, ap, ◌∙◌}
use Rattle.std.specs.Prelude.{option_copied}
use Rattle.std.specs.Option.{option_map, option_map_or}
use Rattle.ds2_meaning.specs.ProgramTree.{ProgramTree, reader_of}
use Rattle.ds2_meaning.specs.View.{typed_thread_program}
use Rattle.ds2_meaning.specs.declared.units.TypedThread.{TypedThread}
use Rattle.ds2_declared_types.proofs.known.KnownTypes.parameters_named.Goals as goal

pub returns-in-None : goal.returns-in-None
returns-in-None c = λ before h.
    ap (λ (o : Option ProgramTree). option_map_or (λ p. (reader_of p).parameters) o []) (ap (λ o. option_map typed_thread_program (option_copied o)) (sym c.in-None.is) ∙ c.thread_named.ensures before h)

pub returns-in-Some : goal.returns-in-Some
returns-in-Some c = λ before h.
    c.parameters_of.ensures ∙ ap (λ (t : TypedThread). (reader_of (typed_thread_program t)).parameters) c.get.ensures
    ∙ ap (λ (o : Option ProgramTree). option_map_or (λ p. (reader_of p).parameters) o []) (ap (λ o. option_map typed_thread_program (option_copied o)) (sym c.in-Some.is) ∙ c.thread_named.ensures before h)
