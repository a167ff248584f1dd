use Rattle.std.proofs.Common.{List, sym, ap, ◌∙◌}
use Rattle.std.specs.Option.{option_copied}
use Rattle.ds2_locality.specs.Deeds.{Deed}
use Rattle.ds2_deeds.specs.CodeTrees.{nameless_tree}
use Rattle.ds2_deeds.specs.NamedMethods.{method_of_name}
use Rattle.ds2_deeds.specs.NumberedDeeds.{numbers_of, numbered_deeds}
use Rattle.ds2_deeds.proofs.BodyLemmas.{no_method}
use Rattle.ds2_deeds.proofs.bodies.method_deeds.Goals as goal

pub returns-in-None : goal.returns-in-None
returns-in-None c =
    let is = no_method (nameless_tree c.args.program.now) (method_of_name c.args.method) (option_copied c.method_at.result) c.method_at.ensures (ap option_copied c.in-None.is) in
    c.new-deeds.ensures ∙ sym (ap (λ (l : List Deed). numbered_deeds (numbers_of c.args.numbers) l) is)
