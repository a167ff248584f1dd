use Rattle.ds2_object_words.proofs.CodePartLemmas.{method_law}
use Rattle.ds2_object_words.proofs.ConstantLemmas.{constant_law}
use Rattle.ds2_object_words.proofs.PartLemmas.{begins_no_other}
use Rattle.ds2_object_words.proofs.WordLemmas.{name_law, type_law}
use Rattle.ds2_object_words.specs.CodeParts.{constant_line, method_line}
use Rattle.ds2_object_words.specs.Words.{name_part, type_part}
use Rattle.ds2_object_words.proofs.laws.no_spelling_begins_another.Goals as goal

pub returns : goal.returns
returns c = (begins_no_other name_part name_law, begins_no_other type_part type_law, begins_no_other constant_line constant_law, begins_no_other method_line method_law)
