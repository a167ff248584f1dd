use Rattle.std.proofs.Common.{not}
use Rattle.ds2_value.specs.Types.{in_bounds, fits}
use Rattle.ds2_value.specs.Value.{is_null}
use Rattle.ds2_code.specs.ValidCode.{is_char_type}
use Rattle.ds2_object_words.proofs.PartLemmas.{both}
use Rattle.ds2_object_words.proofs.WordSteps.{text_length}
use Rattle.ds2_object_words.proofs.constants.write_value.Goals as goal

pub write_text-requires : goal.write_text-requires
write_text-requires c =
    let bounds = both (in_bounds c.args.ty) (not (is_char_type c.args.ty)) c.requires.type_bounds in
    let of_type = both (not (is_null c.args.value.now)) (fits c.args.value.now c.args.ty) c.requires.of_type in
    rw c.as_str.ensures (text_length c.in-Txt.t c.args.ty bounds.0 (rw c.in-Txt.is at of_type.1))
