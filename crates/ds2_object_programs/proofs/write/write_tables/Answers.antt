use Rattle.std.specs.List.{list_all}
use Rattle.std.proofs.Common.{◌&&◌}
use Rattle.ds2_code.specs.ValidCode.{is_short}
use Rattle.ds2_object_words.specs.CodeParts.{read_spelled}
use Rattle.ds2_object_words.proofs.PartLemmas.{both}
use Rattle.ds2_object_words.proofs.WriteSteps.{short_items}
use Rattle.ds2_object_programs.proofs.write.write_tables.Goals as goal

pub write-requires-2 : goal.write-requires-2
write-requires-2 c =
    short_items c.args.bys.now
    (both (list_all read_spelled c.args.tables.now) (is_short c.args.bys.now)
    (both (is_short c.args.tables.now) (list_all read_spelled c.args.tables.now && is_short c.args.bys.now) c.requires).1).1
