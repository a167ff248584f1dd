use Rattle.std.proofs.Common.{◌+◌, drop, arith}
use Rattle.std.proofs.lemmas.Grind.{common_steps}
use Rattle.std.specs.Prelude.{nat_eq}
use Rattle.std.specs.Cmp.Lexicographic.{pointwise}
use Rattle.std.specs.HashMap.{get}
use Rattle.ds2_meaning.specs.IsTyped.{type_in}
use Rattle.ds2_type_tables.specs.Globals.{column_known_as, parameter_known_as, flag_of_name}
use Rattle.ds2_type_tables.proofs.TableLemmas.{globals_whole, one_more_flag}
use Rattle.ds2_type_tables.proofs.globals.globals.Goals as goal

pub flags-init : goal.flags-init
flags-init c = λ name.
    globals_whole (get (pointwise nat_eq) c.in_ok-names.names name) (column_known_as c.args.unjoined.now name (type_in c.args.variables.now name))
    (parameter_known_as name (type_in c.args.parameters.now name)) (flag_of_name c.args.flags.now name) (c.in_ok-names.ensures name)

pub flags-preserved : goal.flags-preserved
flags-preserved c = λ name.
    let k = one_more_flag (get (pointwise nat_eq) c.flags.names name) c.name-item.result (drop (c.flags.name-index + 1) c.args.flags.now) name in
    let more = c.in_ok-add.ensures name in
    let before = c.flags.invariant name in
    grind (arith, common_steps, k, more, before)
