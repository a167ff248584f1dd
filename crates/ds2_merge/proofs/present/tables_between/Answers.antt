use Rattle.std.proofs.Common.{◌-◌, arith}
use Rattle.ds2_merge.proofs.Bits.{no_flags, small_flags, one_flag_more, whole_flags}
use Rattle.ds2_merge.proofs.present.tables_between.Goals as goal

pub tables-init : goal.tables-init
tables-init c = no_flags c.args.begins.now c.args.ends.now c.args.tables

pub with_flag-present-requires : goal.with_flag-present-requires
with_flag-present-requires c = small_flags c.args.begins.now c.args.ends.now c.args.tables c.tables.table c.tables.present c.requires (omega arith) c.tables.invariant

pub tables-preserved : goal.tables-preserved
tables-preserved c =
    one_flag_more c.args.begins.now c.args.ends.now c.args.tables c.tables.table (c.tables.table - 1) c.tables.present c.with_flag-present.result (omega arith) c.tables.invariant
    (c.with_flag-present.ensures.bits (c.args.tables - c.tables.table)) c.with_flag-present.ensures.bound

pub returns : goal.returns
returns c = whole_flags c.args.begins.now c.args.ends.now c.args.tables c.tables.table c.tables.present (omega arith) c.tables.invariant
