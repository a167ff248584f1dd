use Rattle.std.specs.Option.{option_copied}
use Rattle.ds2_generate.proofs.PartLemmas.{parts_made}
use Rattle.ds2_generate.proofs.program.unit_parts.Goals as goal

pub returns : goal.returns
returns c =
    parts_made c.args.unit.now (option_copied c.args.thread) _ c.in_ok-own.own _ c.in_ok-tables.tables c.in_ok-bodies.bodies c.requires.laid_out
    c.in_ok-own.ensures c.in_ok-name.ensures c.in_ok-constants.ensures c.in_ok-tables.ensures
    c.in_ok-bodies.ensures.instrs c.in_ok-bodies.ensures.methods c.in_ok-bodies.ensures.run_entry c.in_ok-bodies.ensures.term_entry
