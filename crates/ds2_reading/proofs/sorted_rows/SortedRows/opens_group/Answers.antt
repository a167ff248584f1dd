use Rattle.std.proofs.Common.{◌||◌, nat_eq, nat_lt, ap, sym, ◌∙◌}
use Rattle.ds2_reading.proofs.PlaceFlags.{opens_there}
use Rattle.ds2_reading.proofs.sorted_rows.SortedRows.opens_group.Goals as goal

pub returns : goal.returns
returns c =
    c.opens_at_grain.ensures
    ∙ ap (λ n. nat_eq c.args.grain 0 || (nat_eq c.args.place 0 || nat_lt n c.args.grain)) c.common_at.ensures
    ∙ sym (opens_there c.args.self.now c.args.grain c.args.place c.have_keys.ensures c.requires.grain c.requires.place)
