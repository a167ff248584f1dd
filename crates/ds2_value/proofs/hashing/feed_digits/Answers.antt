use Rattle.ds2_value.proofs.HashLemmas.{fed-in-two}
use Rattle.ds2_value.proofs.hashing.feed_digits.Goals as goal

pub returns : goal.returns
returns g c =
    fed-in-two g.H.Hasher.write c.args.state.now c.write_u64.new.self c.write_u128.new.self c.args.negative c.number_word.result c.args.digits c.args.scale
    c.if-digits-lt-WORD.false c.number_word.ensures c.write_u64.ensures c.write_u128.ensures
