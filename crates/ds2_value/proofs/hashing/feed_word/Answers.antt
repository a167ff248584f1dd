use Rattle.ds2_value.proofs.HashLemmas.{fed-in-one}
use Rattle.ds2_value.proofs.hashing.feed_word.Goals as goal

pub returns : goal.returns
returns g c =
    fed-in-one g.H.Hasher.write c.args.state.now c.args.state.now c.write_u128.new.self c.args.negative c.number_word.result c.args.digits c.args.scale
    c.ranges.digits.fits c.number_word.ensures c.write_u128.ensures
