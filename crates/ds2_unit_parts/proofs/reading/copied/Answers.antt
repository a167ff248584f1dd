use Rattle.ds2_unit_parts.proofs.reading.copied.Goals as goal

pub returns : goal.returns
returns c = λ i. record { name = c.in_ok-name.ensures i; maker = c.args.t.now.maker }
