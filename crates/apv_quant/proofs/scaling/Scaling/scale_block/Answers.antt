use Rattle.apv_quant.proofs.scaling.Scaling.scale_block.Goals as goal

pub scaled_narrow-requires-clause-shift_low : goal.scaled_narrow-requires-clause-shift_low
scaled_narrow-requires-clause-shift_low c = (c.self.invariant.as_narrow c.in-Some-2.narrow c.in-Some-2.is).low

pub scaled_narrow-requires-clause-shift_high : goal.scaled_narrow-requires-clause-shift_high
scaled_narrow-requires-clause-shift_high c = (c.self.invariant.as_narrow c.in-Some-2.narrow c.in-Some-2.is).high
