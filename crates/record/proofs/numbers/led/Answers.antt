-- `record::numbers::led`: the goals that the search leaves. Assumes nothing.
use native.Mathlib.Omega.{arith}
use Rattle.record.proofs.Digits.{led_none, led_one, led_more}
use Rattle.record.proofs.numbers.led.Goals as goal

pub returns-in-empty : goal.returns-in-empty
returns-in-empty c = led_none _ (omega (arith, c.in-empty.len_below))

pub returns-in-len1 : goal.returns-in-len1
returns-in-len1 c = led_one _ (omega (arith, c.in-len1.len_below, c.in-len1.len_at_least))

pub returns-in-len1-up : goal.returns-in-len1-up
returns-in-len1-up c = led_more _ c.in-len1-up.len_at_least
