-- The test for what is no number. Assumes nothing.
use mathlib.Core.Path.{◌≡◌, ap, sym, ◌∙◌}
use mathlib.Core.Bool.{Bool, ◌||◌}
use lib.Ieee.{Float, is_nan, ne}
use Rattle.floats.proofs.Patterns.{is_nan_is}

pub or_nan : (a b t : Bool) (x : Float) → b ≡ is_nan x → a || b ≡ t → a || ne x x ≡ t
or_nan a b t x e h = ap (λ c. a || c) (sym (e ∙ is_nan_is x)) ∙ h
