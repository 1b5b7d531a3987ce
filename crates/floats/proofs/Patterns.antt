-- Bit patterns of binary64: those of the constants that code writes, and which are a NaN's. Assumes nothing.
use mathlib.Core.Path.{◌≡◌, refl, sym, subst, ◌∙◌}
use mathlib.Core.Bool.{Bool, true, false, not}
use lib.Dec.{T}
use lib.Ieee.{Float, nan, inf, fin, binary64, is_nan, of_bits, ne}
use lib.Ieee.Compare.{differs_from_itself, nan_differs}
use lib.Ieee.Scale.{finite}
use Rattle.std.specs.Float.{float_is_finite}
use Rattle.floats.specs.Values.{plus_zero, two}

pub zero_bits : of_bits binary64 0 ≡ plus_zero
unfolding of_bits
zero_bits = refl

pub two_bits : of_bits binary64 0x4000_0000_0000_0000 ≡ two
unfolding of_bits
two_bits = refl

pub inf_bits : of_bits binary64 0x7ff0_0000_0000_0000 ≡ inf false
unfolding of_bits
inf_bits = refl

pub same_no_nan : (x : Float) → ne x x ≡ false → T (not (is_nan x))
unfolding is_nan
same_no_nan nan e = subst T (sym nan_differs ∙ e) tt
same_no_nan (inf s) e = tt
same_no_nan (fin s m k) e = tt

-- the library's test of a number that is finite
pub finite_is : (x : Float) → float_is_finite x ≡ finite x
unfolding float_is_finite
finite_is nan = refl
finite_is (inf s) = refl
finite_is (fin s m e) = refl

-- the library's test of what is no number
pub is_nan_is : (x : Float) → is_nan x ≡ ne x x
unfolding is_nan
is_nan_is x = go (ne x x) refl
  where
    no : (t : Bool) → T (not t) → t ≡ false
    no true h = absurd h
    no false h = refl

    yes : (y : Float) → y ≡ nan → is_nan y ≡ true
    yes y e = rw e

    go : (t : Bool) → ne x x ≡ t → is_nan x ≡ ne x x
    go true e = yes x (differs_from_itself x (subst T (sym e) tt)) ∙ sym e
    go false e = no (is_nan x) (same_no_nan x e) ∙ sym e
