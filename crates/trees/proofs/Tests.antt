-- Answers of tests. Assumes nothing.
use mathlib.Core.Path.{◌≡◌, refl, sym, ◌∙◌, subst}
use mathlib.Core.Bool.{Bool, true, false, ◌&&◌}
use lib.Dec.{T}

pub fails : {C : Type 0} {t : Bool} → t ≡ true → t ≡ false → C
fails e h = absurd (subst T (sym e ∙ h) tt)

pub no_true : {C : Type 0} → false ≡ true → C
no_true e = absurd (subst T (sym e) tt)

pub and_true : (t : Bool) → t && true ≡ t
and_true true = refl
and_true false = refl

pub and_false : (t : Bool) → t && false ≡ false
and_false true = refl
and_false false = refl
