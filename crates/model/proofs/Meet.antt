-- Boxes that share a place meet. Over any number of axes. Assumes nothing.
use mathlib.Core.List.{List, [], ◌∷◌}
use lib.Dec.{T}
use lib.Ieee.{Float, binary64, le}
use lib.Ieee.Fits.{and_i, and_l, and_r}
use Rattle.floats.proofs.Order.{le_transitive}
use Rattle.model.specs.Boxes.{Side, far, holds, inside, touches, meets}
use Rattle.model.specs.Soundness.{All}
use Rattle.model.proofs.Inside.{F64, F64Side, far_held}

-- one axis
shared_touch : (s t : Side) (v : Float) → F64Side s → F64Side t → F64 v → T (holds s v) → T (holds t v) → T (touches s t)
unfolding holds touches
shared_touch s t v p q u h k =
    and_i (le s.corner (far t)) (le t.corner (far s))
    (le_transitive binary64 s.corner v (far t) p.0 u (far_held t) (and_l (le s.corner v) (le v (far s)) h) (and_r (le t.corner v) (le v (far t)) k))
    (le_transitive binary64 t.corner v (far s) q.0 u (far_held s) (and_l (le t.corner v) (le v (far t)) k) (and_r (le s.corner v) (le v (far s)) h))

pub shared_meet : (b q : List Side) (p : List Float) → All F64Side b → All F64Side q → All F64 p → T (inside b p) → T (inside q p) → T (meets b q)
unfolding inside meets
shared_meet [] [] p g r u h k = tt
shared_meet [] (t ∷ q) [] g r u h k = absurd k
shared_meet [] (t ∷ q) (v ∷ p) g r u h k = absurd h
shared_meet (s ∷ b) [] [] g r u h k = absurd h
shared_meet (s ∷ b) [] (v ∷ p) g r u h k = absurd k
shared_meet (s ∷ b) (t ∷ q) [] g r u h k = absurd h
shared_meet (s ∷ b) (t ∷ q) (v ∷ p) g r u h k =
    and_i (touches s t) (meets b q) (shared_touch s t v g.0 r.0 u.0 (and_l (holds s v) (inside b p) h) (and_l (holds t v) (inside q p) k))
    (shared_meet b q p g.1 r.1 u.1 (and_r (holds s v) (inside b p) h) (and_r (holds t v) (inside q p) k))
