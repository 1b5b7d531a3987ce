-- Points are handed over with as many axes as the code counts.
use mathlib.Core.Path.{◌≡◌, subst}
use mathlib.Core.List.{List, map}
use Prim.Native.Nat.{ℕ}
use Rattle.trees.specs.Handed.{Handed}
use Rattle.trees.specs.Pieces.{room_for}
use Rattle.trees.specs.Points.{point_at}

pub handed_as : (a b : ℕ) (ws found cs ms cs' ms' : List ℕ) (r n : ℕ) → a ≡ b → Handed (room_for a cs ms) (map (point_at a ws) found) cs ms cs' ms' r n → Handed (room_for b cs ms) (map (point_at b ws) found) cs ms cs' ms' r n
handed_as a b ws found cs ms cs' ms' r n e h = subst (λ (u : ℕ). Handed (room_for u cs ms) (map (point_at u ws) found) cs ms cs' ms' r n) e h
