-- Each program begins with no tree, and after any input the points held are the accepted inserts less the successful deletes.
use mathlib.Core.Path.{◌≡◌, refl, sym, ap, ap₂, ◌∙◌, subst}
use mathlib.Core.Bool.{Bool, false, true}
use mathlib.Core.List.{List}
use Prim.Native.Nat.{ℕ, ◌+◌, ◌*◌, ◌≤◌}
use native.Mathlib.Omega.{arith}
use lib.ListN.{length, replicate, take}
use lib.Seq.{length-take-le}
use Rattle.model.specs.Calls.{Kind, State, broken, octree, quadtree, ways}
use Rattle.model.specs.History.{blank, ledger}
use Rattle.model.proofs.After.{Fine}
use Rattle.model.proofs.Calls.{Regular}
use Rattle.trees.proofs.Creates.{Named}
use Rattle.trees.specs.Pieces.{Pieces, pieces}
use Rattle.record.specs.Commands.{understood}
use Rattle.record.specs.Input.{records}
use Rattle.replies.specs.Programs.{Keeps}
use Rattle.replies.proofs.History.{held_after_records, understood_only}
use Rattle.replies.proofs.Starts.{none_yet}
use Rattle.turns.specs.Places.{Turns, does_go_on}
use Rattle.turns.specs.declared.Place.{Place}
use Rattle.turns.proofs.Turns.{any_cutting, turns_keep}

-- ---- the arrays of `run`
-- the first bytes of the arrays have the lengths of a tree with m groups
pub starts : (k : Kind) (m : ℕ) (h n x p : List ℕ) → Named k m → length h ≡ 16 * k.axes + 8 → length n ≡ 16 * (ways k * m + ways k) → length x ≡ 2052 → length p ≡ 4104 * (k.axes + 1) → Keeps k false (pieces h n x p) broken
starts k m h n x p nm eh en ex ep = none_yet k (pieces h n x p) (record { head = eh; nodes = omega (arith, en, nm.roomy); links = ex; points = omega (arith, ep) })

-- the lengths of those first bytes
abbrev zeros : ℕ → List ℕ
zeros n = replicate n 0

pub head_is : (k : Kind) (a : ℕ) → a ≡ k.axes → k.axes ≤ 3 → length (take (16 * a + 8) (zeros 56)) ≡ 16 * k.axes + 8
head_is k a e few = let all : length (zeros 56) ≡ 56 = refl in length-take-le (16 * a + 8) (zeros 56) (omega (arith, all, e, few)) ∙ ap (λ (b : ℕ). 16 * b + 8) e

pub nodes_is : (k : Kind) (m w r : ℕ) → w ≡ ways k → r ≡ m → ways k * m + ways k ≤ 344 → length (take (16 * (w * r + w)) (zeros 5504)) ≡ 16 * (ways k * m + ways k)
nodes_is k m w r ew er few =
    let all : length (zeros 5504) ≡ 5504 = refl in
    let many : 16 * (w * r + w) ≡ 16 * (ways k * m + ways k) = ap₂ (λ (v q : ℕ). 16 * (v * q + v)) ew er in
    length-take-le (16 * (w * r + w)) (zeros 5504) (omega (arith, all, many, few)) ∙ many

pub points_is : (k : Kind) (a : ℕ) → a ≡ k.axes → k.axes ≤ 3 → length (take (4104 * (a + 1)) (zeros 16416)) ≡ 4104 * (k.axes + 1)
points_is k a e few = let all : length (zeros 16416) ≡ 16416 = refl in length-take-le (4104 * (a + 1)) (zeros 16416) (omega (arith, all, e, few)) ∙ ap (λ (b : ℕ). 4104 * (b + 1)) e

pub starts_quad : Keeps quadtree false (pieces (replicate 40 0) (replicate 5504 0) (replicate 2052 0) (replicate 12312 0)) broken
starts_quad = none_yet quadtree (pieces (replicate 40 0) (replicate 5504 0) (replicate 2052 0) (replicate 12312 0)) (record { head = refl; nodes = refl; links = refl; points = refl })

pub starts_oct : Keeps octree false (pieces (replicate 56 0) (replicate 5248 0) (replicate 2052 0) (replicate 16416 0)) broken
starts_oct = none_yet octree (pieces (replicate 56 0) (replicate 5248 0) (replicate 2052 0) (replicate 16416 0)) (record { head = refl; nodes = refl; links = refl; points = refl })

-- ---- after the input
-- at the end of any turns of a kind of tree and a word: the state that the pieces are in, and what it holds
pub held_after_input : (k : Kind) (made : List ℕ) → Regular k → {input printed : List ℕ} {a : State} {p : Place} {s : Pieces} {text : List ℕ} → Turns k (understood made k.axes) input printed a p s text → does_go_on p.next ≡ false
    → Keeps k p.held s a × Fine k a (ledger k broken (understood_only (records (understood made k.axes) true input)) blank)
held_after_input k made r {input} t over = (
  turns_keep k (understood made k.axes) t,
  subst (λ (b : State). Fine k b (ledger k broken (understood_only (records (understood made k.axes) true input)) blank)) (sym (any_cutting k (understood made k.axes) t over).1) (held_after_records k made r input),
)

-- what holds with a flag set and with it not set
pub either : (P : Bool → Type 0) → P true → P false → (flag : Bool) → P flag
either P a b true = a
either P a b false = b
