-- Tests that decide, the lengths of the pieces, and a payload as it is read. Assumes nothing.
use mathlib.Core.Path.{◌≡◌, refl, ap, ap₂, ◌∙◌, sym, subst}
use mathlib.Core.Bool.{Bool, true, false, ◌&&◌}
use mathlib.Core.List.{List}
use Prim.Native.Nat.{ℕ, suc, ◌+◌, ◌-◌, ◌*◌}
use native.Mathlib.Nat.{suc-mul}
use native.Mathlib.Numerals.{add-one}
use native.Mathlib.Omega.{arith}
use lib.Dec.{T, eqb}
use borrow.Author.Tests.{eqb-true, eq-eqb}
use lib.ListN.{length, get_or}
use Rattle.model.specs.Calls.{Kind, ways}
use Rattle.trees.specs.Points.{point_at}
use Rattle.trees.specs.Pieces.{Pieces, Fits, Decides}

pub both : (t u : Bool) → t && u ≡ true → (t ≡ true) × (u ≡ true)
both true u h = (refl, h)
both false u h = absurd (subst T (sym h) tt)

pub decide_and : (a b : Bool) (P Q : Type 0) → Decides a P → Decides b Q → Decides (a && b) (P × Q)
decide_and a b P Q p q = record { sure = λ h. let e = both a b h in (p.sure e.0, q.sure e.1); only = λ z. ap₂ (λ (u v : Bool). u && v) (p.only z.0) (q.only z.1) }

pub decide_eq : (m n : ℕ) → Decides (eqb m n) (m ≡ n)
decide_eq m n = record { sure = λ h. eqb-true m n h; only = λ h. eq-eqb m n h }

-- the same test for what is the same
pub decide_as : (a : Bool) (P Q : Type 0) → (P → Q) → (Q → P) → Decides a P → Decides a Q
decide_as a P Q f g d = record { sure = λ h. f (d.sure h); only = λ q. d.only (g q) }

pub fitting : (k : Kind) (s : Pieces) (h n x p : ℕ) → h ≡ 16 * k.axes + 8 → n ≡ 16 * (k.most - 1 + ways k) → x ≡ 4 * 513 → p ≡ 8 * (k.axes + 1) * 513
    → Decides (((eqb (length s.head) h && eqb (length s.nodes) n) && eqb (length s.links) x) && eqb (length s.points) p) (Fits k s)
fitting k s h n x p eh en ex ep =
    decide_as _ _ (Fits k s)
    (λ z. record { head = z.0.0.0 ∙ eh; nodes = z.0.0.1 ∙ en; links = z.0.1 ∙ ex; points = z.1 ∙ ep })
    (λ f. (((f.head ∙ sym eh, f.nodes ∙ sym en), f.links ∙ sym ex), f.points ∙ sym ep))
    (decide_and _ _ _ _ (decide_and _ _ _ _ (decide_and _ _ _ _ (decide_eq (length s.head) h) (decide_eq (length s.nodes) n)) (decide_eq (length s.links) x)) (decide_eq (length s.points) p))

-- the answer r of the test of all lengths, for any kind of tree with these axes, these ways and room for so many groups
unfoldable pub Measured : (axes w rows : ℕ) → Pieces → Bool → Type 0
Measured axes w rows s r = (k : Kind) → k.axes ≡ axes → ways k ≡ w → k.most ≡ suc (w * rows) → Decides r (Fits k s)

pub measured : (axes w rows : ℕ) (s : Pieces) → Measured axes w rows s (((eqb (length s.head) (16 * axes + 8) && eqb (length s.nodes) (16 * (w * rows + w))) && eqb (length s.links) 2052) && eqb (length s.points) (4104 * (axes + 1)))
unfolding Measured
measured axes w rows s k ea ew em = fitting k s _ _ _ _ (omega (arith, ea)) (omega (arith, ew, em)) refl (omega (arith, ea))

-- where place p begins, and its payload
pub base_is : (axes p : ℕ) → axes * p + p ≡ (axes + 1) * p
base_is axes p = omega (arith, ap (λ (a : ℕ). a * p) (add-one axes), suc-mul axes p)

pub payload_at : (axes : ℕ) (w : List ℕ) (p from r : ℕ) → from ≡ (axes + 1) * p → r ≡ get_or w (2 * from + 2 * axes) 0 → r ≡ (point_at axes w p).payload
payload_at axes w p from r ef er = er ∙ ap (λ (k : ℕ). get_or w (2 * k + 2 * axes) 0) ef
