-- The answer of a creation is the model's, on pieces of the right length.
use Prim.Native.Nat.{ℕ}
use mathlib.Core.Path.{◌≡◌, refl, sym, ap, ◌∙◌, subst}
use mathlib.Core.Logic.{◌≢◌}
use mathlib.Core.Bool.{Bool, true, false}
use mathlib.Core.List.{List, zip_with}
use native.Mathlib.Omega.{arith}
use lib.Dec.{eqb}
use lib.Ieee.{Float}
use lib.ListN.{length}
use borrow.Author.Tests.{eq-eqb, ne_eqb, eqb-true, eqb-false}
use Rattle.model.specs.Boxes.{Side, acceptable}
use Rattle.model.specs.Calls.{Kind, ways}
use Rattle.model.specs.Soundness.{All}
use Rattle.model.proofs.Calls.{Regular}
use Rattle.model.proofs.Inside.{F64}
use Rattle.words.specs.Words.{words}
use Rattle.pool.specs.Meanings.{Empties}
use Rattle.pool.specs.Writes.{pool}
use Rattle.trees.specs.Pieces.{Creates, Decides, Fits, Pieces, pieces}
use Rattle.trees.proofs.Creates.{Named, creates_bad, creates_done, creates_none}
use Rattle.trees.proofs.Puts.{put_head}
use Rattle.std.specs.Prelude.{Result, Ok, Err}
use Rattle.model.specs.Calls.{number}
use Rattle.pieces.specs.Creations.{creation_of}
use Rattle.pieces.specs.Replies.{reply_of}
use Rattle.pieces.specs.declared.Refusal.{Refusal}
use Rattle.pieces.specs.declared.Refusal.TheVariants.{NoCapacity, BadBoundary}

pub decides_none : (u : Bool) (cap : ℕ) → cap ≡ 0 → Err NoCapacity ≡ creation_of u cap
unfolding creation_of
decides_none u cap e = simp (eq-eqb cap 0 e)

pub decides_bad : (u : Bool) (cap : ℕ) → cap ≢ 0 → u ≡ false → Err BadBoundary ≡ creation_of u cap
unfolding creation_of
decides_bad u cap n e = simp (ne_eqb cap 0 n, e)

pub decides_made : (u : Bool) (cap : ℕ) → cap ≢ 0 → u ≡ true → Ok cap ≡ creation_of u cap
unfolding creation_of
decides_made u cap n e = simp (ne_eqb cap 0 n, e)

-- what is known where a tree is to be made
record Making (u : Bool) (cap most : ℕ) : Type 0 where
  capacity : most ≡ cap
  some : cap ≢ 0
  accepted : u ≡ true

different : (m : ℕ) (r : Refusal) → Ok m ≡ Err r → ⊥
different m r e = let z : ◌≡◌ {A = ℕ} 0 1 = cc in omega arith

same_refusal : (a : Result ℕ Refusal) (r q : Refusal) → a ≡ Err r → a ≡ Err q → r ≡ q
same_refusal a r q e f = cc

making : (u : Bool) (cap most : ℕ) (a : Result ℕ Refusal) → a ≡ creation_of u cap → a ≡ Ok most → Making u cap most
making u cap most a e g = go u (eqb cap 0) refl refl
  where
    go : (v z : Bool) → u ≡ v → eqb cap 0 ≡ z → Making u cap most
    go v true f h = absurd (different most NoCapacity (sym g ∙ e ∙ sym (decides_none u cap (eqb-true cap 0 h))))
    go true false f h =
        let same : Ok most ≡ Ok cap = sym g ∙ e ∙ sym (decides_made u cap (eqb-false cap 0 h) f) in
        record { capacity = cc; some = eqb-false cap 0 h; accepted = f }
    go false false f h = absurd (different most BadBoundary (sym g ∙ e ∙ sym (decides_bad u cap (eqb-false cap 0 h) f)))

-- a creation that is refused leaves the pieces as they were
pub creates_refused : (k : Kind) (s : Pieces) (b : List Side) (cap : ℕ) (v : Bool) → Decides v (Fits k s) → v ≡ true → (u : Bool) → u ≡ acceptable b
    → (a : Result ℕ Refusal) (r : Refusal) → a ≡ creation_of u cap → a ≡ Err r → Creates k b cap s s (number (reply_of r))
unfolding number
creates_refused k s b cap v fits ev u eu a r e g = go u (eqb cap 0) refl refl
  where
    go : (w z : Bool) → u ≡ w → eqb cap 0 ≡ z → Creates k b cap s s (number (reply_of r))
    go w true f h =
        let n = eqb-true cap 0 h in
        subst (λ (q : Refusal). Creates k b cap s s (number (reply_of q))) (same_refusal a NoCapacity r (e ∙ sym (decides_none u cap n)) g) (creates_none k s b cap v fits ev n)
    go true false f h = absurd (different cap r (decides_made u cap (eqb-false cap 0 h) f ∙ sym e ∙ g))
    go false false f h =
        let n = eqb-false cap 0 h in
        subst (λ (q : Refusal). Creates k b cap s s (number (reply_of q))) (same_refusal a BadBoundary r (e ∙ sym (decides_bad u cap n f)) g) (creates_bad k s b cap v fits ev n u eu f)

-- a creation that is done leaves the empty tree
pub creates_made : (k : Kind) (s : Pieces) (b : List Side) (cap : ℕ) (v : Bool) → Decides v (Fits k s) → v ≡ true → (u : Bool) → u ≡ acceptable b
    → (a : Result ℕ Refusal) (most : ℕ) → a ≡ creation_of u cap → a ≡ Ok most
    → (m : ℕ) → Named k m → Regular k → (cs es : List Float) → zip_with (λ c e. record { corner = c; extent = e }) cs es ≡ b → length cs ≡ k.axes → length es ≡ k.axes → All F64 cs → All F64 es
    → (h n' x' : List ℕ) → length h ≡ length s.head → length n' ≡ length s.nodes → length x' ≡ length s.links → words h ≡ put_head k.axes (words s.head) cs es most
    → Empties (ways k) (pool s.nodes s.links) (pool n' x') 1 → Creates k b cap s (pieces h n' x' s.points) 0
creates_made k s b cap v fits ev u eu a most e g m nm rg cs es eb ec ee fc fe h n' x' lh ln lx eh ep =
    let mk = making u cap most a e g in
    creates_done k s b cap v fits ev mk.some u eu m nm rg cs es eb ec ee fc fe h n' x' lh ln lx (eh ∙ ap (put_head k.axes (words s.head) cs es) mk.capacity) ep mk.accepted
