-- Laws of chains: words that agree, one chain behind another, and how long a chain is. Assumes nothing.
use mathlib.Core.Path.{◌≡◌, refl, ap, sym, subst, ◌∙◌}
use mathlib.Core.Logic.{◌≢◌}
use mathlib.Core.List.{List, [], ◌∷◌, ◌++◌}
use Prim.Native.Nat.{ℕ, zero, suc, ◌+◌, ◌<◌, ◌≤◌}
use native.Mathlib.Omega.{arith}
use lib.ListN.{length, get_or, set, length-set}
use lib.Seq.{get_or-set_same, get_or-set_other, lt-length-set}
use Rattle.model.specs.Soundness.{All}
use Rattle.pool.specs.Lists.{is, occ, last_or, Chain}
use Rattle.pool.proofs.Lists.{by-eq, is_same, is_other, is_eq}

-- words that agree at every place of a chain
pub chain_agree : (l x y : List ℕ) (h : ℕ) → length y ≡ length x → ((p : ℕ) → occ p l ≢ 0 → get_or y p 0 ≡ get_or x p 0) → Chain x h l → Chain y h l
chain_agree [] x y h e g c = c
chain_agree (p ∷ l) x y h e g c =
    (c.0, c.1, omega (arith, c.2, e), rw (g p (λ z. absurd (omega (arith, is_same p)))) (chain_agree l x y (get_or x p 0) e (λ q z. g q (λ w. z (omega arith))) c.3))

-- one word is written that is no place of the chain
pub chain_set : (l x : List ℕ) (h w v : ℕ) → occ w l ≡ 0 → Chain x h l → Chain (set x w v) h l
chain_set l x h w v o c = chain_agree l x (set x w v) h (length-set x w v) (λ p z. get_or-set_other x w p v 0 (λ e. z (ap (λ u. occ u l) e ∙ o))) c

pub occ_last : (q : ℕ) (l : List ℕ) → occ (last_or q l) (q ∷ l) ≢ 0
occ_last q [] z = absurd (omega (arith, z, is_same q))
occ_last q (r ∷ l) z = occ_last r l (omega arith)

pub last_append : (z q : ℕ) (l m : List ℕ) → last_or z (l ++ (q ∷ m)) ≡ last_or q m
last_append z q [] m = refl
last_append z q (p ∷ l) m = last_append p q l m

-- the link of the last is set: two chains are one
pub link : (l m x : List ℕ) (a q b : ℕ) → Chain x a (q ∷ l) → ((w : ℕ) → occ w (q ∷ l) + occ w m ≤ 1) → Chain x b m → Chain (set x (last_or q l) b) a (q ∷ (l ++ m))
link [] m x a q b c d cm =
    (c.0, c.1, lt-length-set x q b c.2, rw (get_or-set_same x q b 0 c.2) (chain_set m x b q b (omega (arith, d q, is_same q)) cm))
link (r ∷ l) m x a q b c d cm = (
  c.0,
  c.1,
  lt-length-set x (last_or r l) b c.2,
  rw (get_or-set_other x (last_or r l) q b 0 (λ e. occ_last r l (subst (λ v. occ v (r ∷ l) ≡ 0) e (omega (arith, d q, is_same q)))))
      (link l m x (get_or x q 0) r b c.3 (λ w. omega (arith, d w)) cm),
)

pub no_zero : (l x : List ℕ) (h : ℕ) → Chain x h l → occ 0 l ≡ 0
no_zero [] x h c = refl
no_zero (p ∷ l) x h c = omega (arith, is_other 0 p (λ e. c.1 (sym e)), no_zero l x (get_or x p 0) c.3)

pub last_nonzero : (q : ℕ) (l x : List ℕ) (h : ℕ) → Chain x h (q ∷ l) → last_or q l ≢ 0
last_nonzero q l x h c e = occ_last q l (ap (λ v. occ v (q ∷ l)) e ∙ no_zero (q ∷ l) x h c)

-- ---- a list of numbers below m in which nothing is twice is no longer than m; so a chain is no longer than there are words
total : ℕ → List ℕ → ℕ
total zero l = 0
total (suc m) l = occ m l + total m l

total_is : (m q : ℕ) → ℕ
total_is zero q = 0
total_is (suc m) q = is m q + total_is m q

total_le : (m : ℕ) (l : List ℕ) → ((p : ℕ) → occ p l ≤ 1) → total m l ≤ m
unfolding total
total_le zero l h = omega arith
total_le (suc m) l h = omega (arith, h m, total_le m l h)

total_nil : (m : ℕ) → total m [] ≡ 0
unfolding total
total_nil zero = refl
total_nil (suc m) = omega (arith, total_nil m)

total_cons : (m q : ℕ) (l : List ℕ) → total m (q ∷ l) ≡ total_is m q + total m l
unfolding total total_is
total_cons zero q l = omega arith
total_cons (suc m) q l = omega (arith, total_cons m q l)

total_one : (m q : ℕ) → q < m → 1 ≤ total_is m q
unfolding total_is
total_one zero q h = absurd (omega arith)
total_one (suc m) q h = by-eq m q (λ e. omega (arith, is_eq m q e)) (λ e. omega (arith, total_one m q (omega arith)))

length_total : (m : ℕ) (l : List ℕ) → All (λ p. p < m) l → length l ≤ total m l
length_total m [] a = omega (arith, total_nil m)
length_total m (q ∷ l) a = omega (arith, total_cons m q l, total_one m q a.0, length_total m l a.1)

pub once_short : (m : ℕ) (l : List ℕ) → All (λ p. p < m) l → ((p : ℕ) → occ p l ≤ 1) → length l ≤ m
once_short m l a d = omega (arith, length_total m l a, total_le m l d)

chain_below : (l x : List ℕ) (h : ℕ) → Chain x h l → All (λ p. p < length x) l
chain_below [] x h c = tt
chain_below (q ∷ l) x h c = (c.2, chain_below l x (get_or x q 0) c.3)

pub chain_short : (l x : List ℕ) (h : ℕ) → Chain x h l → ((p : ℕ) → occ p l ≤ 1) → length l ≤ length x
chain_short l x h c d = once_short (length x) l (chain_below l x h c) d
