-- Laws of bytes that are moved to the front of where they stand. Assumes nothing.
use Prim.Native.Nat.{ℕ, ◌+◌, ◌-◌, ◌≤◌, min}
use mathlib.Core.Path.{◌≡◌, refl, sym, ap, ◌∙◌}
use mathlib.Core.List.{List, ◌++◌}
use native.Mathlib.Omega.{arith}
use lib.ListN.{length, take, drop, length-take, length-drop}
use lib.Seq.{sets, sets-eq, length-take-le, take_all, take_at, take-take}
use Rattle.std.specs.List.{copy_within}
use Rattle.record.proofs.Parts.{by_lt}

-- ---- how many

take_min : (a b : ℕ) (l : List ℕ) → take (min a b) l ≡ take b (take a l)
take_min a b l =
    by_lt a b
    (λ h. ap (λ (k : ℕ). take k l) {x = min a b} {y = a} (omega arith) ∙ sym (take_all b (take a l) (omega (arith, length-take a l))))
    (λ h. ap (λ (k : ℕ). take k l) {x = min a b} {y = b} (omega arith) ∙ sym (take-take b a l h))

-- no more than there are
take_there : (s : List ℕ) (from n : ℕ) → take (min n (length s) - from) (drop from s) ≡ take (n - from) (drop from s)
take_there s from n =
    by_lt n (length s)
    (λ h. ap (λ (k : ℕ). take (k - from) (drop from s)) {x = min n (length s)} {y = n} (omega arith))
    (λ h. take_all (min n (length s) - from) (drop from s) (omega (arith, length-drop from s)) ∙ sym (take_all (n - from) (drop from s) (omega (arith, length-drop from s))))

kept_is : (s : List ℕ) (from n : ℕ) → take (min (min n (length s) - from) 133) (drop from s) ≡ take 133 (take (n - from) (drop from s))
kept_is s from n = take_min (min n (length s) - from) 133 (drop from s) ∙ ap (take 133) (take_there s from n)

-- ---- what keep leaves

pub keeps : (s : List ℕ) (from n end m : ℕ) (now : List ℕ) → end ≡ min n (length s) → from ≤ end → m ≡ min (end - from) 133 → now ≡ copy_within s from (from + m) 0
    → (now ≡ sets s 0 (take 133 (take (n - from) (drop from s)))) × (m ≡ length (take 133 (take (n - from) (drop from s))))
keeps s from n end m now e h f w = (w ∙ moved ∙ ap (sets s 0) got, sym many ∙ ap length got)
  where
    got : take m (drop from s) ≡ take 133 (take (n - from) (drop from s))
    got = ap (λ (k : ℕ). take k (drop from s)) (f ∙ ap (λ (k : ℕ). min (k - from) 133) e) ∙ kept_is s from n

    many : length (take m (drop from s)) ≡ m
    many = length-take-le m (drop from s) (omega (arith, length-drop from s))

    moved : copy_within s from (from + m) 0 ≡ sets s 0 (take m (drop from s))
    moved =
        ap (λ (k : ℕ). take k (drop from s) ++ drop (0 + k) s) {x = from + m - from} {y = m} (omega arith)
        ∙ ap (λ (k : ℕ). take m (drop from s) ++ drop (0 + k) s) (sym many)
        ∙ sym (sets-eq (take m (drop from s)) s 0 (omega (arith, many)))

-- what is kept stands at the front
pub kept_front : {A : Type 0} (s v : List A) → length v ≤ length s → take (length v) (sets s 0 v) ≡ v
kept_front s v h = ap (take (length v)) (sets-eq v s 0 (omega arith)) ∙ take_at v (drop (0 + length v) s) (length v) refl
