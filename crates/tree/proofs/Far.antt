-- A float by a number that no slice has: none is there, and none is written. Assumes nothing.
use mathlib.Core.Path.{◌≡◌, ap, sym, ◌∙◌}
use mathlib.Core.List.{List}
use Prim.Native.Nat.{ℕ, ◌<◌, min}
use native.Mathlib.Omega.{arith}
use lib.ListN.{length, get_or}
use Rattle.words.specs.Words.{words, pairs, set_pair}
use Rattle.words.proofs.Words.{length_words}
use Rattle.words.proofs.Pairs.{pairs_out, pair_set_out}
use Rattle.pool.proofs.Lists.{by-eq}

pub far_float : (s : List ℕ) (k j : ℕ) → length s < 18446744073709551616 → j ≡ min k 18446744073709551615 → get_or (pairs (words s)) j 0 ≡ get_or (pairs (words s)) k 0
far_float s k j ls e = by-eq j k (ap (λ i. get_or (pairs (words s)) i 0)) (λ ne. pairs_out (words s) j (omega (arith, length_words s, ne)) ∙ sym (pairs_out (words s) k (omega (arith, length_words s, ne))))

pub far_put : (s : List ℕ) (k j v : ℕ) → length s < 18446744073709551616 → j ≡ min k 18446744073709551615 → set_pair (words s) j v ≡ set_pair (words s) k v
far_put s k j v ls e = by-eq j k (ap (λ i. set_pair (words s) i v)) (λ ne. sym (pair_set_out (words s) j v (omega (arith, length_words s, ne))) ∙ pair_set_out (words s) k v (omega (arith, length_words s, ne)))
