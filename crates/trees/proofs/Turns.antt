-- The routes of a list's points, noted one after the other, and the split that uses them. Assumes nothing.
use mathlib.Core.Path.{◌≡◌, refl, ap, sym, ◌∙◌, subst}
use mathlib.Core.Bool.{cond}
use mathlib.Core.List.{List, [], ◌∷◌, map}
use Prim.Native.Nat.{ℕ, zero, suc, ◌+◌, ◌*◌, ◌^◌, ◌<◌, ◌≤◌}
use native.Mathlib.Omega.{arith}
use lib.ListN.{length, get_or, length-map, get_or-map, get_or-append}
use lib.Seq.{sets}
use lib.Dec.{ltb}
use borrow.Author.Tests.{lt-ltb}
use Rattle.model.specs.Boxes.{Side, route}
use Rattle.model.specs.Trees.{Point}
use Rattle.model.proofs.Counts.{route_lt}
use Rattle.knn.proofs.Arrays.{sets_front}
use Rattle.pool.specs.Lists.{occ}
use Rattle.pool.specs.Meanings.{Splits}
use Rattle.pool.specs.Read.{chain}
use Rattle.pool.specs.Worlds.{RepLeaf}
use Rattle.pool.specs.Writes.{Pool, turn_at}
use Rattle.pool.proofs.Chains.{chain_short}
use Rattle.pool.proofs.Read.{list_is}
use Rattle.trees.proofs.Collects.{Noting, noting_end, noting_start, noting_step}
use Rattle.trees.proofs.Inserts.{Turns}
use Rattle.trees.proofs.Walks.{Notes}

-- ---- the loop over a list
unfoldable pub turned : (ℕ → ℕ) → ℕ → List ℕ → ℕ → List ℕ
unfolding chain
turned f left x q = map f (chain left x q)

pub record Turning (f : ℕ → ℕ) (l : List ℕ) (out : List ℕ) (n : ℕ) (left now : List ℕ) (m : ℕ) : Type 0 where
  pub same : length now ≡ length out
  pub noting : Noting (map f l) out n (map f left) now m

module _ (f : ℕ → ℕ) (l : List ℕ) (out : List ℕ) (n : ℕ) where
  pub turning_start : (left : List ℕ) → left ≡ l → Turning f l out n left out n
  turning_start left e = subst (λ (r : List ℕ). Turning f l out n r out n) (sym e) (record { same = refl; noting = noting_start (map f l) out n })

  pub turning_step : (old left now : List ℕ) (q m : ℕ) (now' : List ℕ) (m' t : ℕ) → Turning f l out n old now m → old ≡ q ∷ left → t ≡ f q → length now' ≡ length now → Notes (t ∷ []) now m now' m' → Turning f l out n left now' m'
  turning_step old left now q m now' m' t w eo et e a = record {
    same = e ∙ w.same;
    noting = noting_step (map f l) out n (t ∷ []) (map f left) now m now' m' e
        (subst (λ (k : List ℕ). Noting (map f l) out n k now m) (ap (map f) eo ∙ ap (λ (u : ℕ). u ∷ map f left) (sym et)) w.noting) a;
  }

  pub turning_end : (old now : List ℕ) (m : ℕ) → Turning f l out n old now m → old ≡ [] → Notes (map f l) out n now m
  turning_end old now m w e = noting_end _ out n now m (subst (λ (k : List ℕ). Noting (map f l) out n k now m) (ap (map f) e) w.noting)

get_d_any : (l : List ℕ) (k a b : ℕ) → k < length l → get_or l k a ≡ get_or l k b
get_d_any [] k a b h = absurd (omega arith)
get_d_any (x ∷ l) zero a b h = refl
get_d_any (x ∷ l) (suc k) a b h = get_d_any l k a b (omega arith)

turn_is : (ways : ℕ) (ts : List ℕ) (k v : ℕ) → get_or ts k 0 ≡ v → v < ways → turn_at ways ts k ≡ v
unfolding turn_at
turn_is ways ts k v e h = ap (λ (u : ℕ). cond (ltb u ways) u 0) e ∙ rw (lt-ltb v ways h) refl

-- ---- a split whose turns are the routes
module _ (ways : ℕ) (pt : ℕ → Point) where
  pub record Parts (b : List Side) (s r : Pool) (i g : ℕ) : Type 0 where
    pub turns : List ℕ
    pub splits : Splits ways turns s r i g
    pub routed : (l : List ℕ) → RepLeaf s.nodes s.links i l → ((q : ℕ) → occ q l ≤ 1) → Turns ways 0 pt b turns l

  pub parts : (b : List Side) (s r : Pool) (i g h : ℕ) (ts out : List ℕ) (m : ℕ) → 2 ^ length b ≡ ways → h ≡ get_or s.nodes (4 * i + 1) 0 → Notes (turned (λ q. route b (pt q).at) (length s.links) s.links h) out 0 ts m
      → length s.links ≤ length out → Splits ways ts s r i g → Parts b s r i g
  unfolding turned
  parts b s r i g h ts out m eb eh w lo sp = record { turns = ts; splits = sp; routed = λ l q u k lk. at l k lk (chain_short l s.links (get_or s.nodes (4 * i + 1) 0) q.2 u) (ap (chain (length s.links) s.links) eh ∙ list_is s.nodes s.links i l q u) }
    where
      f : ℕ → ℕ
      f q = route b (pt q).at

      at : (l : List ℕ) (k : ℕ) → k < length l → length l ≤ length s.links → chain (length s.links) s.links h ≡ l → turn_at ways ts k ≡ route b (pt (get_or l k 0)).at
      at l k lk short e =
          turn_is ways ts k (route b (pt (get_or l k 0)).at)
          (ap (λ (u : List ℕ). get_or u k 0) (w.written (omega (arith, lo, short, ap length (ap (map f) e), length-map l f)) ∙ ap (λ (u : List ℕ). sets out 0 (map f u)) e ∙ sets_front (map f l) out (omega (arith, lo, short, length-map l f)))
          ∙ get_or-append (map f l) _ 0 k (omega (arith, lk, length-map l f)) ∙ get_d_any (map f l) k 0 (f 0) (omega (arith, lk, length-map l f)) ∙ get_or-map f l k 0)
          (subst (λ (m : ℕ). route b (pt (get_or l k 0)).at < m) eb (route_lt b (pt (get_or l k 0)).at))

-- the number of ways as the code has it
pub parts_as : (w w' : ℕ) (pt : ℕ → Point) (b : List Side) (s r : Pool) (i g : ℕ) → w ≡ w' → Parts w pt b s r i g → Parts w' pt b s r i g
parts_as w w' pt b s r i g e q = subst (λ (u : ℕ). Parts u pt b s r i g) e q
