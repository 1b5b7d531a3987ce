-- A tree without its place numbers is the model's. Assumes nothing.
use mathlib.Core.Path.{◌≡◌, refl, ap, ap₂, sym, ◌∙◌}
use mathlib.Core.Logic.{◌≢◌}
use mathlib.Core.List.{List, [], ◌∷◌, ◌++◌, map, flatten}
use Prim.Native.Nat.{ℕ, zero, suc, ◌+◌, ◌*◌, ◌<◌}
use native.Mathlib.Omega.{arith}
use lib.ListN.{length, get_or, length-map, length-append, get_or-map}
use Rattle.model.specs.Trees as model
use Rattle.model.specs.Trees.{Point, held, count, nodes, total, bag, joined}
use Rattle.pool.specs.Lists.{occ, sum_of}
use Rattle.pool.specs.Trees.{leaf, branch, PTree, flat, flats, none, places_at, size, erase, joined_in}
use Rattle.model.proofs.Counts.{held_bag}
use Rattle.model.proofs.Nearest.{map_append}
use Rattle.pool.proofs.Lists.{is_same, sum_at}
use Rattle.pool.proofs.Trees.{flats_at, Full, group_count}

map_same : {A B : Type 0} (f g : A → B) (l : List A) (z : A) → ((c : ℕ) → c < length l → f (get_or l c z) ≡ g (get_or l c z)) → map f l ≡ map g l
map_same f g [] z h = refl
map_same f g (q ∷ l) z h = ap₂ (λ a s. a ∷ s) (h 0 (omega arith)) (map_same f g l z (λ c lt. h (suc c) (omega arith)))

total_nil : total [] ≡ 0
unfolding total
total_nil = refl

total_cons : (n : ℕ) (ns : List ℕ) → total (n ∷ ns) ≡ n + total ns
unfolding total
total_cons n ns = refl

module _ (at : ℕ → Point) where
  -- an undivided node
  pub erase_flat : (d : ℕ) (l : List ℕ) → erase at d (flat d l) ≡ bag d (map at l)
  unfolding erase bag
  erase_flat zero l = refl
  erase_flat (suc d) l = refl

  -- ---- how many points and nodes
  flatten_length : {A : Type 0} (ls : List (List A)) → length (flatten ls) ≡ sum_of (λ l. length l) ls
  unfolding flatten
  flatten_length [] = refl
  flatten_length (l ∷ ls) = length-append l (flatten ls) ∙ omega (arith, flatten_length ls)

  held_length : (d : ℕ) (t : PTree d) → length (held d (erase at d t)) ≡ size d t
  unfolding held erase
  held_length zero l = length-map l at
  held_length (suc d) (leaf l) = length-map l at
  held_length (suc d) (branch k ts) = flatten_length (map (held d) (map (erase at d) ts)) ∙ each (held_length d) ts
    where
      each : ((t : PTree d) → length (held d (erase at d t)) ≡ size d t) → (ts : List (PTree d)) → sum_of (λ l. length l) (map (held d) (map (erase at d) ts)) ≡ sum_of (size d) ts
      each h [] = refl
      each h (t ∷ ts) = omega (arith, h t, each h ts)

  pub erase_count : (d : ℕ) (t : PTree d) → count d (erase at d t) ≡ size d t
  unfolding count
  erase_count d t = held_length d t

  -- where every divided node has all its children, a group has as many nodes as there are ways
  pub erase_nodes : (d ways : ℕ) (t : PTree d) → Full d ways t → nodes d (erase at d t) ≡ suc (ways * group_count d t)
  unfolding nodes erase
  erase_nodes zero ways l f = omega arith
  erase_nodes (suc d) ways (leaf l) f = omega arith
  erase_nodes (suc d) ways (branch k ts) f =
      ap suc (each ts (λ c lt. erase_nodes d ways (get_or ts c (none d)) (f.1 c (omega (arith, lt, f.0)))) ∙ scaled (length ts) (sum_of (group_count d) ts) f.0)
    where
      each : (ts : List (PTree d)) → ((c : ℕ) → c < length ts → nodes d (erase at d (get_or ts c (none d))) ≡ suc (ways * group_count d (get_or ts c (none d)))) → total (map (nodes d) (map (erase at d) ts)) ≡ length ts + ways * sum_of (group_count d) ts
      each [] h = total_nil ∙ omega arith
      each (t ∷ ts) h = total_cons (nodes d (erase at d t)) (map (nodes d) (map (erase at d) ts)) ∙ omega (arith, h 0 (omega arith), each ts (λ c lt. h (suc c) (omega arith)))

      scaled : (a b : ℕ) → a ≡ ways → a + ways * b ≡ ways * suc b
      scaled a b e = omega (arith, e)

  list_agree : (other : ℕ → Point) (l : List ℕ) → ((p : ℕ) → occ p l ≢ 0 → at p ≡ other p) → map at l ≡ map other l
  list_agree other [] h = refl
  list_agree other (q ∷ l) h = ap₂ (λ a s. a ∷ s) (h q (λ z. absurd (omega (arith, z, is_same q)))) (list_agree other l (λ p z. h p (λ v. z (omega (arith, v)))))

  -- ---- words that hold the same points where the tree has its places
  pub erase_agree : (other : ℕ → Point) (d : ℕ) (t : PTree d) → ((p : ℕ) → places_at d p t ≢ 0 → at p ≡ other p) → erase at d t ≡ erase other d t
  unfolding erase
  erase_agree other zero l h = list_agree other l h
  erase_agree other (suc d) (leaf l) h = ap model.leaf (list_agree other l h)
  erase_agree other (suc d) (branch k ts) h = ap model.branch (map_same (erase at d) (erase other d) ts (none d) (λ c lt. erase_agree other d (get_or ts c (none d)) (λ p z. h p (λ v. z (omega (arith, sum_at (places_at d p) ts c (none d) lt))))))

  -- ---- lists joined
  held_child : (d : ℕ) (ls : List (List ℕ)) (c : ℕ) → held d (get_or (map (erase at d) (flats d ls)) c (bag d [])) ≡ map at (get_or ls c [])
  held_child d ls c =
      ap (λ b. held d (get_or (map (erase at d) (flats d ls)) c b)) (sym (erase_flat d []))
      ∙ ap (held d) (get_or-map (erase at d) (flats d ls) c (none d) ∙ ap (erase at d) (flats_at d ls c) ∙ erase_flat d (get_or ls c []))
      ∙ held_bag d (map at (get_or ls c []))

  pub erase_joined : (d : ℕ) (order : List ℕ) (ls : List (List ℕ)) → map at (joined_in order ls) ≡ joined d order (map (erase at d) (flats d ls))
  unfolding joined_in joined flatten
  erase_joined d [] ls = refl
  erase_joined d (c ∷ o) ls =
      map_append at (get_or ls c []) (joined_in o ls)
      ∙ ap₂ (λ a b. a ++ b) (sym (held_child d ls c)) (erase_joined d o ls)
