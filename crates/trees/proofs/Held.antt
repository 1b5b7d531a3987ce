-- Pieces that hold a tree: its numbers, how many places and groups it has, and what is left of it when a call refuses. Over any kind of tree. Assumes nothing.
use mathlib.Core.Path.{◌≡◌, refl, ap, sym, ◌∙◌, subst}
use mathlib.Core.Logic.{◌≢◌}
use mathlib.Core.Bool.{Bool}
use mathlib.Core.List.{List, [], ◌∷◌, map, flatten, zip_with}
use Prim.Native.Nat.{ℕ, zero, suc, ◌+◌, ◌*◌, ◌<◌, ◌≤◌}
use native.Mathlib.Nat.{one-le-pow}
use native.Mathlib.Omega.{arith}
use lib.Dec.{lit≤}
use lib.Ieee.{Float, binary64}
use lib.Ieee.Bits.{of_bits-fits}
use lib.ListN.{length, get_or}
use Rattle.model.specs.Boxes.{Side, inside}
use Rattle.model.specs.Calls.{Call, Kind, Outcome, Plan, Reply, number, refuse, step, tree, ways}
use Rattle.model.specs.Soundness.{All, Sound}
use Rattle.model.specs.Trees.{Point, count, held, nodes}
use Rattle.model.proofs.Inside.{F64, F64Side}
use Rattle.model.proofs.Lists.{all_append}
use Rattle.model.proofs.Sound.{F64Point, Inner, Numbers, inner}
use Rattle.words.specs.Words.{pairs, words}
use Rattle.words.proofs.Words.{length_words}
use Rattle.pool.specs.Lists.{occ}
use Rattle.pool.specs.Trees.{leaf, branch, PTree, erase, groups_at, places_at, size}
use Rattle.pool.specs.Worlds.{Rep, World}
use Rattle.pool.specs.Writes.{kid, pool}
use Rattle.pool.proofs.Erase.{erase_count, erase_nodes}
use Rattle.pool.proofs.Frames.{rep_full}
use Rattle.pool.proofs.Theorems.{groups_all, places_all}
use Rattle.pool.proofs.Trees.{group_count}
use Rattle.trees.specs.Pieces.{DoesHeld, Fits, Gives, Pieces, Says, boundary_of, plan_of}
use Rattle.trees.specs.Points.{floats, point_at}

-- ---- numbers read from words: there are so many, and each is one of f64
pub floats_length : (a : ℕ) (ns : List ℕ) (j : ℕ) → length (floats a ns j) ≡ a
floats_length zero ns j = refl
floats_length (suc a) ns j = ap suc (floats_length a ns (j + 1))

floats_f64 : (a : ℕ) (ns : List ℕ) (j : ℕ) → All F64 (floats a ns j)
floats_f64 zero ns j = tt
floats_f64 (suc a) ns j = (of_bits-fits binary64 (get_or ns j 0), floats_f64 a ns (j + 1))

pub sides_length : (a : ℕ) (cs es : List Float) → length cs ≡ a → length es ≡ a → length (zip_with {C = Side} (λ c e. record { corner = c; extent = e }) cs es) ≡ a
unfolding zip_with
sides_length zero [] es ec ee = refl
sides_length zero (c ∷ cs) es ec ee = absurd (omega arith)
sides_length (suc a) [] es ec ee = absurd (omega arith)
sides_length (suc a) (c ∷ cs) [] ec ee = absurd (omega arith)
sides_length (suc a) (c ∷ cs) (e ∷ es) ec ee = ap suc (sides_length a cs es (omega arith) (omega arith))

pub sides_f64 : (cs es : List Float) → All F64 cs → All F64 es → All F64Side (zip_with (λ c e. record { corner = c; extent = e }) cs es)
unfolding zip_with
sides_f64 [] es f g = tt
sides_f64 (c ∷ cs) [] f g = tt
sides_f64 (c ∷ cs) (e ∷ es) f g = ((f.0, g.0), sides_f64 cs es f.1 g.1)

pub boundary_length : (axes : ℕ) (w : List ℕ) → length (boundary_of axes w) ≡ axes
boundary_length axes w = sides_length axes (floats axes (pairs w) 0) (floats axes (pairs w) axes) (floats_length axes (pairs w) 0) (floats_length axes (pairs w) axes)

pub boundary_f64 : (axes : ℕ) (w : List ℕ) → All F64Side (boundary_of axes w)
boundary_f64 axes w = sides_f64 (floats axes (pairs w) 0) (floats axes (pairs w) axes) (floats_f64 axes (pairs w) 0) (floats_f64 axes (pairs w) axes)

pub point_regular : (axes : ℕ) (w : List ℕ) (q : ℕ) → (length (point_at axes w q).at ≡ axes) × All F64 (point_at axes w q).at
point_regular axes w q = (floats_length axes (pairs w) ((axes + 1) * q), floats_f64 axes (pairs w) ((axes + 1) * q))

module _ (P : Point → Type 0) (pt : ℕ → Point) (h : (p : ℕ) → P (pt p)) where
  list_all : (l : List ℕ) → All P (map pt l)
  list_all [] = tt
  list_all (p ∷ l) = (h p, list_all l)

  pub held_all : (d : ℕ) (t : PTree d) → All P (held d (erase pt d t))
  unfolding held erase
  held_all zero l = list_all l
  held_all (suc d) (leaf l) = list_all l
  held_all (suc d) (branch g ts) = each ts (held_all d)
    where
      each : (ts : List (PTree d)) → ((t : PTree d) → All P (held d (erase pt d t))) → All P (flatten (map (held d) (map (erase pt d) ts)))
      each [] k = tt
      each (t ∷ ts) k = all_append P (held d (erase pt d t)) (flatten (map (held d) (map (erase pt d) ts))) (k t) (each ts k)

pub plan_numbers : (k : Kind) (s : Pieces) (t : PTree 32) → Numbers (plan_of k s t)
plan_numbers k s t = record {
  of_boundary = boundary_f64 k.axes (words s.head);
  of_points = held_all F64Point (point_at k.axes (words s.points)) (λ p. (point_regular k.axes (words s.points) p).1) 32 t;
}

-- ---- the same tree, whatever plan it is called by
pub record Held (k : Kind) (s : Pieces) (t : PTree 32) (fl fp : List ℕ) : Type 0 where
  pub world : World 32 (ways k) (pool s.nodes s.links) 1 t fl fp
  pub each_group : (g : ℕ) → g ≢ 0 → 4 * kid (ways k) g (ways k) ≤ length (words s.nodes) → groups_at 32 g t + occ g fl ≡ 1
  pub each_place : (p : ℕ) → p ≢ 0 → p < length (words s.links) → places_at 32 p t + occ p fp ≡ 1
  pub sound : Sound k (plan_of k s t)

pub says_held : (k : Kind) (s : Pieces) (t : PTree 32) (fl fp : List ℕ) → Fits k s → Held k s t fl fp → Says k s (tree (plan_of k s t))
says_held k s t fl fp f h = (f, record { tree = t; free_groups = fl; free_places = fp; world = h.world; each_group = h.each_group; each_place = h.each_place; plan = refl; sound = h.sound })

pub does_held : (k : Kind) (c : Call) (s s' : Pieces) (r n : ℕ) → ((t : PTree 32) (fl fp : List ℕ) → Fits k s → Held k s t fl fp → Gives k (step k (tree (plan_of k s t)) c) s s' r n) → DoesHeld k c s s' r n
unfolding DoesHeld
does_held k c s s' r n go a y =
    let h = y.1 in
    subst (λ (u : Plan). Gives k (step k (tree u) c) s s' r n) (sym h.plan)
    (go h.tree h.free_groups h.free_places y.0 (record { world = h.world; each_group = h.each_group; each_place = h.each_place; sound = subst (Sound k) h.plan h.sound }))

-- the code tests a boundary that it read
pub inside_as : {b b' : List Side} {r t : Bool} (v : List Float) → b ≡ b' → r ≡ inside b v → r ≡ t → inside b' v ≡ t
inside_as v eb er y = ap (λ (u : List Side). inside u v) (sym eb) ∙ sym er ∙ y

-- ---- a refused call
pub refusal : (k : Kind) (s : Pieces) (a : Plan) (o : Outcome) (rp : Reply) (r : ℕ) → Says k s (tree a) → o ≡ refuse rp (tree a) → r ≡ number rp → Gives k o s s r 0
refusal k s a o rp r y e er = subst (λ (u : Outcome). Gives k u s s r 0) (sym e) (record { reply = er; figure = refl; after = y; refused = λ ne z. refl })

-- ---- a kind of tree whose nodes are a root and so many groups
abbrev pub Roomy : Kind → ℕ → Type 0
Roomy k m = k.most ≡ suc (ways k * m)

-- a count in words is how many places the tree has
pub rep_count : (d w : ℕ) (n x : List ℕ) (i : ℕ) (t : PTree d) → Rep d w n x i t → get_or n (4 * i + 3) 0 ≡ size d t
rep_count zero w n x i l r = r.4
rep_count (suc d) w n x i (leaf l) r = r.4
rep_count (suc d) w n x i (branch g ts) r = r.3

pub links_long : (k : Kind) (s : Pieces) → Fits k s → length (words s.links) ≡ 513
links_long k s f = omega (arith, length_words s.links, f.links)

pub nodes_long : (k : Kind) (s : Pieces) (m : ℕ) → Fits k s → Roomy k m → length (words s.nodes) ≡ 4 * (ways k * suc m)
nodes_long k s m f e = omega (arith, length_words s.nodes, f.nodes, e)

module _ (k : Kind) (s : Pieces) (t : PTree 32) (fl fp : List ℕ) (f : Fits k s) (h : Held k s t fl fp) where
  abbrev pt : ℕ → Point
  pt = point_at k.axes (words s.points)

  pub some_ways : 0 < ways k
  some_ways = one-le-pow k.axes 2 (lit≤ tt)

  pub whole : Inner k (plan_of k s t)
  whole = inner k (plan_of k s t) (plan_numbers k s t) h.sound

  pub size_read : get_or (words s.nodes) (4 * 1 + 3) 0 ≡ size 32 t
  size_read = rep_count 32 (ways k) (words s.nodes) (words s.links) 1 t h.world.rep

  pub size_held : count 32 (plan_of k s t).root ≡ size 32 t
  size_held = erase_count pt 32 t

  pub places_held : size 32 t + length fp ≡ 512
  places_held = places_all 32 (ways k) (pool s.nodes s.links) 1 t fl fp h.world 512 (links_long k s f) (λ p nz lt. h.each_place p nz (subst (λ (m : ℕ). p < m) (sym (links_long k s f)) lt))

  module _ (m : ℕ) (e : Roomy k m) where
    pub groups_held : group_count 32 t + length fl ≡ m
    groups_held = groups_all (ways k) m (words s.nodes) some_ways (nodes_long k s m f e) 32 (words s.links) 1 t fl fp h.world h.each_group

    pub nodes_held : nodes 32 (plan_of k s t).root ≡ suc (ways k * group_count 32 t)
    nodes_held = erase_nodes pt 32 (ways k) t (rep_full 32 (ways k) (words s.nodes) (words s.links) 1 t h.world.rep)
