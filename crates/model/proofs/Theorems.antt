-- What is true of the definitions, over any number of axes and any merge order. `F64` and `Numbers` say that every number is a value of an f64. Assumes nothing.
use Prim.Native.Nat.{ℕ, suc, ◌+◌, ◌*◌, ◌≤◌, ◌<◌}
use native.Mathlib.Omega.{arith}
use mathlib.Core.Path.{◌≡◌, refl, ap, sym, ◌∙◌}
use mathlib.Core.Bool.{Bool, true, false, not}
use mathlib.Core.List.{List, [], ◌∷◌, ◌++◌}
use mathlib.Core.Option.{some}
use lib.ListN.{length, take}
use lib.Dec.{T, lit≤}
use lib.Ieee.{Float, le}
use Rattle.model.proofs.First as firsts
use Rattle.model.specs.Boxes.{Side, acceptable, inside, meets, node_distance, squared}
use Rattle.model.specs.Calls.{Kind, Plan, ways}
use Rattle.model.specs.Searches.{box, nearest, radius, visit}
use Rattle.model.specs.Soundness.{All, Sound}
use Rattle.model.specs.Trees.{Point, Tree, contains, count, delete, held, insert, nodes, same}
use Rattle.model.proofs.Counts.{Order, delete_count}
use Rattle.model.proofs.Distance.{Finite, Number, node_under}
use Rattle.model.proofs.Equal.{contains_none, contains_some, taken_same}
use Rattle.model.proofs.First.{by_distance}
use Rattle.model.proofs.Inside.{F64, F64Side, acceptable_bounded, descend, descend_inside}
use Rattle.model.proofs.Lists.{all_map, tally, tally_true}
use Rattle.model.proofs.Meet.{shared_meet}
use Rattle.model.proofs.Nearest.{nearest_skips, nearest_walk}
use Rattle.model.proofs.Room.{insert_nodes, needed}
use Rattle.model.proofs.Same.{Placed, contains_is, delete_is, given, insert_is}
use Rattle.model.proofs.Short.{delete_s, filled, taken}
use Rattle.model.proofs.Skip.{all_f64, all_none, box_skips, box_walk, clear, lies, lies_held, lies_inside, none_all, radius_skips, radius_walk}
use Rattle.model.proofs.Sound.{F64Point, Inner, Numbers, f64_of, inner, placed}

-- ---- boxes
-- a place inside an acceptable boundary is inside the box of every node on its path, down to depth 32
pub routed_inside : (d : ℕ) (b : List Side) (p : List Float) → d ≤ 32 → All F64Side b → All F64 p → T (acceptable b) → T (inside b p) → T (inside (descend d b p) p)
routed_inside d b p l g q a h = descend_inside d 501 b p (omega arith) (acceptable_bounded b g a) q h

-- the node distance of a box is at most the squared distance of any finite place inside it, for every centre without NaN
pub node_distance_least : (b : List Side) (p c : List Float) → All F64Side b → All Finite p → All Number c → T (inside b p) → T (le (node_distance b c) (squared p c))
node_distance_least b p c g q r h = (node_under b p c g q r h).3

-- boxes that share a place meet
pub sharing_boxes_meet : (b q : List Side) (p : List Float) → All F64Side b → All F64Side q → All F64 p → T (inside b p) → T (inside q p) → T (meets b q)
sharing_boxes_meet b q p g r u h k = shared_meet b q p g r u h k

-- ---- a sound tree
module _ (k : Kind) (a : Plan) (f : Numbers a) (s : Sound k a) where
  i : Inner k a
  i = inner k a f s

  -- each held point lies inside the box of every node on its path
  pub held_inside : (d : ℕ) → d ≤ 32 → All (λ (p : Point). T (inside (descend d a.boundary p.at) p.at)) (held 32 a.root)
  held_inside d l =
      all_map (λ (p : Point). T (lies a.boundary p)) (λ (p : Point). T (inside (descend d a.boundary p.at) p.at)) (held 32 a.root)
      (λ p h. routed_inside d a.boundary p.at l f.of_boundary (lies_held a.boundary p h) s.boundary.0 (lies_inside a.boundary p h)) (none_all (lies a.boundary) (held 32 a.root) i.all_in)

  -- skipping a branch never alters an answer
  pub skip_box : (q : List Side) → All F64Side q → box_walk q 32 a.boundary a.root ≡ box q 32 a.root
  skip_box q h = box_skips (ways k) a.capacity 32 501 q a.boundary a.root h (lit≤ tt) i.bounds i.good i.all_in

  module _ (c : List Float) (n : All F64 c) (e : length c ≡ length a.boundary) where
    pub skip_radius : (r : Float) → radius_walk c r 32 a.boundary a.root ≡ radius c r 32 a.root
    skip_radius r = radius_skips (ways k) a.capacity 32 501 c r a.boundary a.root n e (lit≤ tt) i.bounds i.good i.all_in

    pub skip_nearest : (m : ℕ) → nearest_walk m c 32 a.boundary a.root ≡ nearest m c 32 a.boundary a.root
    skip_nearest m = nearest_skips (ways k) a.capacity m c n 32 501 a.boundary a.root (lit≤ tt) i.bounds e i.good i.all_in

    -- for a centre without NaN: the first m of the visited points by distance, ties as visited
    pub first_k : (m : ℕ) → T (clear c) → nearest m c 32 a.boundary a.root ≡ take m (by_distance c (visit 32 a.boundary c a.root))
    first_k m h = firsts.first_k m 32 501 a.boundary c a.root (lit≤ tt) i.bounds n e h i.all_in

    -- "With a NaN in the centre .. for n > k ≥ 1 the answer is the first k − 1 visited and the last."
    pub nan_centre : (m : ℕ) (vs : List Point) (p : Point) → T (not (clear c)) → visit 32 a.boundary c a.root ≡ vs ++ (p ∷ []) → m ≤ length vs → nearest (suc m) c 32 a.boundary a.root ≡ take m vs ++ (p ∷ [])
    nan_centre m vs p h v l = firsts.nan_centre m 32 a.boundary c a.root vs p e h i.all_in v l

  -- contains says yes exactly where an equal point is held
  pub contains_held : (o : List ℕ) → Order (ways k) o → (p : Point) → F64Point p → T (inside a.boundary p.at)
      → (contains 32 a.boundary p a.root ≡ true → 0 < tally (same p) (held 32 a.root)) × (contains 32 a.boundary p a.root ≡ false → tally (same p) (held 32 a.root) ≡ 0)
  contains_held o r p n h =
      let e = contains_is (ways k) a.capacity 32 501 a.boundary p a.root (placed k a p i n h) in
      let g : Point → Bool = λ x. all_f64 x.at in (
        λ y. contains_some (ways k) a.capacity o r 32 a.boundary p a.root i.axes i.good (sym e ∙ y),
        λ y. contains_none (ways k) a.capacity p n 32 a.boundary a.root i.axes i.good
            (all_none g (held 32 a.root) (all_map F64Point (λ (x : Point). T (g x)) (held 32 a.root) (λ x u. f64_of x.at u) f.of_points)) (sym e ∙ y),
      )

  -- what insert counts before it splits is what the split takes
  pub nodes_needed : (p : Point) → nodes 32 (insert (ways k) a.capacity 32 a.boundary p a.root) ≡ nodes 32 a.root + ways k * needed a.capacity 32 a.boundary p a.root
  nodes_needed p =
      ap (nodes 32) (insert_is (ways k) a.capacity 32 a.boundary p a.root i.axes i.good)
      ∙ insert_nodes (ways k) a.capacity 32 a.boundary p a.root i.axes i.good

-- ---- no count falls below 0: at a node where a delete succeeds, one less is held afterwards. `Placed` holds again of the child on the path
-- (`placed_down`), so it is so at every node down to the list
pub never_below_zero : (w cap d j : ℕ) (o : List ℕ) → Order w o → (b : List Side) (p : Point) (t u : Tree d) → Placed w cap d j b p t → delete o cap d b p t ≡ some u → count d u + 1 ≡ count d t
unfolding count
never_below_zero w cap d j o r b p t u a e = go (filled (taken d b p t)) (sym e ∙ delete_is w cap o r d j b p t a) refl
  where
    one : (ps : List Point) → length ps ≤ 1 → filled ps ≡ true → length ps ≡ 1
    one [] h f = let z : ◌≡◌ {A = ℕ} 0 1 = unfold filled in cc in absurd (omega arith)
    one (q ∷ []) h f = refl
    one (q ∷ q' ∷ qs) h f = absurd (omega arith)

    go : (v : Bool) → some u ≡ given v (delete_s o cap d b p t) → filled (taken d b p t) ≡ v → length (held d u) + 1 ≡ length (held d t)
    go false h f = let z : ◌≡◌ {A = ℕ} 0 1 = cc in absurd (omega arith)
    go true h f =
        let all : Point → Bool = λ x. true in
        let e' : u ≡ delete_s o cap d b p t = cc in
        omega (
          arith,
          ap (λ (v : Tree d). length (held d v)) e',
          delete_count w cap o r d b p t all a.ways a.good,
          tally_true (held d t),
          tally_true (held d (delete_s o cap d b p t)),
          tally_true (taken d b p t),
          one (taken d b p t) (taken_same d b p t).1 f,
        )
