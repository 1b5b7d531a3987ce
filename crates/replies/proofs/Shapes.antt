-- What a search of a held tree gives can be handed over in bytes. Over any kind of tree. Assumes nothing.
use mathlib.Core.Path.{refl, sym, ◌∙◌, subst}
use mathlib.Core.Bool.{Bool, true, false, not, ◌&&◌}
use mathlib.Core.List.{List, [], ◌∷◌, map}
use Prim.Native.Nat.{ℕ, ◌+◌, ◌*◌, ◌/◌, ◌≤◌, ◌<◌, min}
use native.Mathlib.Omega.{arith}
use lib.Dec.{T, eqb, ltb, leb, eqb→eq, eqb_refl, ltb→lt, lt→ltb, leb→le}
use lib.Ieee.{Float, binary64, lt, mul}
use lib.ListN.{length, get_or}
use Rattle.floats.specs.Values.{plus_zero}
use Rattle.model.specs.Boxes.{Side}
use Rattle.model.specs.Calls.{Kind, Plan, tree, done, refuse, no_room, Radius, Box, Nearest, Ask, Outcome, search_call, ask, call, step}
use Rattle.model.specs.Searches.{keep, near, within, radius, box, nearest, visit, entry, Entry, offer_each}
use Rattle.model.specs.Soundness.{All}
use Rattle.model.specs.Trees.{Point, Tree, held}
use Rattle.model.proofs.Counts.{cond_same}
use Rattle.model.proofs.Lists.{all_map}
use Rattle.model.proofs.Nearest.{map_all, offer_each_all, visit_count}
use Rattle.model.proofs.Skip.{all_none, none_all}
use Rattle.words.specs.Words.{words, pairs}
use Rattle.words.proofs.Words.{words_at, words_out}
use Rattle.pool.proofs.Lists.{by_lt}
use Rattle.trees.specs.Pieces.{Pieces, Says}
use Rattle.trees.specs.Points.{point_at}
use Rattle.trees.proofs.Held.{floats_length, held_all}
use Rattle.replies.proofs.Told.{ShapedPoint, Shaped}

-- ---- the points that are held
word_small : (s : List ℕ) (i : ℕ) → ((j : ℕ) → get_or s j 0 < 256) → get_or (words s) i 0 < 4294967296
word_small s i h =
    by_lt i (length s / 4)
    (λ l. omega (arith, words_at s i l, h (4 * i), h (4 * i + 1), h (4 * i + 2), h (4 * i + 3)))
    (λ l. omega (arith, words_out s i l))

pub held_shaped : (k : Kind) (s : Pieces) (a : Plan) → Says k s (tree a) → ((i : ℕ) → get_or s.points i 0 < 256) → All (ShapedPoint k.axes) (held 32 a.root)
held_shaped k s a y h =
    subst (λ (b : Plan). All (ShapedPoint k.axes) (held 32 b.root)) (sym y.1.plan)
    (held_all (ShapedPoint k.axes) (point_at k.axes (words s.points))
    (λ p. (floats_length k.axes (pairs (words s.points)) ((k.axes + 1) * p), word_small s.points (2 * ((k.axes + 1) * p) + 2 * k.axes) h)) 32 y.1.tree)

-- ---- searches
module _ {A : Type 0} (P : A → Type 0) where
  keep_all : (f : A → Bool) (xs : List A) → All P xs → All P (keep f xs)
  unfolding keep
  keep_all f [] h = tt
  keep_all f (x ∷ xs) h = cond_same (All P) (f x) (x ∷ keep f xs) (keep f xs) (λ t. (h.0, keep_all f xs h.1)) (λ t. keep_all f xs h.1)

shaped? : ℕ → Point → Bool
shaped? axes p = eqb (length p.at) axes && ltb p.payload 4294967296

items_all : (P : Point → Type 0) (es : List Entry) → All (λ (e : Entry). P e.item) es → All P (map (λ (e : Entry). e.item) es)
items_all P [] h = tt
items_all P (e ∷ es) h = (h.0, items_all P es h.1)

module _ (axes : ℕ) where
  shaped_test : (p : Point) → ShapedPoint axes p → T (shaped? axes p)
  unfolding shaped?
  shaped_test p h = both (eqb (length p.at) axes) (ltb p.payload 4294967296) (subst (λ (n : ℕ). T (eqb (length p.at) n)) h.0 (eqb_refl (length p.at))) (lt→ltb p.payload 4294967296 h.1)
    where
      both : (t u : Bool) → T t → T u → T (t && u)
      both true u f g = g
      both false u f g = f

  test_shaped : (p : Point) → T (shaped? axes p) → ShapedPoint axes p
  unfolding shaped?
  test_shaped p h = (eqb→eq (length p.at) axes (first (eqb (length p.at) axes) (ltb p.payload 4294967296) h), ltb→lt p.payload 4294967296 (second (eqb (length p.at) axes) (ltb p.payload 4294967296) h))
    where
      first : (t u : Bool) → T (t && u) → T t
      first true u f = tt
      first false u f = f

      second : (t u : Bool) → T (t && u) → T u
      second true u f = f
      second false u f = absurd f

  visit_shaped : (d : ℕ) (b : List Side) (c : List Float) (t : Tree d) → All (ShapedPoint axes) (held d t) → All (ShapedPoint axes) (visit d b c t)
  visit_shaped d b c t h =
      all_map (λ (p : Point). T (shaped? axes p)) (ShapedPoint axes) (visit d b c t) test_shaped
      (none_all (shaped? axes) (visit d b c t) (visit_count d b c t (λ (p : Point). not (shaped? axes p)) ∙ all_none (shaped? axes) (held d t) (all_map (ShapedPoint axes) (λ (p : Point). T (shaped? axes p)) (held d t) shaped_test h)))

  nearest_shaped : (m : ℕ) (c : List Float) (d : ℕ) (b : List Side) (t : Tree d) → All (ShapedPoint axes) (held d t) → All (ShapedPoint axes) (nearest m c d b t)
  unfolding nearest entry
  nearest_shaped m c d b t h =
      items_all (ShapedPoint axes) (offer_each m [] (map (entry c) (visit d b c t)))
      (offer_each_all (λ (e : Entry). ShapedPoint axes e.item) m [] (map (entry c) (visit d b c t)) tt (map_all c (λ (e : Entry). ShapedPoint axes e.item) (visit d b c t) (visit_shaped d b c t h)))

  -- an answer with room for n points
  abbrev pub Asked : ℕ → Outcome → Type 0
  Asked n o = Shaped axes o × (o.figure ≤ n)

  search_asked : (a : Plan) (n : ℕ) (ps : List Point) → All (ShapedPoint axes) ps → Asked n (search_call a n ps)
  unfolding search_call
  search_asked a n ps h =
      cond_same (Asked n) (leb (length ps) n) (record { reply = done; state = tree a; figure = length ps; points = ps }) (refuse no_room (tree a))
      (λ l. (record { counted = refl; each = h }, leb→le (length ps) n l))
      (λ l. (record { counted = refl; each = tt }, omega arith))

-- a search on pieces that hold a tree
module _ (k : Kind) (a : Plan) (h : All (ShapedPoint k.axes) (held 32 a.root)) where
  pub radius_asked : (c : List Float) (r : Float) (n : ℕ) → Asked k.axes n (step k (tree a) (Ask (Radius c r n)))
  unfolding step call ask radius
  radius_asked c r n = search_asked k.axes a n (radius c r 32 a.root)
      (cond_same (All (ShapedPoint k.axes)) (lt r plus_zero) [] (keep (near c (mul binary64 r r)) (held 32 a.root)) (λ t. tt) (λ t. keep_all (ShapedPoint k.axes) (near c (mul binary64 r r)) (held 32 a.root) h))

  pub box_asked : (q : List Side) (n : ℕ) → Asked k.axes n (step k (tree a) (Ask (Box q n)))
  unfolding step call ask box
  box_asked q n = search_asked k.axes a n (box q 32 a.root) (keep_all (ShapedPoint k.axes) (within q) (held 32 a.root) h)

  pub nearest_asked : (c : List Float) (m n : ℕ) → Asked k.axes n (step k (tree a) (Ask (Nearest c m n)))
  unfolding step call ask
  nearest_asked c m n = search_asked k.axes a n (nearest (min m 512) c 32 a.boundary a.root) (nearest_shaped k.axes (min m 512) c 32 a.boundary a.root h)
