-- Soundness, clause by clause, against the form that the laws use; insert and delete keep it. Over any number of axes and any merge order. Assumes nothing.
use Prim.Native.Nat.{ℕ, zero, suc, ◌+◌, ◌^◌}
use native.Mathlib.Omega.{arith}
use mathlib.Core.Path.{◌≡◌, ap, sym, ◌∙◌, subst}
use mathlib.Core.Bool.{Bool}
use mathlib.Core.List.{List, [], ◌∷◌}
use lib.ListN.{length}
use lib.Dec.{T, eqb→eq, lit≤}
use lib.Ieee.{Float, binary64, fits}
use lib.Ieee.Fits.{and_i, eq→eqb}
use Rattle.model.specs.Boxes.{Side, inside, part, route}
use Rattle.model.specs.Calls.{Kind, Plan, ways, with_root}
use Rattle.model.specs.Soundness.{All, AllOrNone, BranchesFull, Each, LeavesFit, Routed, Sound}
use Rattle.model.specs.Trees.{Point, Tree, branch, count, delete, held, insert, leaf}
use Rattle.model.proofs.Counts.{Good, GoodChild, Order, delete_count, delete_good, insert_count, insert_good, strays}
use Rattle.model.proofs.Inside.{Bounded, F64, F64Side, acceptable_bounded}
use Rattle.model.proofs.Lists.{all_map, no_out, one_if, tally}
use Rattle.model.proofs.Same.{Placed, delete_is, given, insert_is}
use Rattle.model.proofs.Short.{delete_s, filled, goes, insert_s, taken}
use Rattle.model.proofs.Skip.{all_f64, all_none, lies, lies_held, lies_inside, lies_of, none_all, out}

-- ---- the clauses together, and apart
on_path : (b : List Side) (i : ℕ) (ps : List Point) → All (λ (p : Point). route b p.at ≡ i) ps → tally (strays b i) ps ≡ 0
on_path b i ps h = all_none (goes b i) ps (all_map (λ (p : Point). route b p.at ≡ i) (λ (p : Point). T (goes b i p)) ps (λ p e. eq→eqb e) h)

path_of : (b : List Side) (i : ℕ) (ps : List Point) → tally (strays b i) ps ≡ 0 → All (λ (p : Point). route b p.at ≡ i) ps
path_of b i ps h = all_map (λ (p : Point). T (goes b i p)) (λ (p : Point). route b p.at ≡ i) ps (λ p e. eqb→eq (route b p.at) i e) (none_all (goes b i) ps h)

abbrev pub Clauses : (w cap d : ℕ) → List Side → Tree d → Type 0
Clauses w cap d b t = AllOrNone w d t × Routed d b t × LeavesFit cap d t × BranchesFull cap d t

module _ (w cap : ℕ) where
  children_good : (d : ℕ) (b : List Side) (i : ℕ) (ts : List (Tree d)) → ((c : List Side) (t : Tree d) → Clauses w cap d c t → Good w cap d c t)
      → All (AllOrNone w d) ts → Each (λ i t. All (λ (p : Point). route b p.at ≡ i) (held d t) × Routed d (part b i) t) i ts → All (LeavesFit cap d) ts → All (BranchesFull cap d) ts
      → Each (GoodChild w cap d b) i ts
  children_good d b i [] ih p q r s = tt
  children_good d b i (t ∷ ts) ih p q r s =
      ((on_path b i (held d t) q.0.0, ih (part b i) t (p.0, q.0.1, r.0, s.0)), children_good d b (suc i) ts ih p.1 q.1 r.1 s.1)

  pub to_good : (d : ℕ) (b : List Side) (t : Tree d) → Clauses w cap d b t → Good w cap d b t
  unfolding count held
  to_good zero b ps h = tt
  to_good (suc d) b (leaf ps) h = h.2
  to_good (suc d) b (branch ts) h = (h.0.0, h.3.0, children_good d b 0 ts (λ c t k. to_good d c t k) h.0.1 h.1 h.2 h.3.1)

  -- the four clauses of the children from number i on
  abbrev Below4 : (d : ℕ) → List Side → ℕ → List (Tree d) → Type 0
  Below4 d b i ts = All (AllOrNone w d) ts × Each (λ i t. All (λ (p : Point). route b p.at ≡ i) (held d t) × Routed d (part b i) t) i ts × All (LeavesFit cap d) ts × All (BranchesFull cap d) ts

  children_apart : (d : ℕ) (b : List Side) (i : ℕ) (ts : List (Tree d)) → ((c : List Side) (t : Tree d) → Good w cap d c t → Clauses w cap d c t) → Each (GoodChild w cap d b) i ts → Below4 d b i ts
  children_apart d b i [] ih h = (tt, tt, tt, tt)
  children_apart d b i (t ∷ ts) ih h =
      let x = ih (part b i) t h.0.1 in
      let y = children_apart d b (suc i) ts ih h.1 in
      ((x.0, y.0), ((path_of b i (held d t) h.0.0, x.1), y.1), (x.2, y.2), (x.3, y.3))

  pub from_good : (d : ℕ) (b : List Side) (t : Tree d) → Good w cap d b t → Clauses w cap d b t
  unfolding count held
  from_good zero b ps h = (tt, tt, tt, tt)
  from_good (suc d) b (leaf ps) h = (tt, tt, h, tt)
  from_good (suc d) b (branch ts) h =
      let y = children_apart d b 0 ts (λ c t k. from_good d c t k) h.2 in
      ((h.0, y.0), y.1, y.2, (h.1, y.3))

-- ---- points whose numbers are those of f64
abbrev pub F64Point : Point → Type 0
F64Point p = All F64 p.at

pub f64_of : (vs : List Float) → All F64 vs → T (all_f64 vs)
unfolding all_f64
f64_of [] h = tt
f64_of (v ∷ vs) h = and_i (fits binary64 v) (all_f64 vs) h.0 (f64_of vs h.1)

lie_all : (b : List Side) (ps : List Point) → All F64Point ps → All (λ (p : Point). T (inside b p.at)) ps → All (λ p. T (lies b p)) ps
lie_all b [] f h = tt
lie_all b (p ∷ ps) f h = (lies_of b p (f64_of p.at f.0) h.0, lie_all b ps f.1 h.1)

-- ---- a sound tree, as the laws need it
pub record Inner (k : Kind) (a : Plan) : Type 0 where
  pub sides : All F64Side a.boundary
  pub bounds : All (Bounded 501) a.boundary
  pub axes : 2 ^ length a.boundary ≡ ways k
  pub good : Good (ways k) a.capacity 32 a.boundary a.root
  pub all_in : tally (out a.boundary) (held 32 a.root) ≡ 0

-- every number is one of f64
pub record Numbers (a : Plan) : Type 0 where
  pub of_boundary : All F64Side a.boundary
  pub of_points : All F64Point (held 32 a.root)

pub inner : (k : Kind) (a : Plan) → Numbers a → Sound k a → Inner k a
inner k a f s = record {
  sides = f.of_boundary;
  bounds = acceptable_bounded a.boundary f.of_boundary s.boundary.0;
  axes = ap (λ (n : ℕ). 2 ^ n) s.boundary.1;
  good = to_good (ways k) a.capacity 32 a.boundary a.root (s.all_or_none, s.routed, s.leaves_fit, s.branches_full);
  all_in = all_none (lies a.boundary) (held 32 a.root) (lie_all a.boundary (held 32 a.root) f.of_points s.all_inside);
}

pub inner_numbers : (k : Kind) (a : Plan) → Inner k a → Numbers a
inner_numbers k a i = record {
  of_boundary = i.sides;
  of_points = all_map (λ (p : Point). T (lies a.boundary p)) F64Point (held 32 a.root) (λ p l. lies_held a.boundary p l) (none_all (lies a.boundary) (held 32 a.root) i.all_in);
}

-- a tree that grew from a sound one within the same boundary and capacity is sound
pub outer : (k : Kind) (a : Plan) (t : Tree 32) → Sound k a → Good (ways k) a.capacity 32 a.boundary t → tally (out a.boundary) (held 32 t) ≡ 0 → Sound k (with_root a t)
outer k a t s g h =
    let c = from_good (ways k) a.capacity 32 a.boundary t g in
    record {
      boundary = s.boundary;
      capacity = s.capacity;
      all_or_none = c.0;
      routed = c.1;
      all_inside = all_map (λ (p : Point). T (lies a.boundary p)) (λ (p : Point). T (inside a.boundary p.at)) (held 32 t) (λ p l. lies_inside a.boundary p l) (none_all (lies a.boundary) (held 32 t) h);
      leaves_fit = c.2;
      branches_full = c.3;
    }

-- a point inside the boundary, at its root
pub placed : (k : Kind) (a : Plan) (p : Point) → Inner k a → F64Point p → T (inside a.boundary p.at) → Placed (ways k) a.capacity 32 501 a.boundary p a.root
placed k a p i f h = record { ways = i.axes; good = i.good; depth = lit≤ tt; bounds = i.bounds; numbers = f; is_inside = h }

module _ (k : Kind) (a : Plan) (f : Numbers a) (s : Sound k a) where
  i : Inner k a
  i = inner k a f s

  abbrev inserted : Point → Tree 32
  inserted p = insert (ways k) a.capacity 32 a.boundary p a.root

  inserted_short : (p : Point) → inserted p ≡ insert_s (ways k) a.capacity 32 a.boundary p a.root
  inserted_short p = insert_is (ways k) a.capacity 32 a.boundary p a.root i.axes i.good

  pub inserted_tally : (p : Point) (g : Point → Bool) → tally g (held 32 (inserted p)) ≡ tally g (held 32 a.root) + one_if (g p)
  inserted_tally p g = ap (λ (t : Tree 32). tally g (held 32 t)) (inserted_short p) ∙ insert_count (ways k) a.capacity 32 a.boundary p a.root g i.axes i.good

  pub insert_sound : (p : Point) → F64Point p → T (inside a.boundary p.at) → Sound k (with_root a (inserted p)) × Numbers (with_root a (inserted p))
  insert_sound p n h =
      let z : tally (out a.boundary) (held 32 (inserted p)) ≡ 0 = omega (arith, inserted_tally p (out a.boundary), i.all_in, no_out (lies a.boundary p) (lies_of a.boundary p (f64_of p.at n) h)) in
      let g : Good (ways k) a.capacity 32 a.boundary (inserted p) = subst (λ (t : Tree 32). Good (ways k) a.capacity 32 a.boundary t) (sym (inserted_short p)) (insert_good (ways k) a.capacity 32 a.boundary p a.root i.axes i.good) in (
        outer k a (inserted p) s g z,
        inner_numbers k (with_root a (inserted p)) (record { sides = i.sides; bounds = i.bounds; axes = i.axes; good = g; all_in = z }),
      )

  module _ (r : Order (ways k) k.order) where
    -- what delete gives, in the short form
    pub deleted_short : (p : Point) → F64Point p → T (inside a.boundary p.at)
        → delete k.order a.capacity 32 a.boundary p a.root ≡ given (filled (taken 32 a.boundary p a.root)) (delete_s k.order a.capacity 32 a.boundary p a.root)
    deleted_short p n h = delete_is (ways k) a.capacity k.order r 32 501 a.boundary p a.root (placed k a p i n h)

    abbrev gone : Point → Tree 32
    gone p = delete_s k.order a.capacity 32 a.boundary p a.root

    pub deleted_tally : (p : Point) (g : Point → Bool) → tally g (held 32 (gone p)) + tally g (taken 32 a.boundary p a.root) ≡ tally g (held 32 a.root)
    deleted_tally p g = delete_count (ways k) a.capacity k.order r 32 a.boundary p a.root g i.axes i.good

    pub delete_sound : (p : Point) → Sound k (with_root a (gone p)) × Numbers (with_root a (gone p))
    delete_sound p =
        let z : tally (out a.boundary) (held 32 (gone p)) ≡ 0 = omega (arith, deleted_tally p (out a.boundary), i.all_in) in
        let g = delete_good (ways k) a.capacity k.order r 32 a.boundary p a.root i.axes i.good in (
          outer k a (gone p) s g z,
          inner_numbers k (with_root a (gone p)) (record { sides = i.sides; bounds = i.bounds; axes = i.axes; good = g; all_in = z }),
        )
