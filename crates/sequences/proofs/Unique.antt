-- The contracts of the host's calls determine what is handed back: any pieces are in one of the model's states and in no other, so two programs that meet a contract
-- give the same reply, the same count and the same answer bytes, and leave the pieces in the same state. Over both trees. Assumes nothing.
use mathlib.Core.Path.{◌≡◌, refl, ap, ap₂, sym, ◌∙◌}
use mathlib.Core.Logic.{◌≢◌}
use mathlib.Core.List.{List}
use Prim.Native.Nat.{ℕ}
use Rattle.model.specs.Calls.{Kind, quadtree, octree, ways, Plan, State, misfit, broken, tree, Call, Create, Insert, Bulk, Delete, Clear, Query, Contains, Len, IsEmpty, Radius, Box, Nearest, step}
use Rattle.pool.specs.Writes.{pool}
use Rattle.pool.proofs.Read.{world_read}
use Rattle.trees.specs.Pieces.{Pieces, pieces, Holds, Says, plan_of, Does, Asks, Searches}
use Rattle.sequences.specs.Determined.{Changes, Determined}
use Rattle.sequences.proofs.Stable.{Stable, stable_ℕ, stable_List, stable_State}

module _ (k : Kind) (s : Pieces) where
  -- ---- the state that pieces are in
  -- at most one
  one_plan : (a b : Plan) → Holds k s a → Holds k s b → a ≡ b
  one_plan a b h g =
      h.plan
      ∙ ap (plan_of k s) (sym (world_read 32 (ways k) (pool s.nodes s.links) 1 h.tree h.free_groups h.free_places h.world)
      ∙ world_read 32 (ways k) (pool s.nodes s.links) 1 g.tree g.free_groups g.free_places g.world)
      ∙ sym g.plan

  pub says_one : (a b : State) → Says k s a → Says k s b → a ≡ b
  says_one misfit misfit x y = refl
  says_one misfit broken x y = absurd (x y.0)
  says_one misfit (tree b) x y = absurd (x y.0)
  says_one broken misfit x y = absurd (y x.0)
  says_one broken broken x y = refl
  says_one broken (tree b) x y = absurd (x.1 b y.1)
  says_one (tree a) misfit x y = absurd (y x.0)
  says_one (tree a) broken x y = absurd (y.1 a x.1)
  says_one (tree a) (tree b) x y = ap tree (one_plan a b x.1 y.1)

  -- and not none
  pub says_some : ((a : State) → Says k s a → ⊥) → ⊥
  says_some f = f misfit (λ fit. f broken (fit, λ a h. f (tree a) (fit, h)))

  -- so what is equal in whatever state the pieces are in is equal
  same : {A : Type 0} → Stable A → (x y : A) → ((a : State) → Says k s a → x ≡ y) → x ≡ y
  same st x y f = st x y (λ ne. says_some (λ a z. ne (f a z)))

  pub same_number : (m n : ℕ) → ((a : State) → Says k s a → m ≡ n) → m ≡ n
  same_number = same stable_ℕ

  pub same_list : (xs ys : List ℕ) → ((a : State) → Says k s a → xs ≡ ys) → xs ≡ ys
  same_list = same (stable_List stable_ℕ)

module _ (k : Kind) (s : Pieces) where
  -- ---- calls: the reply, the count, the state afterwards, and every byte of a call that is refused and stored nothing
  module _ (c : Call) (s1 s2 : Pieces) (r1 n1 r2 n2 : ℕ) (d : Does k c s s1 r1 n1) (e : Does k c s s2 r2 n2) where
    pub does_reply : r1 ≡ r2
    unfolding Does
    does_reply = same_number k s r1 r2 (λ a y. (d a y).reply ∙ sym (e a y).reply)

    pub does_figure : n1 ≡ n2
    unfolding Does
    does_figure = same_number k s n1 n2 (λ a y. (d a y).figure ∙ sym (e a y).figure)

    pub does_state : (a b : State) → Says k s1 a → Says k s2 b → a ≡ b
    unfolding Does
    does_state a b y z = same k s stable_State a b (λ x w. says_one k s1 a (step k x c).state y (d x w).after ∙ says_one k s2 (step k x c).state b (e x w).after z)

    pub does_refused : r1 ≢ 0 → n1 ≡ 0 → s1 ≡ s2
    unfolding Does
    does_refused nz z =
        ap₂ (λ (h n : List ℕ). pieces h n s1.links s1.points) (piece (λ t. t.head)) (piece (λ t. t.nodes)) ∙ ap₂ (λ (x p : List ℕ). pieces s2.head s2.nodes x p) (piece (λ t. t.links)) (piece (λ t. t.points))
      where
        same : (a : State) → Says k s a → s1 ≡ s2
        same a y = (d a y).refused (λ q. nz ((d a y).reply ∙ q)) (sym (d a y).figure ∙ z) ∙ sym ((e a y).refused (λ q. nz ((d a y).reply ∙ q)) (sym (d a y).figure ∙ z))

        piece : (f : Pieces → List ℕ) → f s1 ≡ f s2
        piece f = same_list k s (f s1) (f s2) (λ a y. ap f (same a y))

  pub asks_unique : (q : Query) (r1 n1 r2 n2 : ℕ) → Asks k q s r1 n1 → Asks k q s r2 n2 → (r1 ≡ r2) × (n1 ≡ n2)
  unfolding Asks
  asks_unique q r1 n1 r2 n2 d e = (same_number k s r1 r2 (λ a y. (d a y).reply ∙ sym (e a y).reply), same_number k s n1 n2 (λ a y. (d a y).figure ∙ sym (e a y).figure))

  pub searches_unique : (q : Query) (cs ms c1 m1 c2 m2 : List ℕ) (r1 n1 r2 n2 : ℕ) → Searches k q s cs ms c1 m1 r1 n1 → Searches k q s cs ms c2 m2 r2 n2 → (r1 ≡ r2) × (n1 ≡ n2) × (c1 ≡ c2) × (m1 ≡ m2)
  unfolding Searches
  searches_unique q cs ms c1 m1 c2 m2 r1 n1 r2 n2 d e = (
    same_number k s r1 r2 (λ a y. (d a y).reply ∙ sym (e a y).reply),
    same_number k s n1 n2 (λ a y. (d a y).figure ∙ sym (e a y).figure),
    same_list k s c1 c2 (λ a y. (d a y).coordinates ∙ sym (e a y).coordinates),
    same_list k s m1 m2 (λ a y. (d a y).payloads ∙ sym (e a y).payloads),
  )

-- ---- each function of a tree
pub determined : (k : Kind) → Determined k
determined k = record {
  create = λ b cap. changes (Create b cap);
  insert = λ p. changes (Insert p);
  insert_bulk = λ ps. changes (Bulk ps);
  delete = λ p. changes (Delete p);
  clear = changes Clear;
  contains = λ p s. asks_unique k s (Contains p);
  len = λ s. asks_unique k s Len;
  is_empty = λ s. asks_unique k s IsEmpty;
  range_search = λ c r m s. searches_unique k s (Radius c r m);
  range_search_bbox = λ b m s. searches_unique k s (Box b m);
  knn_search = λ c j m s. searches_unique k s (Nearest c j m);
}
  where
    changes : (c : Call) → Changes k c
    changes c s s1 s2 r1 n1 r2 n2 d e = record {
      reply = does_reply k s c s1 s2 r1 n1 r2 n2 d e;
      figure = does_figure k s c s1 s2 r1 n1 r2 n2 d e;
      state = does_state k s c s1 s2 r1 n1 r2 n2 d e;
      refused = does_refused k s c s1 s2 r1 n1 r2 n2 d e;
    }

pub quadtree_determined : Determined quadtree
quadtree_determined = determined quadtree

pub octree_determined : Determined octree
octree_determined = determined octree
