-- Demand 3: what is held after any list of calls. Over any number of axes and any merge order. Assumes nothing.
use Prim.Native.Nat.{ℕ, zero, suc, ◌+◌, ◌≤◌, min}
use native.Mathlib.Nat.{le_of_eq}
use native.Mathlib.Omega.{arith}
use mathlib.Core.Path.{◌≡◌, refl, ap, ap₂, sym, ◌∙◌, subst}
use mathlib.Core.Bool.{Bool, true, false, not, ◌&&◌, cond}
use mathlib.Core.List.{List, [], ◌∷◌, ◌++◌, append_assoc, append-nil}
use lib.ListN.{length, length-append}
use lib.Dec.{T, leb, ltb, eqb, eqb→eq}
use lib.Ieee.{Float, binary64, eq}
use lib.Ieee.Fits.{and_l, and_r}
use Rattle.floats.proofs.Order.{eq_symmetric, eq_transitive, same_answer}
use Rattle.model.specs.Boxes.{Side, acceptable, inside, on_each, same_place}
use Rattle.model.specs.Calls.{Ask, Box, Bulk, Call, Clear, Contains, Create, Delete, Insert, IsEmpty, Kind, Len, Nearest, Outcome, Plan, Query, Radius, State, ask, bad_boundary, broken, bulk_call, call, create, done, empty, full, give, misfit, no_capacity, no_nodes, no_room, number, on_broken, refuse, search_call, step, tree, with_root}
use Rattle.model.specs.History.{Ledger, blank, bulk_stores, done?, entered, ledger, run}
use Rattle.model.specs.Searches.{box, nearest, radius}
use Rattle.model.specs.Soundness.{All}
use Rattle.model.specs.Trees.{Point, Tree, count, held, nodes, same}
use Rattle.model.proofs.Calls.{Kept, Proper, Regular, after, delete_ends, deleted, insert_ends, kept_delete, kept_empty, kept_insert, rid}
use Rattle.model.proofs.Counts.{cond_same, held_bag}
use Rattle.model.proofs.Equal.{taken_same}
use Rattle.model.proofs.Inside.{F64, F64Side}
use Rattle.model.proofs.Lists.{all_map, one_if, tally, tally_append, tally_true}
use Rattle.model.proofs.Short.{filled, taken}
use Rattle.model.proofs.Skip.{all_f64, all_none, f64_all, none_all}
use Rattle.model.proofs.Sound.{F64Point, deleted_tally, f64_of, inserted_tally}

-- ---- equality of points is an equivalence away from NaN: what equals p stands to every q as p does
eq_swap : (q x p : Float) → F64 q → F64 x → F64 p → T (eq p x) → eq q x ≡ eq q p
eq_swap q x p fq fx fp h =
    same_answer (eq q x) (eq q p) (λ l. eq_transitive binary64 q x p fq fx fp l (eq_symmetric binary64 p x fp fx h)) (λ l. eq_transitive binary64 q p x fq fp fx l h)

place_swap : (q x p : List Float) → All F64 q → All F64 x → All F64 p → T (same_place p x) → same_place q x ≡ same_place q p
unfolding same_place on_each
place_swap [] [] [] fq fx fp h = refl
place_swap [] [] (v ∷ p) fq fx fp h = absurd h
place_swap [] (u ∷ x) [] fq fx fp h = absurd h
place_swap [] (u ∷ x) (v ∷ p) fq fx fp h = refl
place_swap (w ∷ q) [] [] fq fx fp h = refl
place_swap (w ∷ q) [] (v ∷ p) fq fx fp h = absurd h
place_swap (w ∷ q) (u ∷ x) [] fq fx fp h = absurd h
place_swap (w ∷ q) (u ∷ x) (v ∷ p) fq fx fp h =
    ap₂ (λ (a b : Bool). a && b) (eq_swap w u v fq.0 fx.0 fp.0 (and_l (eq v u) (same_place p x) h)) (place_swap q x p fq.1 fx.1 fp.1 (and_r (eq v u) (same_place p x) h))

same_swap : (q x p : Point) → F64Point q → F64Point x → F64Point p → T (same p x) → same q x ≡ same q p
unfolding same
same_swap q x p fq fx fp h =
    ap₂ (λ (a b : Bool). a && b) (place_swap q.at x.at p.at fq fx fp (and_l (same_place p.at x.at) (eqb p.payload x.payload) h))
    (ap (eqb q.payload) (sym (eqb→eq p.payload x.payload (and_r (same_place p.at x.at) (eqb p.payload x.payload) h))))

-- ---- what is held against what was entered
pub record Balanced (a : Plan) (l : Ledger) : Type 0 where
  -- each held copy is bit for bit one that was inserted: no test tells more of them than were inserted
  pub copies : (g : Point → Bool) → tally g (held 32 a.root) ≤ tally g l.stored
  -- how many are held
  pub size : tally (λ x. true) (held 32 a.root) + length l.removed ≡ length l.stored
  -- for every point: held copies equal to it, and deletes equal to it, are the inserts equal to it
  pub figures : (q : Point) → F64Point q → tally (same q) (held 32 a.root) + tally (same q) l.removed ≡ tally (same q) l.stored

balanced_blank : (b : List Side) (cap : ℕ) → Balanced (empty b cap) blank
unfolding tally
balanced_blank b cap = record {
  copies = λ g. le_of_eq (ap (tally g) (held_bag 32 []));
  size = ap (λ (l : List Point). tally (λ x. true) l + 0) (held_bag 32 []);
  figures = λ q f. ap (λ (l : List Point). tally (same q) l + 0) (held_bag 32 []);
}

one_tally : (g : Point → Bool) (p : Point) → tally g (p ∷ []) ≡ one_if (g p)
unfolding tally
one_tally g p = omega arith

module _ (k : Kind) (a : Plan) (m : Kept k a) (l : Ledger) (w : Balanced a l) where
  balanced_insert : (p : Point) → Balanced (with_root a (after k a p)) (record { stored = l.stored ++ (p ∷ []); removed = l.removed })
  balanced_insert p = record {
    copies = λ g. omega (arith, inserted_tally k a m.numbers m.sound p g, w.copies g, tally_append g l.stored (p ∷ []), one_tally g p);
    size = let all : Point → Bool = λ x. true in omega (arith, inserted_tally k a m.numbers m.sound p all, w.size, length-append l.stored (p ∷ []));
    figures = λ q f. omega (arith, inserted_tally k a m.numbers m.sound p (same q), w.figures q f, tally_append (same q) l.stored (p ∷ []), one_tally (same q) p);
  }

  module _ (r : Regular k) (p : Point) (n : F64Point p) (h : T (filled (taken 32 a.boundary p a.root))) where
    -- the one point that is taken out equals the one that was asked for
    taken_f64 : All F64Point (taken 32 a.boundary p a.root)
    taken_f64 =
        let f : Point → Bool = λ x. all_f64 x.at in
        let g : Point → Bool = λ x. not (f x) in
        let z : tally g (held 32 a.root) ≡ 0 = all_none f (held 32 a.root) (all_map F64Point (λ (x : Point). T (f x)) (held 32 a.root) (λ x u. f64_of x.at u) m.numbers.of_points) in
        let y : tally g (taken 32 a.boundary p a.root) ≡ 0 = omega (arith, deleted_tally k a m.numbers m.sound r.0 p g) in
        all_map (λ (x : Point). T (f x)) F64Point (taken 32 a.boundary p a.root) (λ x u. f64_all x.at u) (none_all f (taken 32 a.boundary p a.root) y)

    taken_tally : (q : Point) → F64Point q → tally (same q) (taken 32 a.boundary p a.root) ≡ one_if (same q p)
    taken_tally q f = go (taken 32 a.boundary p a.root) h (taken_same 32 a.boundary p a.root) taken_f64
      where
        go : (xs : List Point) → T (filled xs) → All (λ x. T (same p x)) xs × (length xs ≤ 1) → All F64Point xs → tally (same q) xs ≡ one_if (same q p)
        go [] e s u = absurd (unfold filled in e)
        go (x ∷ []) e s u = one_tally (same q) x ∙ ap one_if (same_swap q x p f u.0 n s.0.0)
        go (x ∷ y ∷ ys) e s u = absurd (let z = s.1 in omega arith)

    taken_one : tally (λ x. true) (taken 32 a.boundary p a.root) ≡ 1
    taken_one = tally_true (taken 32 a.boundary p a.root) ∙ go (taken 32 a.boundary p a.root) h (taken_same 32 a.boundary p a.root).1
      where
        go : (xs : List Point) → T (filled xs) → length xs ≤ 1 → length xs ≡ 1
        go [] e s = absurd (unfold filled in e)
        go (x ∷ []) e s = refl
        go (x ∷ y ∷ ys) e s = absurd (omega arith)

    balanced_delete : Balanced (with_root a (rid k a m p n r)) (record { stored = l.stored; removed = l.removed ++ (p ∷ []) })
    balanced_delete = record {
      copies = λ g. omega (arith, deleted_tally k a m.numbers m.sound r.0 p g, w.copies g);
      size = let all : Point → Bool = λ x. true in omega (arith, deleted_tally k a m.numbers m.sound r.0 p all, w.size, taken_one, length-append l.removed (p ∷ []));
      figures = λ q f. omega (arith, deleted_tally k a m.numbers m.sound r.0 p (same q), w.figures q f, taken_tally q f, tally_append (same q) l.removed (p ∷ []), one_tally (same q) p);
    }

-- ---- a state with its ledger: of a tree, all that is kept
abbrev pub Fine : Kind → State → Ledger → Type 0
Fine k misfit l = Unit {0}
Fine k broken l = Unit {0}
Fine k (tree a) l = Kept k a × Balanced a l

-- a tree with what is entered where the call was done
abbrev Entered : Kind → Ledger → Ledger → Outcome → Type 0
Entered k l new o = Fine k o.state (cond (eqb (number o.reply) 0) new l)

not_zero : (n : ℕ) → T (not (eqb n 0)) → 1 ≤ n
not_zero zero h = absurd h
not_zero (suc n) h = omega arith

create_fine : (k : Kind) (s : State) (b : List Side) (cap : ℕ) (l : Ledger) → Regular k → All F64Side b × (length b ≡ k.axes) → Fine k s l → Entered k l blank (create s b cap)
unfolding create number
create_fine k s b cap l r q w =
    cond_same (Entered k l blank) (eqb cap 0) (refuse no_capacity s) _ (λ h. w)
    (λ h. cond_same (Entered k l blank) (acceptable b) (give (tree (empty b cap)) 0) (refuse bad_boundary s) (λ i. (kept_empty k b cap r q.0 q.1 (not_zero cap h) i, balanced_blank b cap)) (λ i. w))

-- a bulk is its inserts, one by one
bulk_fine : (k : Kind) (a : Plan) (n : ℕ) (ps : List Point) (l : Ledger) → All F64Point ps → Kept k a → Balanced a l → Fine k (bulk_call k a n ps).state (record { stored = l.stored ++ bulk_stores k a ps; removed = l.removed })
unfolding bulk_call bulk_stores
bulk_fine k a n [] l f m w = subst (λ (ps : List Point). Fine k (tree a) (record { stored = ps; removed = l.removed })) (sym (append-nil l.stored)) (m, w)
bulk_fine k a n (p ∷ ps) l f m w =
    both (inside a.boundary p.at) (ltb (count 32 a.root) 512) (leb (nodes 32 (after k a p)) k.most)
    (λ h i j. bulk_fine k (with_root a (after k a p)) (suc n) ps (record { stored = l.stored ++ (p ∷ []); removed = l.removed }) f.1 (kept_insert k a m p f.0 h i j) (balanced_insert k a m l w p))
    (bulk_fine k a n ps l f.1 m w)
  where
    same_state : Fine k (tree a) (record { stored = l.stored ++ []; removed = l.removed })
    same_state = subst (λ (ps : List Point). Fine k (tree a) (record { stored = ps; removed = l.removed })) (sym (append-nil l.stored)) (m, w)

    both : (x y z : Bool) → (T x → T y → T z → Fine k (bulk_call k (with_root a (after k a p)) (suc n) ps).state (record { stored = (l.stored ++ (p ∷ [])) ++ bulk_stores k (with_root a (after k a p)) ps; removed = l.removed }))
        → Fine k (bulk_call k a n ps).state (record { stored = l.stored ++ bulk_stores k a ps; removed = l.removed })
        → Fine k
        (elim x as (λ u. Outcome) [
          | false ↦ bulk_call k a n ps
          | true ↦ elim y as (λ u. Outcome) [
            | false ↦ record { reply = full; state = tree a; figure = n; points = [] }
            | true ↦ elim z as (λ u. Outcome) [ false ↦ record { reply = no_nodes; state = tree a; figure = n; points = [] } | true ↦ bulk_call k (with_root a (after k a p)) (suc n) ps ]
          ]
        ]).state
        (record {
          stored = l.stored ++ (elim x as (λ u. List Point) [
            | false ↦ bulk_stores k a ps
            | true ↦ elim y as (λ u. List Point) [ false ↦ [] | true ↦ elim z as (λ u. List Point) [ false ↦ [] | true ↦ p ∷ bulk_stores k (with_root a (after k a p)) ps ] ]
          ]);
          removed = l.removed;
        })
    both true true true g e = subst (λ (u : List Point). Fine k (bulk_call k (with_root a (after k a p)) (suc n) ps).state (record { stored = u; removed = l.removed })) (append_assoc l.stored (p ∷ []) (bulk_stores k (with_root a (after k a p)) ps)) (g tt tt tt)
    both true true false g e = same_state
    both true false z g e = same_state
    both false y z g e = e

search_same : (a : Plan) (m : ℕ) (ps : List Point) → (search_call a m ps).state ≡ tree a
unfolding search_call
search_same a m ps =
    cond_same (λ (o : Outcome). o.state ≡ tree a) (leb (length ps) m) (record { reply = done; state = tree a; figure = length ps; points = ps }) (refuse no_room (tree a)) (λ h. refl) (λ h. refl)

-- a query changes nothing
pub ask_same : (a : Plan) (q : Query) → (ask a q).state ≡ tree a
unfolding ask
ask_same a (Contains p) = refl
ask_same a Len = refl
ask_same a IsEmpty = refl
ask_same a (Radius c r m) = search_same a m (radius c r 32 a.root)
ask_same a (Box q m) = search_same a m (box q 32 a.root)
ask_same a (Nearest c j m) = search_same a m (nearest (min j 512) c 32 a.boundary a.root)

-- every call keeps a sound tree and its balance
pub fine_step : (k : Kind) (s : State) (c : Call) (l : Ledger) → Regular k → Proper k c → Fine k s l → Fine k (step k s c).state (entered k s c l)
unfolding step on_broken call entered done? number
fine_step k misfit c l r n w = tt
fine_step k broken (Create b cap) l r n w = create_fine k broken b cap l r n tt
fine_step k broken (Insert p) l r n w = tt
fine_step k broken (Bulk ps) l r n w = tt
fine_step k broken (Delete p) l r n w = tt
fine_step k broken Clear l r n w = tt
fine_step k broken (Ask q) l r n w = tt
fine_step k (tree a) (Create b cap) l r n w = create_fine k (tree a) b cap l r n w
fine_step k (tree a) (Insert p) l r n w =
    insert_ends k a p (Entered k l (record { stored = l.stored ++ (p ∷ []); removed = l.removed })) w w w (λ h i j. (kept_insert k a w.0 p n h i j, balanced_insert k a w.0 l w.1 p))
fine_step k (tree a) (Bulk ps) l r n w = bulk_fine k a 0 ps l n w.0 w.1
fine_step k (tree a) (Delete p) l r n w =
    delete_ends k a p (Entered k l (record { stored = l.stored; removed = l.removed ++ (p ∷ []) })) w w
    (λ t h e.
    let d = deleted k a w.0 p n r t h e in
    subst (λ (u : Tree 32). Fine k (tree (with_root a u)) (record { stored = l.stored; removed = l.removed ++ (p ∷ []) })) (sym d.1) (kept_delete k a w.0 p n r, balanced_delete k a w.0 l w.1 r p n d.0))
fine_step k (tree a) Clear l r n w =
    (kept_empty k a.boundary a.capacity r w.0.numbers.of_boundary w.0.sound.boundary.1 w.0.sound.capacity w.0.sound.boundary.0, balanced_blank a.boundary a.capacity)
fine_step k (tree a) (Ask q) l r n w = subst (λ (s : State). Fine k s l) (sym (ask_same a q)) w

-- ---- any list of calls
pub held_after : (k : Kind) (s : State) (cs : List Call) (l : Ledger) → Regular k → All (Proper k) cs → Fine k s l → Fine k (run k s cs) (ledger k s cs l)
unfolding run ledger
held_after k s [] l r n w = w
held_after k s (c ∷ cs) l r n w = held_after k (step k s c).state cs (entered k s c l) r n.1 (fine_step k s c l r n.0 w)

-- ---- a tree stays a tree
abbrev ATree : State → Type 0
ATree s = (a : Plan) × (s ≡ tree a)

bulk_tree : (k : Kind) (a : Plan) (n : ℕ) (ps : List Point) → ATree (bulk_call k a n ps).state
unfolding bulk_call
bulk_tree k a n [] = (a, refl)
bulk_tree k a n (p ∷ ps) =
    cond_same (λ (o : Outcome). ATree o.state) (inside a.boundary p.at) _ (bulk_call k a n ps)
    (λ h. cond_same (λ (o : Outcome). ATree o.state) (ltb (count 32 a.root) 512) _ (record { reply = full; state = tree a; figure = n; points = [] })
    (λ i. cond_same (λ (o : Outcome). ATree o.state) (leb (nodes 32 (after k a p)) k.most) (bulk_call k (with_root a (after k a p)) (suc n) ps) (record { reply = no_nodes; state = tree a; figure = n; points = [] })
    (λ j. bulk_tree k (with_root a (after k a p)) (suc n) ps) (λ j. (a, refl))) (λ i. (a, refl)))
    (λ h. bulk_tree k a n ps)

step_tree : (k : Kind) (a : Plan) (c : Call) → ATree (step k (tree a) c).state
unfolding step call create
step_tree k a (Create b cap) =
    cond_same (λ (o : Outcome). ATree o.state) (eqb cap 0) (refuse no_capacity (tree a)) _ (λ h. (a, refl))
    (λ h. cond_same (λ (o : Outcome). ATree o.state) (acceptable b) (give (tree (empty b cap)) 0) (refuse bad_boundary (tree a)) (λ i. (empty b cap, refl)) (λ i. (a, refl)))
step_tree k a (Insert p) = insert_ends k a p (λ (o : Outcome). ATree o.state) (a, refl) (a, refl) (a, refl) (λ h i j. (with_root a (after k a p), refl))
step_tree k a (Bulk ps) = bulk_tree k a 0 ps
step_tree k a (Delete p) = delete_ends k a p (λ (o : Outcome). ATree o.state) (a, refl) (a, refl) (λ t h e. (with_root a t, refl))
step_tree k a Clear = (empty a.boundary a.capacity, refl)
step_tree k a (Ask q) = (a, ask_same a q)

pub run_tree : (k : Kind) (a : Plan) (cs : List Call) → (a' : Plan) × (run k (tree a) cs ≡ tree a')
unfolding run
run_tree k a [] = (a, refl)
run_tree k a (c ∷ cs) =
    let s = step_tree k a c in
    let r = run_tree k s.0 cs in
    (r.0, ap (λ (u : State). run k u cs) s.1 ∙ r.1)

-- how many a bulk says it stored
pub bulk_figure : (k : Kind) (a : Plan) (n : ℕ) (ps : List Point) → (bulk_call k a n ps).figure ≡ n + length (bulk_stores k a ps)
unfolding bulk_call bulk_stores
bulk_figure k a n [] = omega arith
bulk_figure k a n (p ∷ ps) =
    go (inside a.boundary p.at) (ltb (count 32 a.root) 512) (leb (nodes 32 (after k a p)) k.most) (bulk_figure k a n ps)
    (bulk_figure k (with_root a (after k a p)) (suc n) ps)
  where
    go : (x y z : Bool) → (bulk_call k a n ps).figure ≡ n + length (bulk_stores k a ps) → (bulk_call k (with_root a (after k a p)) (suc n) ps).figure ≡ suc n + length (bulk_stores k (with_root a (after k a p)) ps)
        → (elim x as (λ u. Outcome) [
          | false ↦ bulk_call k a n ps
          | true ↦ elim y as (λ u. Outcome) [
            | false ↦ record { reply = full; state = tree a; figure = n; points = [] }
            | true ↦ elim z as (λ u. Outcome) [ false ↦ record { reply = no_nodes; state = tree a; figure = n; points = [] } | true ↦ bulk_call k (with_root a (after k a p)) (suc n) ps ]
          ]
        ]).figure
        ≡ n + length {A = Point} (elim x as (λ u. List Point) [
          | false ↦ bulk_stores k a ps
          | true ↦ elim y as (λ u. List Point) [ false ↦ [] | true ↦ elim z as (λ u. List Point) [ false ↦ [] | true ↦ p ∷ bulk_stores k (with_root a (after k a p)) ps ] ]
        ])
    go true true true e g = omega (arith, g)
    go true true false e g = omega arith
    go true false z e g = omega arith
    go false y z e g = e

-- from a fresh tree, after any list of calls there is a sound tree, and what it holds is the accepted inserts less the successful deletes since the last
-- accepted creation or clear
pub held_after_creation : (k : Kind) (b : List Side) (cap : ℕ) (cs : List Call) → Regular k → All F64Side b → length b ≡ k.axes → 1 ≤ cap → T (acceptable b) → All (Proper k) cs
    → (a : Plan) × (run k (tree (empty b cap)) cs ≡ tree a) × Kept k a × Balanced a (ledger k (tree (empty b cap)) cs blank)
held_after_creation k b cap cs r q e c h n =
    let t = run_tree k (empty b cap) cs in
    let f = held_after k (tree (empty b cap)) cs blank r n (kept_empty k b cap r q e c h, balanced_blank b cap) in
    let g : Fine k (tree t.0) (ledger k (tree (empty b cap)) cs blank) = subst (λ (s : State). Fine k s (ledger k (tree (empty b cap)) cs blank)) t.1 f in
    (t.0, t.1, g.0, g.1)
