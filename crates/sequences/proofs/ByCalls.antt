-- The P examples of document 01 for any calls that meet the contracts: what the model gives (`site_plan`) is what they reply, count, write and leave, whatever tree or none the pieces held before the creation.
-- Assumes nothing.
use mathlib.Core.Path.{◌≡◌, refl, sym, ap, subst, ◌∙◌}
use mathlib.Core.Bool.{Bool, true, false, not}
use mathlib.Core.List.{List, [], ◌∷◌}
use Prim.Native.Nat.{ℕ, ◌≤◌, min}
use native.Mathlib.Omega.{arith}
use lib.ListN.{length, get_or}
use lib.Dec.{T, leb, le→leb, eqb}
use lib.Seq.{sets}
use lib.Ieee.{Float, le, of_bits, binary64, to_bits}
use Rattle.model.specs.Boxes.{Side, bounded, acceptable}
use Rattle.model.specs.Trees.{Point}
use Rattle.model.specs.Searches.{radius, box, nearest}
use Rattle.model.specs.Calls.{number, quadtree, Outcome, done, no_capacity, bad_boundary, no_room, refuse, give, Plan, empty, State, misfit, broken, tree, Call, Create, Query, Ask, Radius, Box, Nearest, create, search_call, ask, call, on_broken, step}
use Rattle.model.specs.History.{run}
use Rattle.model.proofs.Counts.{cond_same}
use Rattle.site_plan.specs.Examples.{plan, Row, numbers, answer, after, gives, filling, full, shape, quadrant, given, said}
use Rattle.site_plan.proofs.Table.{full_reached, examples}
use Rattle.trees.specs.Pieces.{Pieces, Says, Does, Searches, coordinates, payloads, room_for}
use Rattle.sequences.specs.Runs.{finally}
use Rattle.sequences.specs.Examples.{Left, Creates, Replies, Finds, Stands, Examples}
use Rattle.sequences.proofs.Unique.{says_one, same_number, same_list}
use Rattle.sequences.proofs.Sequences.{runs_says}

-- ---- a row of the table
abbrev reply_of_row : Row → ℕ
reply_of_row (numbers ns) = 0
reply_of_row (answer r n ps) = r

abbrev figure_of : Row → ℕ
figure_of (numbers ns) = 0
figure_of (answer r n ps) = n

abbrev points_of : Row → List Point
points_of (numbers ns) = []
points_of (answer r n ps) = ps

abbrev numbers_of_row : Row → List ℕ
numbers_of_row (numbers ns) = ns
numbers_of_row (answer r n ps) = []

abbrev row : ℕ → List Row → Row
row i rows = get_or rows i (numbers [])

-- ---- a creation does not depend on what was there
reply_alike : (x y : State) (b : List Side) (cap : ℕ) → (create x b cap).reply ≡ (create y b cap).reply
unfolding create
reply_alike x y b cap = go (eqb cap 0) (acceptable b)
  where
    go : (t u : Bool) → (elim t as (λ _. Outcome) [ true ↦ refuse no_capacity x | false ↦ elim u as (λ _. Outcome) [ true ↦ give (tree (empty b cap)) 0 | false ↦ refuse bad_boundary x ] ]).reply ≡ (elim t as (λ _. Outcome) [ true ↦ refuse no_capacity y | false ↦ elim u as (λ _. Outcome) [ true ↦ give (tree (empty b cap)) 0 | false ↦ refuse bad_boundary y ] ]).reply
    go true u = refl
    go false true = refl
    go false false = refl

figure_alike : (x y : State) (b : List Side) (cap : ℕ) → (create x b cap).figure ≡ (create y b cap).figure
unfolding create
figure_alike x y b cap = go (eqb cap 0) (acceptable b)
  where
    go : (t u : Bool) → (elim t as (λ _. Outcome) [ true ↦ refuse no_capacity x | false ↦ elim u as (λ _. Outcome) [ true ↦ give (tree (empty b cap)) 0 | false ↦ refuse bad_boundary x ] ]).figure ≡ (elim t as (λ _. Outcome) [ true ↦ refuse no_capacity y | false ↦ elim u as (λ _. Outcome) [ true ↦ give (tree (empty b cap)) 0 | false ↦ refuse bad_boundary y ] ]).figure
    go true u = refl
    go false true = refl
    go false false = refl

-- the creations of the table that are followed by calls leave an empty tree
abbrev Fresh : ℕ → Type 0
Fresh cap = (x : State) → (create x plan cap).state ≡ tree (empty plan cap)

fresh_1 : Fresh 1
unfolding create acceptable bounded le of_bits
fresh_1 x = refl

fresh_2 : Fresh 2
unfolding create acceptable bounded le of_bits
fresh_2 x = refl

fresh_3 : Fresh 3
unfolding create acceptable bounded le of_bits
fresh_3 x = refl

fresh_512 : Fresh 512
unfolding create acceptable bounded le of_bits
fresh_512 x = refl

-- ---- where there is room for an answer, it does not matter for how much more
abbrev told : Outcome → Row
told o = answer (number o.reply) o.figure o.points

not_both : (t : Bool) → T t → T (not t) → ⊥
not_both true x y = y
not_both false x y = x

enough : (a : Plan) (ps : List Point) (m : ℕ) → length ps ≤ m → told (search_call a m ps) ≡ answer 0 (length ps) ps
unfolding search_call number
enough a ps m h =
    cond_same (λ (o : Outcome). told o ≡ answer 0 (length ps) ps) (leb (length ps) m) (record { reply = done; state = tree a; figure = length ps; points = ps }) (refuse no_room (tree a))
    (λ t. refl) (λ t. absurd (not_both (leb (length ps) m) (le→leb (length ps) m h) t))

roomier : (a : Plan) (qs ps : List Point) (n m : ℕ) → told (search_call a 512 qs) ≡ answer 0 n ps → length ps ≤ m → told (search_call a m qs) ≡ answer 0 (length ps) ps
unfolding search_call number
roomier a qs ps n m e h =
    cond_same (λ (o : Outcome). told o ≡ answer 0 n ps → told (search_call a m qs) ≡ answer 0 (length ps) ps) (leb (length qs) 512) (record { reply = done; state = tree a; figure = length qs; points = qs }) (refuse no_room (tree a))
    (λ t q. ap (λ (x : List Point). told (search_call a m x)) (ap points_of q) ∙ enough a ps m h) (λ t q. absurd (omega (arith, ap reply_of_row q))) e

-- ---- the pieces are in the state that the model's run gives, in whatever state they were lent
module _ (cap : ℕ) (before : List Call) (fresh : Fresh cap) where
  from_any : (x : State) → (x ≡ misfit → ⊥) → run quadtree x (Create plan cap ∷ before) ≡ after cap before
  unfolding run step call on_broken after
  from_any misfit f = absurd (f refl)
  from_any broken f = refl
  from_any (tree a) f = ap (λ (z : State). run quadtree z before) (fresh (tree a) ∙ sym (fresh broken))

  module _ (s : Pieces) (l : Left cap before s) where
    left_says : (x : State) → Says quadtree l.lent x → Says quadtree s (after cap before)
    left_says x y = subst (λ (p : Pieces). Says quadtree p (after cap before)) (sym l.last) (
        subst (Says quadtree (finally l.lent l.made)) (ap (run quadtree x) l.these ∙ from_any x (λ e. subst (Says quadtree l.lent) e y l.fits))
        (runs_says quadtree l.lent l.made l.runs x y))

  -- ---- calls, states and searches after it
  replies : (c : Call) (reply : ℕ) → gives (after cap before) c ≡ answer reply 0 [] → Replies cap before c reply
  unfolding Does gives
  replies c reply e s s' r n l d = (
    same_number quadtree l.lent r reply (λ x y. (d (after cap before) (left_says s l x y)).reply ∙ ap reply_of_row e),
    same_number quadtree l.lent n 0 (λ x y. (d (after cap before) (left_says s l x y)).figure ∙ ap figure_of e),
  )

  stands : (f : State → List ℕ) (ns : List ℕ) → f (after cap before) ≡ ns → Stands cap before f ns
  stands f ns e s l x z = same_list quadtree l.lent (f x) ns (λ x' y. ap f (says_one quadtree s x (after cap before) z (left_says s l x' y)) ∙ e)

  module _ (asked : ℕ → Query) (found : Plan → List Point) (is : (a : Plan) (m : ℕ) → ask a (asked m) ≡ search_call a m (found a)) where
    roomy : (x : State) (n : ℕ) (ps : List Point) → gives x (Ask (asked 512)) ≡ answer 0 n ps → (m : ℕ) → length ps ≤ m → told (step quadtree x (Ask (asked m))) ≡ answer 0 (length ps) ps
    unfolding gives step call on_broken number
    roomy misfit n ps e m h = absurd (omega (arith, ap reply_of_row e))
    roomy broken n ps e m h = absurd (omega (arith, ap reply_of_row e))
    roomy (tree a) n ps e m h = ap told (is a m) ∙ roomier a (found a) ps n m (ap told (sym (is a 512)) ∙ e) h

    finds : (n : ℕ) (ps : List Point) → gives (after cap before) (Ask (asked 512)) ≡ answer 0 n ps → Finds cap before asked ps
    unfolding Searches
    finds n ps e s cs ms cs' ms' r n' l h d = (
      same_number quadtree l.lent r 0 (λ x y. (d (after cap before) (left_says s l x y)).reply ∙ ap reply_of_row (has (room_for 2 cs ms) h)),
      same_number quadtree l.lent n' (length ps) (λ x y. (d (after cap before) (left_says s l x y)).figure ∙ ap figure_of (has (room_for 2 cs ms) h)),
      same_list quadtree l.lent cs' (sets cs 0 (coordinates ps)) (λ x y. (d (after cap before) (left_says s l x y)).coordinates ∙ ap (λ (w : Row). sets cs 0 (coordinates (points_of w))) (has (room_for 2 cs ms) h)),
      same_list quadtree l.lent ms' (sets ms 0 (payloads ps)) (λ x y. (d (after cap before) (left_says s l x y)).payloads ∙ ap (λ (w : Row). sets ms 0 (payloads (points_of w))) (has (room_for 2 cs ms) h)),
    )
      where
        has : (m : ℕ) → length ps ≤ m → told (step quadtree (after cap before) (Ask (asked m))) ≡ answer 0 (length ps) ps
        has m h = roomy (after cap before) n ps e m h

  finds_radius : (c : List Float) (r : Float) (n : ℕ) (ps : List Point) → gives (after cap before) (Ask (Radius c r 512)) ≡ answer 0 n ps → Finds cap before (λ m. Radius c r m) ps
  unfolding ask
  finds_radius c r n ps e = finds (λ m. Radius c r m) (λ a. radius c r 32 a.root) (λ a m. refl) n ps e

  finds_box : (q : List Side) (n : ℕ) (ps : List Point) → gives (after cap before) (Ask (Box q 512)) ≡ answer 0 n ps → Finds cap before (λ m. Box q m) ps
  unfolding ask
  finds_box q n ps e = finds (λ m. Box q m) (λ a. box q 32 a.root) (λ a m. refl) n ps e

  finds_nearest : (c : List Float) (k n : ℕ) (ps : List Point) → gives (after cap before) (Ask (Nearest c k 512)) ≡ answer 0 n ps → Finds cap before (λ m. Nearest c k m) ps
  unfolding ask
  finds_nearest c k n ps e = finds (λ m. Nearest c k m) (λ a. nearest (min k 512) c 32 a.boundary a.root) (λ a m. refl) n ps e

creates : (b : List Side) (cap reply : ℕ) → gives broken (Create b cap) ≡ answer reply 0 [] → Creates b cap reply
unfolding Does gives step call on_broken
creates b cap reply e s s' r n fits d = (same_number quadtree s r reply (λ x y. (d x y).reply ∙ same_reply x y ∙ ap reply_of_row e), same_number quadtree s n 0 (λ x y. (d x y).figure ∙ same_figure x y ∙ ap figure_of e))
  where
    same_reply : (x : State) → Says quadtree s x → number (step quadtree x (Create b cap)).reply ≡ number (create broken b cap).reply
    same_reply misfit y = absurd (y fits)
    same_reply broken y = refl
    same_reply (tree a) y = ap number (reply_alike (tree a) broken b cap)

    same_figure : (x : State) → Says quadtree s x → (step quadtree x (Create b cap)).figure ≡ (create broken b cap).figure
    same_figure misfit y = absurd (y fits)
    same_figure broken y = refl
    same_figure (tree a) y = figure_alike (tree a) broken b cap

-- ---- the table
at : (i : ℕ) → row i given ≡ row i said
at i = ap (row i) examples

at_full : (c : Call) → gives (after 512 (filling 512)) c ≡ gives full c
at_full c = ap (λ (x : State). gives x c) full_reached

pub examples_by_calls : Examples
unfolding given said
examples_by_calls = record {
  span_steps = λ r e. ap (to_bits binary64) e ∙ ap (λ (w : Row). get_or (numbers_of_row w) 0 0) (at 0);
  span_zero = λ r e. ap (to_bits binary64) e ∙ ap (λ (w : Row). get_or (numbers_of_row w) 1 0) (at 0);
  span_back = λ r e. ap (to_bits binary64) e ∙ ap (λ (w : Row). get_or (numbers_of_row w) 2 0) (at 0);
  inside = replies 1 [] fresh_1 _ 0 (at 1);
  outside = replies 1 [] fresh_1 _ 1 (at 2);
  outside_when_full = replies 512 (filling 512) fresh_512 _ 1 (at_full _ ∙ at 3);
  inside_when_full = replies 512 (filling 512) fresh_512 _ 5 (at_full _ ∙ at 4);
  extent_zero = creates _ 1 0 (at 5);
  extent_negative = creates _ 1 4 (at 6);
  extent_largest = creates _ 1 0 (at 7);
  extent_larger = creates _ 1 4 (at 8);
  without_capacity = creates _ 0 3 (at 9);
  five_nodes = stands 1 _ fresh_1 shape _ (ap numbers_of_row (at 10));
  in_north_east = stands 1 _ fresh_1 (quadrant 1) _ (ap numbers_of_row (at 11));
  merged = stands 2 _ fresh_2 shape _ (ap numbers_of_row (at 12));
  nearest_then = finds_nearest 2 _ fresh_2 _ _ 1 _ (at 13);
  nearest_before = finds_nearest 2 _ fresh_2 _ _ 1 _ (at 14);
  radius_negative = finds_radius 2 _ fresh_2 _ _ 0 _ (at 15);
  radius_nan = finds_radius 2 _ fresh_2 _ _ 0 _ (at 16);
  radius_zero = finds_radius 2 _ fresh_2 _ _ 1 _ (at 17);
  nearest_none = finds_nearest 3 _ fresh_3 _ _ 0 _ (at 18);
  nearest_of_nan = finds_nearest 3 _ fresh_3 _ _ 2 _ (at 19);
  on_midplane = finds_box 1 _ fresh_1 _ 1 _ (at 20);
  squares_vanish = finds_radius 1 _ fresh_1 _ _ 1 _ (at 21);
  both_squares = (ap (λ (w : Row). get_or (numbers_of_row w) 0 0) (at 22), ap (λ (w : Row). get_or (numbers_of_row w) 1 0) (at 22));
}
