-- What k nearest gives: the first k of a stable order by distance; with a NaN in the centre, the first k - 1 visited and the last. Assumes nothing.
use Prim.Native.Nat.{ℕ, zero, suc, ◌+◌, ◌≤◌, ◌<◌, zero-le}
use native.Mathlib.Omega.{arith}
use mathlib.Core.Path.{◌≡◌, refl, ap, sym, ◌∙◌, subst}
use mathlib.Core.Logic.{inl, inr}
use mathlib.Core.Bool.{Bool, true, false, not, ◌&&◌, ◌||◌}
use mathlib.Core.List.{List, [], ◌∷◌, ◌++◌, map, append-nil, append_assoc, drop_last}
use lib.ListN.{length-map, length, take, length-append, length-take}
use lib.Seq.{take_at, take-nil, take_all, take-take}
use lib.Dec.{T, ltb, T_not, not_T, ltb→lt, nltb→le, lt→ltb}
use lib.Ieee.{Float, nan, binary64, le, lt, eq, is_nan}
use lib.Ieee.Bits.{is_true}
use Rattle.floats.proofs.Order.{eq_symmetric, eq_transitive, eq→le, le_nan, le_nums, lt→nle, nat_total}
use Rattle.model.specs.Boxes.{Side, node_distance, squared}
use Rattle.model.specs.Searches.{At, Entry, entry, keep, less, nearest, offer, offer_each, place, place_each, visit, worst}
use Rattle.model.specs.Soundness.{All}
use Rattle.model.specs.Trees.{Point, Tree, held}
use Rattle.model.proofs.Counts.{cond_same}
use Rattle.model.proofs.Inside.{Bounded, F64}
use Rattle.model.proofs.Lists.{all_append, all_map, tally}
use Rattle.model.proofs.Nearest.{Num, Sorted, above, drop_all, fit_point, less_lt, map_all, map_append, not_less, place_all, place_sorted, visit_count}
use Rattle.model.proofs.Skip.{by_false, clear, distance_below, keep_append, keep_none, lies, none_all, out, squared_held}

abbrev points : List Entry → List Point
points es = map (λ (e : Entry). e.item) es

unfoldable pub by_distance : List Float → List Point → List Point
unfolding place_each entry
by_distance c ps = map (λ (e : Entry). e.item) (place_each [] (map (entry c) ps))

-- ---- one offer: a newcomer that is not before the first
last_tail : (f : Float → Bool) (y : Entry) (ys : List Entry) → T (f y.dist) → worst f (y ∷ ys) ≡ worst f ys
unfolding worst
last_tail f y [] h = is_true (f y.dist) h
last_tail f y (z ∷ zs) h = refl

suc_test : (m n : ℕ) → ltb (suc m) (suc n) ≡ ltb m n
suc_test m n = lib.Dec.leb-suc-suc (suc m) n

pub place_pass : {A : Type 0} (x y : At A) (ys : List (At A)) → T (not (less x.dist y.dist)) → place x (y ∷ ys) ≡ y ∷ place x ys
unfolding place
place_pass {A} x y ys n = cond_same (λ (l : List (At A)). l ≡ y ∷ place x ys) (less x.dist y.dist) (x ∷ y ∷ ys) (y ∷ place x ys) (λ l. absurd (T_not (less x.dist y.dist) n l)) (λ l. refl)

pub offer_pass : (k : ℕ) (x y : Entry) (ys : List Entry) → T (not (less x.dist y.dist)) → T (le y.dist x.dist) → offer (suc k) x (y ∷ ys) ≡ y ∷ offer k x ys
unfolding offer worst
offer_pass k x y [] n h = ap (λ (t : Bool). shape t (le y.dist x.dist)) (suc_test 0 k) ∙ go (ltb 0 k) (le y.dist x.dist) h
  where
    shape : Bool → Bool → List Entry
    shape t u = elim t [ true ↦ place x (y ∷ []) | false ↦ elim u [ true ↦ y ∷ [] | false ↦ place x [] ] ]

    go : (t u : Bool) → T u → shape t u ≡ y ∷ elim t as (λ b. List Entry) [ true ↦ place x [] | false ↦ [] ]
    go true u h = place_pass x y [] n
    go false true h = refl
    go false false h = absurd h
offer_pass k x y (z ∷ zs) n h = ap (λ (t : Bool). shape t (worst (λ w. le w x.dist) (z ∷ zs))) (suc_test (suc (length zs)) k) ∙ go (ltb (suc (length zs)) k) (worst (λ w. le w x.dist) (z ∷ zs))
  where
    shape : Bool → Bool → List Entry
    shape t u = elim t [ true ↦ place x (y ∷ z ∷ zs) | false ↦ elim u [ true ↦ y ∷ z ∷ zs | false ↦ place x (y ∷ drop_last (z ∷ zs)) ] ]

    go : (t u : Bool) → shape t u ≡ y ∷ elim t as (λ b. List Entry) [ true ↦ place x (z ∷ zs) | false ↦ elim u as (λ b. List Entry) [ true ↦ z ∷ zs | false ↦ place x (drop_last (z ∷ zs)) ] ]
    go true u = place_pass x y (z ∷ zs) n
    go false true = refl
    go false false = place_pass x y (drop_last (z ∷ zs)) n

-- ---- one offer: a newcomer that is before all
pub place_front : {A : Type 0} (x y : At A) (ys : List (At A)) → T (less x.dist y.dist) → place x (y ∷ ys) ≡ x ∷ y ∷ ys
unfolding place
place_front {A} x y ys h = cond_same (λ (l : List (At A)). l ≡ x ∷ y ∷ ys) (less x.dist y.dist) (x ∷ y ∷ ys) (y ∷ place x ys) (λ l. refl) (λ l. absurd (T_not (less x.dist y.dist) l h))

drop_take : {A : Type 0} (y : A) (ys : List A) → drop_last (y ∷ ys) ≡ take (length ys) (y ∷ ys)
drop_take y [] = refl
drop_take {A} y (z ∷ zs) = ap {B = List A} (λ l. y ∷ l) (drop_take z zs)

pub lt_less : (x y : Float) → T (lt x y) → T (less x y)
unfolding less
lt_less x y h = go (lt x y) h
  where
    go : (t : Bool) → T t → T (t || (is_nan y && not (is_nan x)))
    go true h = tt
    go false h = absurd h

last_false : (x : Entry) (y : Entry) (ys : List Entry) → Num x → All Num (y ∷ ys) → All (λ z. T (lt x.dist z.dist)) (y ∷ ys) → T (worst (λ w. le w x.dist) (y ∷ ys)) → ⊥
unfolding worst
last_false x y [] p a l h = lt→nle binary64 x.dist y.dist p.0 a.0.0 l.0 h
last_false x y (z ∷ zs) p a l h = last_false x z zs p a.1 l.1 h

place_short : (x : Entry) (n : ℕ) (y : Entry) (ys : List Entry) → T (less x.dist y.dist) → place x (take n (y ∷ ys)) ≡ x ∷ take n (y ∷ ys)
place_short x zero y ys h = unfold place in refl
place_short x (suc n) y ys h = place_front x y (take n ys) h

offer_front : (k : ℕ) (x y : Entry) (ys : List Entry) → Num x → All Num (y ∷ ys) → All (λ z. T (lt x.dist z.dist)) (y ∷ ys) → length ys ≤ k → offer (suc k) x (y ∷ ys) ≡ x ∷ take k (y ∷ ys)
unfolding offer
offer_front k x y ys p a l h =
    let f = lt_less x.dist y.dist l.0 in
    cond_same (λ (u : List Entry). u ≡ x ∷ take k (y ∷ ys)) (ltb (suc (length ys)) (suc k)) _ _
    (λ t. place_front x y ys f ∙ ap {B = List Entry} (λ u. x ∷ u) (sym (take_all k (y ∷ ys) (let z = ltb→lt (suc (length ys)) (suc k) t in omega arith))))
    (λ t. cond_same (λ (u : List Entry). u ≡ x ∷ take k (y ∷ ys)) (worst (λ w. le w x.dist) (y ∷ ys)) (y ∷ ys) (place x (drop_last (y ∷ ys)))
    (λ m. absurd (last_false x y ys p a l m))
    (λ m. ap (place x) (drop_take y ys) ∙ place_short x (length ys) y ys f ∙ ap (λ (n : ℕ). x ∷ take n (y ∷ ys)) (same (nltb→le (suc (length ys)) (suc k) t))))
  where
    same : suc k ≤ suc (length ys) → length ys ≡ k
    same q = omega arith

-- ---- the table is the first k of all
take_all_of : (Q : Entry → Type 0) (k : ℕ) (ys : List Entry) → All Q ys → All Q (take k ys)
take_all_of Q zero ys h = tt
take_all_of Q (suc k) [] h = tt
take_all_of Q (suc k) (y ∷ ys) h = (h.0, take_all_of Q k ys h.1)

take_again : (k : ℕ) (y : Entry) (ys : List Entry) → take k (y ∷ take k ys) ≡ take k (y ∷ ys)
take_again zero y ys = refl
take_again (suc k) y ys = ap {B = List Entry} (λ l. y ∷ l) (take-take k (suc k) ys (omega arith))

offer_empty : (k : ℕ) (x : Entry) → offer (suc k) x [] ≡ x ∷ []
unfolding offer place
offer_empty k x = cond_same (λ (l : List Entry). l ≡ x ∷ []) (ltb 0 (suc k)) (x ∷ []) _ (λ h. refl) (λ h. absurd (T_not (ltb 0 (suc k)) h (lt→ltb 0 (suc k) (omega arith))))

pub offer_take : (k : ℕ) (x : Entry) (ys : List Entry) → Num x → All Num ys → Sorted ys → offer k x (take k ys) ≡ take k (place x ys)
offer_take zero x ys p a s = unfold offer worst in refl
offer_take (suc k) x [] p a s = offer_empty k x ∙ unfold place in ap {B = List Entry} (λ l. x ∷ l) (sym (take-nil k))
offer_take (suc k) x (y ∷ ys) p a s = go (less x.dist y.dist) refl (offer_take k x ys p a.1 s.1)
  where
    go : (t : Bool) → less x.dist y.dist ≡ t → offer k x (take k ys) ≡ take k (place x ys) → offer (suc k) x (y ∷ take k ys) ≡ take (suc k) (place x (y ∷ ys))
    go true e ih =
        let h : T (less x.dist y.dist) = subst (λ (t : Bool). T t) (sym e) tt in
        let l = less_lt x.dist y.dist a.0.1 h in
        offer_front k x y (take k ys) p (a.0, take_all_of Num k ys a.1) (l, take_all_of (λ (z : Entry). T (lt x.dist z.dist)) k ys (above x y ys p a.0 l a.1 s.0)) (omega (arith, length-take k ys))
        ∙ ap {B = List Entry} (λ l. x ∷ l) (take_again k y ys)
        ∙ ap (take (suc k)) (sym (place_front x y ys h))
    go false e ih =
        let h : T (not (less x.dist y.dist)) = subst (λ (t : Bool). T (not t)) (sym e) tt in
        offer_pass k x y (take k ys) h (not_less x y p a.0 h)
        ∙ ap {B = List Entry} (λ l. y ∷ l) ih
        ∙ ap (take (suc k)) (sym (place_pass x y ys h))

pub offer_each_take : (k : ℕ) (t xs : List Entry) → All Num t → Sorted t → All Num xs → offer_each k (take k t) xs ≡ take k (place_each t xs)
unfolding offer_each place_each
offer_each_take k t [] a s h = refl
offer_each_take k t (x ∷ xs) a s h =
    ap (λ (l : List Entry). offer_each k l xs) (offer_take k x t h.0 a s)
    ∙ offer_each_take k (place x t) xs (place_all Num x t h.0 a) (place_sorted x t h.0 a s) h.1

map_take : (k : ℕ) (es : List Entry) → points (take k es) ≡ take k (points es)
map_take zero es = refl
map_take (suc k) [] = refl
map_take (suc k) (e ∷ es) = ap {B = List Point} (λ l. e.item ∷ l) (map_take k es)

-- a point of a box, to a centre without NaN, has a distance
number_point : (j : ℕ) (b : List Side) (p : Point) (c : List Float) → j ≤ 1023 → All (Bounded j) b → All F64 c → length c ≡ length b → T (clear c) → T (lies b p) → Num (entry c p)
unfolding entry
number_point j b p c r g q z l h = elim (distance_below j b p c r g q z h) [ inl u ↦ (squared_held p.at c, (le_nums (node_distance b c) (squared p.at c) u.1).1) | inr e ↦ absurd (T_not (clear c) e.0 l) ]

pub first_k : (k d j : ℕ) (b : List Side) (c : List Float) (t : Tree d) → j ≤ 1023 → All (Bounded j) b → All F64 c → length c ≡ length b → T (clear c) → tally (out b) (held d t) ≡ 0
    → nearest k c d b t ≡ take k (by_distance c (visit d b c t))
unfolding nearest by_distance
first_k k d j b c t r g q z l h =
    ap points (ap (λ (u : List Entry). offer_each k u (map (entry c) (visit d b c t))) (sym (take-nil k))
    ∙ offer_each_take k [] (map (entry c) (visit d b c t)) tt tt
    (map_all c Num (visit d b c t) (all_map (λ (p : Point). T (lies b p)) (λ (p : Point). Num (entry c p)) (visit d b c t) (λ p m. number_point j b p c r g q z l m) (none_all (lies b) (visit d b c t) (visit_count d b c t (out b) ∙ h)))))
    ∙ map_take k (place_each [] (map (entry c) (visit d b c t)))

-- ---- the order keeps that of entries at one distance
at_one : Float → Entry → Bool
at_one v e = eq e.dist v

eq_apart : (x z v : Float) → F64 x → F64 z → F64 v → T (lt x z) → T (eq x v) → T (eq z v) → ⊥
eq_apart x z v p q r l h k = lt→nle binary64 x z p q l (eq→le z x (eq_transitive binary64 z v x q r p k (eq_symmetric binary64 x v p r h)))

none_at : (v : Float) (x : Entry) (ys : List Entry) → F64 v → Num x → All Num ys → All (λ z. T (lt x.dist z.dist)) ys → T (at_one v x) → All (λ z. at_one v z ≡ false) ys
unfolding at_one
none_at v x [] r p a l h = tt
none_at v x (z ∷ zs) r p a l h = (by_false (eq z.dist v) (eq_apart x.dist z.dist v p.0 a.0.0 r l.0 h), none_at v x zs r p a.1 l.1 h)

place_keep : (v : Float) (x : Entry) (ys : List Entry) → F64 v → Num x → All Num ys → Sorted ys → keep (at_one v) (place x ys) ≡ keep (at_one v) ys ++ keep (at_one v) (x ∷ [])
unfolding place
place_keep v x [] r p a s = unfold keep in refl
place_keep v x (y ∷ ys) r p a s =
    cond_same (λ (l : List Entry). keep (at_one v) l ≡ keep (at_one v) (y ∷ ys) ++ keep (at_one v) (x ∷ [])) (less x.dist y.dist) (x ∷ y ∷ ys) (y ∷ place x ys)
    (λ l. let k = less_lt x.dist y.dist a.0.1 l in front (at_one v x) refl (λ h. keep_none (at_one v) (y ∷ ys) (none_at v x (y ∷ ys) r p a (k, above x y ys p a.0 k a.1 s.0) h)))
    (λ l. keep_append (at_one v) (y ∷ []) (place x ys) ∙ ap (λ (u : List Entry). keep (at_one v) (y ∷ []) ++ u) (place_keep v x ys r p a.1 s.1) ∙ sym (append_assoc (keep (at_one v) (y ∷ [])) (keep (at_one v) ys) (keep (at_one v) (x ∷ []))) ∙ ap (λ (u : List Entry). u ++ keep (at_one v) (x ∷ [])) (sym (keep_append (at_one v) (y ∷ []) ys)))
  where
    front : (t : Bool) → at_one v x ≡ t → (T (at_one v x) → keep (at_one v) (y ∷ ys) ≡ []) → keep (at_one v) (x ∷ y ∷ ys) ≡ keep (at_one v) (y ∷ ys) ++ keep (at_one v) (x ∷ [])
    front true e h =
        let z = h (subst (λ (b : Bool). T b) (sym e) tt) in
        keep_append (at_one v) (x ∷ []) (y ∷ ys) ∙ ap (λ (u : List Entry). keep (at_one v) (x ∷ []) ++ u) z ∙ append-nil (keep (at_one v) (x ∷ [])) ∙ ap (λ (u : List Entry). u ++ keep (at_one v) (x ∷ [])) (sym z)
    front false e h =
        let z = keep_none (at_one v) (x ∷ []) (e, tt) in
        keep_append (at_one v) (x ∷ []) (y ∷ ys) ∙ ap (λ (u : List Entry). u ++ keep (at_one v) (y ∷ ys)) z ∙ sym (append-nil (keep (at_one v) (y ∷ ys))) ∙ ap (λ (u : List Entry). keep (at_one v) (y ∷ ys) ++ u) (sym z)

pub place_each_stable : (v : Float) (t xs : List Entry) → F64 v → All Num t → Sorted t → All Num xs → keep (λ e. eq e.dist v) (place_each t xs) ≡ keep (λ e. eq e.dist v) t ++ keep (λ e. eq e.dist v) xs
unfolding place_each at_one
place_each_stable v t [] r a s h = unfold keep in sym (append-nil (keep (λ e. eq e.dist v) t))
place_each_stable v t (x ∷ xs) r a s h =
    place_each_stable v (place x t) xs r (place_all Num x t h.0 a) (place_sorted x t h.0 a s) h.1
    ∙ ap (λ (u : List Entry). u ++ keep (at_one v) xs) (place_keep v x t r h.0 a s)
    ∙ append_assoc (keep (at_one v) t) (keep (at_one v) (x ∷ [])) (keep (at_one v) xs)
    ∙ ap (λ (u : List Entry). keep (at_one v) t ++ u) (sym (keep_append (at_one v) (x ∷ []) xs))

-- ---- a NaN in the centre
abbrev pub Lost : Entry → Type 0
Lost e = e.dist ≡ nan

nan_less : T (less nan nan) → ⊥
unfolding less lt is_nan
nan_less h = h

lost_less : (x y : Entry) → Lost x → Lost y → T (less x.dist y.dist) → ⊥
lost_less x y p q h = nan_less (subst (λ (v : Float). T (less v nan)) p (subst (λ (v : Float). T (less x.dist v)) q h))

lost_place : (x : Entry) (ys : List Entry) → Lost x → All Lost ys → place x ys ≡ ys ++ (x ∷ [])
lost_place x [] p h = unfold place in refl
lost_place x (y ∷ ys) p h = place_pass x y ys (not_T (less x.dist y.dist) (lost_less x y p h.0)) ∙ ap {B = List Entry} (λ l. y ∷ l) (lost_place x ys p h.1)

lost_last : (x y : Entry) (ys : List Entry) → Lost x → T (worst (λ w. le w x.dist) (y ∷ ys)) → ⊥
unfolding worst
lost_last x y [] p h = subst (λ (b : Bool). T b) (le_nan y.dist) (subst (λ (v : Float). T (le y.dist v)) p h)
lost_last x y (z ∷ zs) p h = lost_last x z zs p h

lost_room : (k : ℕ) (x : Entry) (t : List Entry) → Lost x → All Lost t → length t < k → offer k x t ≡ t ++ (x ∷ [])
unfolding offer
lost_room k x t p a h = cond_same (λ (l : List Entry). l ≡ t ++ (x ∷ [])) (ltb (length t) k) _ _ (λ m. lost_place x t p a) (λ m. absurd (T_not (ltb (length t) k) m (lt→ltb (length t) k h)))

lost_full : (k : ℕ) (x y : Entry) (t : List Entry) → Lost x → All Lost (y ∷ t) → k ≤ suc (length t) → offer k x (y ∷ t) ≡ drop_last (y ∷ t) ++ (x ∷ [])
unfolding offer
lost_full k x y t p a h =
    cond_same (λ (l : List Entry). l ≡ drop_last (y ∷ t) ++ (x ∷ [])) (ltb (suc (length t)) k) _ _
    (λ m. absurd (let z = ltb→lt (suc (length t)) k m in omega arith))
    (λ m. cond_same (λ (l : List Entry). l ≡ drop_last (y ∷ t) ++ (x ∷ [])) (worst (λ w. le w x.dist) (y ∷ t)) (y ∷ t) (place x (drop_last (y ∷ t)))
    (λ n. absurd (lost_last x y t p n)) (λ n. lost_place x (drop_last (y ∷ t)) p (drop_all Lost (y ∷ t) a)))

all_snoc : (Q : Entry → Type 0) (t : List Entry) (x : Entry) → All Q t → Q x → All Q (t ++ (x ∷ []))
all_snoc Q t x a q = all_append Q t (x ∷ []) a (q, tt)

pub lost_few : (k : ℕ) (t xs : List Entry) → All Lost t → All Lost xs → length t + length xs ≤ k → offer_each k t xs ≡ t ++ xs
unfolding offer_each
lost_few k t [] a h n = sym (append-nil t)
lost_few k t (x ∷ xs) a h n =
    ap (λ (l : List Entry). offer_each k l xs) (lost_room k x t h.0 a (omega arith))
    ∙ lost_few k (t ++ (x ∷ [])) xs (all_snoc Lost t x a h.0) h.1 (omega (arith, length-append t (x ∷ [])))
    ∙ append_assoc t (x ∷ []) xs

drop_snoc : (t : List Entry) (x : Entry) → drop_last (t ++ (x ∷ [])) ≡ t
drop_snoc [] x = refl
drop_snoc (y ∷ []) x = refl
drop_snoc (y ∷ z ∷ zs) x = ap {B = List Entry} (λ l. y ∷ l) (drop_snoc (z ∷ zs) x)

lost_swap : (k : ℕ) (x y : Entry) (r : List Entry) → Lost x → Lost y → All Lost r → k ≤ suc (length r) → offer k x (r ++ (y ∷ [])) ≡ r ++ (x ∷ [])
lost_swap k x y [] p q a h = lost_full k x y [] p (q, tt) h
lost_swap k x y (z ∷ zs) p q a h =
    lost_full k x z (zs ++ (y ∷ [])) p (a.0, all_snoc Lost zs y a.1 q) (omega (arith, length-append zs (y ∷ [])))
    ∙ ap (λ (l : List Entry). l ++ (x ∷ [])) (drop_snoc (z ∷ zs) y)

-- a full table, and newcomers of which x is the last
lost_many : (k : ℕ) (r : List Entry) (y : Entry) (xs : List Entry) (x : Entry) → All Lost r → Lost y → All Lost xs → Lost x → k ≤ suc (length r) → offer_each k (r ++ (y ∷ [])) (xs ++ (x ∷ [])) ≡ r ++ (x ∷ [])
unfolding offer_each
lost_many k r y [] x a q h p e = lost_swap k x y r p q a e
lost_many k r y (z ∷ zs) x a q h p e = ap (λ (l : List Entry). offer_each k l (zs ++ (x ∷ []))) (lost_swap k z y r h.0 q a e) ∙ lost_many k r z zs x a h.0 h.1 p e

-- more than m entries, x the last of them, in a table of m + 1 places
pub lost_last_of : (m : ℕ) (t xs : List Entry) (x : Entry) → All Lost t → All Lost xs → Lost x → length t ≤ m → m ≤ length t + length xs → offer_each (suc m) t (xs ++ (x ∷ [])) ≡ take m (t ++ xs) ++ (x ∷ [])
unfolding offer_each
lost_last_of m t [] x a h p n l =
    lost_few (suc m) t (x ∷ []) a (p, tt) (omega arith)
    ∙ ap (λ (u : List Entry). u ++ (x ∷ [])) (sym (ap (take m) (append-nil t) ∙ take_all m t n))
lost_last_of m t (z ∷ zs) x a h p n l =
    ap (λ (u : List Entry). offer_each (suc m) u (zs ++ (x ∷ []))) (lost_room (suc m) z t h.0 a (omega arith))
    ∙ (elim (nat_total (suc (length t)) m) [
      | inl q ↦ lost_last_of m (t ++ (z ∷ [])) zs x (all_snoc Lost t z a h.0) h.1 p (omega (arith, length-append t (z ∷ []))) (omega (arith, length-append t (z ∷ [])))
          ∙ ap (λ (u : List Entry). take m u ++ (x ∷ [])) (append_assoc t (z ∷ []) zs)
      | inr q ↦ lost_many (suc m) t z zs x a h.0 h.1 p (omega arith) ∙ ap (λ (u : List Entry). u ++ (x ∷ [])) (sym (take_at t (z ∷ zs) m (omega arith)))
    ])

pub nan_centre : (m d : ℕ) (b : List Side) (c : List Float) (t : Tree d) (vs : List Point) (p : Point) → length c ≡ length b → T (not (clear c)) → tally (out b) (held d t) ≡ 0
    → visit d b c t ≡ vs ++ (p ∷ []) → m ≤ length vs → nearest (suc m) c d b t ≡ take m vs ++ (p ∷ [])
unfolding nearest
nan_centre m d b c t vs p e n h v l =
    let q : All Lost (map (entry c) vs ++ (entry c p ∷ [])) = subst (All Lost) (map_append (entry c) vs (p ∷ []))
    (map_all c Lost (vs ++ (p ∷ [])) (subst (All (λ (p : Point). Lost (entry c p))) v
    (all_map (λ (p : Point). T (lies b p)) (λ (p : Point). Lost (entry c p)) (visit d b c t) (λ p m. (fit_point b p c e m).1 n) (none_all (lies b) (visit d b c t) (visit_count d b c t (out b) ∙ h))))) in
    ap (λ (u : List Point). points (offer_each (suc m) [] (map (entry c) u))) v
    ∙ ap (λ (u : List Entry). points (offer_each (suc m) [] u)) (map_append (entry c) vs (p ∷ []))
    ∙ ap points (lost_last_of m [] (map (entry c) vs) (entry c p) tt (front (map (entry c) vs) (entry c p) q) (back (map (entry c) vs) (entry c p) q) zero-le (omega (arith, length-map vs (entry c))))
    ∙ map_append (λ (x : Entry). x.item) (take m (map (entry c) vs)) (entry c p ∷ [])
    ∙ ap (λ (u : List Point). u ++ (p ∷ [])) (map_take m (map (entry c) vs) ∙ ap (take m) (back_again vs))
  where
    front : (es : List Entry) (x : Entry) → All Lost (es ++ (x ∷ [])) → All Lost es
    front [] x a = tt
    front (y ∷ es) x a = (a.0, front es x a.1)

    back : (es : List Entry) (x : Entry) → All Lost (es ++ (x ∷ [])) → Lost x
    back [] x a = a.0
    back (y ∷ es) x a = back es x a.1

    back_again : (ps : List Point) → points (map (entry c) ps) ≡ ps
    back_again [] = refl
    back_again (q ∷ ps) = ap {B = List Point} (λ l. q ∷ l) (back_again ps)
