-- The table's own order: how it is computed, that it is an order, and where a newcomer goes in it. Assumes nothing.
use mathlib.Core.Path.{◌≡◌, refl, ap, ap₂, sym, ◌∙◌, subst}
use mathlib.Core.Logic.{◌⊎◌, inl, inr}
use mathlib.Core.Bool.{Bool, true, false, not, ◌&&◌, ◌||◌}
use mathlib.Core.List.{List, [], ◌∷◌, ◌++◌, drop_last}
use Prim.Native.Nat.{ℕ, suc}
use lib.ListN.{length}
use lib.Dec.{T, ltb, T_not, not_T}
use lib.Ieee.{Float, nan, inf, fin, binary64, le, lt, eq, is_nan}
use lib.Ieee.Bits.{is_true}
use Rattle.floats.proofs.Order.{le_transitive, lt→le, lt→nle, num?}
use Rattle.floats.proofs.Theorems.{NoNan, equal_reflexive, order_strict}
use Rattle.model.specs.Searches.{At, less, place, offer, worst}
use Rattle.model.specs.Soundness.{All}
use Rattle.model.proofs.Counts.{cond_same}
use Rattle.model.proofs.First.{place_front, place_pass}
use Rattle.model.proofs.Inside.{F64}
use Rattle.model.proofs.Nearest.{less_lt, nless_nlt, not_lt, place_all, drop_all}
use Rattle.knn.specs.Candidates.{ahead, settle, offered, InOrder}

-- ---- the order by IEEE 754's comparisons: two of them, and one is the same for every neighbour
self : (x : Float) → F64 x → NoNan x → eq x x ≡ true
self x p u = is_true (eq x x) (equal_reflexive x p u)

two : (x y : Float) → F64 x → F64 y → NoNan x → NoNan y → eq x x && not (le y x) ≡ lt x y || false
two x y p q u v = ap (λ (t : Bool). t && not (le y x)) (self x p u) ∙ sym (order_strict x y p q u v) ∙ or_no (lt x y)
  where
    or_no : (t : Bool) → t ≡ t || false
    or_no true = refl
    or_no false = refl

one : (x : Float) → F64 x → NoNan x → eq x x && not (le nan x) ≡ lt x nan || true
unfolding le
one x p u = ap (λ (t : Bool). t && true) (self x p u) ∙ or_yes (lt x nan)
  where
    or_yes : (t : Bool) → true ≡ t || true
    or_yes true = refl
    or_yes false = refl

pub less_is : (x y : Float) → F64 x → F64 y → eq x x && not (le y x) ≡ less x y
unfolding less is_nan
less_is nan y p q = unfold eq lt in none y
  where
    none : (y : Float) → false ≡ false || (is_nan y && false)
    none nan = refl
    none (inf s) = refl
    none (fin s m e) = refl
less_is (inf s) nan p q = one (inf s) p tt
less_is (inf s) (inf t) p q = two (inf s) (inf t) p q tt tt
less_is (inf s) (fin t m e) p q = two (inf s) (fin t m e) p q tt tt
less_is (fin s m e) nan p q = one (fin s m e) p tt
less_is (fin s m e) (inf t) p q = two (fin s m e) (inf t) p q tt tt
less_is (fin s m e) (fin t n f) p q = two (fin s m e) (fin t n f) p q tt tt

by_test {ℓ} : {C : Type ℓ} (t : Bool) → (T t → C) → (T (not t) → C) → C
by_test true f g = f tt
by_test false f g = g tt

and_both : (s t : Bool) → T s → T t → T (s && t)
and_both true t h k = k
and_both false t h k = h

and_not : (s t : Bool) → T (not s) → T (not (s && t))
and_not true t h = absurd h
and_not false t h = tt

not_and : (s t : Bool) → T (not t) → T (not (s && t))
not_and true t h = h
not_and false t h = tt

-- ---- it is an order, also with NaN
num_or : (x : Float) → T (num? x) ⊎ (x ≡ nan)
num_or nan = inr refl
num_or (inf s) = inl tt
num_or (fin s m e) = inl tt

less_nan : (x : Float) → T (num? x) → T (less x nan)
unfolding less is_nan lt
less_nan nan u = absurd u
less_nan (inf s) u = tt
less_nan (fin s m e) u = tt

nan_not_less : (z : Float) → T (not (less nan z))
unfolding less is_nan lt
nan_not_less nan = tt
nan_not_less (inf s) = tt
nan_not_less (fin s m e) = tt

-- what is not less than y, where y is not less than z, is not less than z
less_weak : (x y z : Float) → F64 x → F64 y → F64 z → T (not (less x y)) → T (not (less y z)) → T (not (less x z))
less_weak x y z p q r h k = elim (num_or x) [
  | inr e ↦ subst (λ (v : Float). T (not (less v z))) (sym e) (nan_not_less z)
  | inl u ↦ elim (num_or y) [
    | inr e ↦ absurd (T_not (less x nan) (subst (λ (v : Float). T (not (less x v))) e h) (less_nan x u))
    | inl v ↦ elim (num_or z) [
      | inr e ↦ absurd (T_not (less y nan) (subst (λ (v : Float). T (not (less y v))) e k) (less_nan y v))
      | inl w ↦ not_T (less x z) (λ l. lt→nle binary64 x z p r (less_lt x z w l)
          (le_transitive binary64 z y x r q p (not_lt y z q r v w (nless_nlt y z k)) (not_lt x y p q u v (nless_nlt x y h))))
    ]
  ]
]

less_not : (x y : Float) → F64 x → F64 y → T (less x y) → T (not (less y x))
less_not x y p q h = elim (num_or y) [
  | inr e ↦ subst (λ (v : Float). T (not (less v x))) (sym e) (nan_not_less x)
  | inl v ↦ not_T (less y x) (λ l. elim (num_or x) [
    | inr e ↦ T_not (less nan y) (nan_not_less y) (subst (λ (v : Float). T (less v y)) e h)
    | inl u ↦ lt→nle binary64 x y p q (less_lt x y v h) (lt→le y x (less_lt y x u l))
  ])
]

-- what is less than y is less than all that are not less than y
less_far : (x y z : Float) → F64 x → F64 y → F64 z → T (less x y) → T (not (less z y)) → T (less x z)
less_far x y z p q r h k = by_test (less x z) (λ l. l) (λ n. absurd (T_not (less x y) (less_weak x z y p r q n k) h))

-- ---- in a table in its own order a newcomer settles where the model places it
module _ {A : Type 0} where
  abbrev pub F64s : List (At A) → Type 0
  F64s t = All (λ y. F64 y.dist) t

  pub ahead_more : (x : Float) (y : At A) (ys : List (At A)) → T (less x y.dist) → T (ahead x ys) → T (ahead x (y ∷ ys))
  unfolding ahead
  ahead_more x y ys h k = and_both (less x y.dist) (ahead x ys) h k

  ahead_not : (x : Float) (us : List (At A)) (y : At A) (vs : List (At A)) → T (not (less x y.dist)) → T (not (ahead x (us ++ y ∷ vs)))
  unfolding ahead
  ahead_not x [] y vs h = and_not (less x y.dist) (ahead x vs) h
  ahead_not x (u ∷ us) y vs h = not_and (less x u.dist) (ahead x (us ++ y ∷ vs)) (ahead_not x us y vs h)

  pub settle_front : (x : At A) (t : List (At A)) → T (ahead x.dist t) → settle x t ≡ x ∷ t
  unfolding settle
  settle_front x [] h = refl
  settle_front x (y ∷ ys) h = cond_same (λ (l : List (At A)). l ≡ x ∷ y ∷ ys) (ahead x.dist (y ∷ ys)) _ _ (λ l. refl) (λ l. absurd (T_not (ahead x.dist (y ∷ ys)) l h))

  settle_pass : (x y : At A) (ys : List (At A)) → T (not (ahead x.dist (y ∷ ys))) → settle x (y ∷ ys) ≡ y ∷ settle x ys
  unfolding settle
  settle_pass x y ys h = cond_same (λ (l : List (At A)). l ≡ y ∷ settle x ys) (ahead x.dist (y ∷ ys)) _ _ (λ l. absurd (T_not (ahead x.dist (y ∷ ys)) h l)) (λ l. refl)

  pub settle_length : (x : At A) (t : List (At A)) → length (settle x t) ≡ suc (length t)
  unfolding settle
  settle_length x [] = refl
  settle_length x (y ∷ ys) = cond_same (λ (l : List (At A)). length l ≡ suc (suc (length ys))) (ahead x.dist (y ∷ ys)) _ _ (λ l. refl) (λ l. ap suc (settle_length x ys))

  -- behind the last that it is not less than
  pub settle_behind : (x : At A) (us : List (At A)) (y : At A) (vs : List (At A)) → T (not (less x.dist y.dist)) → T (ahead x.dist vs)
      → settle x (us ++ y ∷ vs) ≡ us ++ y ∷ x ∷ vs
  settle_behind x [] y vs n h = settle_pass x y vs (ahead_not x.dist [] y vs n) ∙ ap {B = List (At A)} (λ l. y ∷ l) (settle_front x vs h)
  settle_behind x (u ∷ us) y vs n h = settle_pass x u (us ++ y ∷ vs) (ahead_not x.dist (u ∷ us) y vs n) ∙ ap {B = List (At A)} (λ l. u ∷ l) (settle_behind x us y vs n h)

  ahead_all : (x y : At A) (ys : List (At A)) → F64 x.dist → F64 y.dist → F64s ys → T (less x.dist y.dist) → All (λ z. T (not (less z.dist y.dist))) ys → T (ahead x.dist ys)
  ahead_all x y [] p q f h s = unfold ahead in tt
  ahead_all x y (z ∷ zs) p q f h s = ahead_more x.dist z zs (less_far x.dist y.dist z.dist p q f.0 h s.0) (ahead_all x y zs p q f.1 h s.1)

  pub settle_place : (x : At A) (t : List (At A)) → F64 x.dist → F64s t → InOrder t → settle x t ≡ place x t
  settle_place x [] p f s = unfold settle place in refl
  settle_place x (y ∷ ys) p f s = by_test (less x.dist y.dist)
      (λ h. settle_front x (y ∷ ys) (ahead_more x.dist y ys h (ahead_all x y ys p f.0 f.1 h s.0)) ∙ sym (place_front x y ys h))
      (λ n. settle_pass x y ys (ahead_not x.dist [] y ys n) ∙ ap {B = List (At A)} (λ l. y ∷ l) (settle_place x ys p f.1 s.1) ∙ sym (place_pass x y ys n))

  -- ---- and the order is kept
  not_less_all : (x y : At A) (ys : List (At A)) → F64 x.dist → F64 y.dist → F64s ys → T (not (less y.dist x.dist)) → All (λ z. T (not (less z.dist y.dist))) ys → All (λ z. T (not (less z.dist x.dist))) ys
  not_less_all x y [] p q f h s = tt
  not_less_all x y (z ∷ zs) p q f h s = (less_weak z.dist y.dist x.dist f.0 q p s.0 h, not_less_all x y zs p q f.1 h s.1)

  pub place_order : (x : At A) (t : List (At A)) → F64 x.dist → F64s t → InOrder t → InOrder (place x t)
  unfolding place
  place_order x [] p f s = (tt, tt)
  place_order x (y ∷ ys) p f s =
      cond_same InOrder (less x.dist y.dist) (x ∷ y ∷ ys) (y ∷ place x ys)
      (λ l. let k = less_not x.dist y.dist p f.0 l in ((k, not_less_all x y ys p f.0 f.1 k s.0), s))
      (λ l. (place_all (λ (z : At A). T (not (less z.dist y.dist))) x ys l s.0, place_order x ys p f.1 s.1))

  pub place_length : (x : At A) (t : List (At A)) → length (place x t) ≡ suc (length t)
  unfolding place
  place_length x [] = refl
  place_length x (y ∷ ys) = cond_same (λ (l : List (At A)). length l ≡ suc (suc (length ys))) (less x.dist y.dist) (x ∷ y ∷ ys) (y ∷ place x ys) (λ l. refl) (λ l. ap suc (place_length x ys))

  drop_order : (t : List (At A)) → InOrder t → InOrder (drop_last t)
  drop_order [] s = tt
  drop_order (y ∷ []) s = tt
  drop_order (y ∷ z ∷ zs) s = (drop_all (λ (e : At A). T (not (less e.dist y.dist))) (z ∷ zs) s.0, drop_order (z ∷ zs) s.1)

  -- ---- an offer to a table in its own order is the model's, and leaves such a table
  pub offered_is : (k : ℕ) (x : At A) (t : List (At A)) → F64 x.dist → F64s t → InOrder t → offered k x t ≡ offer k x t
  unfolding offered offer
  offered_is k x t p f s =
      ap₂ (λ (a b : List (At A)). elim (ltb (length t) k) [ true ↦ a | false ↦ elim (worst (λ w. le w x.dist) t) [ true ↦ t | false ↦ b ] ])
      (settle_place x t p f s) (settle_place x (drop_last t) p (drop_all (λ (e : At A). F64 e.dist) t f) (drop_order t s))

  pub offer_order : (k : ℕ) (x : At A) (t : List (At A)) → F64 x.dist → F64s t → InOrder t → InOrder (offer k x t)
  unfolding offer
  offer_order k x t p f s =
      cond_same InOrder (ltb (length t) k) (place x t) _ (λ l. place_order x t p f s)
      (λ l. cond_same InOrder (worst (λ w. le w x.dist) t) t (place x (drop_last t)) (λ m. s)
      (λ m. place_order x (drop_last t) p (drop_all (λ (e : At A). F64 e.dist) t f) (drop_order t s)))

  -- k = 0 keeps nothing
  pub keeps_nothing : (x : At A) → offer 0 x [] ≡ []
  unfolding offer worst
  keeps_nothing x = refl
