-- Two arrays in which a newcomer is swapped towards the front. Assumes nothing.
use mathlib.Core.Path.{◌≡◌, refl, ap, ap₂, sym, ◌∙◌, subst}
use mathlib.Core.Bool.{Bool, true, false, not}
use mathlib.Core.List.{List, [], ◌∷◌, ◌++◌, map, zip_with, append_assoc}
use Prim.Native.Nat.{ℕ, zero, suc, ◌+◌, ◌-◌, ◌<◌, ◌≤◌, min}
use native.Mathlib.Nat.{zero-add}
use native.Mathlib.Numerals.{add-one, sub-one}
use native.Mathlib.Omega.{arith}
use lib.ListN.{length, get_or, take, drop, set, length-append, length-map, length-set}
use lib.Seq.{append_snoc, drop-cons, drop-length, drop-set-lt, get_or_at, length-take-le, lt-length-set, set_at, set_split, sets, sets-eq, split_at, take-length, take-suc}
use lib.Dec.{T}
use lib.Ieee.{Float, nan}
use Rattle.model.specs.Searches.{At, less}
use Rattle.model.proofs.Nearest.{map_append}
use Rattle.knn.specs.Candidates.{at, dists, items, entries, ahead, settle}
use Rattle.knn.proofs.Order.{ahead_more, settle_front, settle_behind, settle_length}

-- ---- what the two arrays of a table hold
pub entries_length : (n : ℕ) (ds : List Float) (ps : List ℕ) → length (entries n ds ps) ≡ min n (min (length ds) (length ps))
unfolding zip_with
entries_length zero ds ps = omega arith
entries_length (suc n) [] ps = omega arith
entries_length (suc n) (d ∷ ds) [] = omega arith
entries_length (suc n) (d ∷ ds) (p ∷ ps) = omega (arith, entries_length n ds ps)

pub dists_entries : (n : ℕ) (ds : List Float) (ps : List ℕ) → n ≤ length ps → dists (entries n ds ps) ≡ take n ds
unfolding zip_with
dists_entries zero ds ps h = refl
dists_entries (suc n) [] ps h = refl
dists_entries (suc n) (d ∷ ds) [] h = absurd (omega arith)
dists_entries (suc n) (d ∷ ds) (p ∷ ps) h = ap {B = List Float} (λ l. d ∷ l) (dists_entries n ds ps (omega arith))

pub items_entries : (n : ℕ) (ds : List Float) (ps : List ℕ) → n ≤ length ds → items (entries n ds ps) ≡ take n ps
unfolding zip_with
items_entries zero ds ps h = refl
items_entries (suc n) [] ps h = absurd (omega arith)
items_entries (suc n) (d ∷ ds) [] h = refl
items_entries (suc n) (d ∷ ds) (p ∷ ps) h = ap {B = List ℕ} (λ l. p ∷ l) (items_entries n ds ps (omega arith))

-- an array whose first places are written
pub sets_front : {A : Type 0} (vs l : List A) → length vs ≤ length l → sets l 0 vs ≡ vs ++ drop (length vs) l
sets_front {A} vs l h = sets-eq vs l 0 (omega arith) ∙ ap (λ (n : ℕ). vs ++ drop n l) (zero-add (length vs))

-- ---- one array, by what it holds of each entry, with the newcomer at place i
module _ {A : Type 0} (f : At ℕ → A) (x : At ℕ) (t : List (At ℕ)) (rest : List A) where
  abbrev pub line : ℕ → List A
  line i = map f (take i t) ++ f x ∷ (map f (drop i t) ++ rest)

  -- the newcomer and the one before it
  pair : (j : ℕ) (e : At ℕ) → j < length t → line (suc j) ≡ map f (take j t) ++ f (get_or t j e) ∷ f x ∷ (map f (drop (suc j) t) ++ rest)
  pair j e h = ap (λ (l : List (At ℕ)). map f l ++ f x ∷ (map f (drop (suc j) t) ++ rest)) (take-suc t j e h) ∙ ap (λ (l : List A). l ++ f x ∷ (map f (drop (suc j) t) ++ rest)) (map_append f (take j t) (get_or t j e ∷ [])) ∙ append_assoc (map f (take j t)) (f (get_or t j e) ∷ []) _

  long : (j : ℕ) → j < length t → length (map f (take j t)) ≡ j
  long j h = length-map (take j t) f ∙ length-take-le j t (omega arith)

  pub line_at : (j : ℕ) (z : A) (e : At ℕ) → j < length t → get_or (line (suc j)) j z ≡ f (get_or t j e)
  line_at j z e h = ap (λ (l : List A). get_or l j z) (pair j e h) ∙ get_or_at (map f (take j t)) (f (get_or t j e)) _ z j (long j h)

  pub line_step : (j : ℕ) (y : A) (e : At ℕ) → j < length t → y ≡ f (get_or t j e) → set (set (line (suc j)) (suc j) y) j (f x) ≡ line j
  line_step j y e h q =
      ap (λ (l : List A). set (set l (suc j) y) j (f x)) (pair j e h)
      ∙ ap (λ (l : List A). set l j (f x)) (over (map f (take j t)) (f (get_or t j e)) (f x) _ y j (long j h))
      ∙ set_at (map f (take j t)) (f (get_or t j e)) (y ∷ (map f (drop (suc j) t) ++ rest)) (f x) j (long j h)
      ∙ ap (λ (v : A). map f (take j t) ++ f x ∷ v ∷ (map f (drop (suc j) t) ++ rest)) q
      ∙ ap (λ (l : List (At ℕ)). map f (take j t) ++ f x ∷ (map f l ++ rest)) (sym (drop-cons t j e h))
    where
      over : (ps : List A) (u v : A) (vs : List A) (w : A) (n : ℕ) → length ps ≡ n → set (ps ++ u ∷ v ∷ vs) (suc n) w ≡ ps ++ u ∷ w ∷ vs
      over ps u v vs w n k = ap (λ (l : List A). set l (suc n) w) (sym (append_snoc ps u (v ∷ vs))) ∙ set_at (ps ++ (u ∷ [])) v vs w (suc n) (length-append ps (u ∷ []) ∙ omega (arith, k)) ∙ append_snoc ps u (w ∷ vs)

  pub line_start : (l : List A) → map f t ≡ take (length t) l → drop (suc (length t)) l ≡ rest → length t < length l → set l (length t) (f x) ≡ line (length t)
  line_start l e r h = set_split l (length t) (f x) h ∙ ap₂ (λ (a b : List A). a ++ f x ∷ b) (sym e ∙ ap (map f) (sym (take-length t))) (r ∙ ap (λ (u : List (At ℕ)). map f u ++ rest) (sym (drop-length t)))

  pub line_done : (i : ℕ) (l : List A) → settle x t ≡ take i t ++ x ∷ drop i t → length t < length l → drop (suc (length t)) l ≡ rest → line i ≡ sets l 0 (map f (settle x t))
  line_done i l e h r =
      sym (append_assoc (map f (take i t)) (f x ∷ map f (drop i t)) rest)
      ∙ ap (λ (u : List A). u ++ rest) (sym (map_append f (take i t) (x ∷ drop i t)) ∙ ap (map f) (sym e))
      ∙ ap (λ (u : List A). map f (settle x t) ++ u) (sym r ∙ ap (λ (n : ℕ). drop n l) (sym n))
      ∙ sym (sets_front (map f (settle x t)) l (omega (arith, n)))
    where
      n : length (map f (settle x t)) ≡ suc (length t)
      n = length-map (settle x t) f ∙ settle_length x t

-- ---- both arrays, from place i on past all that the newcomer is less than
pub record Rising (x : At ℕ) (t : List (At ℕ)) (rd : List Float) (rp : List ℕ) (ds : List Float) (ps : List ℕ) (i : ℕ) : Type 0 where
  pub few : i ≤ length t
  pub past : T (ahead x.dist (drop i t))
  pub in_d : ds ≡ line (λ e. e.dist) x t rd i
  pub in_p : ps ≡ line (λ e. e.item) x t rp i

module _ (x : At ℕ) (t : List (At ℕ)) (rd : List Float) (rp : List ℕ) where
  pub rising_start : (ds : List Float) (ps : List ℕ) → dists t ≡ take (length t) ds → items t ≡ take (length t) ps → drop (suc (length t)) ds ≡ rd → drop (suc (length t)) ps ≡ rp → length t < length ds → length t < length ps
      → Rising x t rd rp (set ds (length t) x.dist) (set ps (length t) x.item) (length t)
  unfolding ahead
  rising_start ds ps ed ep qd qp h k = record {
    few = omega arith;
    past = subst (λ (l : List (At ℕ)). T (ahead x.dist l)) (sym (drop-length t)) tt;
    in_d = line_start (λ e. e.dist) x t rd ds ed qd h;
    in_p = line_start (λ e. e.item) x t rp ps ep qp k;
  }

  pub rising_at : (ds : List Float) (ps : List ℕ) (i : ℕ) (z : Float) → Rising x t rd rp ds ps (suc i) → get_or ds i z ≡ (get_or t i x).dist
  rising_at ds ps i z r = ap (λ (l : List Float). get_or l i z) r.in_d ∙ line_at (λ e. e.dist) x t rd i z x r.few

  pub rising_step : (ds : List Float) (ps : List ℕ) (i : ℕ) (y z : Float) (q : ℕ) → Rising x t rd rp ds ps (suc i) → y ≡ get_or ds i z → q ≡ get_or ps i 0 → T (less x.dist y)
      → Rising x t rd rp (set (set ds (suc i) y) i x.dist) (set (set ps (suc i) q) i x.item) i
  rising_step ds ps i y z q r ey eq l = record {
    few = omega (arith, r.few);
    past = subst (λ (u : List (At ℕ)). T (ahead x.dist u)) (sym (drop-cons t i x r.few)) (ahead_more x.dist (get_or t i x) (drop (suc i) t) (subst (λ (v : Float). T (less x.dist v)) e l) r.past);
    in_d = ap (λ (u : List Float). set (set u (suc i) y) i x.dist) r.in_d ∙ line_step (λ e. e.dist) x t rd i y x r.few e;
    in_p = ap (λ (u : List ℕ). set (set u (suc i) q) i x.item) r.in_p ∙ line_step (λ e. e.item) x t rp i q x r.few (eq ∙ ap (λ (u : List ℕ). get_or u i 0) r.in_p ∙ line_at (λ e. e.item) x t rp i 0 x r.few);
  }
    where
      e : y ≡ (get_or t i x).dist
      e = ey ∙ rising_at ds ps i z r

  -- where it stops, and where nothing is left to pass
  pub rising_stop : (ds : List Float) (ps : List ℕ) (i : ℕ) (y z : Float) → Rising x t rd rp ds ps (suc i) → y ≡ get_or ds i z → T (not (less x.dist y)) → settle x t ≡ take (suc i) t ++ x ∷ drop (suc i) t
  rising_stop ds ps i y z r ey l =
      ap (settle x) (split_at t i x r.few)
      ∙ settle_behind x (take i t) (get_or t i x) (drop (suc i) t) (subst (λ (v : Float). T (not (less x.dist v))) (ey ∙ rising_at ds ps i z r) l) r.past
      ∙ sym (append_assoc (take i t) (get_or t i x ∷ []) (x ∷ drop (suc i) t)) ∙ ap (λ (u : List (At ℕ)). u ++ x ∷ drop (suc i) t) (sym (take-suc t i x r.few))

  pub rising_end : (ds : List Float) (ps : List ℕ) → Rising x t rd rp ds ps 0 → settle x t ≡ take 0 t ++ x ∷ drop 0 t
  rising_end ds ps r = settle_front x t r.past

  pub rising_done : (ds : List Float) (ps : List ℕ) (i : ℕ) (ds₀ : List Float) (ps₀ : List ℕ) → Rising x t rd rp ds ps i → settle x t ≡ take i t ++ x ∷ drop i t → drop (suc (length t)) ds₀ ≡ rd → drop (suc (length t)) ps₀ ≡ rp → length t < length ds₀ → length t < length ps₀
      → (ds ≡ sets ds₀ 0 (dists (settle x t))) × (ps ≡ sets ps₀ 0 (items (settle x t)))
  rising_done ds ps i ds₀ ps₀ r e qd qp h k = (r.in_d ∙ line_done (λ e. e.dist) x t rd i ds₀ e h qd, r.in_p ∙ line_done (λ e. e.item) x t rp i ps₀ e k qp)

-- ---- the loop: from its start, where the newcomer was stored at place n
pub record Moving (ds₀ : List Float) (ps₀ : List ℕ) (n : ℕ) (d : Float) (p : ℕ) (ds : List Float) (ps : List ℕ) (i : ℕ) : Type 0 where
  pub same_d : length ds ≡ length ds₀
  pub same_p : length ps ≡ length ps₀
  pub room_d : n < length ds₀
  pub room_p : n < length ps₀
  pub few : i ≤ n
  pub rising : Rising (at d p) (entries n ds₀ ps₀) (drop (suc n) ds₀) (drop (suc n) ps₀) ds ps i

entries_set : (n : ℕ) (ds : List Float) (ps : List ℕ) (d : Float) (p : ℕ) → entries n (set ds n d) (set ps n p) ≡ entries n ds ps
unfolding zip_with
entries_set zero ds ps d p = refl
entries_set (suc n) [] ps d p = refl
entries_set (suc n) (e ∷ ds) [] d p = refl
entries_set (suc n) (e ∷ ds) (q ∷ ps) d p = ap {B = List (At ℕ)} (λ l. at e q ∷ l) (entries_set n ds ps d p)

module _ (ds : List Float) (ps : List ℕ) (n : ℕ) (d : Float) (p : ℕ) (h : n < length ds) (k : n < length ps) where
  all : length (entries n ds ps) ≡ n
  all = entries_length n ds ps ∙ omega arith

  pub moving_start : Moving (set ds n d) (set ps n p) n d p (set ds n d) (set ps n p) n
  moving_start = record {
    same_d = refl;
    same_p = refl;
    room_d = lt-length-set ds n d h;
    room_p = lt-length-set ps n p k;
    few = omega arith;
    rising = subst (λ (t : List (At ℕ)). Rising (at d p) t (drop (suc n) (set ds n d)) (drop (suc n) (set ps n p)) (set ds n d) (set ps n p) n) (sym (entries_set n ds ps d p))
        (subst (λ (m : ℕ). Rising (at d p) (entries n ds ps) (drop (suc n) (set ds n d)) (drop (suc n) (set ps n p)) (set ds m d) (set ps m p) m) all
        (rising_start (at d p) (entries n ds ps) _ _ ds ps (dists_entries n ds ps (omega arith) ∙ ap (λ (m : ℕ). take m ds) (sym all)) (items_entries n ds ps (omega arith) ∙ ap (λ (m : ℕ). take m ps) (sym all))
        (ap (λ (m : ℕ). drop (suc m) ds) all ∙ sym (drop-set-lt (suc n) ds n d (omega arith))) (ap (λ (m : ℕ). drop (suc m) ps) all ∙ sym (drop-set-lt (suc n) ps n p (omega arith))) (omega (arith, all)) (omega (arith, all))));
  }

  -- what it leaves
  pub moved : (ds' : List Float) (ps' : List ℕ) (i : ℕ) → Moving (set ds n d) (set ps n p) n d p ds' ps' i
      → (settle (at d p) (entries n (set ds n d) (set ps n p)) ≡ take i (entries n (set ds n d) (set ps n p)) ++ at d p ∷ drop i (entries n (set ds n d) (set ps n p)))
      → (ds' ≡ sets ds 0 (dists (settle (at d p) (entries n ds ps)))) × (ps' ≡ sets ps 0 (items (settle (at d p) (entries n ds ps))))
  moved ds' ps' i m e =
      rising_done (at d p) (entries n ds ps) _ _ ds' ps' i ds ps
      (subst (λ (t : List (At ℕ)). Rising (at d p) t (drop (suc n) (set ds n d)) (drop (suc n) (set ps n p)) ds' ps' i) (entries_set n ds ps d p) m.rising)
      (subst (λ (t : List (At ℕ)). settle (at d p) t ≡ take i t ++ at d p ∷ drop i t) (entries_set n ds ps d p) e)
      (ap (λ (m : ℕ). drop (suc m) ds) all ∙ sym (drop-set-lt (suc n) ds n d (omega arith))) (ap (λ (m : ℕ). drop (suc m) ps) all ∙ sym (drop-set-lt (suc n) ps n p (omega arith))) (omega (arith, all)) (omega (arith, all))

module _ (ds₀ : List Float) (ps₀ : List ℕ) (n : ℕ) (d : Float) (p : ℕ) (ds : List Float) (ps : List ℕ) where
  pub moving_step : (i : ℕ) → Moving ds₀ ps₀ n d p ds ps i → 0 < i → less d (get_or ds (i - 1) nan) ≡ true
      → Moving ds₀ ps₀ n d p (set (set ds (i - 1 + 1) (get_or ds (i - 1) nan)) (i - 1) d) (set (set ps (i - 1 + 1) (get_or ps (i - 1) 0)) (i - 1) p) (i - 1)
  moving_step zero m h l = absurd (omega arith)
  moving_step (suc i) m h l = subst (λ (j : ℕ). Moving ds₀ ps₀ n d p (set (set ds (j + 1) (get_or ds j nan)) j d) (set (set ps (j + 1) (get_or ps j 0)) j p) j) (sym (sub-one (suc i))) (rw add-one (record {
    same_d = length-set (set ds (suc i) (get_or ds i nan)) i d ∙ length-set ds (suc i) (get_or ds i nan) ∙ m.same_d;
    same_p = length-set (set ps (suc i) (get_or ps i 0)) i p ∙ length-set ps (suc i) (get_or ps i 0) ∙ m.same_p;
    room_d = m.room_d;
    room_p = m.room_p;
    few = omega (arith, m.few);
    rising = rising_step (at d p) _ _ _ ds ps i (get_or ds i nan) nan (get_or ps i 0) m.rising refl refl (subst T (sym l ∙ ap (λ (j : ℕ). less d (get_or ds j nan)) (sub-one (suc i))) tt);
  }))

  pub moving_stop : (i : ℕ) → Moving ds₀ ps₀ n d p ds ps i → 0 < i → less d (get_or ds (i - 1) nan) ≡ false
      → settle (at d p) (entries n ds₀ ps₀) ≡ take i (entries n ds₀ ps₀) ++ at d p ∷ drop i (entries n ds₀ ps₀)
  moving_stop zero m h l = absurd (omega arith)
  moving_stop (suc i) m h l = rising_stop (at d p) _ _ _ ds ps i (get_or ds i nan) nan m.rising refl (subst (λ (b : Bool). T (not b)) (sym l ∙ ap (λ (j : ℕ). less d (get_or ds j nan)) (sub-one (suc i))) tt)

  pub moving_end : (i : ℕ) → Moving ds₀ ps₀ n d p ds ps i → i ≡ 0 → settle (at d p) (entries n ds₀ ps₀) ≡ take i (entries n ds₀ ps₀) ++ at d p ∷ drop i (entries n ds₀ ps₀)
  moving_end zero m e = rising_end (at d p) _ _ _ ds ps m.rising
  moving_end (suc i) m e = absurd (omega arith)
