-- Each turn of a loop, and the functions above it, in terms of what is written. Assumes nothing.
use mathlib.Core.Path.{◌≡◌, refl, ap, ap₂, sym, subst, ◌∙◌}
use mathlib.Core.Logic.{◌≢◌}
use mathlib.Core.Bool.{Bool, true, false}
use mathlib.Core.List.{List, [], ◌∷◌}
use Prim.Native.Nat.{ℕ, zero, suc, ◌+◌, ◌-◌, ◌*◌, ◌/◌, ◌<◌, ◌≤◌}
use native.Mathlib.Omega.{arith}
use native.Mathlib.Numerals.{sub-one}
use lib.ListN.{length, get_or, set, drop}
use lib.Seq.{drop-cons}
use Rattle.words.specs.Words.{words}
use Rattle.words.proofs.Words.{length_words}
use Rattle.pool.specs.Writes.{Pool, both, kid, appended, pushed, taken, given, enough, pushed_down, given_down, named, cleared, cleared_from, emptied, turn_at, dealing, parted, Row, row, hooked, either, joining, laid, merged}
use Rattle.pool.specs.Meanings.{Tells, Empties, Splits, Merges}
use Rattle.pool.proofs.Lists.{ifz-yes, ifz-no}
use Rattle.pool.proofs.Worlds.{enough_tells}
use Rattle.pool.proofs.Clears.{emptied_world}
use Rattle.pool.proofs.Deals.{parted_world}
use Rattle.pool.proofs.Joins.{merged_world}

-- ---- has_groups
pub enough_end : (ways : ℕ) (n : List ℕ) (m h : ℕ) → m ≤ 0 → true ≡ enough ways n m h
unfolding enough
enough_end ways n zero h z = refl
enough_end ways n (suc m) h z = absurd (omega arith)

pub enough_stop : (ways : ℕ) (n : List ℕ) (m h : ℕ) → 0 < m → h ≡ 0 → false ≡ enough ways n m h
unfolding enough
enough_stop ways n zero h lt z = absurd (omega arith)
enough_stop ways n (suc m) h lt z = sym (ifz-yes h _ _ z)

pub enough_go : (ways : ℕ) (n : List ℕ) (m g h j v : ℕ) → m ≡ suc g → h ≢ 0 → j ≡ kid ways h 0 → v ≡ get_or n (4 * j) 0 → enough ways n g v ≡ enough ways n m h
unfolding enough
enough_go ways n m g h j v em z ej ev = rw em (ap (enough ways n g) (ev ∙ ap (λ a. get_or n (4 * a) 0) ej) ∙ sym (ifz-no h false (enough ways n g (get_or n (4 * kid ways h 0) 0)) z))

pub tells : (ways : ℕ) (n : List ℕ) (m : ℕ) (r : Bool) → r ≡ enough ways n m (get_or n 0 0) → (r ≡ enough ways n m (get_or n 0 0)) × Tells ways n m r
tells ways n m r e = (e, subst (λ b. Tells ways n m b) (sym e) (enough_tells ways n m))

-- ---- clear
pub pushed_end : (x : List ℕ) (p : ℕ) → p ≤ 1 → x ≡ pushed_down (p - 1) x
unfolding pushed_down
pushed_end x zero h = refl
pushed_end x (suc zero) h = refl
pushed_end x (suc (suc p)) h = absurd (omega arith)

pub pushed_go : (x y : List ℕ) (p q : ℕ) → 1 < p → q ≡ p - 1 → y ≡ pushed x q → pushed_down (q - 1) y ≡ pushed_down (p - 1) x
unfolding pushed_down
pushed_go x y zero q h eq e = absurd (omega arith)
pushed_go x y (suc zero) q h eq e = absurd (omega arith)
pushed_go x y (suc (suc p)) q h eq e =
    let eq' : q ≡ suc p = omega arith in
    rw (e, eq', sub-one (suc p), sub-one (suc (suc p)))

pub given_end : (ways : ℕ) (n : List ℕ) (k : ℕ) → k ≤ 1 → n ≡ given_down ways (k - 1) n
unfolding given_down
given_end ways n zero h = refl
given_end ways n (suc zero) h = refl
given_end ways n (suc (suc k)) h = absurd (omega arith)

pub given_go : (ways : ℕ) (n m : List ℕ) (k j : ℕ) → 1 < k → j ≡ k - 1 → m ≡ given ways n j → given_down ways (j - 1) m ≡ given_down ways (k - 1) n
unfolding given_down
given_go ways n m zero j h ej e = absurd (omega arith)
given_go ways n m (suc zero) j h ej e = absurd (omega arith)
given_go ways n m (suc (suc k)) j h ej e =
    let ej' : j ≡ suc k = omega arith in
    rw (e, ej', sub-one (suc k), sub-one (suc (suc k)))

pub places_freed : (s w y : List ℕ) (len p : ℕ) → len ≡ length s → p ≡ named (len / 4) → w ≡ set (words s) 0 0 → y ≡ pushed_down (p - 1) w → y ≡ pushed_down (named (length (words s)) - 1) (set (words s) 0 0)
places_freed s w y len p el ep ew e = e ∙ ap₂ (λ v u. pushed_down (v - 1) u) (ep ∙ ap named (omega (arith, el, length_words s))) ew

pub groups_freed : (ways : ℕ) (s w y : List ℕ) (len k : ℕ) → len ≡ length s → k ≡ named (len / 16 / ways) → w ≡ set (words s) 0 0 → y ≡ given_down ways (k - 1) w
    → y ≡ given_down ways (named (length (words s) / 4 / ways) - 1) (set (words s) 0 0)
groups_freed ways s w y len k el ek ew e = e ∙ ap₂ (λ v u. given_down ways (v - 1) u) (ek ∙ ap (λ v. named (v / ways)) (omega (arith, el, length_words s))) ew

pub empties : (ways : ℕ) (n n1 n2 x y : List ℕ) (i : ℕ) → n1 ≡ given_down ways (named (length n / 4 / ways) - 1) (set n 0 0) → n2 ≡ cleared n1 i → y ≡ pushed_down (named (length x) - 1) (set x 0 0)
    → (both n2 y ≡ emptied ways (both n x) i) × Empties ways (both n x) (both n2 y) i
unfolding emptied
empties ways n n1 n2 x y i e1 e2 ey =
    let e : both n2 y ≡ emptied ways (both n x) i = ap₂ both (e2 ∙ ap (λ w. cleared w i) e1) ey in
    (e, subst (λ r. Empties ways (both n x) r i) (sym e) (emptied_world ways (both n x) i))

-- ---- clear_nodes
pub cleared_end : (f : ℕ) (n : List ℕ) (i : ℕ) → f ≤ 0 → n ≡ cleared_from f n i
unfolding cleared_from
cleared_end zero n i h = refl
cleared_end (suc f) n i h = absurd (omega arith)

pub cleared_go : (f g : ℕ) (n m : List ℕ) (i : ℕ) → f ≡ suc g → m ≡ cleared n i → cleared_from g m (i + 1) ≡ cleared_from f n i
unfolding cleared_from
cleared_go f g n m i ef e = rw (ef, e) (ap (cleared_from g (cleared n i)) (omega arith))

-- ---- deal
pub deal_end : (ways k : ℕ) (ts : List ℕ) (f j : ℕ) (s : Pool) (q : ℕ) → f ≤ 0 → s ≡ dealing ways k ts f j s q
unfolding dealing
deal_end ways k ts zero j s q h = refl
deal_end ways k ts (suc f) j s q h = absurd (omega arith)

pub deal_start : (ways k : ℕ) (ts s : List ℕ) (r : Pool) (q : ℕ) → dealing ways k ts (length s / 4 - 0) 0 r q ≡ dealing ways k ts (length (words s)) 0 r q
deal_start ways k ts s r q = ap (λ f. dealing ways k ts f 0 r q) (omega (arith, length_words s))

pub deal_stop : (ways k : ℕ) (ts : List ℕ) (f j : ℕ) (s : Pool) (q : ℕ) → q ≡ 0 → s ≡ dealing ways k ts f j s q
unfolding dealing
deal_stop ways k ts zero j s q z = refl
deal_stop ways k ts (suc f) j s q z = sym (ifz-yes q _ _ z)

pub deal_go : (ways k : ℕ) (ts : List ℕ) (f g j : ℕ) (s r : Pool) (q v c i : ℕ) → f ≡ suc g → q ≢ 0 → v ≡ get_or s.links q 0 → c ≡ turn_at ways ts j → i ≡ kid ways k c → r ≡ appended s i q
    → dealing ways k ts g (j + 1) r v ≡ dealing ways k ts f j s q
unfolding dealing
deal_go ways k ts f g j s r q v c i ef nz ev ec ei er =
    let ej : j + 1 ≡ suc j = omega arith in
    rw (ef, ej, er, ei, ec, ev) (sym (ifz-no q _ _ nz))

-- ---- split
pub splits_none : (ways : ℕ) (ts : List ℕ) (n x : List ℕ) (i k : ℕ) → k ≡ get_or n 0 0 → k ≡ 0 → ((0 ≡ get_or n 0 0) × (both n x ≡ parted ways ts (both n x) i)) × Splits ways ts (both n x) (both n x) i 0
unfolding parted
splits_none ways ts n x i k ek z =
    let e : both n x ≡ parted ways ts (both n x) i = sym (ifz-yes (get_or n 0 0) _ _ (sym ek ∙ z)) in
    ((sym z ∙ ek, e), subst (λ a. Splits ways ts (both n x) (both n x) i a) (sym ek ∙ z) (subst (λ p. Splits ways ts (both n x) p i (get_or n 0 0)) (sym e) (parted_world ways ts (both n x) i)))

pub splits : (ways : ℕ) (ts : List ℕ) (n n1 n2 n3 x : List ℕ) (r : Pool) (i h u k j : ℕ) → u ≡ get_or n 0 0 → u ≢ 0 → h ≡ get_or n (4 * i + 1) 0 → k ≡ get_or n 0 0 → n1 ≡ taken ways n → j ≡ kid ways k 0 → n2 ≡ cleared_from ways n1 j
    → n3 ≡ set n2 (4 * i + 0) k → r ≡ dealing ways k ts (length x) 0 (both n3 x) h → ((k ≡ get_or n 0 0) × (r ≡ parted ways ts (both n x) i)) × Splits ways ts (both n x) r i k
unfolding parted
splits ways ts n n1 n2 n3 x r i h u k j eu nz eh ek e1 ej e2 e3 er =
    let e0 : 4 * i + 0 ≡ 4 * i = omega arith in
    let e : r ≡ parted ways ts (both n x) i = er ∙ rw (e3, e0, e2, ej, e1, eh, ek) (sym (ifz-no (get_or n 0 0) _ _ (λ z. nz (eu ∙ z)))) in
    ((ek, e), subst (λ a. Splits ways ts (both n x) r i a) (sym ek) (subst (λ p. Splits ways ts (both n x) p i (get_or n 0 0)) (sym e) (parted_world ways ts (both n x) i)))

-- ---- merge
pub join_end : (ways : ℕ) (n : List ℕ) (k : ℕ) (o : List ℕ) (j : ℕ) (r : Row) → length o ≤ j → r ≡ joining ways n k (drop j o) r
unfolding joining
join_end ways n k [] zero r h = refl
join_end ways n k [] (suc j) r h = refl
join_end ways n k (c ∷ o) zero r h = absurd (omega arith)
join_end ways n k (c ∷ o) (suc j) r h = join_end ways n k o j r (omega arith)

pub join_go : (ways : ℕ) (n : List ℕ) (k : ℕ) (o : List ℕ) (j : ℕ) (x y : List ℕ) (a b a' b' f t q : ℕ) → j < length o → q ≡ kid ways k (get_or o j 0) → f ≡ get_or n (4 * q + 1) 0 → t ≡ get_or n (4 * q + 2) 0 → y ≡ hooked x b f → a' ≡ either a f → b' ≡ either t b
    → joining ways n k (drop (j + 1) o) (row y a' b') ≡ joining ways n k (drop j o) (row x a b)
unfolding joining
join_go ways n k o j x y a b a' b' f t q h eq ef et ey ea eb =
    let ej : j + 1 ≡ suc j = omega arith in
    rw (drop-cons o j 0 h, ej, ey, ea, eb, ef, et, eq)

pub merges : (ways : ℕ) (order : List ℕ) (n n1 n2 x : List ℕ) (i k a b : ℕ) (y : List ℕ) → row y a b ≡ joining ways n k order (row x 0 0) → n1 ≡ laid n i a b → n2 ≡ given ways n1 k
    → (both n2 y ≡ merged ways order (both n x) i k) × Merges ways order (both n x) (both n2 y) i k
unfolding merged
merges ways order n n1 n2 x i k a b y ej e1 e2 =
    let e : both n2 y ≡ merged ways order (both n x) i k = ap₂ both (e2 ∙ ap (λ w. given ways w k) e1) refl ∙ ap (λ (r : Row). both (given ways (laid n i r.first r.last) k) r.links) ej in
    (e, subst (λ r. Merges ways order (both n x) r i k) (sym e) (merged_world ways order (both n x) i k))
