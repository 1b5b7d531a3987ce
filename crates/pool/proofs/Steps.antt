-- Each way through the code, in terms of what is written. Assumes nothing.
use mathlib.Core.Path.{◌≡◌, ap, ap₂, sym, subst, ◌∙◌}
use mathlib.Core.Logic.{◌≢◌}
use mathlib.Core.List.{List}
use Prim.Native.Nat.{ℕ, zero, suc, ◌+◌, ◌*◌, ◌<◌, ◌≤◌, min}
use native.Mathlib.Omega.{arith}
use lib.ListN.{length, get_or, set}
use Rattle.words.specs.Words.{words}
use Rattle.words.proofs.Words.{words_out, words_set_out}
use Rattle.pool.specs.Writes.{both, kid, lowered, ended, appended, relasted, cut_out, popped, pushed, taken, given}
use Rattle.pool.specs.Meanings.{Appends, Cuts, TakesPlace, GivesPlace, TakesGroup, GivesGroup}
use Rattle.pool.proofs.Lists.{by-eq}
use Rattle.pool.proofs.Leaves.{app_first, app_later, cut_first, cut_later}
use Rattle.pool.proofs.Worlds.{append_world, cut_world, take_place_world, push_world, take_group_world, give_world}

-- ---- a node that no slice has: the number of its words stops at the largest that is no place
pub far_field : (s : List ℕ) (k j : ℕ) → length s < 18446744073709551616 → j ≡ min k 18446744073709551615 → get_or (words s) j 0 ≡ get_or (words s) k 0
far_field s k j ls e = by-eq j k (ap (λ w. get_or (words s) w 0)) (λ ne. words_out s j (omega (arith, ne)) ∙ sym (words_out s k (omega (arith, ne))))

pub far_set : (s : List ℕ) (k j v : ℕ) → length s < 18446744073709551616 → j ≡ min k 18446744073709551615 → set (words s) j v ≡ set (words s) k v
far_set s k j v ls e = by-eq j k (ap (λ w. set (words s) w v)) (λ ne. sym (words_set_out s j v (omega (arith, ne))) ∙ words_set_out s k v (omega (arith, ne)))

-- at most 255 ways of 32 bits
pub product_small : (w k : ℕ) → w < 256 → k < 4294967296 → w * k ≤ 1095216660225
product_small w k lw lk = omega (arith, up_to 255 w (omega arith))
  where
    up_to : (j w : ℕ) → w ≤ j → w * k ≤ j * k
    up_to zero zero h = omega arith
    up_to zero (suc w) h = absurd (omega arith)
    up_to (suc j) zero h = omega arith
    up_to (suc j) (suc w) h = omega (arith, up_to j w (omega arith))

-- ---- lists
-- what a function does word by word, and so to a tree
so : {A : Type 0} {r t : A} (P : A → Type 0) → r ≡ t → P t → (r ≡ t) × P r
so P e h = (e, subst P (sym e) h)

pub appends_first : (n n1 n2 x x1 : List ℕ) (i p b : ℕ) → b ≡ get_or n (4 * i + 2) 0 → b ≡ 0 → x1 ≡ set x p 0 → n1 ≡ set n (4 * i + 1) p → n2 ≡ ended n1 i p
    → (both n2 x1 ≡ appended (both n x) i p) × Appends (both n x) (both n2 x1) i p
appends_first n n1 n2 x x1 i p b eb z ex e1 e2 =
    so (λ r. Appends (both n x) r i p) (ap₂ both (e2 ∙ ap (λ w. ended w i p) e1) ex ∙ sym (app_first (both n x) i p (sym eb ∙ z))) (append_world (both n x) i p)

pub appends_later : (n n1 x x1 x2 : List ℕ) (i p b : ℕ) → b ≡ get_or n (4 * i + 2) 0 → b ≢ 0 → x1 ≡ set x p 0 → x2 ≡ set x1 b p → n1 ≡ ended n i p
    → (both n1 x2 ≡ appended (both n x) i p) × Appends (both n x) (both n1 x2) i p
appends_later n n1 x x1 x2 i p b eb z e1 e2 en =
    so (λ r. Appends (both n x) r i p) (ap₂ both en (e2 ∙ ap₂ (λ w v. set w v p) e1 eb) ∙ sym (app_later (both n x) i p (λ k. z (eb ∙ k)))) (append_world (both n x) i p)

pub cuts_first : (n n1 n2 n3 x : List ℕ) (i p b v : ℕ) → v ≡ get_or x p 0 → n1 ≡ lowered n i → n2 ≡ relasted n1 i v b → b ≡ 0 → n3 ≡ set n2 (4 * i + 1) v
    → (both n3 x ≡ cut_out (both n x) i p b) × Cuts (both n x) (both n3 x) i p b
cuts_first n n1 n2 n3 x i p b v ev e1 e2 z e3 =
    so (λ r. Cuts (both n x) r i p b)
    (ap (λ w. both w x) (e3 ∙ ap₂ (λ w u. set w (4 * i + 1) u) (e2 ∙ ap₂ (λ w u. relasted w i u b) e1 ev) ev) ∙ sym (cut_first (both n x) i p b z)) (cut_world (both n x) i p b)

pub cuts_later : (n n1 n2 x x1 : List ℕ) (i p b v : ℕ) → v ≡ get_or x p 0 → n1 ≡ lowered n i → n2 ≡ relasted n1 i v b → b ≢ 0 → x1 ≡ set x b v
    → (both n2 x1 ≡ cut_out (both n x) i p b) × Cuts (both n x) (both n2 x1) i p b
cuts_later n n1 n2 x x1 i p b v ev e1 e2 z e3 =
    so (λ r. Cuts (both n x) r i p b)
    (ap₂ both (e2 ∙ ap₂ (λ w u. relasted w i u b) e1 ev) (e3 ∙ ap (set x b) ev) ∙ sym (cut_later (both n x) i p b z)) (cut_world (both n x) i p b)

-- ---- free places
pub takes_place : (x y : List ℕ) (p q : ℕ) → p ≡ get_or x 0 0 → q ≡ get_or x p 0 → y ≡ set x 0 q → ((p ≡ get_or x 0 0) × (y ≡ popped x)) × TakesPlace x y p
unfolding popped
takes_place x y p q ep eq e =
    let d : y ≡ popped x = e ∙ ap (set x 0) (eq ∙ ap (λ v. get_or x v 0) ep) in
    ((ep, d), subst (λ v. TakesPlace x y v) (sym ep) (subst (λ w. TakesPlace x w (get_or x 0 0)) (sym d) (take_place_world x)))

pub gives_place : (x x1 y : List ℕ) (p q : ℕ) → q ≡ get_or x 0 0 → x1 ≡ set x p q → y ≡ set x1 0 p → (y ≡ pushed x p) × GivesPlace x y p
unfolding pushed
gives_place x x1 y p q eq e1 e = so (λ w. GivesPlace x w p) (e ∙ ap (λ w. set w 0 p) (e1 ∙ ap (set x p) eq)) (push_world x p)

-- ---- free groups
pub takes_group : (ways : ℕ) (n m : List ℕ) (k j v : ℕ) → k ≡ get_or n 0 0 → j ≡ kid ways k 0 → v ≡ get_or n (4 * j) 0 → m ≡ set n 0 v → ((k ≡ get_or n 0 0) × (m ≡ taken ways n)) × TakesGroup ways n m k
unfolding taken
takes_group ways n m k j v ek ej ev e =
    let d : m ≡ taken ways n = e ∙ ap (set n 0) (ev ∙ ap (λ a. get_or n (4 * a) 0) (ej ∙ ap (λ a. kid ways a 0) ek)) in
    ((ek, d), subst (λ a. TakesGroup ways n m a) (sym ek) (subst (λ w. TakesGroup ways n w (get_or n 0 0)) (sym d) (take_group_world ways n)))

pub gives_group : (ways : ℕ) (n n1 m : List ℕ) (k h j : ℕ) → h ≡ get_or n 0 0 → j ≡ kid ways k 0 → n1 ≡ set n (4 * j + 0) h → m ≡ set n1 0 k → (m ≡ given ways n k) × GivesGroup ways n m k
unfolding given
gives_group ways n n1 m k h j eh ej e1 e =
    so (λ w. GivesGroup ways n w k) (e ∙ ap (λ w. set w 0 k) (e1 ∙ ap₂ (set n) (omega (arith, ej)) eh)) (give_world ways n k)
