-- The next number up that the library's `f64::next_up` promises is the one of specs/. Assumes nothing.
use mathlib.Core.Path.{◌≡◌, refl, sym, ap, ◌∙◌, subst}
use mathlib.Core.Bool.{Bool, true, false, cond}
use Prim.Native.Nat.{ℕ, ◌+◌, ◌-◌, ◌*◌, ◌%◌, ◌≤◌, ◌<◌, zero-le}
use native.Mathlib.Omega.{arith}
use native.Mathlib.Nat.{le_of_eq, le_trans, zero-add}
use lib.Dec.{T, eqb}
use lib.Ieee.{Float, nan, inf, fin, Format, binary32, binary64, fits, is_nan, lt, size, span, climb, hid, ones, top, of_bits, to_bits}
use Rattle.std.proofs.lemmas.Bool.{eq-eqb, eqb-false, ne_eqb}
use Rattle.std.proofs.Math.Facts.{eqb_yes}
use Rattle.std.specs.Float as library
use Rattle.floats.specs.Values.{plus_zero}
use Rattle.floats.specs.Next.{next_up}
use Rattle.floats.proofs.Order.{sgn, num?, mag, zero_fits}
use Rattle.floats.proofs.Next.{code, code_mono, Below, Under, below_zero, under_top, next_below, next_above, next_last, to_bits_code, code_most, signed_mod, ones_lt_top}

number : (x : Float) → T (num? x) → is_nan x ≡ false
unfolding is_nan
number nan u = absurd u
number (inf s) u = refl
number (fin s m e) u = refl

-- by the pattern: what is below it without the sign, c, and whether the sign is set
module _ (f : Format) (x : Float) (b c : ℕ) where
  falls : b ≡ top f + c → b % top f ≡ c → 0 < c → c ≤ ones f * hid f → library.next_up_by_bits f x b ≡ of_bits f (b - 1)
  falls e m h k = rw (ne_eqb b (ones f * hid f) (λ q. past (top f) (ones_lt_top f) e q), ne_eqb (b % top f) 0 (λ q. some m q h), ne_eqb b (b % top f) (λ q. more (top f) (b % top f) (ones_lt_top f) e m q))
    where
      past : (t : ℕ) → ones f * hid f < t → b ≡ t + c → b ≡ ones f * hid f → ⊥
      past t l e q = omega arith

      some : {r : ℕ} → r ≡ c → r ≡ 0 → 0 < c → ⊥
      some e q h = omega arith

      more : (t r : ℕ) → ones f * hid f < t → b ≡ t + c → r ≡ c → b ≡ r → ⊥
      more t r l e m q = omega arith

  from_zero : ¬ (b ≡ ones f * hid f) → b % top f ≡ 0 → library.next_up_by_bits f x b ≡ of_bits f (b % top f + 1)
  from_zero n m = rw (ne_eqb b (ones f * hid f) n, m)

  rises : b ≡ c → b % top f ≡ c → c + 1 ≤ ones f * hid f → library.next_up_by_bits f x b ≡ of_bits f (b % top f + 1)
  rises e m k = go (eqb c 0) refl
    where
      past : (o : ℕ) → c + 1 ≤ o → b ≡ o → ⊥
      past o k q = omega arith

      go : (t : Bool) → eqb c 0 ≡ t → library.next_up_by_bits f x b ≡ of_bits f (b % top f + 1)
      go true h = from_zero (past (ones f * hid f) k) (m ∙ eqb_yes (subst T (sym h) tt))
      go false h = rw (ne_eqb b (ones f * hid f) (past (ones f * hid f) k), ne_eqb (b % top f) 0 (λ q. eqb-false c 0 h (sym m ∙ q)), eq-eqb b (b % top f) (e ∙ sym m), m ∙ sym e)

-- below zero, between zero and +∞, and what nothing exceeds
below : (f : Format) (x : Float) → T (fits f x) → Below f x → library.next_up f x ≡ of_bits f (to_bits f x - 1)
below f x p b =
    let e = to_bits_code f x b.num_x in
    rw (number x b.num_x) (falls f x (to_bits f x) (code f x) (e ∙ ap (λ t. cond t (top f) 0 + code f x) b.sign) (ap (λ n. n % top f) e ∙ signed_mod f (sgn x) (code f x) (code_most f x p)) b.some (code_most f x p))

zero_code : (f : Format) → code f plus_zero ≡ 0
unfolding size span climb
zero_code binary32 = refl
zero_code binary64 = refl

under : (f : Format) (x : Float) → T (fits f x) → Under f x → library.next_up f x ≡ of_bits f (to_bits f x % top f + 1)
under f x p u =
    rw (number x u.num_x) (go (sgn x) refl (to_bits_code f x u.num_x))
  where
    least : {n m : ℕ} → n ≤ m → m ≡ 0 → n ≡ 0
    least h e = omega arith

    no_size : {s : Bool} {m : ℕ} → s ≡ true → cond s 0 m ≡ m → m ≤ 0
    no_size {s} {m} h e = le_of_eq (sym e ∙ ap (λ t. cond t 0 m) h)

    past : (b t c o : ℕ) → o < t → b ≡ t + c → b ≡ o → ⊥
    past b t c o l e q = omega arith

    room : {c o : ℕ} → c + 1 ≤ o → c ≤ o
    room h = omega arith

    left : (t : Bool) → to_bits f x ≡ cond t (top f) 0 + code f x → to_bits f x % top f ≡ code f x
    left t e = ap (λ n. n % top f) e ∙ signed_mod f t (code f x) (room u.room)

    go : (t : Bool) → sgn x ≡ t → to_bits f x ≡ cond (sgn x) (top f) 0 + code f x → library.next_up_by_bits f x (to_bits f x) ≡ of_bits f (to_bits f x % top f + 1)
    go false h e = let d = e ∙ ap (λ t. cond t (top f) 0 + code f x) h in rises f x (to_bits f x) (code f x) (d ∙ zero-add (code f x)) (left false d) u.room
    go true h e =
        let d = e ∙ ap (λ t. cond t (top f) 0 + code f x) h in
        let small : mag f x ≤ mag f plus_zero = le_trans (no_size h u.counted) zero-le in
        from_zero f x (to_bits f x) (code f x) (past (to_bits f x) (top f) (code f x) (ones f * hid f) (ones_lt_top f) d)
        (left true d ∙ least (code_mono f x plus_zero p (zero_fits f) u.num_x tt small) (zero_code f))

last : (f : Format) (x : Float) → lt x plus_zero ≡ false → lt x (inf false) ≡ false → library.next_up f x ≡ x
unfolding is_nan lt
last f nan h k = refl
last f (inf true) h k = (cc)
last f (inf false) h k = rw (eq-eqb (to_bits f (inf false)) (ones f * hid f) (to_bits_code f (inf false) tt ∙ zero-add (ones f * hid f)))
last f (fin s m e) h k = (cc)

pub as_library : (f : Format) (x : Float) → T (fits f x) → library.next_up f x ≡ next_up f x
as_library f x p = go (lt x plus_zero) (lt x (inf false)) refl refl
  where
    go : (s t : Bool) → lt x plus_zero ≡ s → lt x (inf false) ≡ t → library.next_up f x ≡ next_up f x
    go true t h k = below f x p (below_zero f x p h) ∙ sym (next_below f x h)
    go false true h k = under f x p (under_top f x p h k) ∙ sym (next_above f x h k)
    go false false h k = last f x h k ∙ sym (next_last f x h k)
