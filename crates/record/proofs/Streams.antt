-- Laws of the records of an input, for any meaning `of` of one record: a line that has ended is read, of one that has not 133 bytes are enough, and what is left
-- at the end is one record or none. Assumes nothing.
use Prim.Native.Nat.{ℕ, zero, suc, ◌+◌, ◌-◌, ◌≤◌, ◌<◌, suc-le-suc}
use mathlib.Core.Path.{◌≡◌, refl, sym, ap, ap₂, ◌∙◌}
use mathlib.Core.Bool.{Bool, true, false, cond}
use mathlib.Core.List.{List, [], ◌∷◌, ◌++◌, append-nil}
use Rattle.std.specs.Prelude.{Option, None, Some, MatchOption, unwrap_or}
use native.Mathlib.Nat.{not-suc-le-zero}
use native.Mathlib.Omega.{arith}
use lib.ListN.{length, get_or, take, drop, get_or-append, length-append, length-take, length-drop, drop_of_length-le}
use lib.Seq.{take-append-le, drop-append-le, take-take, get_or-take, get_or-drop, drop-drop, length-take-le, take-nil, take-length, take_all}
use lib.Pointwise.{pointwise}
use lib.Dec.{eqb, leb}
use borrow.Author.Tests.{lt-leb, le-leb, eq-eqb, ne_eqb}
use denote.Bor.{Bor}
use Rattle.model.specs.Calls.{Call}
use Rattle.record.specs.Text.{grow, split, same}
use Rattle.record.specs.Input.{strip, ended, unended, parts, mark, unmarked, begun, records, Unended}
use Rattle.record.proofs.Parts.{by_lt, is_no, same_eq, same_is, split_found, split_some, split_other}

-- ---- where a record stands

pub begun_later : (b : Bool) (s : List ℕ) → b ≡ false → s ≡ begun b s
unfolding begun
begun_later b s e = simp e

pub strip_return : (s : List ℕ) → get_or s (length s - 1) 0 ≡ 13 → take (length s - 1) s ≡ strip s
unfolding strip
strip_return s e = simp (eq-eqb (get_or s (length s - 1) 0) 13 e)

pub strip_other : (s : List ℕ) → (get_or s (length s - 1) 0 ≡ 13 → ⊥) → s ≡ strip s
unfolding strip
strip_other s e = simp (ne_eqb (get_or s (length s - 1) 0) 13 e)

pub strip_none : (s : List ℕ) → length s ≡ 0 → s ≡ strip s
unfolding strip
strip_none [] h = refl
strip_none (b ∷ s) h = absurd (omega arith)

-- what the library makes of the mark
pub begun_is : (b : Bool) (s : List ℕ) (o : Option (Bor (List ℕ))) (d r : Bor (List ℕ)) (L : Bor (List ℕ) → Type 0) → b ≡ true → r ≡ unwrap_or o d → d.now ≡ s
    → MatchOption o (pointwise eqb (take 3 s) mark ≡ false) (λ x. (pointwise eqb (take 3 s) mark ≡ true) × (x.now ≡ drop 3 s) × L x) → r.now ≡ begun b s
unfolding begun unmarked
begun_is b s None d r L e q f m = ap (λ (x : Bor (List ℕ)). x.now) q ∙ f ∙ simp (e, sym (same_is (take 3 s) mark) ∙ m)
begun_is b s (Some x) d r L e q f m = ap (λ (x : Bor (List ℕ)). x.now) q ∙ m.1 ∙ simp (e, sym (same_is (take 3 s) mark) ∙ m.0)

-- what is left behind some first bytes ends where all of them end
drop_end : (k : ℕ) (s : List ℕ) → drop (length s - length (drop k s)) s ≡ drop k s
drop_end k s =
    by_lt k (length s)
    (λ h. ap (λ (j : ℕ). drop j s) {x = length s - length (drop k s)} {y = k} (omega (arith, length-drop k s)))
    (λ h. drop_of_length-le s (omega (arith, length-drop k s)) ∙ sym (drop_of_length-le s h))

begun_by : (t : Bool) (s : List ℕ) → (drop (length s - length (cond t (drop 3 s) s)) s ≡ cond t (drop 3 s) s) × (length (cond t (drop 3 s) s) ≤ length s)
begun_by true s = (drop_end 3 s, omega (arith, length-drop 3 s))
begun_by false s = (ap (λ (j : ℕ). drop j s) {x = length s - length s} {y = 0} (omega arith), omega arith)

begun_end : (start : Bool) (s : List ℕ) → (drop (length s - length (begun start s)) s ≡ begun start s) × (length (begun start s) ≤ length s)
unfolding begun unmarked
begun_end true s = begun_by (same (take 3 s) mark) s
begun_end false s = begun_by false s

pub begun_shorter : (start : Bool) (s left : List ℕ) → left ≡ begun start s → length left ≤ length s
begun_shorter start s left e = omega (arith, ap length e, (begun_end start s).1)

strip_by_take : (t : Bool) (s : List ℕ) → (take (length (cond t (take (length s - 1) s) s)) s ≡ cond t (take (length s - 1) s) s) × (length (cond t (take (length s - 1) s) s) ≤ length s)
strip_by_take true s = (ap (λ (j : ℕ). take j s) (length-take-le (length s - 1) s (omega arith)), omega (arith, length-take (length s - 1) s))
strip_by_take false s = (take-length s, omega arith)

strip_front : (s : List ℕ) → (take (length (strip s)) s ≡ strip s) × (length (strip s) ≤ length s)
unfolding strip
strip_front s = strip_by_take (eqb (get_or s (length s - 1) 0) 13) s

-- the place of a record, by how many bytes are left after the mark and before the carriage return
pub stands : (start : Bool) (s left r : List ℕ) → left ≡ begun start s → r ≡ strip left
    → (length s - length left ≤ length s - length left + length r) × (length s - length left + length r ≤ length s) × (leb (length r) 128 ≡ leb (length (strip (begun start s))) 128)
    × (take (length s - length left + length r - (length s - length left)) (drop (length s - length left) s) ≡ strip (begun start s)) × (drop (length s - length left) s ≡ begun start s)
stands start s left r e f = (
  omega arith,
  omega (arith, begun_shorter start s left e, ap length f, (strip_front left).1),
  ap (λ (t : List ℕ). leb (length t) 128) (f ∙ ap strip e),
  ap (λ (j : ℕ). take j (drop (length s - length left) s)) {x = length s - length left + length r - (length s - length left)} {y = length r} (omega arith)
      ∙ ap (take (length r)) (there ∙ sym e) ∙ ap (λ (t : List ℕ). take (length t) left) f ∙ (strip_front left).0 ∙ ap strip e,
  there,
)
  where
    there : drop (length s - length left) s ≡ begun start s
    there = ap (λ (t : List ℕ). drop (length s - length t) s) e ∙ (begun_end start s).0

-- a record stands at one place of its line
pub stands_once : (start : Bool) (s : List ℕ) (from to from' to' : ℕ)
    → (from ≤ to) × (to ≤ length s) × (take (to - from) (drop from s) ≡ strip (begun start s)) × (drop from s ≡ begun start s)
    → (from' ≤ to') × (to' ≤ length s) × (take (to' - from') (drop from' s) ≡ strip (begun start s)) × (drop from' s ≡ begun start s) → (from ≡ from') × (to ≡ to')
stands_once start s from to from' to' f g = (
  omega (arith, f.0, f.1, g.0, g.1, length-drop from s, length-drop from' s, ap length f.3, ap length g.3),
  omega (arith, f.0, f.1, g.0, g.1, length-drop from s, length-drop from' s, ap length f.3, ap length g.3, length-take (to - from) (drop from s), length-take (to' - from') (drop from' s), ap length f.2, ap length g.2),
)

-- ---- a line that has ended

-- what it says, by how long its record is
pub ended_long : (of : List ℕ → Option Call) (s : List ℕ) → 128 < length (strip s) → None ≡ ended of s
unfolding ended
ended_long of s h = simp (lt-leb (length (strip s)) 128 h)

pub ended_short : (of : List ℕ → Option Call) (s t : List ℕ) (c : Option Call) → t ≡ strip s → length t ≤ 128 → c ≡ of t → c ≡ ended of s
unfolding ended
ended_short of s t c e h q = q ∙ ap of e ∙ sym (ap (λ (b : Bool). cond b (of (strip s)) None) (le-leb (length (strip s)) 128 (omega (arith, h, ap length e))))

parts_cons : (of : List ℕ → Option Call) (p : List ℕ) (ps : List (List ℕ)) → (ps ≡ [] → ⊥) → parts of (p ∷ ps) ≡ ended of p ∷ parts of ps
unfolding parts
parts_cons of p [] h = absurd (h refl)
parts_cons of p (q ∷ ps) h = refl

-- a line feed of s stays the first of s ++ u
split_line : (s u : List ℕ) (e : ℕ) → e < length s → ((k : ℕ) → k < e → get_or s k 0 ≡ 10 → ⊥) → get_or s e 0 ≡ 10 → split 10 (s ++ u) ≡ take e s ∷ split 10 (drop (e + 1) s ++ u)
split_line s u e h f g =
    let l = length-append s u in
    split_found 10 (s ++ u) e (omega arith) (λ k i q. f k i (sym (get_or-append s u 0 k (omega arith)) ∙ q)) (get_or-append s u 0 e h ∙ g)
    ∙ ap₂ (λ (t v : List ℕ). t ∷ split 10 v) (take-append-le e s u (omega arith)) (drop-append-le (e + 1) s u (omega arith))

later_line : (of : List ℕ → Option Call) (s u : List ℕ) (e : ℕ) → e < length s → ((k : ℕ) → k < e → get_or s k 0 ≡ 10 → ⊥) → get_or s e 0 ≡ 10
    → records of false (s ++ u) ≡ ended of (take e s) ∷ records of false (drop (e + 1) s ++ u)
unfolding records begun
later_line of s u e h f g = ap (parts of) (split_line s u e h f g) ∙ parts_cons of (take e s) (split 10 (drop (e + 1) s ++ u)) (split_some 10 (drop (e + 1) s ++ u))

-- the mark lies within the first line
no_mark : (s : List ℕ) (e : ℕ) → e < 3 → get_or s e 0 ≡ 10 → same (take 3 s) mark ≡ true → ⊥
no_mark s zero h g q = let z = sym (get_or-take 3 s 0 0 (omega arith)) ∙ ap (λ (t : List ℕ). get_or t 0 0) (same_eq (take 3 s) mark q) in omega arith
no_mark s (suc zero) h g q = let z = sym (get_or-take 3 s 1 0 (omega arith)) ∙ ap (λ (t : List ℕ). get_or t 1 0) (same_eq (take 3 s) mark q) in omega arith
no_mark s (suc (suc zero)) h g q = let z = sym (get_or-take 3 s 2 0 (omega arith)) ∙ ap (λ (t : List ℕ). get_or t 2 0) (same_eq (take 3 s) mark q) in omega arith
no_mark s (suc (suc (suc e))) h g q = omega arith

short_no : (s : List ℕ) (e : ℕ) → e < 3 → same (take 3 (take e s)) mark ≡ true → ⊥
short_no s e h q = omega (arith, ap length (same_eq (take 3 (take e s)) mark q), length-take 3 (take e s), length-take e s)

mark_line : (s u : List ℕ) (e : ℕ) → e < length s → get_or s e 0 ≡ 10 → same (take 3 (s ++ u)) mark ≡ same (take 3 (take e s)) mark
mark_line s u e h g =
    by_lt e 3
    (λ l. is_no _ (no_mark (s ++ u) e l (get_or-append s u 0 e h ∙ g)) ∙ sym (is_no _ (short_no s e l)))
    (λ l. ap (λ (t : List ℕ). same t mark) (take-append-le 3 s u (omega arith) ∙ sym (take-take 3 e s l)))

drop_three : (k : ℕ) (s : List ℕ) → drop 3 (take (suc (suc (suc k))) s) ≡ take k (drop 3 s)
drop_three k [] = sym (take-nil k)
drop_three k (a ∷ []) = sym (take-nil k)
drop_three k (a ∷ b ∷ []) = sym (take-nil k)
drop_three k (a ∷ b ∷ c ∷ s) = refl

marked_line : (of : List ℕ → Option Call) (k : ℕ) (s u : List ℕ) → suc (suc (suc k)) < length s → ((j : ℕ) → j < suc (suc (suc k)) → get_or s j 0 ≡ 10 → ⊥) → get_or s (suc (suc (suc k))) 0 ≡ 10
    → records of false (drop 3 s ++ u) ≡ ended of (drop 3 (take (suc (suc (suc k))) s)) ∷ records of false (drop (suc (suc (suc k)) + 1) s ++ u)
marked_line of k s u h f g =
    let e : 3 + k ≡ suc (suc (suc k)) = omega arith in
    let d : 3 + (k + 1) ≡ suc (suc (suc k)) + 1 = omega arith in
    later_line of (drop 3 s) u k (omega (arith, length-drop 3 s)) (λ j i q. f (3 + j) (omega arith) (sym (get_or-drop 3 s j 0) ∙ q)) (get_or-drop 3 s k 0 ∙ ap (λ (j : ℕ). get_or s j 0) e ∙ g)
    ∙ ap₂ (λ (p v : List ℕ). ended of p ∷ records of false (v ++ u)) (sym (drop_three k s)) (drop-drop (k + 1) 3 s ∙ ap (λ (j : ℕ). drop j s) d)

-- the first line of all, by whether it begins with the mark
first_line : (of : List ℕ → Option Call) (s u : List ℕ) (e : ℕ) (q : Bool) → same (take 3 (take e s)) mark ≡ q → e < length s → ((k : ℕ) → k < e → get_or s k 0 ≡ 10 → ⊥) → get_or s e 0 ≡ 10
    → records of true (s ++ u) ≡ ended of (unmarked (take e s)) ∷ records of false (drop (e + 1) s ++ u)
unfolding records begun unmarked
first_line of s u e false q h f g = simp (mark_line s u e h g, q) (later_line of s u e h f g)
first_line of s u zero true q h f g = absurd (short_no s zero (omega arith) q)
first_line of s u (suc zero) true q h f g = absurd (short_no s 1 (omega arith) q)
first_line of s u (suc (suc zero)) true q h f g = absurd (short_no s 2 (omega arith) q)
first_line of s u (suc (suc (suc k))) true q h f g =
    simp (mark_line s u (suc (suc (suc k))) h g, q)
    (ap (records of false) (drop-append-le 3 s u (omega arith)) ∙ marked_line of k s u h f g)

-- a line is read, whatever comes after
pub records_line : (of : List ℕ → Option Call) (start : Bool) (s u : List ℕ) (e : ℕ) → e < length s → ((k : ℕ) → k < e → get_or s k 0 ≡ 10 → ⊥) → get_or s e 0 ≡ 10
    → records of start (s ++ u) ≡ ended of (begun start (take e s)) ∷ records of false (drop (e + 1) s ++ u)
unfolding begun
records_line of true s u e h f g = first_line of s u e (same (take 3 (take e s)) mark) refl h f g
records_line of false s u e h f g = later_line of s u e h f g

-- ---- the beginning of a line before more bytes

glue : List ℕ → List (List ℕ) → List (List ℕ)
glue p [] = p ∷ []
glue p (q ∷ qs) = (p ++ q) ∷ qs

grow_glue : (b : ℕ) (p : List ℕ) (ps : List (List ℕ)) → grow b (glue p ps) ≡ glue (b ∷ p) ps
unfolding glue grow
grow_glue b p [] = refl
grow_glue b p (q ∷ qs) = refl

glue_nil : (ps : List (List ℕ)) → (ps ≡ [] → ⊥) → ps ≡ glue [] ps
unfolding glue
glue_nil [] h = absurd (h refl)
glue_nil (q ∷ qs) h = refl

split_glue : (p u : List ℕ) → Unended p → split 10 (p ++ u) ≡ glue p (split 10 u)
split_glue [] u f = glue_nil (split 10 u) (split_some 10 u)
split_glue (b ∷ p) u f =
    split_other 10 b (p ++ u) (f 0 (omega arith)) ∙ ap (grow b) (split_glue p u (λ k h. f (suc k) (suc-le-suc h))) ∙ grow_glue b p (split 10 u)

-- ---- a line that is too long

strip_by : (t : Bool) (s : List ℕ) → length s ≤ length (cond t (take (length s - 1) s) s) + 1
strip_by true s = omega (arith, length-take (length s - 1) s)
strip_by false s = omega arith

strip_length : (s : List ℕ) → length s ≤ length (strip s) + 1
unfolding strip
strip_length s = strip_by (eqb (get_or s (length s - 1) 0) 13) s

ended_over : (of : List ℕ → Option Call) (s : List ℕ) → 130 ≤ length s → ended of s ≡ None
unfolding ended
ended_over of s h = simp (lt-leb (length (strip s)) 128 (omega (arith, strip_length s)))

-- what comes after the first part
after_first : (List ℕ → Option Call) → List (List ℕ) → List (Option Call)
after_first of [] = []
after_first of (q ∷ []) = []
after_first of (q ∷ r ∷ ps) = parts of (r ∷ ps)

pub unended_some : (s : List ℕ) → 1 ≤ length s → unended s ≡ None ∷ []
unfolding unended
unended_some [] h = absurd (not-suc-le-zero h)
unended_some (b ∷ s) h = refl

parts_over : (of : List ℕ → Option Call) (p : List ℕ) (ps : List (List ℕ)) → 130 ≤ length p → parts of (glue p ps) ≡ None ∷ after_first of ps
unfolding parts glue after_first
parts_over of p [] h = unended_some p (omega arith)
parts_over of p (q ∷ []) h = unended_some (p ++ q) (omega (arith, length-append p q))
parts_over of p (q ∷ r ∷ ps) h = ap (λ (c : Option Call). c ∷ parts of (r ∷ ps)) (ended_over of (p ++ q) (omega (arith, length-append p q)))

later_over : (of : List ℕ → Option Call) (p u : List ℕ) → Unended p → 130 ≤ length p → records of false (p ++ u) ≡ None ∷ after_first of (split 10 u)
unfolding records begun
later_over of p u f h = ap (parts of) (split_glue p u f) ∙ parts_over of p (split 10 u) h

pub unended_take : (n : ℕ) (s : List ℕ) → Unended s → Unended (take n s)
unended_take n s f k h q = f k (omega (arith, h, length-take n s)) (sym (get_or-take n s k 0 (omega (arith, h, length-take n s))) ∙ q)

unended_drop : (n : ℕ) (s : List ℕ) → Unended s → Unended (drop n s)
unended_drop n s f k h q = f (n + k) (omega (arith, length-drop n s)) (sym (get_or-drop n s k 0) ∙ q)

-- the first line of all, too long
first_over : (of : List ℕ → Option Call) (s u : List ℕ) (t : Bool) → same (take 3 s) mark ≡ t → Unended s → 133 ≤ length s → records of true (s ++ u) ≡ None ∷ after_first of (split 10 u)
unfolding records begun unmarked
first_over of s u true e f h =
    simp (take-append-le 3 s u (omega arith), e)
    (ap (records of false) (drop-append-le 3 s u (omega arith)) ∙ later_over of (drop 3 s) u (unended_drop 3 s f) (omega (arith, length-drop 3 s)))
first_over of s u false e f h = simp (take-append-le 3 s u (omega arith), e) (later_over of s u f (omega arith))

any_over : (of : List ℕ → Option Call) (start : Bool) (s u : List ℕ) → Unended s → 133 ≤ length s → records of start (s ++ u) ≡ None ∷ after_first of (split 10 u)
any_over of true s u f h = first_over of s u (same (take 3 s) mark) refl f h
any_over of false s u f h = later_over of s u f (omega arith)

-- of the beginning of a line 133 bytes are enough: the mark, 128, a carriage return and one more
pub records_clipped : (of : List ℕ → Option Call) (start : Bool) (s u : List ℕ) → Unended s → records of start (s ++ u) ≡ records of start (take 133 s ++ u)
records_clipped of start s u f =
    by_lt (length s) 133
    (λ l. ap (λ (t : List ℕ). records of start (t ++ u)) (sym (take_all 133 s (omega arith))))
    (λ l. any_over of start s u f l ∙ sym (any_over of start (take 133 s) u (unended_take 133 s f) (omega (arith, length-take-le 133 s l))))

-- ---- the end

unended_begun : (start : Bool) (s : List ℕ) → Unended s → Unended (begun start s)
unfolding begun unmarked
unended_begun true s f = go (same (take 3 s) mark)
  where
    go : (t : Bool) → Unended (cond t (drop 3 s) s)
    go true = unended_drop 3 s f
    go false = f
unended_begun false s f = f

one_part : (s : List ℕ) → Unended s → split 10 s ≡ s ∷ []
unfolding glue split
one_part s f = ap (split 10) (sym (append-nil s)) ∙ split_glue s [] f ∙ ap (λ (t : List ℕ). t ∷ []) (append-nil s)

-- what is left without a line end is one record, or none
pub records_end : (of : List ℕ → Option Call) (start : Bool) (s : List ℕ) → Unended s → records of start s ≡ unended (begun start s)
unfolding records parts
records_end of start s f = ap (parts of) (one_part (begun start s) (unended_begun start s f))
