-- Laws of records that are answered one after the other. Over any meaning `of` of one record. Assumes nothing.
use mathlib.Core.Path.{◌≡◌, refl, sym, ap, ap₂, ◌∙◌, subst}
use mathlib.Core.Bool.{Bool, true, false, ◌||◌}
use lib.Dec.{T}
use mathlib.Core.List.{List, [], ◌∷◌, ◌++◌, append_assoc, append-nil}
use Rattle.std.specs.Prelude.{Option}
use Prim.Native.Nat.{ℕ}
use Rattle.model.specs.Calls.{Kind, State, Call}
use Rattle.record.specs.Input.{records}
use Rattle.replies.specs.Lines.{answer, changed, lines, state}
use Rattle.replies.specs.Programs.{Fed}

-- ---- lines of many records
pub lines_append : (k : Kind) (a : State) (xs ys : List (Option Call)) → lines k a (xs ++ ys) ≡ lines k a xs ++ lines k (state k a xs) ys
unfolding lines state
lines_append k a [] ys = refl
lines_append k a (x ∷ xs) ys =
    let b = (answer k a x).state in
    ap (λ (l : List ℕ). (answer k a x).line ++ l) (lines_append k b xs ys) ∙ sym (append_assoc (answer k a x).line (lines k b xs) (lines k (state k b xs) ys))

pub state_append : (k : Kind) (a : State) (xs ys : List (Option Call)) → state k a (xs ++ ys) ≡ state k (state k a xs) ys
unfolding state
state_append k a [] ys = refl
state_append k a (x ∷ xs) ys = state_append k (answer k a x).state xs ys

-- ---- what changes nothing
pub neither : (a b : Bool) → (a || b) ≡ false → (a ≡ false) × (b ≡ false)
neither true b e = absurd (subst T e tt)
neither false b e = (refl, e)

pub changed_append : (k : Kind) (a : State) (xs ys : List (Option Call)) → changed k a (xs ++ ys) ≡ false → (changed k a xs ≡ false) × (changed k (state k a xs) ys ≡ false)
unfolding changed state
changed_append k a [] ys e = (refl, e)
changed_append k a (x ∷ xs) ys e =
    let b = (answer k a x).state in
    let h = neither (answer k a x).changes (changed k b (xs ++ ys)) e in
    let r = changed_append k b xs ys h.1 in
    (ap (λ (c : Bool). c || changed k b xs) h.0 ∙ r.0, r.1)

-- ---- a part of the input that was answered
module _ (k : Kind) (of : List ℕ → Option Call) where
  -- nothing was read
  pub fed_none : (a : State) (start : Bool) (s : List ℕ) → Fed k of a start s [] a start s []
  unfolding lines state
  fed_none a start s = record { same = λ u. refl; printed_is = refl; state_is = refl }

  -- one record
  pub fed_one : (a : State) (start next : Bool) (s rest : List ℕ) (c : Option Call) → ((u : List ℕ) → records of start (s ++ u) ≡ c ∷ records of next (rest ++ u)) → Fed k of a start s (c ∷ []) (answer k a c).state next rest (answer k a c).line
  unfolding lines state
  fed_one a start next s rest c e = record { same = e; printed_is = sym (append-nil (answer k a c).line); state_is = refl }

  -- one part after the other
  pub fed_then : {a b d : State} {start next last : Bool} {s t u p q : List ℕ} {x y : List (Option Call)} → Fed k of a start s x b next t p → Fed k of b next t y d last u q → Fed k of a start s (x ++ y) d last u (p ++ q)
  fed_then {a} {b} {d} {start} {next} {last} {s} {t} {u} {p} {q} {x} {y} f g = record {
    same = λ v. f.same v ∙ ap (λ (l : List (Option Call)). x ++ l) (g.same v) ∙ sym (append_assoc x y (records of last (u ++ v)));
    printed_is = ap₂ (λ (l m : List ℕ). l ++ m) f.printed_is (g.printed_is ∙ ap (λ (z : State). lines k z y) f.state_is) ∙ sym (lines_append k a x y);
    state_is = g.state_is ∙ ap (λ (z : State). state k z y) f.state_is ∙ sym (state_append k a x y);
  }
