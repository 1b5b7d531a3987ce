-- What turns from the very start of an input print and hold: the lines of the records of the whole input and the state after them, however it was cut. Over any kind of tree and any meaning `of` of
-- one record.
use Prim.Native.Nat.{ℕ}
use mathlib.Core.Path.{◌≡◌, refl, sym, ap, ap₂, ◌∙◌, subst}
use mathlib.Core.Bool.{Bool, true, false}
use mathlib.Core.List.{List, [], ◌∷◌, ◌++◌, append_assoc, append-nil}
use Rattle.std.specs.Prelude.{Option}
use lib.ListN.{take}
use Rattle.model.specs.Calls.{Call, Kind, State, broken}
use Rattle.trees.specs.Pieces.{Pieces}
use Rattle.record.specs.Input.{Unended, records, unended}
use Rattle.record.proofs.Reading.{no}
use Rattle.record.proofs.Streams.{records_clipped}
use Rattle.replies.specs.Lines.{answer, lines, state}
use Rattle.replies.specs.Programs.{Fed, Keeps}
use Rattle.replies.proofs.Fed.{fed_none, fed_then, lines_append, state_append}
use Rattle.turns.specs.Places.{Finished, Turns, begin, came, carried, given, does_go_on, turn}
use Rattle.turns.specs.declared.Place.{Place}

-- a record with no line end leaves the state
pub unended_state : (k : Kind) (a : State) (s : List ℕ) → state k a (unended s) ≡ a
unfolding unended state answer
unended_state k a [] = refl
unended_state k a (b ∷ s) = refl

-- the beginning of an input was answered: some records of it
record Answered (k : Kind) (of : List ℕ → Option Call) (text : List ℕ) (a : State) (start : Bool) (rest printed : List ℕ) : Type 0 where
  said : List (Option Call)
  fed : Fed k of broken true text said a start rest printed

module _ (k : Kind) (of : List ℕ → Option Call) where
  -- of a line that has not ended 133 bytes are enough
  pub fed_kept : {a b : State} {start next : Bool} {s rest printed : List ℕ} {x : List (Option Call)} → Unended rest → Fed k of a start s x b next rest printed → Fed k of a start s x b next (take 133 rest) printed
  fed_kept {next = next} {rest = rest} {x = x} u f =
      record { same = λ v. f.same v ∙ ap (λ (l : List (Option Call)). x ++ l) (records_clipped of next rest v u); printed_is = f.printed_is; state_is = f.state_is }

  -- bytes that come behind the rest come behind the whole
  fed_more : {a b : State} {start next : Bool} {s rest printed : List ℕ} {x : List (Option Call)} (u : List ℕ) → Fed k of a start s x b next rest printed → Fed k of a start (s ++ u) x b next (rest ++ u) printed
  fed_more {start = start} {next = next} {s = s} {rest = rest} {x = x} u f = record {
    same = λ v. ap (records of start) (append_assoc s u v) ∙ f.same (u ++ v) ∙ ap (λ (l : List ℕ). x ++ records of next l) (sym (append_assoc rest u v));
    printed_is = f.printed_is;
    state_is = f.state_is;
  }

  -- the beginning of an input was answered, and then its end
  fed_end : {a b d : State} {start next : Bool} {s rest p q : List ℕ} {x : List (Option Call)} → Fed k of a start s x b next rest p → Finished k of b next rest d q → Finished k of a start s d (p ++ q)
  fed_end {a} {b} {d} {start} {next} {s} {rest} {p} {q} {x} f g =
      let all : x ++ records of next rest ≡ records of start s = ap (λ (l : List ℕ). x ++ records of next l) (sym (append-nil rest)) ∙ sym (f.same []) ∙ ap (records of start) (append-nil s) in (
        ap₂ (λ (l m : List ℕ). l ++ m) f.printed_is (g.0 ∙ ap (λ (z : State). lines k z (records of next rest)) f.state_is) ∙ sym (lines_append k a x (records of next rest)) ∙ ap (lines k a) all,
        g.1 ∙ ap (λ (z : State). state k z (records of next rest)) f.state_is ∙ sym (state_append k a x (records of next rest)) ∙ ap (state k a) all,
      )

  -- ---- turns one after the other
  pub turns_keep : {input printed : List ℕ} {a : State} {p : Place} {s : Pieces} {text : List ℕ} → Turns k of input printed a p s text → Keeps k p.held s a
  turns_keep (begin h) = h
  turns_keep (turn t on e n w) = w.keeps

  -- a chunk comes behind what is carried, where the read leaves that
  then_came : {input printed : List ℕ} {x : List (Option Call)} {a : State} (p : Place) (text text₁ : List ℕ) (got : ℕ) → Fed k of broken true input x a p.start (carried p text) printed → carried p text₁ ≡ carried p text
      → Fed k of broken true (input ++ came p.next got p.end text₁) x a p.start (given p got text₁) printed
  then_came {input} {printed} {x} {a} p text text₁ got f e =
      let c = came p.next got p.end text₁ in
      subst (λ (b : List ℕ). Fed k of broken true (input ++ c) x a p.start (b ++ c) printed) (sym e) (fed_more c f)

  -- while something comes next, the beginning of what came is answered, and the rest is carried
  turns_fed : {input printed : List ℕ} {a : State} {p : Place} {s : Pieces} {text : List ℕ} → Turns k of input printed a p s text → does_go_on p.next ≡ true → Answered k of input a p.start (carried p text) printed
  turns_fed (begin h) on = record { said = []; fed = fed_none k of broken true [] }
  turns_fed (turn {p = p} {text = text} {text₁ = text₁} {got = got} t on e n w) more =
      let f = turns_fed t on in
      record { said = f.said ++ w.said; fed = fed_then k of (then_came p text text₁ got f.fed e) (w.goes_on more) }

  -- at the end the whole input is answered, however it was cut
  pub any_cutting : {input printed : List ℕ} {a : State} {p : Place} {s : Pieces} {text : List ℕ} → Turns k of input printed a p s text → does_go_on p.next ≡ false → Finished k of broken true input a printed
  unfolding does_go_on
  any_cutting (begin h) over = no (sym over)
  any_cutting (turn {p = p} {text = text} {text₁ = text₁} {got = got} t on e n w) over = fed_end (then_came p text text₁ got (turns_fed t on).fed e) (w.ends on over)

  -- two cuttings of one input
  pub cuttings_same : {input p₁ p₂ : List ℕ} {a₁ a₂ : State} {q₁ q₂ : Place} {s₁ s₂ : Pieces} {t₁ t₂ : List ℕ} → Turns k of input p₁ a₁ q₁ s₁ t₁ → does_go_on q₁.next ≡ false → Turns k of input p₂ a₂ q₂ s₂ t₂ → does_go_on q₂.next ≡ false → (p₁ ≡ p₂) × (a₁ ≡ a₂)
  cuttings_same t over u done = ((any_cutting t over).0 ∙ sym (any_cutting u done).0, (any_cutting t over).1 ∙ sym (any_cutting u done).1)

  -- the pieces at the end
  pub turns_hold : {input printed : List ℕ} {a : State} {p : Place} {s : Pieces} {text : List ℕ} → Turns k of input printed a p s text → does_go_on p.next ≡ false → Keeps k p.held s (state k broken (records of true input))
  turns_hold {p = p} {s = s} t over = subst (Keeps k p.held s) (any_cutting t over).1 (turns_keep t)
