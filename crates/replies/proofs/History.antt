-- After any input the points held are the accepted inserts less the successful deletes, counted since the last accepted creation or clear. Over any kind of tree and any word that makes
-- one. Assumes nothing.
use Prim.Native.Nat.{ℕ, zero, suc}
use mathlib.Core.Path.{◌≡◌, refl, sym, ap, ◌∙◌, subst}
use mathlib.Core.Bool.{Bool, true, false, cond}
use mathlib.Core.List.{List, [], ◌∷◌}
use Rattle.std.specs.Prelude.{Option, None, Some, option_map, option_and_then}
use native.Mathlib.Omega.{arith}
use lib.Dec.{leb}
use lib.ListN.{length, take, drop, length-take, length-drop}
use lib.Ieee.{Float}
use Rattle.floats.proofs.Theorems.{F64}
use Rattle.model.specs.Calls.{Ask, Bulk, Call, Clear, Create, Delete, Insert, Kind, State, broken, misfit, on_broken, step, tree}
use Rattle.model.specs.History.{blank, ledger, run}
use Rattle.model.specs.Soundness.{All}
use Rattle.model.proofs.After.{Fine, held_after}
use Rattle.model.proofs.Calls.{Proper, Regular}
use Rattle.trees.proofs.Held.{sides_f64, sides_length}
use Rattle.record.specs.Commands.{Numbers, call_of, fields_call, floats_after, numbers_of, understood, whole_after, word_of}
use Rattle.record.specs.Input.{begun, ended, parts, records, strip, unended}
use Rattle.record.specs.Text.{has, split}
use Rattle.record.specs.declared.Word.{Word}
use Rattle.record.proofs.Quotes.{worded}
use Rattle.record.proofs.Reading.{Right, numbers_right}
use Rattle.replies.specs.Lines.{answer, heard, held?, makes, state}

-- the calls of the records that are understood
pub understood_only : List (Option Call) → List Call
understood_only [] = []
understood_only (None ∷ cs) = understood_only cs
understood_only (Some c ∷ cs) = c ∷ understood_only cs

-- ---- a program's state is the model's run of these calls
heard_state : (k : Kind) (s : State) (c : Call) → (heard k s c).state ≡ (step k s c).state
unfolding heard held? makes step on_broken
heard_state k (tree a) c = refl
heard_state k misfit (Create b cap) = refl
heard_state k misfit (Insert p) = refl
heard_state k misfit (Bulk ps) = refl
heard_state k misfit (Delete p) = refl
heard_state k misfit Clear = refl
heard_state k misfit (Ask q) = refl
heard_state k broken (Create b cap) = refl
heard_state k broken (Insert p) = refl
heard_state k broken (Bulk ps) = refl
heard_state k broken (Delete p) = refl
heard_state k broken Clear = refl
heard_state k broken (Ask q) = refl

pub state_run : (k : Kind) (s : State) (cs : List (Option Call)) → state k s cs ≡ run k s (understood_only cs)
unfolding state answer run understood_only
state_run k s [] = refl
state_run k s (None ∷ cs) = state_run k s cs
state_run k s (Some c ∷ cs) = ap (λ (a : State). state k a cs) (heard_state k s c) ∙ state_run k (step k s c).state cs

-- ---- the calls of records have numbers of binary64, one for each axis
-- P holds of what is there
abbrev Of : (Call → Type 0) → Option Call → Type 0
Of P None = Unit {0}
Of P (Some c) = P c

all_take : (n : ℕ) (l : List Float) → All F64 l → All F64 (take n l)
all_take zero l h = tt
all_take (suc n) [] h = tt
all_take (suc n) (x ∷ l) h = (h.0, all_take n l h.1)

all_drop : (n : ℕ) (l : List Float) → All F64 l → All F64 (drop n l)
all_drop zero l h = h
all_drop (suc n) [] h = tt
all_drop (suc n) (x ∷ l) h = all_drop n l h.1

module _ (k : Kind) where
  call_proper : (w : Word) (m : Numbers) → length m.floats ≡ floats_after k.axes w → All F64 m.floats → Proper k (call_of k.axes w m)
  unfolding call_of floats_after
  call_proper Word.Create m e f = (sides_f64 (take k.axes m.floats) (drop k.axes m.floats) (all_take k.axes m.floats f) (all_drop k.axes m.floats f), sides_length k.axes (take k.axes m.floats) (drop k.axes m.floats) (omega (arith, e, length-take k.axes m.floats)) (omega (arith, e, length-drop k.axes m.floats)))
  call_proper Word.Insert m e f = f
  call_proper Word.Delete m e f = f
  call_proper Word.Contains m e f = tt
  call_proper Word.Range m e f = tt
  call_proper Word.Knn m e f = tt
  call_proper Word.Box m e f = tt
  call_proper Word.Len m e f = tt
  call_proper Word.Clear m e f = tt

  numbers_proper : (w : Word) (o : Option Numbers) → Right (floats_after k.axes w) o → Of (Proper k) (option_map (call_of k.axes w) o)
  numbers_proper w None h = tt
  numbers_proper w (Some m) h = call_proper w m h.0 h.1

  worded_proper : (fs : List (List ℕ)) (o : Option Word) → Of (Proper k) (option_and_then (worded k.axes fs) o)
  worded_proper fs None = tt
  worded_proper fs (Some w) = numbers_proper w (numbers_of (floats_after k.axes w) (whole_after w) fs) (numbers_right (floats_after k.axes w) (whole_after w) fs)

  module _ (made : List ℕ) where
    fields_proper : (fs : List (List ℕ)) → Of (Proper k) (fields_call made k.axes fs)
    unfolding fields_call
    fields_proper [] = tt
    fields_proper (w ∷ fs) = worded_proper fs (word_of made w)

    either : (t : Bool) (c : Option Call) → Of (Proper k) c → Of (Proper k) (cond t None c)
    either true c h = tt
    either false c h = h

    understood_proper : (s : List ℕ) → Of (Proper k) (understood made k.axes s)
    unfolding understood
    understood_proper s = either (has 34 s) (fields_call made k.axes (split 44 s)) (fields_proper (split 44 s))

    abbrev of : List ℕ → Option Call
    of s = understood made k.axes s

    ended_proper : (s : List ℕ) → Of (Proper k) (ended of s)
    unfolding ended
    ended_proper s = go (leb (length (strip s)) 128)
      where
        go : (t : Bool) → Of (Proper k) (cond t (of (strip s)) None)
        go true = understood_proper (strip s)
        go false = tt

    unended_proper : (s : List ℕ) → All (Of (Proper k)) (unended s)
    unfolding unended
    unended_proper [] = tt
    unended_proper (b ∷ s) = (tt, tt)

    parts_proper : (ps : List (List ℕ)) → All (Of (Proper k)) (parts of ps)
    unfolding parts
    parts_proper [] = tt
    parts_proper (p ∷ []) = unended_proper p
    parts_proper (p ∷ q ∷ ps) = (ended_proper p, parts_proper (q ∷ ps))

    only_proper : (cs : List (Option Call)) → All (Of (Proper k)) cs → All (Proper k) (understood_only cs)
    unfolding understood_only
    only_proper [] h = tt
    only_proper (None ∷ cs) h = only_proper cs h.1
    only_proper (Some c ∷ cs) h = (h.0, only_proper cs h.1)

    -- a program that has read all of t holds no tree, or one that is sound and holds the accepted inserts less the successful deletes
    pub held_after_records : Regular k → (t : List ℕ) → Fine k (state k broken (records of true t)) (ledger k broken (understood_only (records of true t)) blank)
    unfolding records
    held_after_records r t =
        subst (λ (s : State). Fine k s (ledger k broken (understood_only (records of true t)) blank)) (sym (state_run k broken (records of true t)))
        (held_after k broken (understood_only (records of true t)) blank r (only_proper (records of true t) (parts_proper (split 10 (begun true t)))) tt)
