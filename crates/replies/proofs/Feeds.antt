-- A program's code over its input: lines one after the other, and the end. Over any kind of tree and any meaning `of` of one record.
use Prim.Native.Nat.{ℕ, ◌+◌, ◌-◌, ◌≤◌, ◌<◌}
use mathlib.Core.Path.{◌≡◌, refl, sym, ap, ◌∙◌, subst}
use mathlib.Core.Bool.{Bool, false, true}
use mathlib.Core.List.{List, [], ◌∷◌, ◌++◌, append-nil}
use Rattle.std.specs.Prelude.{Option, None}
use native.Mathlib.Nat.{add-zero}
use native.Mathlib.Omega.{arith}
use lib.Dec.{leb}
use lib.ListN.{length, get_or, take, drop, length-drop}
use borrow.Author.Tests.{le-leb, leb-false, leb-true, lt-leb}
use Rattle.model.specs.Calls.{Call, Kind, State, number}
use Rattle.trees.specs.Pieces.{Pieces}
use Rattle.record.specs.Input.{begun, ended, records, unended}
use Rattle.record.specs.Numbers.{decimal}
use Rattle.record.proofs.Parts.{rest_is}
use Rattle.record.proofs.Streams.{records_line, unended_some}
use Rattle.replies.specs.Lines.{answer, changed, crlf, lines}
use Rattle.replies.specs.Programs.{Answers, Feeds, Keeps, Puts}
use Rattle.replies.proofs.Fed.{changed_append, fed_none, fed_one, fed_then, neither}
use Rattle.replies.proofs.Written.{then, unwritten}

-- ---- room for a line
pub room_none : (at line size : ℕ) → size < at → false ≡ leb (at + line) size
room_none at line size h = sym (lt-leb (at + line) size (omega arith))

pub room_left : (at line size : ℕ) → at ≤ size → leb line (size - at) ≡ leb (at + line) size
room_left at line size h = go (leb line (size - at)) refl
  where
    go : (t : Bool) → leb line (size - at) ≡ t → t ≡ leb (at + line) size
    go true e = sym (le-leb (at + line) size (omega (arith, leb-true line (size - at) e)))
    go false e = sym (lt-leb (at + line) size (omega (arith, leb-false line (size - at) e)))

module _ (k : Kind) (of : List ℕ → Option Call) where
  -- nothing was read
  pub feeds_none : (a : State) (start held : Bool) (text : List ℕ) (s : Pieces) (out : List ℕ) (at : ℕ) → Keeps k held s a → Feeds k of a start text s held s start (drop 0 text) out at out at
  feeds_none a start held text s out at y = record { said = []; state = a; printed = []; fed = fed_none k of a start text; unchanged = λ e. refl; wrote = (sym (add-zero at), refl); keeps = y }

  -- the line before a line feed was answered
  pub feeds_line : (a : State) (start held held' : Bool) (text : List ℕ) (e : ℕ) (s s' : Pieces) (c : Option Call) (out : List ℕ) (at : ℕ) (out' : List ℕ) (r : ℕ)
      → e < length text → ((i : ℕ) → i < e → get_or text i 0 ≡ 10 → ⊥) → (e < length text → get_or text e 0 ≡ 10) → c ≡ ended of (begun start (take e text))
      → Answers k c held s held' s' out at out' r → Keeps k held s a → Feeds k of a start text s held' s' false (drop (e + 1) text) out at out' r
  unfolding Answers changed
  feeds_line a start held held' text e s s' c out at out' r h f g ec w y =
      let d = w a y in
      record {
        said = c ∷ [];
        state = (answer k a c).state;
        printed = (answer k a c).line;
        fed = fed_one k of a start false text (drop (e + 1) text) c (λ u. records_line of start text u e h f (g h) ∙ ap (λ (b : Option Call). b ∷ records of false (drop (e + 1) text ++ u)) (sym ec));
        unchanged = λ n. d.2 (neither (answer k a c).changes false n).0;
        wrote = d.0;
        keeps = d.1;
      }

  -- one part after the other
  pub feeds_then : (a : State) (start held₁ start₁ held₂ start₂ : Bool) (text rest₁ rest₂ : List ℕ) (s s₁ s₂ : Pieces) (o o₁ o₂ : List ℕ) (at r₁ r₂ : ℕ)
      → Feeds k of a start text s held₁ s₁ start₁ rest₁ o at o₁ r₁ → ((b : State) → Keeps k held₁ s₁ b → Feeds k of b start₁ rest₁ s₁ held₂ s₂ start₂ rest₂ o₁ r₁ o₂ r₂) → Feeds k of a start text s held₂ s₂ start₂ rest₂ o at o₂ r₂
  feeds_then a start held₁ start₁ held₂ start₂ text rest₁ rest₂ s s₁ s₂ o o₁ o₂ at r₁ r₂ f g =
      let h = g f.state f.keeps in
      record {
        said = f.said ++ h.said;
        state = h.state;
        printed = f.printed ++ h.printed;
        fed = fed_then k of f.fed h.fed;
        unchanged = λ e. let n = changed_append k a f.said h.said e in h.unchanged (ap (λ (b : State). changed k b h.said) f.fed.state_is ∙ n.1) ∙ f.unchanged n.0;
        wrote = then o o₁ o₂ f.printed h.printed at r₁ r₂ f.wrote h.wrote;
        keeps = h.keeps;
      }

-- ---- the end
nine : (k : Kind) (a : State) → lines k a (None ∷ []) ≡ decimal 9 ++ crlf
unfolding lines answer number
nine k a = append-nil (decimal 9 ++ crlf)

pub finished_some : (start : Bool) (text left : List ℕ) (out out' : List ℕ) (at r : ℕ) → left ≡ begun start text → 0 < length left → Puts 12 out at (decimal 9 ++ crlf) out' r
    → (k : Kind) (a : State) → Puts 12 out at (lines k a (unended (begun start text))) out' r
finished_some start text left out out' at r e h w k a =
    let u : unended (begun start text) ≡ None ∷ [] = ap unended (sym e) ∙ unended_some left h in
    subst (λ (l : List ℕ). Puts 12 out at l out' r) (sym (ap (lines k a) u ∙ nine k a)) w

pub finished_none : (start : Bool) (text left : List ℕ) (out : List ℕ) (at : ℕ) → left ≡ begun start text → length left ≤ 0 → (k : Kind) (a : State) → Puts 12 out at (lines k a (unended (begun start text))) out at
unfolding lines unended
finished_none start text [] out at e h k a = subst (λ (l : List ℕ). Puts 12 out at (lines k a (unended l)) out at) e (record { wrote = λ l. unwritten out at; none = λ l. unwritten out at })
finished_none start text (b ∷ left) out at e h k a = absurd (omega arith)

-- ---- lines one after the other
-- what is read of a rest lies inside the text
pub inside : (text : List ℕ) (at read : ℕ) → at ≤ length text → read ≤ length (take (length text - at) (drop at text)) → at + read ≤ length text
inside text at read h l = omega (arith, h, l, length-drop at text, ap (λ (u : List ℕ). length u) (rest_is text at))
