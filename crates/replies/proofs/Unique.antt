-- What `Answers` promises is determined: the line, where it ends, whether a tree is held, and the state of the pieces; and each of their bytes, where nothing changes.
use Prim.Native.Nat.{ℕ, ◌+◌, ◌-◌, ◌*◌}
use mathlib.Core.Path.{◌≡◌, refl, sym, ◌∙◌}
use mathlib.Core.Bool.{Bool, false}
use mathlib.Core.List.{List}
use Rattle.std.specs.Prelude.{Option}
use lib.ListN.{length}
use Rattle.model.specs.Calls.{Call, Kind, State, broken, misfit, ways}
use Rattle.pool.proofs.Lists.{by-eq}
use Rattle.trees.specs.Pieces.{Fits, Pieces, TakenFor}
use Rattle.replies.specs.Lines.{answer, held?}
use Rattle.replies.specs.Programs.{Answers, Keeps}

module _ (k : Kind) (c : Option Call) (held : Bool) (s : Pieces) (a : State) (y : Keeps k held s a) (out : List ℕ) (at : ℕ) (held₁ : Bool) (s₁ : Pieces) (out₁ : List ℕ) (r₁ : ℕ) (f : Answers k c held s held₁ s₁ out at out₁ r₁)
    (held₂ : Bool) (s₂ : Pieces) (out₂ : List ℕ) (r₂ : ℕ) (g : Answers k c held s held₂ s₂ out at out₂ r₂) where
  pub answers_unique : (out₁ ≡ out₂) × (r₁ ≡ r₂) × (held₁ ≡ held₂)
  unfolding Answers
  answers_unique = ((f a y).0.1 ∙ sym (g a y).0.1, (f a y).0.0 ∙ sym (g a y).0.0, (f a y).1.0 ∙ sym (g a y).1.0)

  -- both are in the model's state, which fixes boxes, counts and lists
  pub answers_state : TakenFor k s₁ (answer k a c).state × TakenFor k s₂ (answer k a c).state
  unfolding Answers
  answers_state = ((f a y).1.1, (g a y).1.1)

  -- a record that is refused or asks leaves the pieces as they were
  pub answers_same : (answer k a c).changes ≡ false → s₁ ≡ s₂
  unfolding Answers
  answers_same e = (f a y).2 e ∙ sym ((g a y).2 e)

-- ---- where no tree is held, any pieces are kept for some state, so that all this is determined whatever lies in them
pub record Unheld (k : Kind) (s : Pieces) : Type 0 where
  pub state : State
  pub keeps : Keeps k false s state

pub no_tree_held : (k : Kind) (s : Pieces) → Unheld k s
unfolding held?
no_tree_held k s =
    by-eq (length s.head) (16 * k.axes + 8)
    (λ h. by-eq (length s.nodes) (16 * (k.most - 1 + ways k))
    (λ n. by-eq (length s.links) (4 * 513)
    (λ l. by-eq (length s.points) (8 * (k.axes + 1) * 513)
    (λ p. record { state = broken; keeps = (refl, record { head = h; nodes = n; links = l; points = p }) })
    (λ p. other (λ f. p f.points)))
    (λ l. other (λ f. l f.links)))
    (λ n. other (λ f. n f.nodes)))
    (λ h. other (λ f. h f.head))
  where
    other : (Fits k s → ⊥) → Unheld k s
    other f = record { state = misfit; keeps = (refl, f) }
