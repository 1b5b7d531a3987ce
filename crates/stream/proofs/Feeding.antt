-- Lines answered one after the other. Over any kind of tree and any meaning `of` of one record.
use Prim.Native.Nat.{ℕ, ◌+◌, ◌-◌, ◌≤◌, ◌<◌}
use mathlib.Core.Path.{◌≡◌, refl, sym, ap, ◌∙◌, subst, subst⁻¹, subst₂}
use mathlib.Core.Bool.{Bool, false, true}
use mathlib.Core.List.{List}
use Rattle.std.specs.Prelude.{Option, None, Some, IfSome, IfNone}
use native.Mathlib.Omega.{arith}
use lib.Dec.{T, leb}
use borrow.Author.Tests.{leb-false, leb-true}
use lib.ListN.{length, get_or, take, drop, length-drop}
use lib.Seq.{drop-drop}
use Rattle.model.specs.Calls.{Call, Kind, State}
use Rattle.trees.specs.Pieces.{Pieces}
use Rattle.record.specs.Input.{begun, ended, Unended}
use Rattle.record.proofs.Parts.{rest_is}
use Rattle.replies.specs.Programs.{Answers, Feeds, Keeps, longest}
use Rattle.replies.proofs.Feeds.{feeds_line, feeds_none, feeds_then, inside}
use Rattle.stream.specs.Steps.{Steps}
use Rattle.stream.specs.declared.Step.{Step}
use Rattle.stream.specs.declared.Step.TheVariants as step

-- ---- what slices hold when they go back to their lender
pub handed_on : (P : List ℕ → Type 0) (o o' : List ℕ) → P o → o' ≡ o → P o'
handed_on P o o' t e = subst P (sym e) t

-- ---- room for a line
pub has : (k : Kind) (axes at size : ℕ) (r : Bool) → axes ≡ k.axes → r ≡ leb (at + longest axes) size → r ≡ true → at + longest k.axes ≤ size
has k axes at size r many e f = leb-true _ _ (ap (λ (a : ℕ). leb (at + longest a) size) (sym many) ∙ sym e ∙ f)

-- ---- one line
some_not : (i : ℕ) → ◌≡◌ {A = Option ℕ} (Some i) None → ⊥
some_not i e = subst (λ (o : Option ℕ). elim o as (λ q. Type 0) [ None ↦ ⊥ | Some j ↦ ◌≡◌ {A = ℕ} 0 0 ]) e refl

module _ (k : Kind) (of : List ℕ → Option Call) (start held : Bool) (text : List ℕ) (s : Pieces) (out : List ℕ) (at : ℕ) where
  pub steps_full : (axes : ℕ) (r : Bool) → axes ≡ k.axes → r ≡ leb (at + longest axes) (length out) → r ≡ false → Steps k of start held text s s out at out at step.Full
  unfolding Steps
  steps_full axes r many e f = (leb-false _ _ (ap (λ (a : ℕ). leb (at + longest a) (length out)) (sym many) ∙ sym e ∙ f), refl, refl, refl)

  pub steps_unended : (o : Option ℕ) → IfNone o ((i : ℕ) → i < length text → get_or text i 0 ≡ 10 → ⊥) → o ≡ None → Steps k of start held text s s out at out at step.Unended
  unfolding Steps
  steps_unended None f e = (f, refl, refl, refl)
  steps_unended (Some i) f e = absurd (some_not i e)

  pub steps_line : (o : Option ℕ) (e : ℕ) (c : Option Call) (held' : Bool) (s' : Pieces) (out' : List ℕ) (r : ℕ) → o ≡ Some e → IfSome o (λ i. (i < length text) × (get_or text i 0 ≡ 10)) → IfSome o (λ j. (i : ℕ) → i < j → get_or text i 0 ≡ 10 → ⊥) → c ≡ ended of (begun start (take e text))
      → Answers k c held s held' s' out at out' r → (at ≤ length out → r ≤ length out) → Steps k of start held text s s' out at out' r (step.Line (e + 1) held')
  unfolding Steps
  steps_line o e c held' s' out' r eo f g ec w room =
      let found = subst (λ (q : Option ℕ). IfSome q (λ i. (i < length text) × (get_or text i 0 ≡ 10))) eo f in
      let first = subst (λ (q : Option ℕ). IfSome q (λ j. (i : ℕ) → i < j → get_or text i 0 ≡ 10 → ⊥)) eo g in
      (omega arith, omega (arith, found.0), room, λ a y. feeds_line k of a start held held' text e s s' c out at out' r found.0 first (λ l. found.1) ec w y)

  pub steps_as : (s' : Pieces) (out' : List ℕ) (to : ℕ) (r q : Step) → r ≡ q → Steps k of start held text s s' out at out' to r → Steps k of start held text s s' out at out' to q
  steps_as s' out' to r q e w = subst (λ (p : Step). Steps k of start held text s s' out at out' to p) e w

-- ---- many
-- where the code is: at a place of the text, with so much written
pub record Feeding (k : Kind) (of : List ℕ → Option Call) (start held : Bool) (text : List ℕ) (s₀ : Pieces) (out₀ : List ℕ) (first has : Bool) (s : Pieces) (out : List ℕ) (at to : ℕ) : Type 0 where
  pub within : at ≤ length text
  pub room : to ≤ length out₀
  pub same : length out ≡ length out₀
  pub feeds : (a : State) → Keeps k held s₀ a → Feeds k of a start text s₀ has s first (drop at text) out₀ 0 out to

-- how far it came, and why it stopped
abbrev Fed : (k : Kind) (of : List ℕ → Option Call) (start held : Bool) (text : List ℕ) (s₀ : Pieces) (out₀ : List ℕ) (first has : Bool) (s : Pieces) (out : List ℕ) (at to : ℕ) (full : Bool) → Type 0
Fed k of start held text s₀ out₀ first has s out at to full =
    ((a : State) → Keeps k held s₀ a → Feeds k of a start text s₀ has s first (drop at text) out₀ 0 out to)
    × (((at ≤ length text) × (to ≤ length out₀)) × ((full ≡ false → Unended (drop at text)) × (full ≡ true → length out₀ < to + longest k.axes)))

module _ (k : Kind) (of : List ℕ → Option Call) (start held : Bool) (text : List ℕ) (s₀ : Pieces) (out₀ : List ℕ) where
  pub feeding_start : Feeding k of start held text s₀ out₀ start held s₀ out₀ 0 0
  feeding_start = record { within = omega arith; room = omega arith; same = refl; feeds = λ a y. feeds_none k of a start held text s₀ out₀ 0 y }

  module _ (first has : Bool) (s : Pieces) (out : List ℕ) (at to : ℕ) (f : Feeding k of start held text s₀ out₀ first has s out at to) where
    abbrev rest : List ℕ
    rest = take (length text - at) (drop at text)

    module _ (has' : Bool) (s' : Pieces) (out' : List ℕ) (read to' : ℕ) (went : Steps k of first has rest s s' out to out' to' (step.Line read has')) where
      -- fewer bytes are left
      pub feeding_less : length text - (at + read) < length text - at
      unfolding Steps
      feeding_less = omega (arith, went.0, inside text at read f.within went.1)

      pub feeding_within : at + read ≤ length text
      unfolding Steps
      feeding_within = inside text at read f.within went.1

      pub feeding_step : length out' ≡ length out → Feeding k of start held text s₀ out₀ false has' s' out' (at + read) to'
      unfolding Steps
      feeding_step same = record {
        within = inside text at read f.within went.1;
        room = omega (arith, f.same, went.2 (omega (arith, f.room, f.same)));
        same = same ∙ f.same;
        feeds = λ a y. feeds_then k of a start has first has' false text (drop at text) (drop (at + read) text) s₀ s s' out₀ out out' 0 to to' (f.feeds a y) (λ b z. subst₂ (λ (u v : List ℕ). Feeds k of b first u s has' s' false v out to out' to') (rest_is text at) (ap (drop read) (rest_is text at) ∙ drop-drop read at text) (went.3 b z));
      }

    -- nothing more was done
    still : (s' : Pieces) (out' : List ℕ) (to' : ℕ) → s' ≡ s → out' ≡ out → to' ≡ to → (a : State) → Keeps k held s₀ a → Feeds k of a start text s₀ has s' first (drop at text) out₀ 0 out' to'
    still s' out' to' es eo et a y = subst⁻¹ (λ (t : ℕ). Feeds k of a start text s₀ has s' first (drop at text) out₀ 0 out' t) et (subst₂ (λ (q : Pieces) (o : List ℕ). Feeds k of a start text s₀ has q first (drop at text) out₀ 0 o to) (sym es) (sym eo) (f.feeds a y))

    pub fed_unended : (s' : Pieces) (out' : List ℕ) (to' : ℕ) → Steps k of first has rest s s' out to out' to' step.Unended → Fed k of start held text s₀ out₀ first has s' out' at to' false
    unfolding Steps
    fed_unended s' out' to' w = (still s' out' to' w.1 w.2 w.3, ((f.within, omega (arith, f.room, w.3)), (λ e. subst Unended (rest_is text at) w.0, λ e. absurd (subst T (sym e) tt))))

    pub fed_full : (s' : Pieces) (out' : List ℕ) (to' : ℕ) → Steps k of first has rest s s' out to out' to' step.Full → Fed k of start held text s₀ out₀ first has s' out' at to' true
    unfolding Steps
    fed_full s' out' to' w = (still s' out' to' w.1 w.2 w.3, ((f.within, omega (arith, f.room, w.3)), (λ e. absurd (subst T e tt), λ e. omega (arith, w.0, f.same, w.3))))

    -- no byte is left
    pub fed_all : length text ≤ at → Fed k of start held text s₀ out₀ first has s out at to false
    fed_all h = (f.feeds, ((f.within, f.room), (λ e i l. absurd (omega (arith, l, h, length-drop at text)), λ e. absurd (subst T (sym e) tt))))
