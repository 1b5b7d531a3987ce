-- What a command does, from what the calls of a tree promise. Over any kind of tree with at most three axes.
use Prim.Native.Nat.{ℕ, zero, suc, ◌+◌, ◌≤◌, ◌<◌}
use mathlib.Core.Path.{◌≡◌, refl, sym, ap, ◌∙◌, subst, subst⁻¹, subst₂}
use mathlib.Core.Bool.{Bool, true, false, cond, not, ◌||◌}
use mathlib.Core.List.{List, [], ◌∷◌}
use Rattle.std.specs.Prelude.{Option, Some, Result, Ok, Err, option_map}
use Rattle.std.specs.Result.{is_ok}
use native.Mathlib.Nat.{le_of_eq}
use native.Mathlib.Omega.{arith}
use denote.Enum.Declared
use denote.RattleType.{RattleType}
use mir.Val.{bool_byte, has_key}
use types.Run.{OneOf, miss}
use borrow.Author.Tests.{eq-eqb, ne_eqb}
use lib.Dec.{T, eqb}
use lib.Ieee.{Float}
use lib.ListN.{length, get_or}
use Rattle.model.specs.Boxes.{Side}
use Rattle.model.specs.Calls as calls
use Rattle.model.specs.Calls.{Ask, Call, Kind, Plan, Query, done, number, step, tree}
use Rattle.model.specs.Soundness.{All}
use Rattle.model.specs.Trees as trees
use Rattle.trees.specs.Pieces.{AsksHeld, Pieces, SearchesHeld, room_for}
use Rattle.pieces.specs.Replies.{count_in, figure, number_in, reply_of}
use Rattle.pieces.specs.declared.Refusal.{Refusal}
use Rattle.replies.specs.Lines.{makes}
use Rattle.replies.specs.Printed.{PutsTold}
use Rattle.replies.specs.Programs.{Answers, longest}
use Rattle.replies.proofs.Answers.{Pointed, answers_told, box_pointed, nearest_pointed, radius_pointed}
use Rattle.replies.proofs.Shapes.{Asked, box_asked, nearest_asked, radius_asked}
use Rattle.replies.proofs.Told.{ShapedPoint, refused_not}
use Rattle.commands.specs.Commands.{call_in}
use Rattle.commands.specs.declared.Command.{Command}
use Rattle.commands.specs.contracts.Command as declared

-- ---- a command is not one of another kind
abbrev without : ℕ → List ℕ → List ℕ
without k [] = []
without k (x ∷ xs) = cond (eqb k x) (without k xs) (x ∷ without k xs)

-- the numbers of all kinds but one
abbrev others : ℕ → List ℕ
others k = without k (0 ∷ 1 ∷ 2 ∷ 3 ∷ 4 ∷ 5 ∷ 6 ∷ 7 ∷ 8 ∷ [])

pub another : (R P : RattleType) (k : ℕ) (c d : Command R.Denot P.Denot) → c ≡ d → T (not (has_key (others k) (Declared.tag_of (declared.the_type R P) d))) → OneOf (others k) (Declared.tag_of (declared.the_type R P) c) → ⊥
another R P k c d e h o = miss (others k) (Declared.tag_of (declared.the_type R P) d) h (subst (λ (b : Command R.Denot P.Denot). OneOf (others k) (Declared.tag_of (declared.the_type R P) b)) e o)

-- ---- a command and its call
pub said : {R P : Type 0} (sides : R → List Side) (place : P → List Float) (o : Option (Command R P)) (c d : Command R P) → o ≡ Some c → c ≡ d → option_map (call_in sides place) o ≡ Some (call_in sides place d)
said {R} {P} sides place o c d e f = ap (option_map (call_in sides place)) e ∙ ap (λ (b : Command R P). Some (call_in sides place b)) f

-- a tree is held, where a command makes none and is heard
pub opened : {R P : Type 0} (sides : R → List Side) (place : P → List Float) (c d : Command R P) (held m : Bool) → held || m ≡ true → m ≡ makes (call_in sides place c) → c ≡ d → makes (call_in sides place d) ≡ false → held ≡ true
opened sides place c d true m e f g h = refl
opened {R} {P} sides place c d false m e f g h = sym (f ∙ ap (λ (b : Command R P). makes (call_in sides place b)) g ∙ h) ∙ e

pub shut : (held m : Bool) → held || m ≡ false → (held ≡ false) × (m ≡ false)
shut false m e = (refl, e)
shut true m e = absurd (subst T e tt)

pub done_held : (k : Kind) (o : Option Call) (c : Call) (held : Bool) (s s' : Pieces) (out : List ℕ) (at : ℕ) (out' : List ℕ) (r : ℕ) → o ≡ Some c → held ≡ true → Answers k (Some c) true s true s' out at out' r → Answers k o held s held s' out at out' r
done_held k o c held s s' out at out' r e f w =
    subst₂ (λ (d : Option Call) (h : Bool). Answers k d h s h s' out at out' r) (sym e) (sym f) w

-- ---- what a yes or no, and a creation that is done, say
pub figure_is : (k : Kind) (q : Query) (s : Pieces) (n : ℕ) (b : Bool) → n ≡ bool_byte b → AsksHeld k q s 0 (figure b) → AsksHeld k q s 0 n
figure_is k q s n true e d = subst⁻¹ (AsksHeld k q s 0) e d
figure_is k q s n false e d = subst⁻¹ (AsksHeld k q s 0) e d

pub made : {A : Type 0} (held : Bool) (a : Result A Refusal) → held || is_ok a ≡ held || eqb (number_in a) 0
unfolding number
made held (Ok x) = ap (λ (b : Bool). held || b) (sym (eq-eqb (number done) 0 refl))
made held (Err e) = ap (λ (b : Bool). held || b) (sym (ne_eqb (number (reply_of e)) 0 (refused_not e)))

-- ---- searches
-- the lent arrays have room for 512 points
lent_is : (axes : ℕ) (cs ms : List ℕ) → 1 ≤ axes → axes ≤ 3 → length cs ≡ 12288 → length ms ≡ 2048 → room_for axes cs ms ≡ 512
lent_is zero cs ms h l e f = absurd (omega (arith, h))
lent_is (suc zero) cs ms h l e f = omega (arith, e, f)
lent_is (suc (suc zero)) cs ms h l e f = omega (arith, e, f)
lent_is (suc (suc (suc zero))) cs ms h l e f = omega (arith, e, f)
lent_is (suc (suc (suc (suc n)))) cs ms h l e f = absurd (omega (arith, l))

module _ (k : Kind) (some : 1 ≤ k.axes) (few : k.axes ≤ 3) (s : Pieces) (out : List ℕ) (at : ℕ) (out' : List ℕ) (r : ℕ) (low : (i : ℕ) → get_or s.points i 0 < 256) (room : at + longest k.axes ≤ length out) (cs ms coords marks : List ℕ) (before : (length cs ≡ 12288) × (length ms ≡ 2048)) (after : (length coords ≡ length cs) × (length marks ≡ length ms)) (axes : ℕ) (told : Result ℕ Refusal) (many : axes ≡ k.axes) (puts : PutsTold axes coords marks (number_in told) (count_in told) out at out' r) where
  ready : PutsTold k.axes coords marks (number_in told) (count_in told) out at out' r
  ready = subst (λ (a : ℕ). PutsTold a coords marks (number_in told) (count_in told) out at out' r) many puts

  enough : 512 ≤ room_for k.axes coords marks
  enough = le_of_eq (sym (lent_is k.axes coords marks some few (after.0 ∙ before.0) (after.1 ∙ before.1)))

  search_done : (q : ℕ → Query) → Pointed (q 512) → ((a : Plan) → All (ShapedPoint k.axes) (trees.held 32 a.root) → Asked k.axes 512 (step k (tree a) (Ask (q 512)))) → SearchesHeld k (q (room_for k.axes cs ms)) s cs ms coords marks (number_in told) (count_in told)
      → Answers k (Some (Ask (q 512))) true s true s out at out' r
  search_done q f asked d =
      answers_told k true s out at out' r (q 512) cs ms coords marks (number_in told) (count_in told) f asked low enough room refl (subst (λ (m : ℕ). SearchesHeld k (q m) s cs ms coords marks (number_in told) (count_in told)) (lent_is k.axes cs ms some few before.0 before.1) d) ready

  pub radius_done : (c : List Float) (q : Float) → SearchesHeld k (calls.Radius c q (room_for k.axes cs ms)) s cs ms coords marks (number_in told) (count_in told) → Answers k (Some (Ask (calls.Radius c q 512))) true s true s out at out' r
  radius_done c q d = search_done (λ m. calls.Radius c q m) (radius_pointed c q 512) (λ a l. radius_asked k a l c q 512) d

  pub nearest_done : (c : List Float) (n : ℕ) → SearchesHeld k (calls.Nearest c n (room_for k.axes cs ms)) s cs ms coords marks (number_in told) (count_in told) → Answers k (Some (Ask (calls.Nearest c n 512))) true s true s out at out' r
  nearest_done c n d = search_done (λ m. calls.Nearest c n m) (nearest_pointed c n 512) (λ a l. nearest_asked k a l c n 512) d

  pub box_done : (b : List Side) → SearchesHeld k (calls.Box b (room_for k.axes cs ms)) s cs ms coords marks (number_in told) (count_in told) → Answers k (Some (Ask (calls.Box b 512))) true s true s out at out' r
  box_done b d = search_done (λ m. calls.Box b m) (box_pointed b 512) (λ a l. box_asked k a l b 512) d
