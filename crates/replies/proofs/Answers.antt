-- What a program does for a record, from what the calls of a tree promise. Over any kind of tree.
use Prim.Native.Nat.{ℕ, ◌+◌, ◌*◌, ◌≤◌, ◌<◌}
use mathlib.Core.Path.{◌≡◌, refl, sym, ap, ◌∙◌, subst}
use mathlib.Core.Logic.{◌≢◌}
use mathlib.Core.Bool.{Bool, true, false, ◌||◌, or-false, or-true}
use mathlib.Core.List.{List, [], ◌++◌}
use Rattle.std.specs.Prelude.{Option, None, Some}
use native.Mathlib.Nat.{le_trans, mul-le-mul_left}
use native.Mathlib.Omega.{arith}
use lib.Dec.{T, eqb}
use lib.ListN.{length, get_or}
use lib.Ieee.{Float}
use borrow.Author.Tests.{eqb-false}
use Rattle.model.specs.Boxes.{Side, acceptable}
use Rattle.model.specs.Soundness.{All}
use Rattle.model.specs.Trees.{Point}
use Rattle.model.specs.Trees as trees
use Rattle.model.specs.Calls.{Ask, Box, Call, Clear, Contains, Create, Delete, Insert, Kind, Len, Nearest, Outcome, Plan, Query, Radius, State, bad_boundary, broken, call, create, empty, give, misfit, no_capacity, no_tree, number, on_broken, refuse, step, tree}
use Rattle.model.proofs.After.{ask_same}
use Rattle.model.proofs.Calls.{delete_ends, insert_ends}
use Rattle.model.proofs.Counts.{cond_same}
use Rattle.trees.specs.Pieces.{AsksHeld, Creates, DoesHeld, Pieces, Says, SearchesHeld, TakenFor, room_for}
use Rattle.record.specs.Numbers.{decimal}
use Rattle.replies.specs.Lines.{after, answer, changes, crlf, field, heard, held?, line, makes, points, told}
use Rattle.replies.specs.Printed.{PutsTold}
use Rattle.replies.specs.Programs.{Answers, Keeps, Wrote, longest}
use Rattle.replies.proofs.Lines.{line_figure, line_reply, line_told}
use Rattle.replies.proofs.Shapes.{Asked, held_shaped}
use Rattle.replies.proofs.Told.{ShapedPoint, told_is}

-- ---- a call on a tree leaves a tree
abbrev pub Stays : Kind → Call → Type 0
Stays k c = (a : Plan) → held? (step k (tree a) c).state ≡ true

pub insert_stays : (k : Kind) (p : Point) → Stays k (Insert p)
unfolding step call held?
insert_stays k p a = insert_ends k a p (λ (o : Outcome). held? o.state ≡ true) refl refl refl (λ h l m. refl)

pub delete_stays : (k : Kind) (p : Point) → Stays k (Delete p)
unfolding step call held?
delete_stays k p a = delete_ends k a p (λ (o : Outcome). held? o.state ≡ true) refl refl (λ t h e. refl)

pub clear_stays : (k : Kind) → Stays k Clear
unfolding step call held?
clear_stays k a = refl

pub ask_state : (k : Kind) (a : Plan) (q : Query) → (step k (tree a) (Ask q)).state ≡ tree a
unfolding step call
ask_state k a q = ask_same a q

-- ---- what is heard, with and without a tree
heard_tree : (k : Kind) (a : Plan) (c : Call) → heard k (tree a) c ≡ step k (tree a) c
unfolding heard held?
heard_tree k a c = refl

heard_none : (k : Kind) (a : State) (c : Call) → held? a ≡ false → makes c ≡ false → heard k a c ≡ refuse no_tree a
unfolding heard
heard_none k a c e f = rw (e, f, heard)

heard_create : (k : Kind) (a : State) (b : List Side) (cap : ℕ) → heard k a (Create b cap) ≡ step k a (Create b cap)
unfolding heard makes
heard_create k a b cap = ap (λ (t : Bool). elim t as (λ u. Outcome) [ true ↦ step k a (Create b cap) | false ↦ refuse no_tree a ]) (or-true (held? a))

-- ---- what stands after the reply number
-- nothing, and a reply other than 0 says that nothing changed
abbrev Bare : Call → Type 0
Bare c = (o : Outcome) → (after c o ≡ []) × (changes c o ≡ eqb (number o.reply) 0)

pub insert_bare : (p : Point) → Bare (Insert p)
unfolding after changes
insert_bare p o = (refl, refl)

pub delete_bare : (p : Point) → Bare (Delete p)
unfolding after changes
delete_bare p o = (refl, refl)

pub clear_bare : Bare Clear
unfolding after changes
clear_bare o = (refl, refl)

create_bare : (b : List Side) (cap : ℕ) → Bare (Create b cap)
unfolding after changes
create_bare b cap o = (refl, refl)

not_done : (c : Call) → Bare c → (o : Outcome) → changes c o ≡ false → number o.reply ≢ 0
not_done c f o e = eqb-false (number o.reply) 0 (sym (f o).1 ∙ e)

line_none : (c : Call) (a : State) → line c (refuse no_tree a) ≡ decimal 10 ++ crlf
unfolding line number
line_none c a = refl

-- a yes or no, or a count, after the 0
abbrev pub Figured : Query → Type 0
Figured q = (o : Outcome) → told q o ≡ field (decimal o.figure)

pub contains_figured : (p : Point) → Figured (Contains p)
unfolding told
contains_figured p o = refl

pub len_figured : Figured Len
unfolding told
len_figured o = refl

-- the points that a search found
abbrev pub Pointed : Query → Type 0
Pointed q = (o : Outcome) → told q o ≡ field (decimal o.figure) ++ points o.points

pub radius_pointed : (c : List Float) (r : Float) (n : ℕ) → Pointed (Radius c r n)
unfolding told
radius_pointed c r n o = refl

pub box_pointed : (b : List Side) (n : ℕ) → Pointed (Box b n)
unfolding told
box_pointed b n o = refl

pub nearest_pointed : (c : List Float) (m n : ℕ) → Pointed (Nearest c m n)
unfolding told
nearest_pointed c m n o = refl

tree_held : (a : Plan) → held? (tree a) ≡ true
unfolding held?
tree_held a = refl

-- whether a tree is held after a creation
abbrev HeldAfter : State → Outcome → Type 0
HeldAfter a o = held? a || eqb (number o.reply) 0 ≡ held? o.state

create_held : (a : State) (b : List Side) (cap : ℕ) → HeldAfter a (create a b cap)
unfolding create number
create_held a b cap =
    cond_same (HeldAfter a) (eqb cap 0) (refuse no_capacity a) _ (λ h. or-false (held? a))
    (λ h. cond_same (HeldAfter a) (acceptable b) (give (tree (empty b cap)) 0) (refuse bad_boundary a) (λ i. or-true (held? a) ∙ sym (tree_held (empty b cap))) (λ i. or-false (held? a)))

step_held : (k : Kind) (a : State) (b : List Side) (cap : ℕ) → HeldAfter a (step k a (Create b cap))
unfolding step call on_broken held? number
step_held k misfit b cap = refl
step_held k broken b cap = create_held broken b cap
step_held k (tree p) b cap = create_held (tree p) b cap

-- pieces that are in a state are taken for it
taken : (k : Kind) (s : Pieces) (a : State) → Says k s a → TakenFor k s a
taken k s misfit y = y
taken k s broken y = y.0
taken k s (tree a) y = y

-- ---- a record is answered
module _ (k : Kind) (held : Bool) (s : Pieces) (out : List ℕ) (at : ℕ) (out' : List ℕ) (r : ℕ) where
  -- what a record says, by a command
  pub answers_as : (c d : Option Call) (held' : Bool) (s' : Pieces) → d ≡ c → Answers k c held s held' s' out at out' r → Answers k d held s held' s' out at out' r
  answers_as c d held' s' e w = subst (λ (b : Option Call). Answers k b held s held' s' out at out' r) (sym e) w

  -- 9
  pub answers_bad : Wrote out at (decimal 9 ++ crlf) out' r → Answers k None held s held s out at out' r
  unfolding Answers answer number
  answers_bad w a y = (w, y, λ e. refl)

  -- 10
  pub answers_none : (c : Call) → makes c ≡ false → held ≡ false → Wrote out at (decimal 10 ++ crlf) out' r → Answers k (Some c) held s held s out at out' r
  unfolding Answers answer
  answers_none c f e w a y =
      let h : heard k a c ≡ refuse no_tree a = heard_none k a c (sym y.0 ∙ e) f in
      let l : line c (heard k a c) ≡ decimal 10 ++ crlf = ap (line c) h ∙ line_none c a in
      (subst (λ (t : List ℕ). Wrote out at t out' r) (sym l) w, subst (λ (o : Outcome). Keeps k held s o.state) (sym h) y, λ n. refl)

  -- what is shown of a call, by its outcome
  abbrev Ends : Call → (held' : Bool) → Pieces → Outcome → Type 0
  Ends c held' s' o = Wrote out at (line c o) out' r × Keeps k held' s' o.state × (changes c o ≡ false → s' ≡ s)

  -- a tree that is held, and what follows from it
  only_tree : (c : Call) (held' : Bool) (s' : Pieces) → held ≡ true
      → ((a : Plan) → Says k s (tree a) → Ends c held' s' (step k (tree a) c))
      → Answers k (Some c) held s held' s' out at out' r
  unfolding Answers answer held?
  only_tree c held' s' e go misfit y = absurd (subst T (sym e ∙ y.0) tt)
  only_tree c held' s' e go broken y = absurd (subst T (sym e ∙ y.0) tt)
  only_tree c held' s' e go (tree a) y = subst (Ends c held' s') (sym (heard_tree k a c)) (go a y.1)

  still : (q : Query) (a : Plan) → held ≡ true → Says k s (tree a) → Keeps k held s (step k (tree a) (Ask q)).state
  still q a e y = subst (Keeps k held s) (sym (ask_state k a q)) (e ∙ sym (tree_held a), y)

  -- a change: its reply alone
  pub answers_change : (c : Call) (s' : Pieces) (q : ℕ) → Bare c → Stays k c → held ≡ true → DoesHeld k c s s' q 0 → Wrote out at (decimal q ++ crlf) out' r
      → Answers k (Some c) held s held s' out at out' r
  unfolding DoesHeld
  answers_change c s' q f st e d w = only_tree c held s' e (λ a y.
      let g = d a y in
      let l : decimal q ++ crlf ≡ line c (step k (tree a) c) = ap (λ (j : ℕ). decimal j ++ crlf) g.reply ∙ sym (line_reply c (step k (tree a) c) (f (step k (tree a) c)).0) in
      (subst (λ (t : List ℕ). Wrote out at t out' r) l w, (e ∙ sym (st a), taken k s' (step k (tree a) c).state g.after), λ n. g.refused (not_done c f (step k (tree a) c) n) (sym g.figure)))

  -- a yes or no, or a count
  pub answers_figure : (q : Query) (n : ℕ) → Figured q → held ≡ true → AsksHeld k q s 0 n
      → Wrote out at (decimal 0 ++ field (decimal n) ++ crlf) out' r → Answers k (Some (Ask q)) held s held s out at out' r
  unfolding AsksHeld
  answers_figure q n f e d w = only_tree (Ask q) held s e (λ a y.
      let g = d a y in
      let st = ask_state k a q in
      let o = step k (tree a) (Ask q) in
      let l : decimal 0 ++ field (decimal n) ++ crlf ≡ line (Ask q) o = ap (λ (j : ℕ). decimal 0 ++ field (decimal j) ++ crlf) g.figure ∙ sym (line_figure q o (f o) (sym g.reply)) in
      (subst (λ (t : List ℕ). Wrote out at t out' r) l w, still q a e y, λ n. refl))

  -- a search: the points that it handed over
  pub answers_told : (q : Query) (cs ms coords marks : List ℕ) (reply n : ℕ) → Pointed q → ((a : Plan) → All (ShapedPoint k.axes) (trees.held 32 a.root) → Asked k.axes 512 (step k (tree a) (Ask q)))
      → ((i : ℕ) → get_or s.points i 0 < 256) → 512 ≤ room_for k.axes coords marks → at + longest k.axes ≤ length out
      → held ≡ true → SearchesHeld k q s cs ms coords marks reply n → PutsTold k.axes coords marks reply n out at out' r → Answers k (Some (Ask q)) held s held s out at out' r
  unfolding SearchesHeld
  answers_told q cs ms coords marks reply n f asked low room fit e d w = only_tree (Ask q) held s e (λ a y.
      let o = step k (tree a) (Ask q) in
      let h = asked a (held_shaped k s a y low) in
      let m : (17 * k.axes + 11) * o.figure ≤ (17 * k.axes + 11) * 512 = mul-le-mul_left (17 * k.axes + 11) h.1 in
      let x : at + (14 + (17 * k.axes + 11) * o.figure) ≤ length out = omega (arith, m, fit) in
      (subst (λ (t : List ℕ). Wrote out at t out' r) (sym (line_told q o (f o))) (told_is k.axes reply n coords marks out out' at r w o cs ms (d a y) h.0 (le_trans h.1 room) x), still q a e y, λ n. refl))

  -- a creation: its reply alone
  pub answers_create : (b : List Side) (cap : ℕ) (s' : Pieces) (q : ℕ) (held' : Bool) → Creates k b cap s s' q → held' ≡ held || eqb q 0 → Wrote out at (decimal q ++ crlf) out' r
      → Answers k (Some (Create b cap)) held s held' s' out at out' r
  unfolding Answers answer Creates
  answers_create b cap s' q held' d eh w a y =
      let g = d a y.1 in
      let o = step k a (Create b cap) in
      let l : decimal q ++ crlf ≡ line (Create b cap) o = ap (λ (j : ℕ). decimal j ++ crlf) g.reply ∙ sym (line_reply (Create b cap) o (create_bare b cap o).0) in
      let h : held' ≡ held? o.state = eh ∙ ap (λ (t : Bool). t || eqb q 0) y.0 ∙ ap (λ (j : ℕ). held? a || eqb j 0) g.reply ∙ step_held k a b cap in
      subst (Ends (Create b cap) held' s') (sym (heard_create k a b cap)) (subst (λ (t : List ℕ). Wrote out at t out' r) l w, (h, g.after), λ n. g.refused (not_done (Create b cap) (create_bare b cap) o n))
