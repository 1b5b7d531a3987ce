-- A call that tests the pieces first and is proved on those that hold a sound tree meets its contract on any pieces. Over both trees. Assumes nothing.
use mathlib.Core.Path.{◌≡◌, refl, sym, ◌∙◌, subst}
use mathlib.Core.Bool.{Bool, true, false, not}
use mathlib.Core.List.{List, flatten}
use Prim.Native.Nat.{ℕ}
use lib.Dec.{T}
use borrow.Author.Tests.{not-true, not-false}
use Rattle.model.specs.Calls.{Kind, Plan, State, misfit, broken, tree, number, Call, Create, Insert, Bulk, Delete, Clear, Ask, Query, refuse, unsound, step}
use Rattle.trees.specs.Pieces.{Pieces, Says, Sane, Decides, Gives, Does, DoesHeld, Tells, Asks, AsksHeld, Hands, Searches, SearchesHeld, coordinates, payloads}

-- every call but a creation
abbrev pub NoCreation : Call → Type 0
NoCreation (Create b cap) = ⊥
NoCreation (Insert p) = Unit {0}
NoCreation (Bulk ps) = Unit {0}
NoCreation (Delete p) = Unit {0}
NoCreation Clear = Unit {0}
NoCreation (Ask q) = Unit {0}

module _ (k : Kind) (s : Pieces) (t : Bool) (d : Decides t (Sane k s)) where
  -- ---- pieces that hold no sound tree
  module _ (e : not t ≡ true) where
    no_tree_held : {C : Type 0} (a : Plan) → Says k s (tree a) → C
    no_tree_held a y = absurd (subst T (sym (d.only (record { fits = y.0; plan = a; holds = y.1 })) ∙ not-true t e) tt)

    refused : (c : Call) (a : State) → NoCreation c → Says k s a → step k a c ≡ refuse unsound a
    unfolding step
    refused c misfit nc y = refl
    refused c broken nc y = broken_case c nc
      where
        broken_case : (c : Call) → NoCreation c → step k broken c ≡ refuse unsound broken
        broken_case (Create b cap) nc = absurd nc
        broken_case (Insert p) nc = refl
        broken_case (Bulk ps) nc = refl
        broken_case (Delete p) nc = refl
        broken_case Clear nc = refl
        broken_case (Ask q) nc = refl
    refused c (tree a) nc y = no_tree_held a y

    pub does_not : (c : Call) → NoCreation c → Does k c s s 8 0
    unfolding Does number
    does_not c nc a y = subst (λ o. Gives k o s s 8 0) (sym (refused c a nc y)) (record { reply = refl; figure = refl; after = y; refused = λ p q. refl })

    pub asks_not : (q : Query) → Asks k q s 8 0
    unfolding Asks number
    asks_not q a y = subst (λ o. Tells o 8 0) (sym (refused (Ask q) a tt y)) (record { reply = refl; figure = refl })

    pub searches_not : (q : Query) (cs ms : List ℕ) → Searches k q s cs ms cs ms 8 0
    unfolding Searches number coordinates payloads flatten
    searches_not q cs ms a y = subst (λ o. Hands o cs ms cs ms 8 0) (sym (refused (Ask q) a tt y)) (record { reply = refl; figure = refl; coordinates = refl; payloads = refl })

  -- ---- pieces that do
  module _ (e : not t ≡ false) where
    sane : Sane k s
    sane = d.sure (not-false t e)

    only_tree : (P : State → Type 0) → ((a : Plan) → Says k s (tree a) → P (tree a)) → (a : State) → Says k s a → P a
    only_tree P f misfit y = absurd (y sane.fits)
    only_tree P f broken y = absurd (y.1 sane.plan sane.holds)
    only_tree P f (tree a) y = f a y

    pub does_held : (c : Call) (s' : Pieces) (r n : ℕ) → DoesHeld k c s s' r n → Does k c s s' r n
    unfolding Does DoesHeld
    does_held c s' r n h = only_tree (λ a. Gives k (step k a c) s s' r n) h

    pub asks_held : (q : Query) (r n : ℕ) → AsksHeld k q s r n → Asks k q s r n
    unfolding Asks AsksHeld
    asks_held q r n h = only_tree (λ a. Tells (step k a (Ask q)) r n) h

    pub searches_held : (q : Query) (cs ms cs' ms' : List ℕ) (r n : ℕ) → SearchesHeld k q s cs ms cs' ms' r n → Searches k q s cs ms cs' ms' r n
    unfolding Searches SearchesHeld
    searches_held q cs ms cs' ms' r n h = only_tree (λ a. Hands (step k a (Ask q)) cs ms cs' ms' r n) h
