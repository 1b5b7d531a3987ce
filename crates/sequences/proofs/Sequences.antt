-- Any sequence of the host's calls on one tree's pieces is the model's run of these calls; so after it the points held are the accepted inserts less the successful
-- deletes, counted since the last accepted creation or clear. Over both trees. Assumes nothing.
use mathlib.Core.Path.{◌≡◌, refl, sym, subst}
use mathlib.Core.List.{List, [], ◌∷◌}
use Prim.Native.Nat.{ℕ, ◌≤◌}
use lib.Dec.{T}
use lib.ListN.{length}
use Rattle.model.specs.Boxes.{Side, acceptable}
use Rattle.model.specs.Calls.{Kind, Plan, State, misfit, broken, tree, empty, Ask, Query, step}
use Rattle.model.specs.History.{run, ledger, blank}
use Rattle.model.specs.Soundness.{All}
use Rattle.model.proofs.After.{Balanced, ask_same, held_after_creation}
use Rattle.model.proofs.Calls.{Proper, Regular}
use Rattle.model.proofs.Inside.{F64Side}
use Rattle.trees.specs.Pieces.{Pieces, Says, Does, Asks, Searches}
use Rattle.sequences.specs.Runs.{Made, calls, Runs, finally}

pub runs_says : (k : Kind) (s : Pieces) (ms : List Made) → Runs k s ms → (a : State) → Says k s a → Says k (finally s ms) (run k a (calls ms))
unfolding run Does
runs_says k s [] r a y = y
runs_says k s (m ∷ ms) r a y = runs_says k m.left ms r.1 (step k a m.call).state (r.0 a y).after

-- ---- a question is a call that leaves the pieces as they are
ask_state : (k : Kind) (a : State) (q : Query) → (step k a (Ask q)).state ≡ a
unfolding step
ask_state k misfit q = refl
ask_state k broken q = refl
ask_state k (tree a) q = ask_same a q

module _ (k : Kind) (s : Pieces) (q : Query) (r n : ℕ) where
  pub asks_does : Asks k q s r n → Does k (Ask q) s s r n
  unfolding Asks Does
  asks_does h a y = record { reply = (h a y).reply; figure = (h a y).figure; after = subst (Says k s) (sym (ask_state k a q)) y; refused = λ e f. refl }

  pub searches_does : (cs ms cs' ms' : List ℕ) → Searches k q s cs ms cs' ms' r n → Does k (Ask q) s s r n
  unfolding Searches Does
  searches_does cs ms cs' ms' h a y = record { reply = (h a y).reply; figure = (h a y).figure; after = subst (Says k s) (sym (ask_state k a q)) y; refused = λ e f. refl }

-- ---- "After any sequence of calls the points held are the accepted inserts less the successful deletes"
pub held_after_calls : (k : Kind) (b : List Side) (cap : ℕ) (s : Pieces) (ms : List Made) → Regular k → All F64Side b → length b ≡ k.axes → 1 ≤ cap → T (acceptable b) → Says k s (tree (empty b cap)) → All (Proper k) (calls ms) → Runs k s ms
    → (a : Plan) × Says k (finally s ms) (tree a) × Balanced a (ledger k (tree (empty b cap)) (calls ms) blank)
held_after_calls k b cap s ms rg f e c h y pr r =
    let t = held_after_creation k b cap (calls ms) rg f e c h pr in
    (t.0, subst (Says k (finally s ms)) t.1 (runs_says k s ms r (tree (empty b cap)) y), t.3)
