-- What a list of calls did, so that it can be said that the points held are the accepted inserts less the successful deletes, counted since the last
-- accepted creation or clear. Definitions only.
use Rattle.std.specs.Prelude.{Bool, true, false, cond, List, [], ◌∷◌, ◌++◌, leb, ltb, eqb}
use Rattle.model.specs.Boxes.{inside}
use Rattle.model.specs.Trees.{Point, count, nodes, insert}
use Rattle.model.specs.Calls.{number, Kind, ways, Plan, State, misfit, broken, tree, with_root, Call, Create, Insert, Bulk, Delete, Clear, Ask, step}

-- the state after a list of calls
unfoldable pub run : Kind → State → List Call → State
unfolding step
run k s [] = s
run k s (c ∷ cs) = run k (step k s c).state cs

-- the points of accepted inserts, and of successful deletes
pub record Ledger : Type 0 where
  pub stored : List Point
  pub removed : List Point

abbrev pub blank : Ledger
blank = record { stored = []; removed = [] }

-- the points that a bulk stores
unfoldable pub bulk_stores : Kind → Plan → List Point → List Point
unfolding inside count nodes insert
bulk_stores k a [] = []
bulk_stores k a (p ∷ ps) =
    let t = insert (ways k) a.capacity 32 a.boundary p a.root in
    elim (inside a.boundary p.at) [
      | false ↦ bulk_stores k a ps
      | true ↦ elim (ltb (count 32 a.root) 512) [ false ↦ [] | true ↦ elim (leb (nodes 32 t) k.most) [ false ↦ [] | true ↦ p ∷ bulk_stores k (with_root a t) ps ] ]
    ]

-- whether a call was done
unfoldable pub done? : Kind → State → Call → Bool
unfolding step number
done? k s c = eqb (number (step k s c).reply) 0

-- the ledger after a call: a creation or a clear that is done begins it anew, an insert or a delete that is done is entered, and what a bulk stored
unfoldable pub entered : Kind → State → Call → Ledger → Ledger
unfolding bulk_stores done?
entered k s (Create b cap) l = cond (done? k s (Create b cap)) blank l
entered k s (Insert p) l = cond (done? k s (Insert p)) (record { stored = l.stored ++ (p ∷ []); removed = l.removed }) l
entered k s (Delete p) l = cond (done? k s (Delete p)) (record { stored = l.stored; removed = l.removed ++ (p ∷ []) }) l
entered k s Clear l = cond (done? k s Clear) blank l
entered k (tree a) (Bulk ps) l = record { stored = l.stored ++ bulk_stores k a ps; removed = l.removed }
entered k misfit (Bulk ps) l = l
entered k broken (Bulk ps) l = l
entered k s (Ask q) l = l

unfoldable pub ledger : Kind → State → List Call → Ledger → Ledger
unfolding step entered
ledger k s [] l = l
ledger k s (c ∷ cs) l = ledger k (step k s c).state cs (entered k s c l)
