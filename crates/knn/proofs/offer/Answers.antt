-- `knn::offer`: the goals that the search leaves. Assumes nothing.
use mathlib.Core.Path.{refl, sym, subst}
use lib.Dec.{T}
use Rattle.knn.proofs.Offers.{offer_room, offer_none, offer_away, offer_drop, sizes}
use Rattle.knn.proofs.offer.Goals as goal

pub returns-then-n-room : goal.returns-then-n-room
returns-then-n-room c = let r = offer_room _ _ _ _ _ _ _ _ _ _ (sizes _ _ _ _ _ _ _ _ c.min-places.ensures c.min.ensures c.min-room.ensures c.min-n.ensures) (subst T (sym c.well_formed.1.1.1.1.0.1) tt) c.slice_known-1.given c.if-n-room.true c.insert.ensures in record { value = r.0; table = r.1.0; model = r.1.1 }

pub returns-then-n-eq0 : goal.returns-then-n-eq0
returns-then-n-eq0 c = let r = offer_none _ _ _ _ _ _ _ _ _ _ (sizes _ _ _ _ _ _ _ _ c.min-places.ensures c.min.ensures c.min-room.ensures c.min-n.ensures) (subst T (sym c.well_formed.1.1.1.1.0.1) tt) c.slice_known-1.given c.if-n-room.false c.if-n-eq0.true refl refl in record { value = r.0; table = r.1.0; model = r.1.1 }

pub returns-then-distance-last : goal.returns-then-distance-last
returns-then-distance-last c = let r = offer_away _ _ _ _ _ _ _ _ _ _ (sizes _ _ _ _ _ _ _ _ c.min-places.ensures c.min.ensures c.min-room.ensures c.min-n.ensures) (subst T (sym c.well_formed.1.1.1.1.0.1) tt) c.slice_known-1.given c.if-n-room.false c.if-n-eq0.false c.if-distance-last.true refl refl in record { value = r.0; table = r.1.0; model = r.1.1 }

pub returns : goal.returns
returns c = let r = offer_drop _ _ _ _ _ _ _ _ _ _ (sizes _ _ _ _ _ _ _ _ c.min-places.ensures c.min.ensures c.min-room.ensures c.min-n.ensures) (subst T (sym c.well_formed.1.1.1.1.0.1) tt) c.slice_known-1.given c.if-n-room.false c.if-n-eq0.false c.if-distance-last.false c.insert-2.ensures in record { value = r.0; table = r.1.0; model = r.1.1 }
