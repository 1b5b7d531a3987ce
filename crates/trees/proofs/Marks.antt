-- Numbers that are met, each once at most: marks in a list of bytes, and lists of places or groups that are walked and marked. Assumes nothing.
use mathlib.Core.Path.{◌≡◌, refl, ap, ap₂, sym, ◌∙◌, subst}
use mathlib.Core.Logic.{◌≢◌}
use mathlib.Core.Bool.{Bool, true, false, not, ◌&&◌}
use mathlib.Core.List.{List, [], ◌∷◌}
use Prim.Native.Nat.{ℕ, suc, ◌+◌, ◌-◌, ◌*◌, ◌<◌, ◌≤◌}
use native.Mathlib.Omega.{arith}
use borrow.Author.Tests.{not-true, not-false}
use lib.ListN.{length, get_or, set, length-set}
use lib.Seq.{get_or-set_same, get_or-set_other}
use Rattle.pool.specs.Lists.{is, occ, last_or}
use Rattle.pool.specs.Writes.{kid}
use Rattle.pool.proofs.Lists.{by-eq, is_other, is_eq}
use Rattle.trees.proofs.Tests.{no_true}

-- each number at most once so far
abbrev pub Low : List ℕ → Type 0
Low m = (p : ℕ) → get_or m p 0 ≤ 1

-- from m to m' the numbers were met as often as f says, and none twice
pub record Marked (m m' : List ℕ) (f : ℕ → ℕ) : Type 0 where
  pub long : length m' ≡ length m
  pub sums : (p : ℕ) → get_or m' p 0 ≡ get_or m p 0 + f p
  pub low : Low m'

-- they can be met
abbrev pub Fresh : List ℕ → (ℕ → ℕ) → Type 0
Fresh m f = (p : ℕ) → get_or m p 0 + f p ≤ 1

pub marked_none : (m : List ℕ) → Low m → Marked m m (λ p. 0)
marked_none m h = record { long = refl; sums = λ p. omega arith; low = h }

pub marked_then : (m m1 m2 : List ℕ) (f g h : ℕ → ℕ) → Marked m m1 f → Marked m1 m2 g → ((p : ℕ) → h p ≡ f p + g p) → Marked m m2 h
marked_then m m1 m2 f g h a b e = record { long = b.long ∙ a.long; sums = λ p. omega (arith, a.sums p, b.sums p, e p); low = b.low }

pub marked_as : (m m1 : List ℕ) (f g : ℕ → ℕ) → Marked m m1 f → ((p : ℕ) → g p ≡ f p) → Marked m m1 g
marked_as m m1 f g a e = record { long = a.long; sums = λ p. omega (arith, a.sums p, e p); low = a.low }

-- ---- one number
-- whether p is met for the first time; if so it is marked
pub record Claims (m m' : List ℕ) (p : ℕ) (r : Bool) : Type 0 where
  pub sure : r ≡ true → (p < length m) × (get_or m p 0 ≡ 0) × (m' ≡ set m p 1)
  pub only : p < length m → get_or m p 0 ≡ 0 → r ≡ true

pub claims_yes : (m : List ℕ) (p : ℕ) → p < length m → get_or m p 0 ≡ 0 → Claims m (set m p 1) p true
claims_yes m p h e = record { sure = λ t. (h, e, refl); only = λ a b. refl }

pub claims_mark : (m m' : List ℕ) (p : ℕ) → Low m → Claims m m' p true → Marked m m' (λ q. is q p)
claims_mark m m' p h c =
    let s = c.sure refl in
    subst (λ (l : List ℕ). Marked m l (λ q. is q p)) (sym s.2) (record {
      long = length-set m p 1;
      sums = λ q. by-eq q p (λ e. at q e s.0 s.1) (λ e. get_or-set_other m p q 1 0 e ∙ omega (arith, is_other q p e));
      low = λ q. by-eq q p (λ e. omega (arith, at q e s.0 s.1, is_eq q p e, ap (λ (u : ℕ). get_or m u 0) e, s.1)) (λ e. omega (arith, get_or-set_other m p q 1 0 e, h q));
    })
  where
    at : (q : ℕ) → q ≡ p → p < length m → get_or m p 0 ≡ 0 → get_or (set m p 1) q 0 ≡ get_or m q 0 + is q p
    at q e l z = ap (λ (u : ℕ). get_or (set m p 1) u 0) e ∙ get_or-set_same m p 1 0 l ∙ omega (arith, is_eq q p e, ap (λ (u : ℕ). get_or m u 0) e, z)

-- ---- all of them but 0
pub record AllMet (m : List ℕ) (r : Bool) : Type 0 where
  pub sure : r ≡ true → (p : ℕ) → p ≢ 0 → p < length m → get_or m p 0 ≢ 0
  pub only : ((p : ℕ) → p ≢ 0 → p < length m → get_or m p 0 ≢ 0) → r ≡ true

-- ---- a list that is walked: `next` says what follows, every number of it is as `ok` says, and 0 ends it
module _ (next : ℕ → ℕ) (ok : ℕ → Type 0) where
  abbrev pub Linked : ℕ → List ℕ → Type 0
  Linked h [] = h ≡ 0
  Linked h (p ∷ l) = (h ≡ p) × (p ≢ 0) × ok p × Linked (next p) l

  -- the walk from h on, with b before it and at most `left` steps, says whether it ends as `done` asks with so many steps left; it marks what it meets
  module _ (done : ℕ → ℕ → Bool) where
    pub record Listed (m : List ℕ) (h b left : ℕ) (m' : List ℕ) : Type 0 where
      pub list : List ℕ
      pub rest : ℕ
      pub linked : Linked h list
      pub steps : left ≡ length list + rest
      pub ends : done rest (last_or b list) ≡ true
      pub marked : Marked m m' (λ p. occ p list)

    pub record Walks (m : List ℕ) (h b left : ℕ) (m' : List ℕ) (r : Bool) : Type 0 where
      pub sure : r ≡ true → Low m → Listed m h b left m'
      pub only : Low m → (l : List ℕ) (rest : ℕ) → Linked h l → left ≡ length l + rest → done rest (last_or b l) ≡ true → Fresh m (λ p. occ p l) → r ≡ true

    pub walks_end : (m : List ℕ) (h b left : ℕ) (r : Bool) → h ≡ 0 → r ≡ done left b → Walks m h b left m r
    walks_end m h b left r z e = record {
      sure = λ t low. record { list = []; rest = left; linked = z; steps = omega arith; ends = sym e ∙ t; marked = marked_none m low };
      only = λ low l rest k s d f. e ∙ at l rest k s d;
    }
      where
        at : (l : List ℕ) (rest : ℕ) → Linked h l → left ≡ length l + rest → done rest (last_or b l) ≡ true → done left b ≡ true
        at [] rest k s d = ap (λ (u : ℕ). done u b) {x = left} {y = rest} (omega (arith, s)) ∙ d
        at (p ∷ l) rest k s d = absurd (k.1 (sym k.0 ∙ z))

    -- it fails where there is no list
    pub walks_not : (m : List ℕ) (h b left : ℕ) (m' : List ℕ) → h ≢ 0 → (ok h → left ≢ 0 → get_or m h 0 ≡ 0 → ⊥) → Walks m h b left m' false
    walks_not m h b left m' z nay = record { sure = λ t. no_true t; only = λ low l rest k s d f. at l rest k s f }
      where
        at : (l : List ℕ) (rest : ℕ) → Linked h l → left ≡ length l + rest → Fresh m (λ p. occ p l) → false ≡ true
        at [] rest k s f = absurd (z k)
        at (p ∷ l) rest k s f = absurd (nay (subst ok (sym k.0) k.2) (λ e. absurd (omega (arith, s, e))) (omega (arith, f h, is_eq h p k.0)))

    pub walks_over : (m : List ℕ) (h b left : ℕ) (m' : List ℕ) → h ≢ 0 → left ≡ 0 → Walks m h b left m' false
    walks_over m h b left m' z e = walks_not m h b left m' z (λ o n f. n e)

    pub walks_bad : (m : List ℕ) (h b left : ℕ) (m' : List ℕ) → h ≢ 0 → (ok h → ⊥) → Walks m h b left m' false
    walks_bad m h b left m' z nay = walks_not m h b left m' z (λ o n f. nay o)

    pub walks_met : (m : List ℕ) (h b left : ℕ) (m1 m' : List ℕ) → h ≢ 0 → (ok h → h < length m) → Claims m m1 h false → Walks m h b left m' false
    walks_met m h b left m1 m' z low c = walks_not m h b left m' z (λ o n f. no_true (c.only (low o) f))

    pub walks_step : (m : List ℕ) (h b left : ℕ) (m1 : List ℕ) (h' left' : ℕ) (m' : List ℕ) (r : Bool) → h ≢ 0 → ok h → Claims m m1 h true → h' ≡ next h → left ≡ suc left' → Walks m1 h' h left' m' r → Walks m h b left m' r
    walks_step m h b left m1 h' left' m' r z o c en el w = record {
      sure = λ t low.
          let k = claims_mark m m1 h low c in
          let q = w.sure t k.low in
          record {
            list = h ∷ q.list;
            rest = q.rest;
            linked = (refl, z, o, subst (λ (u : ℕ). Linked u q.list) en q.linked);
            steps = omega (arith, el, q.steps);
            ends = q.ends;
            marked = marked_then m m1 m' _ _ _ k q.marked (λ p. refl);
          };
      only = λ low l rest k s d f. at l rest k s d f (claims_mark m m1 h low c);
    }
      where
        at : (l : List ℕ) (rest : ℕ) → Linked h l → left ≡ length l + rest → done rest (last_or b l) ≡ true → Fresh m (λ p. occ p l) → Marked m m1 (λ q. is q h) → r ≡ true
        at [] rest k s d f mk = absurd (z k)
        at (p ∷ l) rest k s d f mk = w.only mk.low l rest (subst (λ (u : ℕ). Linked u l) (sym (en ∙ ap next k.0)) k.3) (omega (arith, s, el))
            (subst (λ (u : ℕ). done rest (last_or u l) ≡ true) (sym k.0) d) (λ q. omega (arith, f q, mk.sums q, ap (λ (u : ℕ). is q u) k.0))

-- ---- a list of free ones: all of it is walked, and it may end anywhere
abbrev pub always : ℕ → ℕ → Bool
always r b = true

module _ (next : ℕ → ℕ) (ok : ℕ → Type 0) where
  -- there is a mark for each that is as it must be
  pub record Fitted (m : List ℕ) : Type 0 where
    pub within : (p : ℕ) → p < length m → ok p
    pub below : (p : ℕ) → ok p → p < length m

  unfoldable pub Frees : (m : List ℕ) (h : ℕ) (m' : List ℕ) → Bool → Type 0
  Frees m h m' r = Fitted m → (b : ℕ) → Walks next ok always m h b (length m) m' r

  -- the loop: what is left leads to the whole
  pub record Freeing (m : List ℕ) (h : ℕ) (now : List ℕ) (q left : ℕ) : Type 0 where
    pub same : length now ≡ length m
    pub on : Fitted m → (m' : List ℕ) (r : Bool) → ((b : ℕ) → Walks next ok always now q b left m' r) → (b : ℕ) → Walks next ok always m h b (length m) m' r

  pub freeing_start : (m : List ℕ) (h q : ℕ) → q ≡ h → Freeing m h m q (length m)
  freeing_start m h q e = record { same = refl; on = λ f m' r w b. subst (λ (k : ℕ). Walks next ok always m k b (length m) m' r) e (w b) }

  module _ (m : List ℕ) (h : ℕ) (now : List ℕ) (q left : ℕ) (g : Freeing m h now q left) where
    pub freeing_step : (now' : List ℕ) (q' : ℕ) (t : Bool) → q ≢ 0 → left ≢ 0 → Claims now now' q t → t ≡ true → q' ≡ next q → Freeing m h now' q' (left - 1)
    freeing_step now' q' t nz nl c e eq =
        let c1 : Claims now now' q true = subst (λ (u : Bool). Claims now now' q u) e c in
        let s = c1.sure refl in
        record {
          same = ap length s.2 ∙ length-set now q 1 ∙ g.same;
          on = λ f m' r w. g.on f m' r (λ b. walks_step next ok always now q b left now' q' (left - 1) m' r nz (f.within q (omega (arith, s.0, g.same))) c1 eq (omega arith) (w q));
        }

    pub freeing_over : (m' : List ℕ) → q ≢ 0 → left ≡ 0 → Frees m h m' false
    unfolding Frees
    freeing_over m' nz e f = g.on f m' false (λ b. walks_over next ok always now q b left m' nz e)

    pub freeing_met : (now' m' : List ℕ) (t : Bool) → q ≢ 0 → Claims now now' q t → not t ≡ true → Frees m h m' false
    unfolding Frees
    freeing_met now' m' t nz c e f = g.on f m' false (λ b. walks_met next ok always now q b left now' m' nz (λ o. omega (arith, f.below q o, g.same)) (subst (λ (u : Bool). Claims now now' q u) (not-true t e) c))

    pub freeing_end : q ≡ 0 → Frees m h now true
    unfolding Frees
    freeing_end z f = g.on f now true (λ b. walks_end next ok always now q b left true z refl)

-- ---- what was not met is free: the free places and the free groups, each in its list, and then nothing is left
module _ (ways : ℕ) (n x : List ℕ) where
  abbrev pub FreedPlaces : (m m' : List ℕ) → Bool → Type 0
  FreedPlaces m m' y = Frees (λ p. get_or x p 0) (λ p. p < length x) m (get_or x 0 0) m' y

  abbrev pub FreedGroups : (u u' : List ℕ) → Bool → Type 0
  FreedGroups u u' o = Frees (λ g. get_or n (4 * kid ways g 0) 0) (λ g. 4 * kid ways g ways ≤ length n) u (get_or n 0 0) u' o

  -- the answers of the tests one after the other: a test is made where those before it said yes
  pub record Rest (m u : List ℕ) (r : Bool) : Type 0 where
    pub m' : List ℕ
    pub u' : List ℕ
    pub y : Bool
    pub o : Bool
    pub d : Bool
    pub e : Bool
    pub places : FreedPlaces m m' y
    pub groups : y ≡ true → FreedGroups u u' o
    pub met_places : o ≡ true → AllMet m' d
    pub met_groups : o ≡ true → AllMet u' e
    pub answer : r ≡ y && (o && (d && e))

  pub rest_places : (m u m' : List ℕ) (y : Bool) → FreedPlaces m m' y → not y ≡ true → Rest m u false
  rest_places m u m' y f e = record { m' = m'; u' = u; y = y; o = false; d = false; e = false; places = f; groups = λ t. no_true (sym (not-true y e) ∙ t); met_places = λ t. no_true t; met_groups = λ t. no_true t; answer = ap (λ (b : Bool). b && false) (sym (not-true y e)) }

  pub rest_groups : (m u m' u' : List ℕ) (y o : Bool) → FreedPlaces m m' y → not y ≡ false → FreedGroups u u' o → not o ≡ true → Rest m u false
  rest_groups m u m' u' y o f ey g eo =
      let z : o ≡ false = not-true o eo in
      record { m' = m'; u' = u'; y = y; o = o; d = false; e = false; places = f; groups = λ t. g; met_places = λ t. no_true (sym z ∙ t); met_groups = λ t. no_true (sym z ∙ t); answer = ap₂ (λ (b c : Bool). b && (c && false)) (sym (not-false y ey)) (sym z) }

  pub rest_all : (m u m' u' : List ℕ) (y o d e : Bool) → FreedPlaces m m' y → not y ≡ false → FreedGroups u u' o → not o ≡ false → AllMet m' d → AllMet u' e → Rest m u (d && e)
  rest_all m u m' u' y o d e f ey g eo ad ae = record { m' = m'; u' = u'; y = y; o = o; d = d; e = e; places = f; groups = λ t. g; met_places = λ t. ad; met_groups = λ t. ae; answer = ap₂ (λ (b c : Bool). b && (c && (d && e))) (sym (not-false y ey)) (sym (not-false o eo)) }
