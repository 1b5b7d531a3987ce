-- A turn of a program, and that turns follow each other. Over any kind of tree and any meaning `of` of one record.
use Prim.Native.Nat.{ℕ, zero, suc, ◌+◌, ◌-◌, ◌≤◌, ◌<◌}
use mathlib.Core.Path.{◌≡◌, refl, sym, ap, ap₂, ◌∙◌, subst, subst₂, subst⁻¹}
use mathlib.Core.Bool.{Bool, true, false, not, ◌&&◌}
use mathlib.Core.List.{List, [], ◌∷◌, ◌++◌, append-nil}
use Rattle.std.specs.Prelude.{Option}
use native.Mathlib.Nat.{sub-zero}
use native.Mathlib.Omega.{arith}
use lib.ListN.{length, take, drop, length-drop, length-take}
use lib.Seq.{drop_at, drop-drop, length-sets, sets, sets-eq, take-add, take-nil}
use borrow.Author.Tests.{eq-eqb, ne_eqb}
use Rattle.model.specs.Calls.{Call, Kind, State, broken}
use Rattle.trees.specs.Pieces.{Pieces}
use Rattle.record.specs.Input.{Unended, begun, records, unended}
use Rattle.record.proofs.Kept.{kept_front}
use Rattle.record.proofs.Parts.{rest_is}
use Rattle.record.proofs.Reading.{no}
use Rattle.record.proofs.Streams.{records_end, unended_take}
use Rattle.replies.specs.Lines.{lines, state}
use Rattle.replies.specs.Programs.{Fed, Feeds, Keeps, Puts, Wrote, longest}
use Rattle.turns.specs.Places.{Digests, Sits, Turned, Works, at_end, begin, bytes_of, came, carried, first, given, does_go_on, turn}
use Rattle.turns.proofs.Turns.{fed_kept, turns_keep, unended_state}
use Rattle.turns.specs.declared.Next.{Next}
use Rattle.turns.specs.declared.Next.TheVariants as next
use Rattle.turns.specs.declared.Place.{Place}

-- ---- bytes at the front, and bytes of a text
front : (o p o' : List ℕ) (r : ℕ) → Wrote o 0 p o' r → r ≤ length o → take r o' ≡ p
front o p o' r w h =
    let e : r ≡ length p = omega (arith, w.0) in
    ap₂ (λ (j : ℕ) (l : List ℕ). take j l) e w.1 ∙ kept_front o p (omega (arith, e, h))

behind : (o p o' : List ℕ) (r : ℕ) → Wrote o 0 p o' r → r ≤ length o → drop r o' ≡ drop r o
behind o p o' r w h =
    let e : r ≡ length p = omega (arith, w.0) in
    let z : 0 + length p ≡ r = omega (arith, e) in
    ap (drop r) (w.1 ∙ sets-eq p o 0 (omega (arith, e, h))) ∙ drop_at p (drop (0 + length p) o) r (sym e) ∙ ap (λ (j : ℕ). drop j o) z

drop_take : (r n : ℕ) (l : List ℕ) → drop r (take n l) ≡ take (n - r) (drop r l)
drop_take zero n l = ap (λ (j : ℕ). take j l) (sym (sub-zero n))
drop_take (suc r) zero l = ap (λ (j : ℕ). take j (drop (suc r) l)) {x = 0} {y = 0 - suc r} (omega arith)
drop_take (suc r) (suc n) [] = sym (take-nil (suc n - suc r))
drop_take (suc r) (suc n) (x ∷ l) = drop_take r n l ∙ ap (λ (j : ℕ). take j (drop r l)) {x = n - r} {y = suc n - suc r} (omega arith)

further : (text : List ℕ) (from till read : ℕ) → drop read (bytes_of from till text) ≡ bytes_of (from + read) till text
further text from till read =
    drop_take read (till - from) (drop from text) ∙ ap₂ (λ (j : ℕ) (l : List ℕ). take j l) {x = till - from - read} {y = till - (from + read)} (omega arith) (drop-drop read from text)

longer : (text : List ℕ) (from till got : ℕ) → from ≤ till → bytes_of from (till + got) text ≡ bytes_of from till text ++ take got (drop till text)
longer text from till got h =
    ap (λ (j : ℕ). take j (drop from text)) {x = till + got - from} {y = till - from + got} (omega arith) ∙ take-add (till - from) got (drop from text)
    ∙ ap (λ (l : List ℕ). bytes_of from till text ++ take got l) (drop-drop (till - from) from text ∙ ap (λ (j : ℕ). drop j text) {x = from + (till - from)} {y = till} (omega arith))

bytes_few : (text : List ℕ) (from till : ℕ) → length (bytes_of from till text) ≤ till - from
bytes_few text from till = omega (arith, length-take (till - from) (drop from text))

-- ---- lines were answered
module _ (k : Kind) (of : List ℕ → Option Call) (text : List ℕ) (from end' : ℕ) (start held : Bool) (s : Pieces) (out : List ℕ) (held' start' : Bool) (s' : Pieces) (out' : List ℕ) (read to : ℕ)
    (f : (a : State) → Keeps k held s a → Feeds k of a start (bytes_of from end' text) s held' s' start' (drop read (bytes_of from end' text)) out 0 out' to)
    (bounds : (read ≤ length (bytes_of from end' text)) × (to ≤ length out)) (range : (from ≤ end') × (end' ≤ length text) × (longest k.axes ≤ length out)) (same : length out' ≡ length out) where
  -- no room is left
  abbrev full : Place
  full = record { from = from + read; end = end'; start = start'; held = held'; ready = to; next = next.Work }

  pub digests_full : (a : State) → Keeps k held s a → Digests k of a start (bytes_of from end' text) full s s' text out out'
  digests_full a y =
      let g = f a y in
      record {
        said = g.said;
        state = g.state;
        keeps = g.keeps;
        unchanged = g.unchanged;
        fed = subst₂ (λ (b o : List ℕ). Fed k of a start (bytes_of from end' text) g.said g.state start' b o) (further text from end' read) (sym (front out g.printed out' to g.wrote bounds.1)) g.fed;
        rest = behind out g.printed out' to g.wrote bounds.1;
      }

  pub sits_full : length out < to + longest k.axes → Sits k full text out'
  sits_full h = record {
    ordered = omega (arith, bounds.0, bytes_few text from end', range.0);
    within = range.1;
    ready = omega (arith, bounds.1, same);
    reads = λ e. let z : ◌≡◌ {A = ℕ} 0 1 = cc in absurd (omega arith);
    works = λ e. omega (arith, h, same);
  }

  -- no line feed is left
  module _ (text' : List ℕ) (m : ℕ) (moved : text' ≡ sets text 0 (take 133 (bytes_of (from + read) end' text))) (many : m ≡ length (take 133 (bytes_of (from + read) end' text))) (ended : Unended (drop read (bytes_of from end' text))) where
    abbrev ahead : Place
    ahead = record { from = 0; end = m; start = start'; held = held'; ready = to; next = next.Read }

    kept_few : m ≤ 133
    kept_few = omega (arith, many, length-take 133 (bytes_of (from + read) end' text))

    kept_within : m ≤ length text
    kept_within = omega (arith, many, length-take 133 (bytes_of (from + read) end' text), length-take (end' - (from + read)) (drop (from + read) text), length-drop (from + read) text)

    kept_is : bytes_of 0 m text' ≡ take 133 (drop read (bytes_of from end' text))
    kept_is =
        ap₂ (λ (j : ℕ) (l : List ℕ). take j l) (sub-zero m ∙ many) moved ∙ kept_front text (take 133 (bytes_of (from + read) end' text)) (omega (arith, many, kept_within)) ∙ ap (take 133) (sym (further text from end' read))

    pub digests_ahead : (a : State) → Keeps k held s a → Digests k of a start (bytes_of from end' text) ahead s s' text' out out'
    digests_ahead a y =
        let g = f a y in
        record {
          said = g.said;
          state = g.state;
          keeps = g.keeps;
          unchanged = g.unchanged;
          fed = subst₂ (λ (b o : List ℕ). Fed k of a start (bytes_of from end' text) g.said g.state start' b o) (sym kept_is) (sym (front out g.printed out' to g.wrote bounds.1)) (fed_kept k of ended g.fed);
          rest = behind out g.printed out' to g.wrote bounds.1;
        }

    pub sits_ahead : Sits k ahead text' out'
    sits_ahead = record {
      ordered = omega arith;
      within = omega (arith, kept_within, ap (λ (l : List ℕ). length l) moved, length-sets text 0 (take 133 (bytes_of (from + read) end' text)));
      ready = omega (arith, bounds.1, same);
      reads = λ e. (kept_few, subst⁻¹ Unended kept_is (unended_take 133 (drop read (bytes_of from end' text)) ended));
      works = λ e. let z : ◌≡◌ {A = ℕ} 0 1 = cc in absurd (omega arith);
    }

-- ---- a turn, by what comes next
module _ (k : Kind) (of : List ℕ → Option Call) (p : Place) (got : ℕ) (text : List ℕ) (s : Pieces) (out : List ℕ) where
  -- bytes were answered and something comes next: they are those that the turn had before it
  works_fed : {b : List ℕ} → b ≡ given p got text → does_go_on p.next ≡ true → (p' : Place) (s' : Pieces) (text' out' : List ℕ) → does_go_on p'.next ≡ true → {a : State} → Digests k of a p.start b p' s s' text' out out' → Works k of a p got text p' s s' text' out out'
  works_fed e on p' s' text' out' more {a} d = record {
    said = d.said;
    state = d.state;
    keeps = d.keeps;
    unchanged = d.unchanged;
    goes_on = λ l. subst (λ (b : List ℕ). Fed k of a p.start b d.said d.state p'.start (carried p' text') (take p'.ready out')) e d.fed;
    ends = λ l n. no (sym n ∙ more);
    over = λ l. no (sym l ∙ on);
    still = λ n. no (sym n ∙ more);
    rest = d.rest;
  }

  pub works_on : p.next ≡ next.Work → (p' : Place) (s' : Pieces) (text' out' : List ℕ) → ((a : State) → Keeps k p.held s a → Digests k of a p.start (carried p text) p' s s' text' out out') → does_go_on p'.next ≡ true → (a : State) → Keeps k p.held s a → Works k of a p got text p' s s' text' out out'
  unfolding came does_go_on
  works_on e p' s' text' out' f more a y =
      works_fed (sym (append-nil (carried p text)) ∙ ap (λ (n : Next). carried p text ++ came n got p.end text) (sym e)) (ap does_go_on e) p' s' text' out' more (f a y)

  pub works_chunk : p.next ≡ next.Read → p.from ≤ p.end → (p' : Place) (s' : Pieces) (text' out' : List ℕ) → ((a : State) → Keeps k p.held s a → Digests k of a p.start (bytes_of p.from (p.end + got) text) p' s s' text' out out')
      → does_go_on p'.next ≡ true → (a : State) → Keeps k p.held s a → Works k of a p got text p' s s' text' out out'
  unfolding came does_go_on
  works_chunk e h p' s' text' out' f more a y =
      works_fed (longer text p.from p.end got h ∙ ap (λ (n : Next). carried p text ++ came n got p.end text) (sym e)) (ap does_go_on e) p' s' text' out' more (f a y)

  -- the end of the input
  module _ (ready : ℕ) (out' : List ℕ) where
    abbrev last : Place
    last = record { from = p.end; end = p.end; start = p.start; held = p.held; ready = ready; next = next.Done }

    nothing_came : p.next ≡ next.Read → got ≤ 0 → given p got text ≡ carried p text
    unfolding came
    nothing_came e z =
        let none : got ≡ 0 = omega (arith, z) in
        ap₂ (λ (n : Next) (g : ℕ). carried p text ++ came n g p.end text) e none ∙ append-nil (carried p text)

    pub works_end : p.next ≡ next.Read → got ≤ 0 → Unended (carried p text) → 12 ≤ length out → ready ≤ length out → ((k : Kind) (a : State) → Puts 12 out 0 (lines k a (unended (begun p.start (carried p text)))) out' ready)
        → (a : State) → Keeps k p.held s a → Works k of a p got text last s s text out out'
    unfolding does_go_on
    works_end e z u room fits w a y =
        let q = (w k a).wrote (omega (arith, room)) in
        let all : unended (begun p.start (carried p text)) ≡ records of p.start (given p got text) = sym (records_end of p.start (carried p text) u) ∙ ap (records of p.start) (sym (nothing_came e z)) in
        record {
          said = [];
          state = a;
          keeps = y;
          unchanged = λ n. refl;
          goes_on = λ l. no l;
          ends = λ l n. (front out (lines k a (unended (begun p.start (carried p text)))) out' ready q fits ∙ ap (lines k a) all, sym (unended_state k a (begun p.start (carried p text))) ∙ ap (state k a) all);
          over = λ l. no (sym l ∙ ap does_go_on e);
          still = λ n. refl;
          rest = behind out (lines k a (unended (begun p.start (carried p text)))) out' ready q fits;
        }

  -- after the end nothing is done
  abbrev over : Place
  over = record { from = p.from; end = p.end; start = p.start; held = p.held; ready = 0; next = next.Done }

  pub works_over : p.next ≡ next.Done → (a : State) → Keeps k p.held s a → Works k of a p got text over s s text out out
  unfolding does_go_on
  works_over e a y = record {
    said = [];
    state = a;
    keeps = y;
    unchanged = λ n. refl;
    goes_on = λ l. no l;
    ends = λ l n. no (sym (ap does_go_on e) ∙ l);
    over = λ l. (refl, refl);
    still = λ n. refl;
    rest = refl;
  }

module _ (k : Kind) (p : Place) (text out : List ℕ) where
  pub sits_end : (ready : ℕ) (out' : List ℕ) → p.end ≤ length text → ready ≤ length out → length out' ≡ length out → Sits k (record { from = p.end; end = p.end; start = p.start; held = p.held; ready = ready; next = next.Done }) text out'
  sits_end ready out' h r same = record {
    ordered = omega arith;
    within = h;
    ready = omega (arith, r, same);
    reads = λ e. let z : ◌≡◌ {A = ℕ} 0 1 = cc in absurd (omega arith);
    works = λ e. let z : ◌≡◌ {A = ℕ} 0 1 = cc in absurd (omega arith);
  }

  pub sits_over : p.from ≤ p.end → p.end ≤ length text → Sits k (record { from = p.from; end = p.end; start = p.start; held = p.held; ready = 0; next = next.Done }) text out
  sits_over g h = record {
    ordered = g;
    within = h;
    ready = omega arith;
    reads = λ e. let z : ◌≡◌ {A = ℕ} 0 1 = cc in absurd (omega arith);
    works = λ e. let z : ◌≡◌ {A = ℕ} 0 1 = cc in absurd (omega arith);
  }

-- ---- turns from the very start
module _ (k : Kind) where
  pub sits_start : (text out : List ℕ) → Sits k first text out
  sits_start text out = record {
    ordered = omega arith;
    within = omega arith;
    ready = omega arith;
    reads = λ e. (omega arith, λ i h. absurd (omega (arith, h)));
    works = λ e. let z : ◌≡◌ {A = ℕ} 0 1 = cc in absurd (omega arith);
  }

-- ---- a read behind what is carried
pub length_rest : (text : List ℕ) (till : ℕ) → length (take (length text - till) (drop till text)) ≡ length text - till
length_rest text till = ap length (rest_is text till) ∙ length-drop till text

carried_same : (p : Place) (text text₁ : List ℕ) → take p.end text₁ ≡ take p.end text → carried p text₁ ≡ carried p text
carried_same p text text₁ e = sym (drop_take p.from p.end text₁) ∙ ap (drop p.from) e ∙ drop_take p.from p.end text

module _ (k : Kind) (of : List ℕ → Option Call) (p : Place) (text text₁ : List ℕ) (same : take p.end text₁ ≡ take p.end text) where
  pub sits_again : (out : List ℕ) → Sits k p text out → length text₁ ≡ length text → Sits k p text₁ out
  sits_again out h e = record {
    ordered = h.ordered;
    within = omega (arith, h.within, e);
    ready = h.ready;
    reads = λ f. ((h.reads f).0, subst⁻¹ Unended (carried_same p text text₁ same) (h.reads f).1);
    works = h.works;
  }

  pub turned_on : (s : Pieces) (got : ℕ) (p' : Place) (s' : Pieces) (text' out out' : List ℕ) → Turned k of p s text → does_go_on p.next ≡ true → ((a : State) → Keeps k p.held s a → Works k of a p got text₁ p' s s' text' out out') → does_go_on p'.next ≡ not (at_end p.next got) → Turned k of p' s' text'
  turned_on s got p' s' text' out out' t on f n =
      let w = f t.state (turns_keep k of t.turns) in
      record { input = t.input ++ came p.next got p.end text₁; printed = t.printed ++ take p'.ready out'; state = w.state; turns = turn t.turns on (carried_same p text text₁ same) n w }

-- ---- whether a turn is the last
pub ends_chunk : (n : Next) (got : ℕ) (g : Bool) → n ≡ next.Read → 0 < got → g ≡ true → g ≡ not (at_end n got)
unfolding at_end
ends_chunk n got g e h eg = subst⁻¹ (λ (m : Next). g ≡ not (at_end m got)) e (eg ∙ sym (ap not (ne_eqb got 0 (λ z. absurd (omega (arith, h, z))))))

pub ends_work : (n : Next) (got : ℕ) (g : Bool) → n ≡ next.Work → g ≡ true → g ≡ not (at_end n got)
unfolding at_end
ends_work n got g e eg = subst⁻¹ (λ (m : Next). g ≡ not (at_end m got)) e eg

pub ends_end : (n : Next) (got : ℕ) → n ≡ next.Read → got ≤ 0 → does_go_on next.Done ≡ not (at_end n got)
unfolding at_end does_go_on
ends_end n got e h = subst⁻¹ (λ (m : Next). false ≡ not (at_end m got)) e (sym (ap not (eq-eqb got 0 (omega (arith, h)))))

pub ends_done : (n : Next) (got : ℕ) → n ≡ next.Done → does_go_on next.Done ≡ not (at_end n got)
unfolding at_end does_go_on
ends_done n got e = subst⁻¹ (λ (m : Next). false ≡ not (at_end m got)) e refl

-- the place where a program begins, however the code has it
pub begins : (k : Kind) (of : List ℕ → Option Call) (p : Place) (s : Pieces) (text out : List ℕ) → p ≡ first → Keeps k false s broken → Turned k of p s text × Sits k p text out
begins k of p s text out e h = (subst⁻¹ (λ (q : Place). Turned k of q s text) e (record { input = []; printed = []; state = broken; turns = begin h }), subst⁻¹ (λ (q : Place). Sits k q text out) e (sits_start k text out))

pub begins_on : (p : Place) → p ≡ first → does_go_on p.next ≡ true
unfolding does_go_on
begins_on p e = ap (λ (q : Place). does_go_on q.next) e
