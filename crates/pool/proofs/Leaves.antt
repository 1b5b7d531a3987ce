-- A place more or less in the list of an undivided node. Assumes nothing.
use mathlib.Core.Path.{◌≡◌, refl, ap, sym, subst, ◌∙◌}
use mathlib.Core.Logic.{◌≢◌}
use mathlib.Core.List.{List, [], ◌∷◌, ◌++◌, append-nil}
use Prim.Native.Nat.{ℕ, zero, suc, ◌+◌, ◌-◌, ◌*◌, ◌%◌, ◌<◌, ◌≤◌}
use native.Mathlib.Omega.{arith}
use lib.ListN.{length, get_or, set, length-set, length-append}
use lib.Seq.{get_or-set_same, get_or-set_other, lt-length-set}
use Rattle.pool.specs.Lists.{occ, last_or, Chain}
use Rattle.pool.specs.Writes.{Pool, both, counted, lowered, ended, appended, relasted, cut_out}
use Rattle.pool.specs.Worlds.{RepLeaf, Same}
use Rattle.pool.proofs.Lists.{by-eq, ifz-yes, ifz-no, is_same, is_other, is_eq, occ_append}
use Rattle.pool.proofs.Chains.{chain_set, occ_last, last_append, link, no_zero, last_nonzero}
use Rattle.pool.proofs.Frames.{same_set, same_refl, same_then}

-- what a write to the list of one undivided node keeps and makes
pub record Listed (s r : Pool) (i : ℕ) (l : List ℕ) (own : ℕ → ℕ) : Type 0 where
  pub rep : RepLeaf r.nodes r.links i l
  pub len_n : length r.nodes ≡ length s.nodes
  pub len_x : length r.links ≡ length s.links
  pub nodes : (q : ℕ) → q ≢ i → Same r.nodes s.nodes q
  pub links : (q : ℕ) → own q ≡ 0 → get_or r.links q 0 ≡ get_or s.links q 0

-- ---- counts
pub counted_length : (n : List ℕ) (i : ℕ) → length (counted n i) ≡ length n
unfolding counted
counted_length n i = length-set n (4 * i + 3) _

pub lowered_length : (n : List ℕ) (i : ℕ) → length (lowered n i) ≡ length n
unfolding lowered
lowered_length n i = length-set n (4 * i + 3) _

pub lowered_same : (n : List ℕ) (i q : ℕ) → q ≢ i → Same (lowered n i) n q
unfolding lowered
lowered_same n i q h = same_set n (4 * i + 3) _ q (λ e. h (omega arith))

lowered_words : (n : List ℕ) (i : ℕ) → 4 * i + 3 < length n
    → (get_or (lowered n i) (4 * i) 0 ≡ get_or n (4 * i) 0) × (get_or (lowered n i) (4 * i + 1) 0 ≡ get_or n (4 * i + 1) 0) × (get_or (lowered n i) (4 * i + 2) 0 ≡ get_or n (4 * i + 2) 0) × (get_or (lowered n i) (4 * i + 3) 0 ≡ get_or n (4 * i + 3) 0 - 1)
unfolding lowered
lowered_words n i h =
    let v = get_or n (4 * i + 3) 0 - 1 in (
      get_or-set_other n (4 * i + 3) (4 * i) v 0 (λ e. absurd (omega arith)),
      get_or-set_other n (4 * i + 3) (4 * i + 1) v 0 (λ e. absurd (omega arith)),
      get_or-set_other n (4 * i + 3) (4 * i + 2) v 0 (λ e. absurd (omega arith)),
      get_or-set_same n (4 * i + 3) v 0 h,
    )

-- ---- at the end
ended_length : (n : List ℕ) (i p : ℕ) → length (ended n i p) ≡ length n
unfolding ended
ended_length n i p = counted_length (set n (4 * i + 2) p) i ∙ length-set n (4 * i + 2) p

ended_same : (n : List ℕ) (i p j : ℕ) → j ≢ i → Same (ended n i p) n j
unfolding ended counted
ended_same n i p j h = same_then (same_set (set n (4 * i + 2) p) (4 * i + 3) _ j (λ e. h (omega arith))) (same_set n (4 * i + 2) p j (λ e. h (omega arith)))

ended_words : (n : List ℕ) (i p : ℕ) → 4 * i + 3 < length n
    → (get_or (ended n i p) (4 * i) 0 ≡ get_or n (4 * i) 0) × (get_or (ended n i p) (4 * i + 1) 0 ≡ get_or n (4 * i + 1) 0) × (get_or (ended n i p) (4 * i + 2) 0 ≡ p) × (get_or (ended n i p) (4 * i + 3) 0 ≡ (get_or n (4 * i + 3) 0 + 1) % 4294967296)
unfolding ended counted
ended_words n i p h =
    let m = set n (4 * i + 2) p in
    let v = (get_or (set n (4 * i + 2) p) (4 * i + 3) 0 + 1) % 4294967296 in (
      get_or-set_other m (4 * i + 3) (4 * i) v 0 (λ e. absurd (omega arith)) ∙ get_or-set_other n (4 * i + 2) (4 * i) p 0 (λ e. absurd (omega arith)),
      get_or-set_other m (4 * i + 3) (4 * i + 1) v 0 (λ e. absurd (omega arith)) ∙ get_or-set_other n (4 * i + 2) (4 * i + 1) p 0 (λ e. absurd (omega arith)),
      get_or-set_other m (4 * i + 3) (4 * i + 2) v 0 (λ e. absurd (omega arith)) ∙ get_or-set_same n (4 * i + 2) p 0 (omega arith),
      get_or-set_same m (4 * i + 3) v 0 (lt-length-set n (4 * i + 2) p h) ∙ ap (λ u. (u + 1) % 4294967296) (get_or-set_other n (4 * i + 2) (4 * i + 3) p 0 (λ e. absurd (omega arith))),
    )

pub up_is : (v k : ℕ) → v ≡ k → k + 1 < 4294967296 → (v + 1) % 4294967296 ≡ suc k
up_is v k e h = omega arith

-- the two ways of appending, by whether there was a last place
pub app_first : (s : Pool) (i p : ℕ) → get_or s.nodes (4 * i + 2) 0 ≡ 0 → appended s i p ≡ both (ended (set s.nodes (4 * i + 1) p) i p) (set s.links p 0)
unfolding appended
app_first s i p z = ifz-yes (get_or s.nodes (4 * i + 2) 0) _ _ z

pub app_later : (s : Pool) (i p : ℕ) → get_or s.nodes (4 * i + 2) 0 ≢ 0 → appended s i p ≡ both (ended s.nodes i p) (set (set s.links p 0) (get_or s.nodes (4 * i + 2) 0) p)
unfolding appended
app_later s i p z = ifz-no (get_or s.nodes (4 * i + 2) 0) _ _ z

pub app_is : (s : Pool) (i : ℕ) (l : List ℕ) (p : ℕ) → RepLeaf s.nodes s.links i l → ((q : ℕ) → occ q l ≤ 1) → occ p l ≡ 0 → p ≢ 0 → p < length s.links → length l + 1 < 4294967296
    → Listed s (appended s i p) i (l ++ (p ∷ [])) (λ q. occ q l + occ q (p ∷ []))
app_is s i [] p r d o nz lt sm =
    let n = s.nodes in
    let x = s.links in
    let m = set s.nodes (4 * i + 1) p in
    let w = ended_words m i p (lt-length-set n (4 * i + 1) p r.0) in
    rw (app_first s i p r.3) (record {
      rep = (
        omega (arith, r.0, ended_length m i p, length-set n (4 * i + 1) p),
        w.0 ∙ get_or-set_other n (4 * i + 1) (4 * i) p 0 (λ e. absurd (omega arith)) ∙ r.1,
        (w.1 ∙ get_or-set_same n (4 * i + 1) p 0 (omega (arith, r.0)), nz, lt-length-set x p 0 lt, get_or-set_same x p 0 0 lt),
        w.2,
        w.3 ∙ up_is (get_or m (4 * i + 3) 0) 0 (get_or-set_other n (4 * i + 1) (4 * i + 3) p 0 (λ e. absurd (omega arith)) ∙ r.4) (omega arith),
      );
      len_n = ended_length m i p ∙ length-set n (4 * i + 1) p;
      len_x = length-set x p 0;
      nodes = λ q h. same_then (ended_same m i p q h) (same_set n (4 * i + 1) p q (λ e. h (omega arith)));
      links = λ q z. get_or-set_other x p q 0 0 (λ e. absurd (omega (arith, z, is_eq q p e)));
    })
app_is s i (q ∷ l) p r d o nz lt sm =
    let n = s.nodes in
    let x = s.links in
    let y = set s.links p 0 in
    let b = get_or s.nodes (4 * i + 2) 0 in
    let w = ended_words n i p r.0 in
    rw (app_later s i p nb) (record {
      rep = (
        omega (arith, r.0, ended_length n i p),
        w.0 ∙ r.1,
        subst (λ h. Chain (set y b p) h (q ∷ (l ++ (p ∷ [])))) (sym w.1)
            (subst (λ h. Chain (set y h p) (get_or n (4 * i + 1) 0) (q ∷ (l ++ (p ∷ [])))) (sym r.3) (link l (p ∷ []) y (get_or n (4 * i + 1) 0) q p (chain_set (q ∷ l) x (get_or n (4 * i + 1) 0) p 0 o r.2) once (refl, nz, lt-length-set x p 0 lt, get_or-set_same x p 0 0 lt))),
        w.2 ∙ sym (last_append q p l []),
        w.3 ∙ up_is (get_or n (4 * i + 3) 0) (length (q ∷ l)) r.4 sm ∙ omega (arith, length-append l (p ∷ [])),
      );
      len_n = ended_length n i p;
      len_x = length-set y b p ∙ length-set x p 0;
      nodes = λ v h. ended_same n i p v h;
      links = λ v z. get_or-set_other y b v p 0 (λ e. occ_last q l (ap (λ u. occ u (q ∷ l)) (sym r.3 ∙ sym e) ∙ omega (arith, z))) ∙ get_or-set_other x p v 0 0 (λ e. absurd (omega (arith, z, is_eq v p e)));
    })
  where
    nb : get_or s.nodes (4 * i + 2) 0 ≢ 0
    nb e = last_nonzero q l s.links (get_or s.nodes (4 * i + 1) 0) r.2 (sym r.3 ∙ e)

    once : (v : ℕ) → occ v (q ∷ l) + occ v (p ∷ []) ≤ 1
    once v = by-eq v p (λ e. omega (arith, is_eq v p e, ap (λ u. occ u (q ∷ l)) e ∙ o)) (λ e. omega (arith, is_other v p e, d v))

-- ---- a place leaves
relast_length : (n : List ℕ) (i after b : ℕ) → length (relasted n i after b) ≡ length n
unfolding relasted
relast_length n i zero b = length-set n (4 * i + 2) b
relast_length n i (suc k) b = refl

relast_same : (n : List ℕ) (i after b q : ℕ) → q ≢ i → Same (relasted n i after b) n q
unfolding relasted
relast_same n i zero b q h = same_set n (4 * i + 2) b q (λ e. h (omega arith))
relast_same n i (suc k) b q h = same_refl n q

relast_words : (n : List ℕ) (i after b : ℕ) → (get_or (relasted n i after b) (4 * i) 0 ≡ get_or n (4 * i) 0) × (get_or (relasted n i after b) (4 * i + 1) 0 ≡ get_or n (4 * i + 1) 0) × (get_or (relasted n i after b) (4 * i + 3) 0 ≡ get_or n (4 * i + 3) 0)
unfolding relasted
relast_words n i zero b =
    (get_or-set_other n (4 * i + 2) (4 * i) b 0 (λ e. absurd (omega arith)), get_or-set_other n (4 * i + 2) (4 * i + 1) b 0 (λ e. absurd (omega arith)), get_or-set_other n (4 * i + 2) (4 * i + 3) b 0 (λ e. absurd (omega arith)))
relast_words n i (suc k) b = (refl, refl, refl)

relast_none : (n : List ℕ) (i after b : ℕ) → 4 * i + 3 < length n → after ≡ 0 → get_or (relasted n i after b) (4 * i + 2) 0 ≡ b
unfolding relasted
relast_none n i after b h z = ap (λ s. get_or s (4 * i + 2) 0) (ifz-yes after (set n (4 * i + 2) b) n z) ∙ get_or-set_same n (4 * i + 2) b 0 (omega arith)

relast_some : (n : List ℕ) (i after b : ℕ) → after ≢ 0 → get_or (relasted n i after b) (4 * i + 2) 0 ≡ get_or n (4 * i + 2) 0
unfolding relasted
relast_some n i after b z = ap (λ s. get_or s (4 * i + 2) 0) (ifz-no after (set n (4 * i + 2) b) n z)

cut_chain : (m l x : List ℕ) (h q p : ℕ) → Chain x h (q ∷ (m ++ (p ∷ l))) → ((v : ℕ) → occ v (q ∷ (m ++ (p ∷ l))) ≤ 1) → Chain (set x (last_or q m) (get_or x p 0)) h (q ∷ (m ++ l))
cut_chain [] l x h q p c o = (
  c.0,
  c.1,
  lt-length-set x q (get_or x p 0) c.2,
  subst (λ v. Chain (set x q (get_or x p 0)) v l) (sym (get_or-set_same x q (get_or x p 0) 0 c.2))
      (chain_set l x (get_or x p 0) q (get_or x p 0) (omega (arith, o q, is_same q)) c.3.3),
)
cut_chain (r ∷ m) l x h q p c o = (
  c.0,
  c.1,
  lt-length-set x (last_or r m) (get_or x p 0) c.2,
  subst (λ v. Chain (set x (last_or r m) (get_or x p 0)) v (r ∷ (m ++ l)))
      (sym (get_or-set_other x (last_or r m) q (get_or x p 0) 0 (λ e. occ_last r m (subst (λ v. occ v (r ∷ m) ≡ 0) e (omega (arith, o q, is_same q, occ_append q m (p ∷ l)))))))
      (cut_chain m l x (get_or x q 0) r p c.3 (λ v. omega (arith, o v))),
)

-- the last word, by what comes after p
cut_last : (l x : List ℕ) (n : List ℕ) (i p b : ℕ) (l1 : List ℕ) → 4 * i + 3 < length n → Chain x (get_or x p 0) l → b ≡ last_or 0 l1 → get_or n (4 * i + 2) 0 ≡ last_or 0 (l1 ++ (p ∷ l)) → get_or (relasted n i (get_or x p 0) b) (4 * i + 2) 0 ≡ last_or 0 (l1 ++ l)
cut_last [] x n i p b l1 lt c eb e = relast_none n i (get_or x p 0) b lt c ∙ eb ∙ ap (last_or 0) (sym (append-nil l1))
cut_last (r ∷ l) x n i p b l1 lt c eb e = relast_some n i (get_or x p 0) b (λ z. c.1 (sym c.0 ∙ z)) ∙ e ∙ last_append 0 p l1 (r ∷ l) ∙ sym (last_append 0 r l1 l)

tail_chain : (l1 l x : List ℕ) (h p : ℕ) → Chain x h (l1 ++ (p ∷ l)) → Chain x (get_or x p 0) l
tail_chain [] l x h p c = c.3
tail_chain (q ∷ l1) l x h p c = tail_chain l1 l x (get_or x q 0) p c.3

-- the two ways of cutting, by whether a place stands before it
abbrev pub lessened : Pool → ℕ → ℕ → ℕ → List ℕ
lessened s i p b = relasted (lowered s.nodes i) i (get_or s.links p 0) b

pub cut_first : (s : Pool) (i p b : ℕ) → b ≡ 0 → cut_out s i p b ≡ both (set (lessened s i p b) (4 * i + 1) (get_or s.links p 0)) s.links
unfolding cut_out
cut_first s i p b z = ifz-yes b _ _ z

pub cut_later : (s : Pool) (i p b : ℕ) → b ≢ 0 → cut_out s i p b ≡ both (lessened s i p b) (set s.links b (get_or s.links p 0))
unfolding cut_out
cut_later s i p b z = ifz-no b _ _ z

pub cut_is : (l1 l : List ℕ) (s : Pool) (i p b : ℕ) → RepLeaf s.nodes s.links i (l1 ++ (p ∷ l)) → b ≡ last_or 0 l1 → ((v : ℕ) → occ v (l1 ++ (p ∷ l)) ≤ 1)
    → Listed s (cut_out s i p b) i (l1 ++ l) (λ q. occ q (l1 ++ (p ∷ l)))
cut_is [] l s i p b r eb o =
    let x = s.links in
    let nx = get_or s.links p 0 in
    let n0 = lowered s.nodes i in
    let n1 = lessened s i p b in
    let v = lowered_words s.nodes i r.0 in
    let w = relast_words n0 i nx b in
    let l0 : length n0 ≡ length s.nodes = lowered_length s.nodes i in
    let l1 : length n1 ≡ length n0 = relast_length n0 i nx b in
    rw (cut_first s i p b eb) (record {
      rep = (
        omega (arith, r.0, l0, l1, length-set n1 (4 * i + 1) nx),
        get_or-set_other n1 (4 * i + 1) (4 * i) nx 0 (λ k. absurd (omega arith)) ∙ w.0 ∙ v.0 ∙ r.1,
        subst (λ h. Chain x h l) (sym (get_or-set_same n1 (4 * i + 1) nx 0 (omega (arith, r.0, l0, l1)))) r.2.3,
        get_or-set_other n1 (4 * i + 1) (4 * i + 2) nx 0 (λ k. absurd (omega arith)) ∙ cut_last l x n0 i p b [] (omega (arith, r.0, l0)) r.2.3 eb (v.2 ∙ r.3),
        get_or-set_other n1 (4 * i + 1) (4 * i + 3) nx 0 (λ k. absurd (omega arith)) ∙ w.2 ∙ v.3 ∙ omega (arith, r.4),
      );
      len_n = length-set n1 (4 * i + 1) nx ∙ l1 ∙ l0;
      len_x = refl;
      nodes = λ q h. same_then (same_set n1 (4 * i + 1) nx q (λ k. h (omega arith))) (same_then (relast_same n0 i nx b q h) (lowered_same s.nodes i q h));
      links = λ q z. refl;
    })
cut_is (r0 ∷ m) l s i p b r eb o =
    let x = s.links in
    let nx = get_or s.links p 0 in
    let n0 = lowered s.nodes i in
    let n1 = lessened s i p b in
    let v = lowered_words s.nodes i r.0 in
    let w = relast_words n0 i nx b in
    let l0 : length n0 ≡ length s.nodes = lowered_length s.nodes i in
    let l1 : length n1 ≡ length n0 = relast_length n0 i nx b in
    rw (cut_later s i p b nb) (record {
      rep = (
        omega (arith, r.0, l0, l1),
        w.0 ∙ v.0 ∙ r.1,
        subst (λ h. Chain (set x b nx) h (r0 ∷ (m ++ l))) (sym (w.1 ∙ v.1)) (subst (λ h. Chain (set x h nx) (get_or s.nodes (4 * i + 1) 0) (r0 ∷ (m ++ l))) (sym eb) (cut_chain m l x (get_or s.nodes (4 * i + 1) 0) r0 p r.2 o)),
        cut_last l x n0 i p b (r0 ∷ m) (omega (arith, r.0, l0)) (tail_chain (r0 ∷ m) l x (get_or s.nodes (4 * i + 1) 0) p r.2) eb (v.2 ∙ r.3),
        w.2 ∙ v.3 ∙ omega (arith, r.4, length-append m (p ∷ l), length-append m l),
      );
      len_n = l1 ∙ l0;
      len_x = length-set x b nx;
      nodes = λ q h. same_then (relast_same n0 i nx b q h) (lowered_same s.nodes i q h);
      links = λ q z. get_or-set_other x b q nx 0 (λ k. occ_last r0 m (ap (λ u. occ u (r0 ∷ m)) (sym eb ∙ sym k) ∙ omega (arith, z, occ_append q m (p ∷ l))));
    })
  where
    nb : b ≢ 0
    nb z = occ_last r0 m (ap (λ v. occ v (r0 ∷ m)) (sym eb ∙ z) ∙ omega (arith, no_zero (r0 ∷ (m ++ (p ∷ l))) s.links (get_or s.nodes (4 * i + 1) 0) r.2, occ_append 0 m (p ∷ l)))
