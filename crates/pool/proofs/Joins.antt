-- Lists joined in a row, and a divided node that becomes undivided. Assumes nothing.
use mathlib.Core.Path.{◌≡◌, refl, ap, sym, subst, ◌∙◌}
use mathlib.Core.Logic.{◌≢◌}
use mathlib.Core.List.{List, [], ◌∷◌, ◌++◌, flatten, append_assoc, append-nil}
use Prim.Native.Nat.{ℕ, zero, suc, ◌+◌, ◌-◌, ◌*◌, ◌<◌, ◌≤◌}
use native.Mathlib.Omega.{arith}
use lib.ListN.{length, get_or, set, length-set, length-append, length-map}
use lib.Seq.{get_or-set_same, get_or-set_other}
use Rattle.pool.specs.Lists.{is, occ, sum_of, last_or, Chain}
use Rattle.pool.specs.Writes.{Pool, both, kid, given, Row, row, hooked, either, joining, laid, merged}
use Rattle.pool.specs.Trees.{leaf, branch, flat, flats, places_at, joined_in}
use Rattle.pool.specs.Worlds.{RepLeaf, Rep, Free, World, Same, Frame}
use Rattle.pool.specs.Meanings.{up_from, Once, Merges}
use Rattle.pool.proofs.Lists.{by-eq, by_lt, pos, ifz-yes, ifz-no, is_same, is_other, occ_append}
use Rattle.pool.proofs.Chains.{chain_agree, occ_last, last_append, link, last_nonzero}
use Rattle.pool.proofs.Trees.{flats_groups, flats_places, flats_size, flats_at}
use Rattle.pool.proofs.Frames.{flat_rep, same_set, same_then, free_agree}
use Rattle.pool.proofs.Worlds.{no_place_zero, give_free, given_length, given_same}

-- ---- two lists
either_zero : (t : ℕ) → either t 0 ≡ t
unfolding either
either_zero zero = refl
either_zero (suc t) = refl

either_none : (a b : ℕ) → a ≡ 0 → either a b ≡ b
unfolding either
either_none a b e = ifz-yes a b a e

either_some : (a b : ℕ) → a ≢ 0 → either a b ≡ a
unfolding either
either_some a b e = ifz-no a b a e

hook_first : (x : List ℕ) (b f : ℕ) → b ≡ 0 → hooked x b f ≡ x
unfolding hooked
hook_first x b f e = ifz-yes b _ _ e

hook_second : (x : List ℕ) (b f : ℕ) → f ≡ 0 → hooked x b f ≡ x
unfolding hooked
hook_second x b f e = by-eq b 0 (λ z. ifz-yes b _ _ z) (λ z. ifz-no b _ _ z ∙ ifz-yes f _ _ e)

hook_both : (x : List ℕ) (b f : ℕ) → b ≢ 0 → f ≢ 0 → hooked x b f ≡ set x b f
unfolding hooked
hook_both x b f zb zf = ifz-no b _ _ zb ∙ ifz-no f _ _ zf

pub record Joined (x : List ℕ) (r : Row) (l : List ℕ) (own : ℕ → ℕ) : Type 0 where
  pub chain : Chain r.links r.first l
  pub last : r.last ≡ last_or 0 l
  pub len_x : length r.links ≡ length x
  pub other : (q : ℕ) → own q ≡ 0 → get_or r.links q 0 ≡ get_or x q 0

hook_is : (acc l x : List ℕ) (a b f t : ℕ) → Chain x a acc → b ≡ last_or 0 acc → Chain x f l → t ≡ last_or 0 l → ((q : ℕ) → occ q acc + occ q l ≤ 1)
    → Joined x (row (hooked x b f) (either a f) (either t b)) (acc ++ l) (λ q. occ q acc)
hook_is [] l x a b f t ca eb cl et o =
    rw (hook_first x b f eb, either_none a f ca) (record { chain = cl; last = ap (either t) eb ∙ either_zero t ∙ et; len_x = refl; other = λ q z. refl })
hook_is (q ∷ m) [] x a b f t ca eb cl et o =
    rw (hook_second x b f cl, either_some a f (λ z. ca.1 (sym ca.0 ∙ z)), append-nil m) (record { chain = ca; last = either_none t b et ∙ eb; len_x = refl; other = λ q z. refl })
hook_is (q ∷ m) (r ∷ l) x a b f t ca eb cl et o =
    rw (hook_both x b f (λ z. last_nonzero q m x a ca (sym eb ∙ z)) (λ z. cl.1 (sym cl.0 ∙ z)), either_some a f (λ z. ca.1 (sym ca.0 ∙ z))) (record {
      chain = subst (λ v. Chain (set x v f) a (q ∷ (m ++ (r ∷ l)))) (sym eb) (link m (r ∷ l) x a q f ca o cl);
      last = either_some t b (λ z. last_nonzero r l x f cl (sym et ∙ z)) ∙ et ∙ sym (last_append q r m l);
      len_x = length-set x b f;
      other = λ v z. get_or-set_other x b v f 0 (λ k. occ_last q m (ap (λ u. occ u (q ∷ m)) (sym eb ∙ sym k) ∙ z));
    })

-- ---- in an order of numbers
joined_nil : (ls : List (List ℕ)) → joined_in [] ls ≡ []
unfolding joined_in flatten
joined_nil ls = refl

joined_cons : (c : ℕ) (o : List ℕ) (ls : List (List ℕ)) → joined_in (c ∷ o) ls ≡ get_or ls c [] ++ joined_in o ls
unfolding joined_in flatten
joined_cons c o ls = refl

-- f is a number of a list that adds up
pub joined_sum : (f : List ℕ → ℕ) → f [] ≡ 0 → ((a b : List ℕ) → f (a ++ b) ≡ f a + f b) → (o : List ℕ) (ls : List (List ℕ)) → f (joined_in o ls) ≡ sum_of (λ c. f (get_or ls c [])) o
joined_sum f f0 fa [] ls = ap f (joined_nil ls) ∙ f0
joined_sum f f0 fa (c ∷ o) ls = ap f (joined_cons c o ls) ∙ omega (arith, fa (get_or ls c []) (joined_in o ls), joined_sum f f0 fa o ls)

-- a number that the order has
has : (o : List ℕ) (c : ℕ) (f : ℕ → ℕ) → occ c o ≢ 0 → f c ≤ sum_of f o
has [] c f z = absurd (z refl)
has (e ∷ o) c f z = by-eq c e (λ k. omega (arith, ap f k)) (λ k. omega (arith, has o c f (λ v. z (omega (arith, v, is_other c e k)))))

shift : (k j : ℕ) (f : ℕ → ℕ) → sum_of f (up_from (suc j) k) ≡ sum_of (λ e. f (suc e)) (up_from j k)
shift zero j f = refl
shift (suc k) j f = ap (λ s. f (suc j) + s) (shift k (suc j) f)

sum_from : {K : Type 0} (ts : List K) (z : K) (f : K → ℕ) → sum_of (λ c. f (get_or ts c z)) (up_from 0 (length ts)) ≡ sum_of f ts
sum_from [] z f = refl
sum_from (t ∷ ts) z f = ap (λ s. f t + s) (shift (length ts) 0 (λ c. f (get_or (t ∷ ts) c z)) ∙ sum_from ts z f)

up_above : (k j c : ℕ) → j + k ≤ c → sum_of (is c) (up_from j k) ≡ 0
up_above zero j c h = refl
up_above (suc k) j c h = omega (arith, is_other c j (λ e. absurd (omega (arith, e))), up_above k (suc j) c (omega arith))

occ_sum : (c : ℕ) (o : List ℕ) → occ c o ≡ sum_of (is c) o
occ_sum c [] = refl
occ_sum c (e ∷ o) = omega (arith, occ_sum c o)

module _ (ways : ℕ) (order : List ℕ) (od : Once ways order) where
  -- every number in the order is a child
  pub once_below : (c : ℕ) → occ c order ≢ 0 → c < ways
  once_below c z = by_lt c ways (λ h. h) (λ h. absurd (omega (arith, pos _ z, occ_sum c order, od (is c), up_above ways 0 c (omega (arith, h)))))

  -- as many of everything as in the lists together
  pub once_sum : (f : List ℕ → ℕ) (ls : List (List ℕ)) → length ls ≡ ways → sum_of (λ c. f (get_or ls c [])) order ≡ sum_of f ls
  once_sum f ls e = od (λ c. f (get_or ls c [])) ∙ subst (λ k. sum_of (λ c. f (get_or ls c [])) (up_from 0 k) ≡ sum_of f ls) e (sum_from ls [] f)

-- the words of the lists, joined in a row
join_good : (ways k : ℕ) (n : List ℕ) (o : List ℕ) (ls : List (List ℕ)) (x : List ℕ) (a b : ℕ) (acc : List ℕ) → Chain x a acc → b ≡ last_or 0 acc
    → ((c : ℕ) → occ c o ≢ 0 → Chain x (get_or n (4 * kid ways k c + 1) 0) (get_or ls c []) × (get_or n (4 * kid ways k c + 2) 0 ≡ last_or 0 (get_or ls c [])))
    → ((q : ℕ) → occ q acc + sum_of (λ c. occ q (get_or ls c [])) o ≤ 1)
    → Joined x (joining ways n k o (row x a b)) (acc ++ joined_in o ls) (λ q. occ q acc + sum_of (λ c. occ q (get_or ls c [])) o)
unfolding joining
join_good ways k n [] ls x a b acc ca eb h o = rw (joined_nil ls, append-nil acc) (record { chain = ca; last = eb; len_x = refl; other = λ q z. refl })
join_good ways k n (c ∷ o) ls x a b acc ca eb h os =
    rw (joined_cons c o ls, ← append_assoc acc (get_or ls c []) (joined_in o ls))
    (top (join_good ways k n o ls x1 (either a f) (either t b) (acc ++ get_or ls c []) r.chain r.last
    (λ e z. (chain_agree (get_or ls e []) x x1 (get_or n (4 * kid ways k e + 1) 0) r.len_x (λ q v. r.other q (omega (arith, os q, pos _ v, has o e (λ c. occ q (get_or ls c [])) z))) (h e (λ v. z (omega (arith, v)))).0, (h e (λ v. z (omega (arith, v)))).1))
    (λ q. omega (arith, os q, occ_append q acc (get_or ls c [])))))
  where
    f : ℕ
    f = get_or n (4 * kid ways k c + 1) 0

    t : ℕ
    t = get_or n (4 * kid ways k c + 2) 0

    x1 : List ℕ
    x1 = hooked x b (get_or n (4 * kid ways k c + 1) 0)

    here : occ c (c ∷ o) ≢ 0
    here z = absurd (omega (arith, z, is_same c))

    r : Joined x (row (hooked x b (get_or n (4 * kid ways k c + 1) 0)) (either a (get_or n (4 * kid ways k c + 1) 0)) (either (get_or n (4 * kid ways k c + 2) 0) b)) (acc ++ get_or ls c []) (λ q. occ q acc)
    r = hook_is acc (get_or ls c []) x a b (get_or n (4 * kid ways k c + 1) 0) (get_or n (4 * kid ways k c + 2) 0) ca eb (h c here).0 (h c here).1 (λ q. omega (arith, os q))

    top : {y : Row} {l : List ℕ} → Joined x1 y l (λ q. occ q (acc ++ get_or ls c []) + sum_of (λ c. occ q (get_or ls c [])) o) → Joined x y l (λ q. occ q acc + (occ q (get_or ls c []) + sum_of (λ c. occ q (get_or ls c [])) o))
    top s = record {
      chain = s.chain;
      last = s.last;
      len_x = s.len_x ∙ r.len_x;
      other = λ q z. s.other q (omega (arith, z, occ_append q acc (get_or ls c []))) ∙ r.other q (omega (arith, z));
    }

-- ---- the node
laid_length : (n : List ℕ) (i a b : ℕ) → length (laid n i a b) ≡ length n
unfolding laid
laid_length n i a b = simp length-set

laid_same : (n : List ℕ) (i a b q : ℕ) → q ≢ i → Same (laid n i a b) n q
unfolding laid
laid_same n i a b q h =
    same_then (same_set (set (set n (4 * i) 0) (4 * i + 1) a) (4 * i + 2) b q (λ e. h (omega arith)))
    (same_then (same_set (set n (4 * i) 0) (4 * i + 1) a q (λ e. h (omega arith))) (same_set n (4 * i) 0 q (λ e. h (omega arith))))

laid_words : (n : List ℕ) (i a b : ℕ) → 4 * i + 3 < length n
    → (get_or (laid n i a b) (4 * i) 0 ≡ 0) × (get_or (laid n i a b) (4 * i + 1) 0 ≡ a) × (get_or (laid n i a b) (4 * i + 2) 0 ≡ b) × (get_or (laid n i a b) (4 * i + 3) 0 ≡ get_or n (4 * i + 3) 0)
unfolding laid
laid_words n i a b h =
    let n1 = set n (4 * i) 0 in
    let n2 = set n1 (4 * i + 1) a in
    let l1 : length n1 ≡ length n = length-set n (4 * i) 0 in
    let l2 : length n2 ≡ length n = length-set n1 (4 * i + 1) a ∙ l1 in (
      get_or-set_other n2 (4 * i + 2) (4 * i) b 0 (λ e. absurd (omega arith)) ∙ get_or-set_other n1 (4 * i + 1) (4 * i) a 0 (λ e. absurd (omega arith)) ∙ get_or-set_same n (4 * i) 0 0 (omega arith),
      get_or-set_other n2 (4 * i + 2) (4 * i + 1) b 0 (λ e. absurd (omega arith)) ∙ get_or-set_same n1 (4 * i + 1) a 0 (omega (arith, l1)),
      get_or-set_same n2 (4 * i + 2) b 0 (omega (arith, l2)),
      get_or-set_other n2 (4 * i + 2) (4 * i + 3) b 0 (λ e. absurd (omega arith)) ∙ get_or-set_other n1 (4 * i + 1) (4 * i + 3) a 0 (λ e. absurd (omega arith)) ∙ get_or-set_other n (4 * i) (4 * i + 3) 0 0 (λ e. absurd (omega arith)),
    )

-- ---- the merge
module _ (d ways : ℕ) (order : List ℕ) (s : Pool) (i k : ℕ) (ls : List (List ℕ)) (fl fp : List ℕ) (lw : 0 < ways) (od : Once ways order) (w : World (suc d) ways s i (branch k (flats d ls)) fl fp) where
  r : Row
  r = joining ways s.nodes k order (row s.links 0 0)

  n1 : List ℕ
  n1 = laid s.nodes i r.first r.last

  n2 : List ℕ
  n2 = given ways n1 k

  long : length ls ≡ ways
  long = sym (length-map ls (flat d)) ∙ w.rep.4

  kids : (c : ℕ) → c < ways → RepLeaf s.nodes s.links (kid ways k c) (get_or ls c [])
  kids c lc = flat_rep d ways s.nodes s.links (kid ways k c) (get_or ls c []) (subst (Rep d ways s.nodes s.links (kid ways k c)) (flats_at d ls c) (w.rep.5 c lc))

  once : (q : ℕ) → 0 + sum_of (λ c. occ q (get_or ls c [])) order ≤ 1
  once q = omega (arith, once_sum ways order od (occ q) ls long, flats_places d q ls, w.places q)

  jn : Joined s.links r (joined_in order ls) (λ q. 0 + sum_of (λ c. occ q (get_or ls c [])) order)
  unfolding r
  jn = join_good ways k s.nodes order ls s.links 0 0 [] refl refl (λ c z. ((kids c (once_below ways order od c z)).2, (kids c (once_below ways order od c z)).3)) once

  l1 : length n1 ≡ length s.nodes
  unfolding n1
  l1 = laid_length s.nodes i r.first r.last

  l2 : length n2 ≡ length s.nodes
  unfolding n2
  l2 = given_length ways n1 k ∙ l1

  room : 4 * kid ways k ways ≤ length s.nodes
  room = omega (arith, lw, (kids (ways - 1) (omega arith)).0)

  from_s : (q : ℕ) → q ≢ i → Same n1 s.nodes q
  unfolding n1
  from_s q ne = laid_same s.nodes i r.first r.last q ne

  to1 : (q : ℕ) → q ≢ 0 → q ≢ kid ways k 0 → Same n2 n1 q
  unfolding n2
  to1 q a b = given_same ways n1 k q a b

  free1 : Free ways n1 (get_or n1 0 0) fl
  free1 = subst (λ h. Free ways n1 h fl) (sym (from_s 0 (λ e. w.low (sym e))).group)
      (free_agree ways s.nodes n1 (get_or s.nodes 0 0) fl l1 (λ h z. (from_s (kid ways h 0) (λ e. z (omega (arith, w.apart h 0 lw (sym e))))).group) w.free)

  kept : (q : ℕ) → sum_of (places_at d q) (flats d ls) ≡ 0 → get_or r.links q 0 ≡ get_or s.links q 0
  kept q z = jn.other q (omega (arith, z, once_sum ways order od (occ q) ls long, flats_places d q ls))

  merge_world : World (suc d) ways (both n2 r.links) i (leaf (joined_in order ls)) (k ∷ fl) fp
  unfolding n1 n2
  merge_world = record {
    rep = (
      omega (arith, w.rep.0, l2),
      self.group ∙ lay.0,
      subst (λ h. Chain r.links h (joined_in order ls)) (sym (self.first ∙ lay.1)) jn.chain,
      self.last ∙ lay.2 ∙ jn.last,
      self.count ∙ lay.3 ∙ w.rep.3 ∙ omega (arith, flats_size d ls, joined_sum (λ s. length s) refl (λ a b. length-append a b) order ls, once_sum ways order od (λ s. length s) ls long),
    );
    free = give_free ways n1 k fl lw free1 w.rep.2 (omega (arith, room, l1)) (omega (arith, w.groups k, is_same k));
    spare = subst (λ h. Chain r.links h fp) (sym (kept 0 (omega (arith, zero_out))))
        (chain_agree fp s.links r.links (get_or s.links 0 0) jn.len_x (λ q z. kept q (omega (arith, w.places q, pos _ z))) w.spare);
    low = w.low;
    groups = λ h. omega (arith, w.groups h, flats_groups d h ls);
    places = λ q. omega (arith, w.places q, joined_sum (occ q) refl (occ_append q) order ls, once_sum ways order od (occ q) ls long, flats_places d q ls);
    apart = λ h c lc e. omega (arith, w.apart h c lc e, flats_groups d h ls);
  }
    where
      self : Same n2 n1 i
      self = to1 i w.low (λ e. absurd (omega (arith, w.apart k 0 lw e, is_same k)))

      lay : (get_or n1 (4 * i) 0 ≡ 0) × (get_or n1 (4 * i + 1) 0 ≡ r.first) × (get_or n1 (4 * i + 2) 0 ≡ r.last) × (get_or n1 (4 * i + 3) 0 ≡ get_or s.nodes (4 * i + 3) 0)
      lay = laid_words s.nodes i r.first r.last w.rep.0

      zero_out : sum_of (places_at d 0) (flats d ls) ≡ 0
      zero_out = no_place_zero (suc d) ways s.nodes s.links i (branch k (flats d ls)) w.rep

  merge_frame : Frame (suc d) ways s (both n2 r.links) i (branch k (flats d ls)) fl []
  merge_frame = record {
    len_n = l2;
    len_x = jn.len_x;
    nodes = λ q o. same_then (to1 q o.0 (λ e. absurd (omega (arith, o.2 k 0 lw e, is_same k)))) (from_s q o.1);
    links = λ q z. kept q (omega (arith, z));
  }

  merge_is : merged ways order s i k ≡ both n2 r.links
  unfolding merged r n1 n2
  merge_is = refl

pub merged_world : (ways : ℕ) (order : List ℕ) (s : Pool) (i k : ℕ) → Merges ways order s (merged ways order s i k) i k
unfolding Merges
merged_world ways order s i k d ls fl fp lw od w = (
  subst (λ r. World (suc d) ways r i (leaf (joined_in order ls)) (k ∷ fl) fp) (sym (merge_is d ways order s i k ls fl fp lw od w)) (merge_world d ways order s i k ls fl fp lw od w),
  subst (λ r. Frame (suc d) ways s r i (branch k (flats d ls)) fl []) (sym (merge_is d ways order s i k ls fl fp lw od w)) (merge_frame d ways order s i k ls fl fp lw od w),
)
