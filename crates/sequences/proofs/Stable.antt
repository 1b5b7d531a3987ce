-- That two states are equal may be shown by contradiction, as a state is made of numbers. Assumes nothing.
use mathlib.Core.Path.{◌≡◌, refl, ap, ap₂, ◌∙◌}
use mathlib.Core.Logic.{◌≢◌}
use mathlib.Core.Bool.{Bool, true, false}
use mathlib.Core.List.{List, [], ◌∷◌}
use Prim.Native.Nat.{ℕ, zero, suc}
use native.Mathlib.Omega.{arith}
use lib.IntN.{ℤ, pos, negsuc}
use lib.Ieee.{Float, nan, inf, fin}
use Rattle.model.specs.Boxes.{Side}
use Rattle.model.specs.Trees.{Point, Node, leaf, branch, Tree}
use Rattle.model.specs.Calls.{Plan, State, misfit, broken, tree}
use Rattle.pool.proofs.Lists.{by-eq}

abbrev pub Stable : Type 0 → Type 0
Stable A = (x y : A) → ((x ≢ y) → ⊥) → x ≡ y

-- what holds of two things holds of what a function makes of them, and things that a function numbers differently differ
through : {A B : Type 0} (f : A → B) (x y : A) → ((x ≢ y) → ⊥) → (f x ≢ f y) → ⊥
through f x y h g = h (λ e. g (ap f e))

clash : {A C : Type 0} (f : A → ℕ) (x y : A) → f x ≢ f y → ((x ≢ y) → ⊥) → C
clash f x y n h = absurd (h (λ e. n (ap f e)))

pub stable_ℕ : Stable ℕ
stable_ℕ x y h = by-eq x y (λ e. e) (λ ne. absurd (h ne))

-- ---- floats
abbrev truth : Bool → ℕ
truth true = 1
truth false = 0

stable_Bool : Stable Bool
stable_Bool true true h = refl
stable_Bool false false h = refl
stable_Bool true false h = clash truth true false (λ e. omega (arith, e)) h
stable_Bool false true h = clash truth false true (λ e. omega (arith, e)) h

abbrev below : ℤ → ℕ
below (pos n) = 0
below (negsuc n) = 1

abbrev size : ℤ → ℕ
size (pos n) = n
size (negsuc n) = n

stable_ℤ : Stable ℤ
stable_ℤ (pos m) (pos n) h = ap pos (stable_ℕ m n (through size (pos m) (pos n) h))
stable_ℤ (negsuc m) (negsuc n) h = ap negsuc (stable_ℕ m n (through size (negsuc m) (negsuc n) h))
stable_ℤ (pos m) (negsuc n) h = clash below (pos m) (negsuc n) (λ e. omega (arith, e)) h
stable_ℤ (negsuc m) (pos n) h = clash below (negsuc m) (pos n) (λ e. omega (arith, e)) h

abbrev sort : Float → ℕ
sort nan = 0
sort (inf s) = 1
sort (fin s m e) = 2

abbrev sign : Float → Bool
sign nan = false
sign (inf s) = s
sign (fin s m e) = s

abbrev significand : Float → ℕ
significand nan = 0
significand (inf s) = 0
significand (fin s m e) = m

abbrev exponent : Float → ℤ
exponent nan = pos 0
exponent (inf s) = pos 0
exponent (fin s m e) = e

stable_Float : Stable Float
stable_Float nan nan h = refl
stable_Float (inf s) (inf t) h = ap inf (stable_Bool s t (through sign (inf s) (inf t) h))
stable_Float (fin s m e) (fin t n f) h =
    ap (λ (u : Bool). fin u m e) (stable_Bool s t (through sign (fin s m e) (fin t n f) h))
    ∙ ap₂ (λ (u : ℕ) (v : ℤ). fin t u v) (stable_ℕ m n (through significand (fin s m e) (fin t n f) h)) (stable_ℤ e f (through exponent (fin s m e) (fin t n f) h))
stable_Float nan (inf t) h = clash sort nan (inf t) (λ e. omega (arith, e)) h
stable_Float nan (fin t n f) h = clash sort nan (fin t n f) (λ e. omega (arith, e)) h
stable_Float (inf s) nan h = clash sort (inf s) nan (λ e. omega (arith, e)) h
stable_Float (inf s) (fin t n f) h = clash sort (inf s) (fin t n f) (λ e. omega (arith, e)) h
stable_Float (fin s m i) nan h = clash sort (fin s m i) nan (λ e. omega (arith, e)) h
stable_Float (fin s m i) (inf t) h = clash sort (fin s m i) (inf t) (λ e. omega (arith, e)) h

-- ---- lists
module _ {A : Type 0} where
  abbrev more : List A → ℕ
  more [] = 0
  more (x ∷ xs) = 1

  abbrev head_or : A → List A → A
  head_or z [] = z
  head_or z (x ∷ xs) = x

  abbrev tail_of : List A → List A
  tail_of [] = []
  tail_of (x ∷ xs) = xs

  pub stable_List : Stable A → Stable (List A)
  stable_List st [] [] h = refl
  stable_List st (x ∷ xs) (y ∷ ys) h = ap₂ (λ (u : A) (v : List A). u ∷ v) (st x y (through (head_or x) (x ∷ xs) (y ∷ ys) h)) (stable_List st xs ys (through tail_of (x ∷ xs) (y ∷ ys) h))
  stable_List st [] (y ∷ ys) h = clash more [] (y ∷ ys) (λ e. omega (arith, e)) h
  stable_List st (x ∷ xs) [] h = clash more (x ∷ xs) [] (λ e. omega (arith, e)) h

-- ---- trees and states
stable_Side : Stable Side
stable_Side x y h =
    ap₂ (λ (u v : Float). record { corner = u; extent = v }) (stable_Float x.corner y.corner (through (λ (s : Side). s.corner) x y h)) (stable_Float x.extent y.extent (through (λ (s : Side). s.extent) x y h))

stable_Point : Stable Point
stable_Point x y h =
    ap₂ (λ (u : List Float) (v : ℕ). record { at = u; payload = v }) (stable_List stable_Float x.at y.at (through (λ (p : Point). p.at) x y h)) (stable_ℕ x.payload y.payload (through (λ (p : Point). p.payload) x y h))

module _ {K : Type 0} where
  abbrev divided : Node K → ℕ
  divided (leaf ps) = 0
  divided (branch ts) = 1

  abbrev listed : Node K → List Point
  listed (leaf ps) = ps
  listed (branch ts) = []

  abbrev below_it : Node K → List K
  below_it (leaf ps) = []
  below_it (branch ts) = ts

  stable_Node : Stable K → Stable (Node K)
  stable_Node st (leaf ps) (leaf qs) h = ap leaf (stable_List stable_Point ps qs (through listed (leaf ps) (leaf qs) h))
  stable_Node st (branch ts) (branch us) h = ap branch (stable_List st ts us (through below_it (branch ts) (branch us) h))
  stable_Node st (leaf ps) (branch us) h = clash divided (leaf ps) (branch us) (λ e. omega (arith, e)) h
  stable_Node st (branch ts) (leaf qs) h = clash divided (branch ts) (leaf qs) (λ e. omega (arith, e)) h

stable_Tree : (d : ℕ) → Stable (Tree d)
stable_Tree zero = stable_List stable_Point
stable_Tree (suc d) = stable_Node (stable_Tree d)

stable_Plan : Stable Plan
stable_Plan x y h =
    ap₂ (λ (u : List Side) (v : ℕ). record { boundary = u; capacity = v; root = x.root }) (stable_List stable_Side x.boundary y.boundary (through (λ (a : Plan). a.boundary) x y h)) (stable_ℕ x.capacity y.capacity (through (λ (a : Plan). a.capacity) x y h))
    ∙ ap (λ (u : Tree 32). record { boundary = y.boundary; capacity = y.capacity; root = u }) (stable_Tree 32 x.root y.root (through (λ (a : Plan). a.root) x y h))

abbrev stands_at : State → ℕ
stands_at misfit = 0
stands_at broken = 1
stands_at (tree a) = 2

abbrev plan_or : Plan → State → Plan
plan_or z misfit = z
plan_or z broken = z
plan_or z (tree a) = a

pub stable_State : Stable State
stable_State misfit misfit h = refl
stable_State broken broken h = refl
stable_State (tree a) (tree b) h = ap tree (stable_Plan a b (through (plan_or a) (tree a) (tree b) h))
stable_State misfit broken h = clash stands_at misfit broken (λ e. omega (arith, e)) h
stable_State misfit (tree b) h = clash stands_at misfit (tree b) (λ e. omega (arith, e)) h
stable_State broken misfit h = clash stands_at broken misfit (λ e. omega (arith, e)) h
stable_State broken (tree b) h = clash stands_at broken (tree b) (λ e. omega (arith, e)) h
stable_State (tree a) misfit h = clash stands_at (tree a) misfit (λ e. omega (arith, e)) h
stable_State (tree a) broken h = clash stands_at (tree a) broken (λ e. omega (arith, e)) h
