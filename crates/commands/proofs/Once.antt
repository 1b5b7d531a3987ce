-- A record has one command: the call of a command determines it, where the sides of a box determine the box and the coordinates of a point the point. Assumes nothing.
use Prim.Native.Nat.{ℕ}
use mathlib.Core.Path.{◌≡◌, refl, sym, ap, ◌∙◌}
use mathlib.Core.List.{List}
use Rattle.std.specs.Prelude.{Option, None, Some, option_map}
use lib.Ieee.{Float, nan}
use lib.ListN.{get_or}
use Rattle.model.specs.Boxes.{Side, side}
use Rattle.model.specs.Calls as calls
use Rattle.geometry.specs.Sides.{place2, place3, sides2, sides3}
use Rattle.geometry.specs.declared.plane.Point2D.{Point2D}
use Rattle.geometry.specs.declared.plane.Rectangle.{Rectangle}
use Rattle.geometry.specs.declared.space.Point3D.{Point3D}
use Rattle.geometry.specs.declared.space.Cube.{Cube}
use Rattle.commands.specs.Commands.{call_in}
use Rattle.commands.specs.declared.Command.{Command}
use Rattle.commands.specs.declared.Command.TheVariants.{Create, Insert, Delete, Contains, Range, Knn, Box, Len, Clear}

module _ {R P : Type 0} (sides : R → List Side) (place : P → List Float) (box : List Side → R) (point : List Float → P) (boxes : (b : R) → b ≡ box (sides b)) (points : (p : P) → p ≡ point (place p)) where
  -- the command of a call; no record says those that are Len here
  command_of : calls.Call → Command R P
  command_of (calls.Create b n) = Create (box b) n
  command_of (calls.Insert p) = Insert (point p.at) p.payload
  command_of (calls.Bulk ps) = Len
  command_of (calls.Delete p) = Delete (point p.at) p.payload
  command_of calls.Clear = Clear
  command_of (calls.Ask (calls.Contains p)) = Contains (point p.at) p.payload
  command_of (calls.Ask calls.Len) = Len
  command_of (calls.Ask calls.IsEmpty) = Len
  command_of (calls.Ask (calls.Radius c r n)) = Range (point c) r
  command_of (calls.Ask (calls.Box b n)) = Box (box b)
  command_of (calls.Ask (calls.Nearest c k n)) = Knn (point c) k

  back : (c : Command R P) → c ≡ command_of (call_in sides place c)
  unfolding call_in command_of
  back (Create b n) = ap (λ (a : R). Create a n) (boxes b)
  back (Insert p n) = ap (λ (q : P). Insert q n) (points p)
  back (Delete p n) = ap (λ (q : P). Delete q n) (points p)
  back (Contains p n) = ap (λ (q : P). Contains q n) (points p)
  back (Range p radius) = ap (λ (q : P). Range q radius) (points p)
  back (Knn p k) = ap (λ (q : P). Knn q k) (points p)
  back (Box b) = ap (λ (a : R). Box a) (boxes b)
  back Len = refl
  back Clear = refl

  once : (c d : Command R P) → call_in sides place c ≡ call_in sides place d → c ≡ d
  once c d e = back c ∙ ap command_of e ∙ sym (back d)

  back_from : (a : Option (Command R P)) → a ≡ option_map command_of (option_map (call_in sides place) a)
  back_from None = refl
  back_from (Some c) = ap Some (back c)

  answered : (a b : Option (Command R P)) → option_map (call_in sides place) a ≡ option_map (call_in sides place) b → a ≡ b
  answered a b e = back_from a ∙ ap (option_map command_of) e ∙ sym (back_from b)

-- coordinate, corner and extent number i, and NaN where there is none
abbrev at : List Float → ℕ → Float
at p i = get_or p i nan

abbrev corner : List Side → ℕ → Float
corner b i = (get_or b i (side nan nan)).corner

abbrev extent : List Side → ℕ → Float
extent b i = (get_or b i (side nan nan)).extent

-- two commands of a program that are promised of a record are one
pub command_once_quad : (c d : Command Rectangle Point2D) → call_in sides2 place2 c ≡ call_in sides2 place2 d → c ≡ d
command_once_quad = once sides2 place2 (λ b. record { x = corner b 0; y = corner b 1; width = extent b 0; height = extent b 1 }) (λ p. record { x = at p 0; y = at p 1 }) (λ b. refl) (λ p. refl)

pub command_once_oct : (c d : Command Cube Point3D) → call_in sides3 place3 c ≡ call_in sides3 place3 d → c ≡ d
command_once_oct = once sides3 place3 (λ b. record { x = corner b 0; y = corner b 1; z = corner b 2; width = extent b 0; height = extent b 1; depth = extent b 2 }) (λ p. record { x = at p 0; y = at p 1; z = at p 2 }) (λ b. refl) (λ p. refl)

-- two answers that are promised of a record are one, also where it is not understood
pub answer_once_quad : (a b : Option (Command Rectangle Point2D)) → option_map (call_in sides2 place2) a ≡ option_map (call_in sides2 place2) b → a ≡ b
answer_once_quad = answered sides2 place2 (λ b. record { x = corner b 0; y = corner b 1; width = extent b 0; height = extent b 1 }) (λ p. record { x = at p 0; y = at p 1 }) (λ b. refl) (λ p. refl)

pub answer_once_oct : (a b : Option (Command Cube Point3D)) → option_map (call_in sides3 place3) a ≡ option_map (call_in sides3 place3) b → a ≡ b
answer_once_oct = answered sides3 place3 (λ b. record { x = corner b 0; y = corner b 1; z = corner b 2; width = extent b 0; height = extent b 1; depth = extent b 2 }) (λ p. record { x = at p 0; y = at p 1; z = at p 2 }) (λ b. refl) (λ p. refl)
