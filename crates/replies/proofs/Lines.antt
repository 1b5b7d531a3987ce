-- A line is what the code writes of it, for each kind of call. Assumes nothing.
use mathlib.Core.Path.{◌≡◌, refl, ap, ◌∙◌}
use mathlib.Core.Logic.{◌≢◌}
use mathlib.Core.Bool.{Bool, true, false, cond}
use mathlib.Core.List.{List, [], ◌++◌, append-nil}
use Prim.Native.Nat.{ℕ}
use lib.Dec.{eqb}
use borrow.Author.Tests.{ne_eqb}
use Rattle.model.specs.Calls.{Call, Ask, Outcome, Query, number}
use Rattle.record.specs.Numbers.{decimal}
use Rattle.replies.specs.Lines.{after, crlf, field, line, points, told}

-- a call that gives nothing but its reply number
pub line_reply : (c : Call) (o : Outcome) → after c o ≡ [] → line c o ≡ decimal (number o.reply) ++ crlf
unfolding line
line_reply c o e =
    ap (λ (l : List ℕ). decimal (number o.reply) ++ cond (eqb (number o.reply) 0) l [] ++ crlf) e
    ∙ ap (λ (l : List ℕ). decimal (number o.reply) ++ l ++ crlf) (nothing (eqb (number o.reply) 0)) ∙ ap (λ (l : List ℕ). l ++ crlf) (append-nil (decimal (number o.reply)))
  where
    nothing : (t : Bool) → cond {A = List ℕ} t [] [] ≡ []
    nothing true = refl
    nothing false = refl

-- "Refused calls .. give only their number"
pub refused_is : (n : ℕ) (more : List ℕ) → n ≢ 0 → decimal n ++ cond (eqb n 0) more [] ++ crlf ≡ decimal n ++ crlf
refused_is n more e = ap (λ (t : Bool). decimal n ++ cond t more [] ++ crlf) (ne_eqb n 0 e) ∙ ap (λ (l : List ℕ). l ++ crlf) (append-nil (decimal n))

pub line_refused : (c : Call) (o : Outcome) → number o.reply ≢ 0 → line c o ≡ decimal (number o.reply) ++ crlf
unfolding line
line_refused c o e = refused_is (number o.reply) (after c o) e

-- a yes or no, or a count
pub line_figure : (q : Query) (o : Outcome) → told q o ≡ field (decimal o.figure) → number o.reply ≡ 0 → line (Ask q) o ≡ decimal 0 ++ field (decimal o.figure) ++ crlf
unfolding line after
line_figure q o e z = ap (λ (n : ℕ). decimal n ++ cond (eqb n 0) (told q o) [] ++ crlf) z ∙ ap (λ (l : List ℕ). decimal 0 ++ l ++ crlf) e

-- the line of a search, whatever became of it
unfoldable pub found : Outcome → List ℕ
unfolding decimal number points
found o = decimal (number o.reply) ++ cond (eqb (number o.reply) 0) (field (decimal o.figure) ++ points o.points) [] ++ crlf

-- the points that a search found
pub line_told : (q : Query) (o : Outcome) → told q o ≡ field (decimal o.figure) ++ points o.points → line (Ask q) o ≡ found o
unfolding line after found
line_told q o e = ap (λ (l : List ℕ). decimal (number o.reply) ++ cond (eqb (number o.reply) 0) l [] ++ crlf) e
