-- What is known of a `Pool` when its slices go back to who lent them. Assumes nothing.
use mathlib.Core.Path.{◌≡◌, subst, sym}
use Rattle.pool.specs.Writes.{Pool}

-- r is what the `Pool` held last, and r' what the slices hold then: `search rules` finds that they are equal where a call promised `SameSlices`
pub handed_back : (P : Pool → Type 0) (r r' : Pool) → P r → r' ≡ r → P r'
handed_back P r r' t e = subst P (sym e) t
