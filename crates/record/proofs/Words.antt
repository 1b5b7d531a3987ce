-- Laws of the word of a record. Assumes nothing.
use Prim.Native.Nat.{ℕ}
use mathlib.Core.Path.{◌≡◌, ap, sym, ◌∙◌}
use mathlib.Core.Bool.{Bool, false, cond}
use mathlib.Core.List.{List}
use Rattle.std.specs.Prelude.{None, Some}
use Rattle.record.specs.Text.{same}
use Rattle.record.specs.Commands.{word_of, word_insert, word_delete, word_contains, word_range, word_knn, word_box, word_len, word_clear}
use Rattle.record.specs.declared.Word.{Word}
use Rattle.record.proofs.Parts.{same_refl}

-- none of the words that both programs have
pub record Other (w : List ℕ) : Type 0 where
  pub insert : same w word_insert ≡ false
  pub delete : same w word_delete ≡ false
  pub contains : same w word_contains ≡ false
  pub range : same w word_range ≡ false
  pub knn : same w word_knn ≡ false
  pub box : same w word_box ≡ false
  pub len : same w word_len ≡ false
  pub clear : same w word_clear ≡ false

pub other_word : (made w : List ℕ) → Other w → cond (same w made) (Some Word.Create) None ≡ word_of made w
unfolding word_of
other_word made w o = simp (o.insert, o.delete, o.contains, o.range, o.knn, o.box, o.len, o.clear)

pub made_word : (made w : List ℕ) → Other w → w ≡ made → Some Word.Create ≡ word_of made w
made_word made w o e = sym (ap (λ (t : Bool). cond t (Some Word.Create) None) (ap (same w) (sym e) ∙ same_refl w)) ∙ other_word made w o

pub no_word : (made w : List ℕ) → Other w → same w made ≡ false → None ≡ word_of made w
no_word made w o e = sym (ap (λ (t : Bool). cond t (Some Word.Create) None) e) ∙ other_word made w o
