-- Fields without the padding at their end.
use Rattle.std.proofs.Common.{◌≡◌, ℕ, true, false, List, [], ◌∷◌, ◌++◌, refl, ap, ◌∙◌}
use Rattle.host_program.specs.Lines.{before, is_padding, without_padding}

-- a byte stays before something
pub before_some : (x : ℕ) (xs : List ℕ) (b : ℕ) → before x (xs ++ b ∷ []) ≡ x ∷ (xs ++ b ∷ [])
before_some x [] b = refl
before_some x (y ∷ ys) b = refl

-- all stays before a byte of the text
pub without_padding-text : (xs : List ℕ) (b : ℕ) → is_padding b ≡ false → without_padding (xs ++ b ∷ []) ≡ xs ++ b ∷ []
without_padding-text [] b e = rw e refl
without_padding-text (x ∷ xs) b e = ap (before x) (without_padding-text xs b e) ∙ before_some x xs b

-- padding at the end goes
pub without_padding-pad : (xs : List ℕ) (b : ℕ) → is_padding b ≡ true → without_padding (xs ++ b ∷ []) ≡ without_padding xs
without_padding-pad [] b e = rw e refl
without_padding-pad (x ∷ xs) b e = ap (before x) (without_padding-pad xs b e)
