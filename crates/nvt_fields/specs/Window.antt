-- The part of a page that a read returns.
use Rattle.std.specs.Prelude.{ℕ, zero, suc, List, [], ◌∷◌, slice_index}

-- the bytes of a page from an offset on, and zeros past its end
abbrev pub window : List ℕ → ℕ → ℕ → List ℕ
window page offset zero = []
window page offset (suc count) = slice_index page offset ∷ window page (suc offset) count
