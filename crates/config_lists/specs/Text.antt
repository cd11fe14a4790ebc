-- Words: texts with no space in them.
use Rattle.std.specs.Prelude.{ℕ, Bool, ◌&&◌, nat_le, List, length}
use Rattle.std.specs.Char.{is_ascii_graphic}
use Rattle.std.specs.List.{list_all}

-- 1 byte to as many as `most`, each from 21h to 7Eh
abbrev pub is_word : ℕ → List ℕ → Bool
is_word most text = nat_le 1 (length text) && (nat_le (length text) most && list_all is_ascii_graphic text)
