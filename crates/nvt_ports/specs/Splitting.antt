-- How a stream is split into lines.
use Rattle.std.specs.Prelude.{◌≡◌, ℕ, ◌+◌, ◌==◌, Bool, true, false, List, [], Option, Some, None, length, take, drop, position, if◌then◌else◌}

-- the bytes that came and were not handed out, and whether those up to the next LF belong to a line that was
pub record Splitting : Type 0 where
  pub held : List ℕ
  pub skips : Bool

abbrev pub begun : Splitting
begun = record { held = []; skips = false }

-- where the first LF stands
abbrev pub line_end : List ℕ → Option ℕ
line_end held = position (λ b. b == 10) held

-- what is left behind the rest of a line that was handed out
abbrev pub behind : Option ℕ → List ℕ → Splitting
behind None held = record { held = []; skips = true }
behind (Some end) held = record { held = drop (end + 1) held; skips = false }

abbrev pub passed_over : Splitting → Splitting
passed_over s = if s.skips then behind (line_end s.held) s.held else s

-- Where no LF has come, 1,025 bytes are handed out, and less than that are kept.
abbrev pub HandsBeginningOut : Bool → Splitting → List ℕ → Option ℕ → Splitting → Type 0
HandsBeginningOut true old out result new =
    (result ≡ Some 1025) × (take 1025 out ≡ old.held) × (new ≡ record { held = []; skips = true })
HandsBeginningOut false old out result new = (result ≡ None) × (new ≡ old)

abbrev pub HandsOutBy : Option ℕ → Splitting → List ℕ → Option ℕ → Splitting → Type 0
HandsOutBy (Some end) old out result new =
    (result ≡ Some end) × (take end out ≡ take end old.held) × (new ≡ record old { held = drop (end + 1) old.held })
HandsOutBy None old out result new = HandsBeginningOut (length old.held == 1025) old out result new

-- the next line of what is held is the front of this buffer, by this length; none is there where that is none
abbrev pub HandsLineOut : Splitting → List ℕ → Option ℕ → Splitting → Type 0
HandsLineOut old out result new = HandsOutBy (line_end old.held) old out result new
