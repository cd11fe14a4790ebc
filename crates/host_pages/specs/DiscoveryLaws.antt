-- Laws of what a host reads.
use Rattle.std.specs.Prelude.{◌≡◌, ◌≤◌, ◌<◌, ℕ, ◌+◌, ◌^◌, List, length, flat_map}
use Rattle.host_pages.specs.Discover.{Answered, HadPage}
use Rattle.host_pages.specs.Moments.{AreMoments, AreShown, Page, bytes_of}
use Rattle.host_pages.specs.Verdict.{Given}

-- the number of answers before the last try
abbrev pub answers_before : {given : List Given} → Answered given → ℕ
answers_before a = length (flat_map (λ answers. answers) a.failed)

-- The answer of that number is one to a read of the last try.
pub record IsOfLastTry {given : List Given} (a : Answered given) (n : ℕ) : Type 0 where
  pub from : answers_before a ≤ n
  pub below : n < answers_before a + length a.last

-- fewer than 2^64 changes come between the first and the last read of the last try
abbrev pub HasFewChanges : {given : List Given} → Answered given → (ℕ → ℕ) → Type 0
HasFewChanges a changes = (m n : ℕ) → IsOfLastTry a m → IsOfLastTry a n → changes n < changes m + 2 ^ 64

-- Where the answers are what a page shows at moments that never go back, and GENCTR counts its changes, the page that the
-- last try had is the one that stood at each of its reads.
pub record PagesAreOfOneMoment : Type 0 where
  pub stood : (pages : ℕ → Page) (changes moment : ℕ → ℕ) → AreMoments pages changes
      → (given : List Given) → AreShown pages moment given
      → (a : Answered given) (page : List ℕ) → HadPage a page → HasFewChanges a (λ n. changes (moment n))
      → (n : ℕ) → IsOfLastTry a n → page ≡ bytes_of (pages (moment n))
