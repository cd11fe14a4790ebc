-- Tries, by the answers to their reads.
use Rattle.std.specs.Prelude.{◌≡◌, ◌<◌, ℕ, List, [], ◌∷◌, ◌++◌, length, take, flat_map, Ok, Err, slice_index_or}
use Rattle.host_pages.specs.declared.verdict.Verdict.{Verdict}
use Rattle.host_pages.specs.declared.verdict.Verdict.TheVariants.{GoesOn}
use Rattle.host_pages.specs.Verdict.{Given, verdict}

abbrev pub bytes_in : Given → List ℕ
bytes_in (Ok bytes) = bytes
bytes_in (Err s) = []

-- what was read of the page by these answers
abbrev pub read_by : List Given → List ℕ
read_by answers = flat_map bytes_in answers

-- the answer of that number, from 0 on
abbrev pub answer_at : List Given → ℕ → Given
answer_at answers n = slice_index_or answers n (Ok [])

-- each of these answers, the first ones of a try, lets it go on
abbrev pub AllGoOn : List Given → Type 0
AllGoOn answers = (n : ℕ) → n < length answers → verdict (read_by (take n answers)) (answer_at answers n) ≡ GoesOn

-- these are the answers of a try up to its last, which makes this of it
pub record EndsBy (v : Verdict) (answers : List Given) : Type 0 where
  pub before : List Given
  pub last : Given
  pub split : answers ≡ before ++ (last ∷ [])
  pub go_on : AllGoOn before
  pub by : verdict (read_by before) last ≡ v
