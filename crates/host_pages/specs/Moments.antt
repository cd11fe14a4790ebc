-- A discovery log page as time goes on.
use Rattle.std.specs.Prelude.{◌≡◌, ◌≢◌, ◌⊎◌, ◌≤◌, ◌<◌, ℕ, suc, ◌+◌, ◌%◌, ◌^◌, List, ◌∷◌, ◌++◌, All, length, replicate, Ok, Err}
use Rattle.std.specs.Int.{w64, to_le_bytes}
use Rattle.nvt_fields.specs.Window.{window}
use Rattle.host_pages.specs.Laws.{joined}
use Rattle.host_pages.specs.declared.get_log.GetLog.{GetLog}
use Rattle.host_pages.specs.Discover.{Stands, asks}
use Rattle.host_pages.specs.Verdict.{Given, asked_of}

-- what a page has at one moment (Base 2.0, section 5.16.1.23)
pub record Page : Type 0 where
  pub genctr : ℕ
  pub records : List (List ℕ)

pub record IsPage (p : Page) : Type 0 where
  pub genctr : p.genctr < 2 ^ 64
  pub count : length p.records < 2 ^ 64
  pub each : All (λ r. length r ≡ 1024) p.records

-- a header of 1,024 bytes, with GENCTR, NUMREC and RECFMT 0, and the records behind it
unfoldable pub bytes_of : Page → List ℕ
bytes_of p = to_le_bytes w64 p.genctr ++ to_le_bytes w64 (length p.records) ++ replicate 1008 0 ++ joined p.records

-- nothing changed; or the records did, and GENCTR is one higher, round 64 bits
pub record IsSame (old new : Page) : Type 0 where
  pub genctr : new.genctr ≡ old.genctr
  pub records : new.records ≡ old.records

pub record IsChanged (old new : Page) : Type 0 where
  pub genctr : new.genctr ≡ (old.genctr + 1) % 2 ^ 64
  pub records : new.records ≢ old.records

abbrev pub Follows : Page → Page → ℕ → ℕ → Type 0
Follows old new before after = (IsSame old new × (after ≡ before)) ⊎ (IsChanged old new × (after ≡ suc before))

-- the page of each moment, and how many changes came before it
pub record AreMoments (pages : ℕ → Page) (changes : ℕ → ℕ) : Type 0 where
  pub each : (n : ℕ) → IsPage (pages n)
  pub next : (n : ℕ) → Follows (pages n) (pages (suc n)) (changes n) (changes (suc n))

-- ---- what a host is answered of it

-- what this page shows of a part; or any status
abbrev pub Shows : Page → GetLog → Given → Type 0
Shows page read (Ok bytes) = bytes ≡ window (bytes_of page) read.offset read.len
Shows page read (Err s) = Unit {0}

abbrev pub NeverFall : (ℕ → ℕ) → Type 0
NeverFall moment = (m n : ℕ) → m ≤ n → moment m ≤ moment n

-- each answer shows what was asked, as of its moment
pub record AreShown (pages : ℕ → Page) (moment : ℕ → ℕ) (given : List Given) : Type 0 where
  pub forward : NeverFall moment
  pub each : (front : List Given) (a : Given) (behind : List Given) (failed : ℕ) (read : List ℕ) → given ≡ front ++ (a ∷ behind)
      → Stands front (asks failed read) → Shows (pages (moment (length front))) (asked_of read) a
