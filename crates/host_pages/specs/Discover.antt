-- A `Discover`, and its answers so far.
use Rattle.std.specs.Prelude.{◌≡◌, ◌⊎◌, ◌≤◌, ◌<◌, ℕ, suc, ◌-◌, ◌*◌, ◌==◌, List, [], ◌∷◌, ◌++◌, All, length, flat_map, Option, Some, None, Result, Ok, Err, slice_index_or, if◌then◌else◌}
use Rattle.host_pages.specs.DiscoveryPage.{IsDiscoveryPage, record_count}
use Rattle.host_pages.specs.declared.discover.Stage.{Stage}
use Rattle.host_pages.specs.declared.discover.Stage.TheVariants as stage
use Rattle.host_pages.specs.declared.fault.DiscoverFault.{DiscoverFault}
use Rattle.host_pages.specs.declared.fault.DiscoverFault.TheVariants.{Memory, Unsettled}
use Rattle.host_pages.specs.declared.get_log.GetLog.{GetLog}
use Rattle.host_pages.specs.declared.progress.Progress.{Progress}
use Rattle.host_pages.specs.declared.progress.Progress.TheVariants.{Asking, Done}
use Rattle.host_pages.specs.declared.verdict.Verdict.{Verdict}
use Rattle.host_pages.specs.declared.verdict.Verdict.TheVariants.{Ends, Fails, GoesOn, Settles}
use Rattle.host_pages.specs.Reads.{header_read, reads_of}
use Rattle.host_pages.specs.Tries.{AllGoOn, EndsBy, bytes_in, read_by}
use Rattle.host_pages.specs.Verdict.{Given, IsBegun, asked_of, verdict}

-- it asks, so many tries having failed, and this being read by the one that is under way; or the page is there; or none is
-- to be had
pub data DiscoverState : Type 0 where
  asks : ℕ → List ℕ → DiscoverState
  settled : List ℕ → DiscoverState
  ended : DiscoverFault → DiscoverState

abbrev pub state_by : Stage → ℕ → List ℕ → DiscoverState
state_by stage.Asking failed read = asks failed read
state_by stage.Settled failed read = settled read
state_by (stage.Ended fault) failed read = ended fault

abbrev pub Holds : Stage → ℕ → List ℕ → Type 0
Holds stage.Asking failed read = IsBegun read × (failed < 8)
Holds stage.Settled failed read = IsDiscoveryPage read
Holds (stage.Ended fault) failed read = Unit {0}

-- ---- by all answers so far

-- All answers: those of the tries that failed, those of the last try, and those that came after its end.
pub record Answered (given : List Given) : Type 0 where
  pub failed : List (List Given)
  pub last : List Given
  pub later : List Given
  pub whole : given ≡ flat_map (λ answers. answers) failed ++ (last ++ later)
  pub each : All (EndsBy Fails) failed
  pub most : length failed ≤ 8

-- the last try is under way
pub record IsUnderWay {given : List Given} (a : Answered given) (failed : ℕ) (read : List ℕ) : Type 0 where
  pub tries : failed ≡ length a.failed
  pub fewer : length a.failed < 8
  pub go_on : AllGoOn a.last
  pub none_later : a.later ≡ []
  pub reads : read ≡ read_by a.last

-- the last try had this page
pub record HadPage {given : List Given} (a : Answered given) (page : List ℕ) : Type 0 where
  pub fewer : length a.failed < 8
  pub ends : EndsBy Settles a.last
  pub is : page ≡ read_by ends.before

-- the last try ended with a fault, or eight failed
pub record HadFault {given : List Given} (a : Answered given) (fault : DiscoverFault) : Type 0 where
  pub why : ((length a.failed < 8) × EndsBy (Ends fault) a.last) ⊎ ((length a.failed ≡ 8) × (a.last ≡ []) × (fault ≡ Unsettled))

abbrev pub StandsBy : {given : List Given} → Answered given → DiscoverState → Type 0
StandsBy a (asks failed read) = IsUnderWay a failed read
StandsBy a (settled page) = HadPage a page
StandsBy a (ended fault) = HadFault a fault

-- a `Discover` stands where the answers so far lead
pub record Stands (given : List Given) (d : DiscoverState) : Type 0 where
  pub answered : Answered given
  pub by : StandsBy answered d

-- ---- ask

-- in the order of `reads_of`; once the reading is over the header stands in, whose answer changes nothing
abbrev pub asked : DiscoverState → GetLog
asked (asks failed read) = asked_of read
asked (settled page) = header_read
asked (ended fault) = header_read

-- the records that a try reads: as many as its first answer counts
abbrev pub records_in : List Given → ℕ
records_in answers = record_count (read_by answers)

-- a try that is under way asks its reads in their order: the one behind as many as were answered
abbrev pub AsksInOrder : DiscoverState → GetLog → Type 0
AsksInOrder d read = (given : List Given) (a : Answered given) (failed : ℕ) (bytes : List ℕ) → d ≡ asks failed bytes → IsUnderWay a failed bytes
    → (length a.last < length (reads_of (records_in a.last))) × (read ≡ slice_index_or (reads_of (records_in a.last)) (length a.last) header_read)

-- ---- answer

abbrev pub IsAsking : DiscoverState → Type 0
IsAsking d = (failed : ℕ) × (read : List ℕ) × (d ≡ asks failed read)

-- .. with one try more that failed
abbrev pub failed_once_more : ℕ → DiscoverState
failed_once_more failed = if suc failed == 8 then ended Unsettled else asks (suc failed) []

abbrev pub again : DiscoverState → DiscoverState
again (asks failed read) = failed_once_more failed
again (settled page) = settled page
again (ended fault) = ended fault

abbrev pub after_verdict : Verdict → Given → ℕ → List ℕ → DiscoverState
after_verdict GoesOn a failed read = asks failed (read ++ bytes_in a)
after_verdict Settles a failed read = settled read
after_verdict Fails a failed read = failed_once_more failed
after_verdict (Ends fault) a failed read = ended fault

abbrev pub after : Given → DiscoverState → DiscoverState
after a (asks failed read) = after_verdict (verdict read a) a failed read
after a (settled page) = settled page
after a (ended fault) = ended fault

abbrev pub told : DiscoverState → Result Progress DiscoverFault
told (asks failed read) = Ok Asking
told (settled page) = Ok Done
told (ended fault) = Err fault

-- there is no memory for bytes that are to be kept
pub record Lacks (a : Given) (old : DiscoverState) (result : Result Progress DiscoverFault) (new : DiscoverState) : Type 0 where
  pub failed : ℕ
  pub read : List ℕ
  pub is : old ≡ asks failed read
  pub goes_on : verdict read a ≡ GoesOn
  pub memory : result ≡ Err Memory
  pub same : new ≡ old

-- a bound on how many answers more it takes, by the bytes of a page and the tries that are left
abbrev pub answers_left : DiscoverState → ℕ
answers_left (asks failed read) = (8 - failed) * 2097152 - length read
answers_left (settled page) = 0
answers_left (ended fault) = 0

-- an answer is taken; whatever the answers before it were, it stands where they lead with this one
pub record Takes (a : Given) (old : DiscoverState) (result : Result Progress DiscoverFault) (new : DiscoverState) : Type 0 where
  pub moved : new ≡ after a old
  pub tells : result ≡ told new
  pub fewer : IsAsking new → answers_left new < answers_left old
  pub stands : (given : List Given) → Stands given old → Stands (given ++ (a ∷ [])) new

abbrev pub Answers : Given → DiscoverState → Result Progress DiscoverFault → DiscoverState → Type 0
Answers a old result new = Lacks a old result new ⊎ Takes a old result new

-- ---- new and page

abbrev pub IsNew : DiscoverState → Type 0
IsNew d = (d ≡ asks 0 []) × Stands [] d

-- no page is had in part: by `pages_are_of_one_moment` it is the one that stood at each read of its try
abbrev pub page_in : DiscoverState → Option (List ℕ)
page_in (asks failed read) = None
page_in (settled page) = Some page
page_in (ended fault) = None
