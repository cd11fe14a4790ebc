-- A try that goes on asks its reads in their order.
use Rattle.std.proofs.Common.{◌≡◌, ℕ, zero, suc, ◌+◌, ◌-◌, ◌*◌, ◌/◌, ◌<◌, ◌≤◌, min, List, [], ◌∷◌, ◌++◌, length, take, refl, sym, subst, ap, ◌∙◌, inl, inr, arith, length-append}
use Rattle.std.specs.Prelude.{Ok, slice_index_or}
use Rattle.std.specs.List.{range_with_len}
use Rattle.std.proofs.lemmas.List.FromFn.{get_or-range_with_len, length-range_with_len}
use Rattle.std.proofs.lemmas.Bool.{cases_lt}
use Rattle.std.proofs.lemmas.List.{append-nil, get_or_append_left, get_or-map, get_or_at, length-map, take_all, take_more}
use Rattle.host_pages.specs.DiscoveryPage.{genctr_of, record_count}
use Rattle.host_pages.specs.declared.get_log.GetLog.{GetLog}
use Rattle.host_pages.specs.declared.verdict.Verdict.TheVariants.{GoesOn}
use Rattle.host_pages.specs.Discover.{AsksInOrder, DiscoverState, asked, records_in}
use Rattle.host_pages.specs.Reads.{header_read, reads_of, records_read, records_reads}
use Rattle.host_pages.specs.Tries.{AllGoOn, answer_at, bytes_in, read_by}
use Rattle.host_pages.specs.Verdict.{Given, IsHeaded, asked_of, left_of, verdict}
use Rattle.host_pages.proofs.Holding.{asked_none, asked_some, field_at-append, headed_from, headed_goes, left_of-some}
use Rattle.host_pages.proofs.Trying.{read_by-more}
use Rattle.host_pages.proofs.Verdicts.{first_goes, records_goes}

-- what was read by a header, of this generation and so many records, and so many answers behind it
pub record IsRead (genctr records n : ℕ) (read : List ℕ) : Type 0 where
  pub headed : IsHeaded read
  pub generation : genctr_of read ≡ genctr
  pub count : record_count read ≡ records
  pub len : length read ≡ 1024 + 1024 * min records (32 * n)
  pub fewer : n ≤ (records + 31) / 32

read_first : (a : Given) → verdict [] a ≡ GoesOn → IsRead (genctr_of (bytes_in a)) (record_count (bytes_in a)) 0 (bytes_in a)
read_first a goes =
    let found = first_goes a goes in
    let is : bytes_in a ≡ found.0 = ap bytes_in found.1 in
    let header = headed_from found.0 found.2 in
    let len : length (bytes_in a) ≡ 1024 = ap length is ∙ header.0 in
    record {
      headed = subst IsHeaded (sym is) header.1;
      generation = refl;
      count = refl;
      len = omega (arith, len);
      fewer = omega arith;
    }

read_more : (genctr records n : ℕ) (read : List ℕ) (a : Given) → IsRead genctr records n read → verdict read a ≡ GoesOn → IsRead genctr records (suc n) (read ++ bytes_in a)
read_more genctr records n read a is goes =
    let long = is.headed.long in
    let len = is.len in
    let count = is.count in
    let found = records_goes read a (omega (arith, long)) goes in
    let left = left_of-some read (omega (arith, long)) in
    let some = found.some in
    let of = found.len in
    let more = ap (λ x. length (bytes_in x)) found.is in
    let all = length-append read (bytes_in a) in
    let generation = field_at-append 8 0 read (bytes_in a) (omega (arith, long)) in
    let counted = field_at-append 8 8 read (bytes_in a) (omega (arith, long)) in
    record {
      headed = headed_goes read a is.headed goes;
      generation = generation ∙ is.generation;
      count = counted ∙ count;
      len = omega (arith, len, count, left, some, of, more, all);
      fewer = omega (arith, len, count, left, some);
    }

-- the answers of a try that goes on, up to one
pub read_up_to : (answers : List Given) → AllGoOn answers → (n : ℕ) → n < length answers
    → IsRead (genctr_of (read_by (take 1 answers))) (record_count (read_by (take 1 answers))) n (read_by (take (suc n) answers))
read_up_to [] go_on n below = absurd (omega (arith, below))
read_up_to (a ∷ answers) go_on zero below =
    let is : read_by (take 1 (a ∷ answers)) ≡ bytes_in a = append-nil (bytes_in a) in
    subst (λ read. IsRead (genctr_of read) (record_count read) 0 read) (sym is) (read_first a (go_on 0 below))
read_up_to (a ∷ answers) go_on (suc n) below =
    let before = read_up_to (a ∷ answers) go_on n (omega (arith, below)) in
    let first = read_by (take 1 (a ∷ answers)) in
    let front = take (suc n) (a ∷ answers) in
    let next = answer_at (a ∷ answers) (suc n) in
    let one : suc n + 1 ≡ suc (suc n) = omega arith in
    let is : read_by (take (suc (suc n)) (a ∷ answers)) ≡ read_by front ++ bytes_in next =
    ap (λ k. read_by (take k (a ∷ answers))) (sym one) ∙ ap read_by (take_more (a ∷ answers) (suc n) (Ok []) below) ∙ read_by-more front next in
    subst (IsRead (genctr_of first) (record_count first) (suc n)) (sym is) (read_more (genctr_of first) (record_count first) n (read_by front) next before (go_on (suc n) below))

-- ---- the reads

read_at : (records n : ℕ) → n < (records + 31) / 32 → slice_index_or (records_reads records ++ header_read ∷ []) n header_read ≡ records_read records n
read_at records n below =
    let same : 0 + n ≡ n = omega arith in
    let numbers = range_with_len 0 ((records + 31) / 32) in
    let count : length numbers ≡ (records + 31) / 32 = length-range_with_len 0 ((records + 31) / 32) in
    get_or_append_left (records_reads records) (header_read ∷ []) header_read n (omega (arith, below, count, length-map numbers (records_read records)))
    ∙ get_or-map (records_read records) numbers n 0 header_read (omega (arith, below, count))
    ∙ ap (records_read records) (get_or-range_with_len 0 ((records + 31) / 32) n 0 below ∙ same)

last_read : (records n : ℕ) → n ≡ (records + 31) / 32 → slice_index_or (records_reads records ++ header_read ∷ []) n header_read ≡ header_read
last_read records n is =
    let numbers = range_with_len 0 ((records + 31) / 32) in
    let count : length numbers ≡ (records + 31) / 32 = length-range_with_len 0 ((records + 31) / 32) in
    get_or_at (records_reads records) header_read [] header_read n (omega (arith, is, count, length-map numbers (records_read records)))

asked_next : (genctr records n : ℕ) (read : List ℕ) → IsRead genctr records n read → asked_of read ≡ slice_index_or (reads_of records) (suc n) header_read
asked_next genctr records n read is =
    let long = is.headed.long in
    let len = is.len in
    let count = is.count in
    let fewer = is.fewer in
    let left = left_of-some read (omega (arith, long)) in
    elim (cases_lt n ((records + 31) / 32)) [
      | inl below ↦
          let offset : length read ≡ 1024 + n * 32768 = omega (arith, below, len) in
          let size : min 32768 (left_of read) ≡ 1024 * min 32 (records - n * 32) = omega (arith, below, len, count, left) in
          asked_some read (omega (arith, below, len, count, left)) ∙ same_read offset size ∙ sym (read_at records n below)
      | inr past ↦
          let all : n ≡ (records + 31) / 32 = omega (arith, past, fewer) in
          asked_none read (omega (arith, all, len, count, left)) ∙ sym (last_read records n all)
    ]
  where
    same_read : {a b c d : ℕ} → a ≡ b → c ≡ d → ◌≡◌ {A = GetLog} (record { offset = a; len = c }) (record { offset = b; len = d })
    same_read {a} {b} {c} {d} ab cd = ap (λ x. record { offset = x; len = c }) ab ∙ ap (λ x. record { offset = b; len = x }) cd

length-reads : (records : ℕ) → length (reads_of records) ≡ (records + 31) / 32 + 2
length-reads records =
    let numbers = range_with_len 0 ((records + 31) / 32) in
    let count : length numbers ≡ (records + 31) / 32 = length-range_with_len 0 ((records + 31) / 32) in
    omega (arith, count, length-map numbers (records_read records), length-append (records_reads records) (header_read ∷ []))

in_order : (answers : List Given) → AllGoOn answers
    → (length answers < length (reads_of (records_in answers))) × (asked_of (read_by answers) ≡ slice_index_or (reads_of (records_in answers)) (length answers) header_read)
in_order [] go_on = (omega (arith, length-reads (records_in [])), refl)
in_order (a ∷ answers) go_on =
    let n = length answers in
    let all : take (suc n) (a ∷ answers) ≡ a ∷ answers = take_all (suc n) (a ∷ answers) (omega arith) in
    let first = read_by (take 1 (a ∷ answers)) in
    let genctr = genctr_of first in
    let is : IsRead genctr (record_count first) n (read_by (a ∷ answers)) =
    subst (λ t. IsRead genctr (record_count first) n (read_by t)) all (read_up_to (a ∷ answers) go_on n (omega arith)) in
    let same : IsRead genctr (records_in (a ∷ answers)) n (read_by (a ∷ answers)) = subst (λ k. IsRead genctr k n (read_by (a ∷ answers))) (sym is.count) is in
    let most = same.fewer in
    (omega (arith, most, length-reads (records_in (a ∷ answers))), asked_next genctr (records_in (a ∷ answers)) n (read_by (a ∷ answers)) same)

pub asks_in_order : (d : DiscoverState) → AsksInOrder d (asked d)
asks_in_order d given a failed bytes is under =
    let next = in_order a.last under.go_on in
    (next.0, ap asked is ∙ ap asked_of under.reads ∙ next.1)
