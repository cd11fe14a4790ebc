-- Where answers are what a page shows at moments that never go back, the page that a try has is the one that stood at each
-- of its reads.
use Rattle.std.proofs.Common.{◌≡◌, ℕ, zero, suc, ◌+◌, ◌-◌, ◌*◌, ◌^◌, ◌<◌, ◌≤◌, min, All, List, [], ◌∷◌, ◌++◌, length, take, drop, replicate, refl, sym, subst, ap, ◌∙◌, inl, inr, arith, append_assoc, length-append, length-drop}
use Rattle.std.specs.Prelude.{Ok}
use Rattle.std.specs.Int.{w64, to_le_bytes}
use Rattle.std.specs.List.{flat_map}
use Rattle.std.proofs.lemmas.Bool.{cases_lt}
use Rattle.std.proofs.lemmas.List.{append-nil, drop_at, get_or-drop, get_or-take, get_or_append_left, get_or_at, length-replicate, length-take-le, length_push, nil_from_length, take-append-drop, take-append-le, take-take, take_all, take_more, drop_more}
use Rattle.std.proofs.lemmas.List.Elements.{All-head, All-tail}
use Rattle.std.proofs.lemmas.List.Concat.{flat_map-cons}
use Rattle.std.proofs.Math.Seq.{take-add}
use Rattle.byteorder.specs.Endian.{little_number}
use Rattle.byteorder.specs.Numbers.{little_number-reads_back}
use Rattle.nvt_fields.specs.Field.{field_at}
use Rattle.nvt_fields.specs.Window.{window}
use Rattle.nvt_fields.proofs.Windows.{window_of}
use Rattle.host_pages.specs.DiscoveryPage.{genctr_of, record_count, record_place}
use Rattle.host_pages.specs.Laws.{joined}
use Rattle.host_pages.specs.Discover.{Answered, HadPage, Stands, asks}
use Rattle.host_pages.specs.DiscoveryLaws.{HasFewChanges, IsOfLastTry, PagesAreOfOneMoment, answers_before}
use Rattle.host_pages.specs.Moments.{AreMoments, AreShown, IsPage, Page, Shows, bytes_of}
use Rattle.host_pages.specs.Reads.{header_read}
use Rattle.host_pages.specs.Tries.{AllGoOn, answer_at, bytes_in, read_by}
use Rattle.host_pages.specs.Verdict.{Given, asked_of, left_of, verdict}
use Rattle.host_pages.proofs.Holding.{asked_none, asked_some, field_at-append, left_of-some}
use Rattle.host_pages.proofs.Moving.{bytes_of-same, same-between}
use Rattle.host_pages.proofs.Ordered.{IsRead, read_up_to}
use Rattle.host_pages.proofs.Trying.{read_by-more}
use Rattle.host_pages.proofs.Verdicts.{Settling, alike_genctr, first_goes, none_left_is_whole, records_goes, settles_by}

-- ---- the bytes of a page

length-joined : (records : List (List ℕ)) → All (λ r. length r ≡ 1024) records → length (joined records) ≡ length records * 1024
length-joined [] each = refl
length-joined (r ∷ records) each =
    let one : length r ≡ 1024 = All-head (λ x. length x ≡ 1024) r records each in
    let more = length-joined records (All-tail (λ x. length x ≡ 1024) r records each) in
    ap length (flat_map-cons (λ part. part) r records) ∙ omega (arith, one, more, length-append r (joined records))

pub length-bytes_of : (p : Page) → IsPage p → length (bytes_of p) ≡ record_place (length p.records)
unfolding bytes_of
length-bytes_of p is =
    let records = joined p.records in
    let zeros = replicate {A = ℕ} 1008 0 in
    let count = to_le_bytes w64 (length p.records) in
    let genctr = to_le_bytes w64 p.genctr in
    omega (arith, length-joined p.records is.each, length-append genctr (count ++ (zeros ++ records)), length-append count (zeros ++ records), length-append zeros records, length-replicate {A = ℕ} 1008 0)

pub genctr-bytes_of : (p : Page) → IsPage p → genctr_of (bytes_of p) ≡ p.genctr
unfolding bytes_of field_at
genctr-bytes_of p is = little_number-reads_back 8 p.genctr (to_le_bytes w64 (length p.records) ++ (replicate 1008 0 ++ joined p.records)) is.genctr

pub count-bytes_of : (p : Page) → IsPage p → record_count (bytes_of p) ≡ length p.records
unfolding bytes_of field_at
count-bytes_of p is =
    ap (little_number 8) (drop_at (to_le_bytes w64 p.genctr) (to_le_bytes w64 (length p.records) ++ (replicate 1008 0 ++ joined p.records)) 8 refl)
    ∙ little_number-reads_back 8 (length p.records) (replicate 1008 0 ++ joined p.records) is.count

-- ---- what a page shows

window_is : (page : List ℕ) (offset n : ℕ) → offset + n ≤ length page → window page offset n ≡ take n (drop offset page)
window_is page offset n within =
    sym (window_of (take n (drop offset page)) page offset n (length-take-le n (drop offset page) (omega (arith, within, length-drop offset page)))
    (λ k below. get_or-take n (drop offset page) k 0 below ∙ get_or-drop offset page k 0))

-- a field of what is shown of the front
field_shown : (n at m : ℕ) (page : List ℕ) → at + n ≤ m → m ≤ length page → field_at n at (take m page) ≡ field_at n at page
field_shown n at m page within long =
    sym (field_at-append n at (take m page) (drop m page) (omega (arith, within, length-take-le m page long)))
    ∙ ap (field_at n at) (take-append-drop m page)

-- one part more of the front
part_more : (page read part : List ℕ) (n : ℕ) → read ≡ take (length read) page → length read + n ≤ length page → part ≡ window page (length read) n
    → (read ++ part ≡ take (length (read ++ part)) page) × (length (read ++ part) ≡ length read + n)
part_more page read part n front within shown =
    let is : part ≡ take n (drop (length read) page) = shown ∙ window_is page (length read) n within in
    let len : length part ≡ n = ap length is ∙ length-take-le n (drop (length read) page) (omega (arith, within, length-drop (length read) page)) in
    let all : length (read ++ part) ≡ length read + n = omega (arith, len, length-append read part) in (
      ap (λ r. r ++ part) front ∙ ap (λ p. take (length read) page ++ p) is ∙ sym (take-add (length read) n page) ∙ ap (λ k. take k page) (sym all),
      all,
    )

-- ---- the last try

-- the answers of these tries, one after another
abbrev all_of : List (List Given) → List Given
all_of tries = flat_map (λ answers. answers) tries

module _ (pages : ℕ → Page) (moment : ℕ → ℕ) {given : List Given} (shown : AreShown pages moment given) (a : Answered given) (fewer : length a.failed < 8)
    (before : List Given) (final : Given) (split : a.last ≡ before ++ final ∷ []) (go_on : AllGoOn before) where
  go_on_front : (n : ℕ) → n ≤ length before → AllGoOn (take n before)
  go_on_front n within i below =
      let len = length-take-le n before within in
      ap (λ front. verdict (read_by front) (answer_at (take n before) i)) (take-take i n before (omega (arith, below, len)))
      ∙ ap (verdict (read_by (take i before))) (get_or-take n before i (Ok []) (omega (arith, below, len)))
      ∙ go_on i (omega (arith, below, len, within))

  stands_front : (n : ℕ) → n ≤ length before → Stands (all_of a.failed ++ take n before) (asks (length a.failed) (read_by (take n before)))
  stands_front n within = record {
    answered = record {
      failed = a.failed;
      last = take n before;
      later = [];
      whole = ap (λ l. all_of a.failed ++ l) (sym (append-nil (take n before)));
      each = a.each;
      most = a.most;
    };
    by = record { tries = refl; fewer = fewer; go_on = go_on_front n within; none_later = refl; reads = refl };
  }

  split_at : (n : ℕ) → n ≤ length before → given ≡ (all_of a.failed ++ take n before) ++ (answer_at a.last n ∷ (drop (n + 1) a.last ++ a.later))
  split_at n within =
      let len = ap length split in
      let front : take n a.last ≡ take n before = ap (take n) split ∙ take-append-le n before (final ∷ []) within in
      let back : drop n a.last ≡ answer_at a.last n ∷ drop (n + 1) a.last = drop_more a.last n (Ok []) (omega (arith, within, len, length-append before (final ∷ []))) in
      a.whole
      ∙ ap (λ l. all_of a.failed ++ (l ++ a.later)) (sym (take-append-drop n a.last))
      ∙ ap (λ l. all_of a.failed ++ l) (append_assoc (take n a.last) (drop n a.last) a.later)
      ∙ sym (append_assoc (all_of a.failed) (take n a.last) (drop n a.last ++ a.later))
      ∙ ap (λ l. (all_of a.failed ++ l) ++ (drop n a.last ++ a.later)) front
      ∙ ap (λ l. (all_of a.failed ++ take n before) ++ (l ++ a.later)) back

  -- the page of each read
  abbrev page_at : ℕ → Page
  page_at n = pages (moment (answers_before a + n))

  shown_at : (n : ℕ) → n ≤ length before → Shows (page_at n) (asked_of (read_by (take n before))) (answer_at a.last n)
  shown_at n within =
      let len : length (all_of a.failed ++ take n before) ≡ answers_before a + n = omega (arith, length-append (all_of a.failed) (take n before), length-take-le n before within) in
      subst (λ k. Shows (pages (moment k)) (asked_of (read_by (take n before))) (answer_at a.last n)) len
      (shown.each (all_of a.failed ++ take n before) (answer_at a.last n) (drop (n + 1) a.last ++ a.later) (length a.failed) (read_by (take n before)) (split_at n within) (stands_front n within))

  -- .. which is that of the answer
  bytes_at : (n : ℕ) (x : Given) (bytes : List ℕ) → n ≤ length before → answer_at a.last n ≡ x → x ≡ Ok bytes
      → bytes ≡ window (bytes_of (page_at n)) (asked_of (read_by (take n before))).offset (asked_of (read_by (take n before))).len
  bytes_at n x bytes within at is = subst (Shows (page_at n) (asked_of (read_by (take n before)))) (at ∙ is) (shown_at n within)

  answer_before : (n : ℕ) → n < length before → answer_at a.last n ≡ answer_at before n
  answer_before n below = ap (λ l. answer_at l n) split ∙ get_or_append_left before (final ∷ []) (Ok []) n below

  answer_final : answer_at a.last (length before) ≡ final
  answer_final = ap (λ l. answer_at l (length before)) split ∙ get_or_at before final [] (Ok []) (length before) refl

  some_before : Settling (read_by before) final → 0 < length before
  some_before by =
      elim (cases_lt 0 (length before)) [
        | inl some ↦ some
        | inr none ↦ absurd (by.some (ap read_by (nil_from_length before (omega (arith, none)))))
      ]

  -- the first read is the header of its page
  first_read : 0 < length before → IsPage (page_at 0) → read_by (take 1 before) ≡ take 1024 (bytes_of (page_at 0))
  first_read some is =
      let page = bytes_of (page_at 0) in
      let found = first_goes (answer_at before 0) (go_on 0 some) in
      let h : found.0 ≡ window page 0 1024 = bytes_at 0 (answer_at before 0) found.0 (omega arith) (answer_before 0 some) found.1 in
      ap read_by (take_more before 0 (Ok []) some)
      ∙ append-nil (bytes_in (answer_at before 0))
      ∙ ap bytes_in found.1
      ∙ h
      ∙ window_is page 0 1024 (omega (arith, length-bytes_of (page_at 0) is))

  -- what was read before the last read
  front_read : (n : ℕ) → n < length before → IsRead (genctr_of (read_by (take 1 before))) (record_count (read_by (take 1 before))) n (read_by (take (suc n) before))
  front_read n below = read_up_to before go_on n below

  genctr_first : 0 < length before → IsPage (page_at 0) → genctr_of (read_by (take 1 before)) ≡ (page_at 0).genctr
  genctr_first some is =
      let page = bytes_of (page_at 0) in
      ap genctr_of (first_read some is) ∙ field_shown 8 0 1024 page (omega arith) (omega (arith, length-bytes_of (page_at 0) is)) ∙ genctr-bytes_of (page_at 0) is

  count_first : 0 < length before → IsPage (page_at 0) → record_count (read_by (take 1 before)) ≡ length (page_at 0).records
  count_first some is =
      let page = bytes_of (page_at 0) in
      ap record_count (first_read some is) ∙ field_shown 8 8 1024 page (omega arith) (omega (arith, length-bytes_of (page_at 0) is)) ∙ count-bytes_of (page_at 0) is

  all_before : 0 < length before → IsRead (genctr_of (read_by (take 1 before))) (record_count (read_by (take 1 before))) (length before - 1) (read_by before)
  all_before some =
      let last : suc (length before - 1) ≡ length before = omega (arith, some) in
      let all : take (suc (length before - 1)) before ≡ before = ap (λ k. take k before) last ∙ take_all (length before) before (omega arith) in
      subst (λ l. IsRead (genctr_of (read_by (take 1 before))) (record_count (read_by (take 1 before))) (length before - 1) (read_by l)) all (front_read (length before - 1) (omega (arith, some)))

  -- both headers have the generation of their pages, which is the same
  alike_pages : Settling (read_by before) final → IsPage (page_at 0) → IsPage (page_at (length before)) → (page_at 0).genctr ≡ (page_at (length before)).genctr
  alike_pages by is is_last =
      let some = some_before by in
      let page = bytes_of (page_at (length before)) in
      let all : take (length before) before ≡ before = take_all (length before) before (omega arith) in
      let asked : asked_of (read_by (take (length before) before)) ≡ header_read = ap (λ l. asked_of (read_by l)) all ∙ asked_none (read_by before) by.none_left in
      let h : by.header ≡ window page 0 1024 =
      bytes_at (length before) final by.header (omega arith) answer_final by.is ∙ ap (λ r. window page r.offset r.len) asked in
      let generation : genctr_of by.header ≡ (page_at (length before)).genctr =
      ap genctr_of (h ∙ window_is page 0 1024 (omega (arith, length-bytes_of (page_at (length before)) is_last)))
      ∙ field_shown 8 0 1024 page (omega arith) (omega (arith, length-bytes_of (page_at (length before)) is_last))
      ∙ genctr-bytes_of (page_at (length before)) is_last in
      sym (genctr_first some is) ∙ sym (all_before some).generation ∙ alike_genctr (read_by before) by.header by.alike ∙ generation

  -- where the page is the same at each read, what was read is its front
  read_front : (same : (n : ℕ) → n ≤ length before → bytes_of (page_at n) ≡ bytes_of (page_at 0)) → IsPage (page_at 0) → (n : ℕ) → n < length before
      → read_by (take (suc n) before) ≡ take (length (read_by (take (suc n) before))) (bytes_of (page_at 0))
  read_front same is zero below =
      let page = bytes_of (page_at 0) in
      let first = first_read below is in
      let len : length (read_by (take 1 before)) ≡ 1024 = ap length first ∙ length-take-le 1024 page (omega (arith, length-bytes_of (page_at 0) is)) in
      first ∙ ap (λ k. take k page) (sym len)
  read_front same is (suc n) below =
      let page = bytes_of (page_at 0) in
      let front = read_by (take (suc n) before) in
      let next = answer_at before (suc n) in
      let some : 0 < length before = omega (arith, below) in
      let earlier = read_front same is n (omega (arith, below)) in
      let read = front_read n (omega (arith, below)) in
      let long = read.headed.long in
      let records = records_goes front next (omega (arith, long)) (go_on (suc n) below) in
      let asked = asked_some front records.some in
      let part : records.bytes ≡ window page (length front) (min 32768 (left_of front)) =
      bytes_at (suc n) next records.bytes (omega (arith, below)) (answer_before (suc n) below) records.is
      ∙ ap (λ r. window (bytes_of (page_at (suc n))) r.offset r.len) asked
      ∙ ap (λ p. window p (length front) (min 32768 (left_of front))) (same (suc n) (omega (arith, below))) in
      let left = left_of-some front (omega (arith, long)) in
      let count = read.count ∙ count_first some is in
      let more = part_more page front records.bytes (min 32768 (left_of front)) earlier (omega (arith, left, count, length-bytes_of (page_at 0) is, records.some)) part in
      let one : suc n + 1 ≡ suc (suc n) = omega arith in
      let grown : read_by (take (suc (suc n)) before) ≡ front ++ records.bytes =
      ap (λ k. read_by (take k before)) (sym one) ∙ ap read_by (take_more before (suc n) (Ok []) below) ∙ read_by-more (take (suc n) before) next ∙ ap (λ x. front ++ bytes_in x) records.is in
      grown ∙ more.0 ∙ ap (λ l. take (length l) page) (sym grown)

  -- .. and at the end all of it
  read_whole : (same : (n : ℕ) → n ≤ length before → bytes_of (page_at n) ≡ bytes_of (page_at 0)) → IsPage (page_at 0) → Settling (read_by before) final
      → read_by before ≡ bytes_of (page_at 0)
  read_whole same is by =
      let page = bytes_of (page_at 0) in
      let some = some_before by in
      let last : suc (length before - 1) ≡ length before = omega (arith, some) in
      let all : take (suc (length before - 1)) before ≡ before = ap (λ k. take k before) last ∙ take_all (length before) before (omega arith) in
      let front : read_by before ≡ take (length (read_by before)) page =
      subst (λ l. read_by l ≡ take (length (read_by l)) page) all (read_front same is (length before - 1) (omega (arith, some))) in
      let whole = none_left_is_whole (read_by before) by.some by.none_left in
      let count = (all_before some).count ∙ count_first some is in
      front ∙ take_all (length (read_by before)) page (omega (arith, whole, count, length-bytes_of (page_at 0) is))

-- ---- the law

pub pages_are_of_one_moment : PagesAreOfOneMoment
pages_are_of_one_moment = record { stood = stood }
  where
    stood : (pages : ℕ → Page) (changes moment : ℕ → ℕ) → AreMoments pages changes
        → (given : List Given) → AreShown pages moment given
        → (a : Answered given) (page : List ℕ) → HadPage a page → HasFewChanges a (λ n. changes (moment n))
        → (n : ℕ) → IsOfLastTry a n → page ≡ bytes_of (pages (moment n))
    stood pages changes moment are given shown a page had few n of =
        let ends = had.ends in
        let before = ends.before in
        let base = answers_before a in
        let len : length a.last ≡ length before + 1 = ap length ends.split ∙ length_push before ends.last in
        let by = settles_by (read_by before) ends.last ends.by in
        let first : moment base ≡ moment (base + 0) = ap moment (omega arith) in
        let is = are.each (moment (base + 0)) in
        let is_last = are.each (moment (base + length before)) in
        let alike = alike_pages pages moment shown a had.fewer before ends.last ends.split ends.go_on by is is_last in
        let fewer : changes (moment (base + length before)) < changes (moment (base + 0)) + 2 ^ 64 =
        few (base + 0) (base + length before) (record { from = omega arith; below = omega (arith, len) }) (record { from = omega arith; below = omega (arith, len) }) in
        let same : (k : ℕ) → k ≤ length before → bytes_of (pages (moment (base + k))) ≡ bytes_of (pages (moment (base + 0))) =
        λ k within. bytes_of-same (pages (moment (base + 0))) (pages (moment (base + k)))
        (same-between pages changes are (moment (base + 0)) (moment (base + k)) (moment (base + length before))
        (shown.forward (base + 0) (base + k) (omega arith)) (shown.forward (base + k) (base + length before) (omega (arith, within))) alike fewer) in
        let whole = read_whole pages moment shown a had.fewer before ends.last ends.split ends.go_on same is by in
        let from = of.from in
        let below = of.below in
        let at : base + (n - base) ≡ n = omega (arith, from) in
        had.is ∙ whole ∙ sym (same (n - base) (omega (arith, from, below, len))) ∙ ap (λ k. bytes_of (pages (moment k))) at
