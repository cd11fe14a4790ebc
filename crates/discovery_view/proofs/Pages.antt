-- The page's header, and the records behind it.
use Rattle.std.proofs.Common.{◌≡◌, ℕ, ◌+◌, ◌-◌, ◌*◌, ◌≤◌, ◌<◌, ◌⊎◌, inl, inr, List, [], ◌∷◌, ◌++◌, All, length, replicate, get_or, slice_range, take, drop, refl, ap, sym, ◌∙◌, arith, append_assoc, length-append, take-add}
use Rattle.std.proofs.Math.Seq.{drop-length}
use Rattle.std.proofs.lemmas.List.{append-nil, length-replicate, get_or-drop, length-drop, length-take-le, take-append-drop, take_more}
use Rattle.std.proofs.lemmas.List.Elements.{All-head, All-tail, All-take}
use Rattle.std.proofs.lemmas.List.Concat.{flat_map-append}
use Rattle.std.specs.Int.{w64, to_le_bytes}
use Rattle.std.specs.List.{flat_map}
use Rattle.nvt_fields.specs.Window.{window}
use Rattle.nvt_fields.proofs.Windows.{length-window, window_behind, window_in_front, window-zeros}
use Rattle.discovery_view.specs.Catalog.{no_parts}
use Rattle.discovery_view.specs.Page.{discovery_page}
use Rattle.discovery_view.specs.Record.{Parts, record_of}

-- the first 1,024 bytes
unfoldable pub header_of : ℕ → ℕ → List ℕ
header_of generation count = to_le_bytes w64 generation ++ to_le_bytes w64 count ++ replicate 1008 0

pub page_parts : (generation : ℕ) (records : List Parts) → header_of generation (length records) ++ flat_map record_of records ≡ discovery_page generation records
unfolding discovery_page header_of
page_parts generation records = refl

length_of_parts : (a b c : List ℕ) → length a ≡ 8 → length b ≡ 8 → length c ≡ 1008 → length (a ++ b ++ c) ≡ 1024
length_of_parts a b c la lb lc = simp length-append (omega arith)

pub length_of_header : (generation count : ℕ) → length (header_of generation count) ≡ 1024
unfolding header_of
length_of_header generation count =
    length_of_parts (to_le_bytes w64 generation) (to_le_bytes w64 count) (replicate 1008 0) refl refl (length-replicate {A = ℕ} 1008 0)

pub length_of_page : (generation : ℕ) (records : List Parts) → length (discovery_page generation records) ≡ 1024 + length (flat_map record_of records)
length_of_page generation records =
    ap length (sym (page_parts generation records))
    ∙ length-append (header_of generation (length records)) (flat_map record_of records)
    ∙ ap (λ n. n + length (flat_map record_of records)) (length_of_header generation (length records))

-- a window has its own length
pub own_length : (out page : List ℕ) (offset n : ℕ) → out ≡ window page offset n → out ≡ window page offset (length out)
own_length out page offset n shown =
    let len : length out ≡ n = ap length shown ∙ length-window page offset n in
    rw len shown

-- the numbers of the header, and zeros behind them
pub header_shown : (out : List ℕ) (offset generation count : ℕ) → out ≡ window (to_le_bytes w64 generation ++ to_le_bytes w64 count) offset (length out) → out ≡ window (header_of generation count ++ []) offset (length out)
unfolding header_of
header_shown out offset generation count shown =
    rw (append-nil (to_le_bytes w64 generation ++ to_le_bytes w64 count ++ replicate 1008 0))
    (shown ∙ window-zeros (to_le_bytes w64 generation ++ to_le_bytes w64 count) 1008 offset (length out))

-- one more record
pub record_behind : (head : List ℕ) (done : List Parts) (p : Parts) → head ++ flat_map record_of (done ++ p ∷ []) ≡ (head ++ flat_map record_of done) ++ record_of p
record_behind head done p =
    rw (flat_map-append, append-nil (record_of p)) (sym (append_assoc head (flat_map record_of done) (record_of p)))

-- records of 1,024 bytes each
pub length_of_records : (records : List Parts) → All (λ p. length (record_of p) ≡ 1024) records → length (flat_map record_of records) ≡ 1024 * length records
length_of_records [] whole = omega arith
length_of_records (p ∷ records) whole =
    let here : length (record_of p) ≡ 1024 = All-head (λ p. length (record_of p) ≡ 1024) p records whole in
    omega (arith, length-append (record_of p) (flat_map record_of records), here, length_of_records records (All-tail (λ p. length (record_of p) ≡ 1024) p records whole))

-- the records that end before the window begins
pub records_passed : (out head : List ℕ) (records : List Parts) (first offset : ℕ) → length head ≡ 1024 → All (λ p. length (record_of p) ≡ 1024) records → first ≤ length records
    → (first ≡ 0) ⊎ (1024 + 1024 * first ≤ offset) → out ≡ window head offset (length out) → out ≡ window (head ++ flat_map record_of (take first records)) offset (length out)
records_passed out head records first offset long whole within (inl none) shown = rw (none, append-nil head) shown
records_passed out head records first offset long whole within (inr past) shown =
    let passed = take first records in
    let count : length passed ≡ first = length-take-le first records within in
    let bytes = length_of_records passed (All-take (λ p. length (record_of p) ≡ 1024) first records whole) in
    window_behind out head (flat_map record_of passed) offset (length out) (omega (arith, long, count, bytes)) shown

-- .. and those that begin where it ends, or after it
pub records_ahead : (out front : List ℕ) (records : List Parts) (last offset : ℕ) → length front ≡ 1024 + 1024 * last
    → (last ≡ length records) ⊎ (offset + length out ≤ 1024 + 1024 * last) → out ≡ window front offset (length out) → out ≡ window (front ++ flat_map record_of (drop last records)) offset (length out)
records_ahead out front records last offset long (inl all) shown =
    let none : drop last records ≡ [] = rw all (drop-length records) in
    rw (none, append-nil front) shown
records_ahead out front records last offset long (inr ahead) shown =
    window_in_front out front (flat_map record_of (drop last records)) offset (length out) (omega (arith, long, ahead)) shown

-- .. and those between
pub records_between : (head : List ℕ) (records : List Parts) (first last : ℕ) → first ≤ last
    → (head ++ flat_map record_of (take first records)) ++ flat_map record_of (slice_range records first last) ≡ head ++ flat_map record_of (take last records)
records_between head records first last order =
    let more = last - first in
    let upto : take last records ≡ take first records ++ take more (drop first records) = ap (λ n. take n records) (omega arith) ∙ take-add first more records in
    append_assoc head (flat_map record_of (take first records)) (flat_map record_of (take more (drop first records)))
    ∙ ap (λ l. head ++ l) (sym (flat_map-append record_of (take first records) (take more (drop first records))) ∙ ap (flat_map record_of) (sym upto))

-- the first of them, and those behind
pub records_whole : (head : List ℕ) (records : List Parts) (last : ℕ)
    → (head ++ flat_map record_of (take last records)) ++ flat_map record_of (drop last records) ≡ head ++ flat_map record_of records
records_whole head records last =
    append_assoc head (flat_map record_of (take last records)) (flat_map record_of (drop last records))
    ∙ ap (λ l. head ++ l) (sym (flat_map-append record_of (take last records) (drop last records)) ∙ ap (flat_map record_of) (take-append-drop last records))

pub front_long : (head : List ℕ) (records : List Parts) (n : ℕ) → length head ≡ 1024 → All (λ p. length (record_of p) ≡ 1024) records → n ≤ length records
    → length (head ++ flat_map record_of (take n records)) ≡ 1024 + 1024 * n
front_long head records n long whole within =
    let count : length (take n records) ≡ n = length-take-le n records within in
    let bytes = length_of_records (take n records) (All-take (λ p. length (record_of p) ≡ 1024) n records whole) in
    omega (arith, length-append head (flat_map record_of (take n records)), long, count, bytes)

-- one more record of those between
pub records_more : (records : List Parts) (first index : ℕ) (p : Parts) → first ≤ index → index < length records → p ≡ get_or records index no_parts
    → flat_map record_of (slice_range records first (index + 1)) ≡ flat_map record_of (slice_range records first index) ++ record_of p
records_more records first index p order within is =
    let rest = drop first records in
    let place : get_or rest (index - first) no_parts ≡ p = get_or-drop first records (index - first) no_parts ∙ ap (λ k. get_or records k no_parts) (omega (arith, order)) ∙ sym is in
    let more : take (index + 1 - first) rest ≡ take (index - first) rest ++ p ∷ [] =
    ap (λ n. take n rest) (omega (arith, order))
    ∙ take_more rest (index - first) no_parts (omega (arith, length-drop first records, order, within))
    ∙ ap (λ q. take (index - first) rest ++ q ∷ []) place in
    ap (flat_map record_of) more
    ∙ flat_map-append record_of (take (index - first) rest) (p ∷ [])
    ∙ ap (λ l. flat_map record_of (take (index - first) rest) ++ l) (append-nil (record_of p))
