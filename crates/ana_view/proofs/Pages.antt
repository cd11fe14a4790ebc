-- The page as it goes on.
use Rattle.std.proofs.Common.{◌≡◌, ℕ, ◌+◌, ◌-◌, ◌*◌, ◌<◌, ◌≤◌, Bool, true, false, Some, None, List, [], ◌∷◌, ◌++◌, length, suc, take, get_or, replicate, refl, ap, sym, ◌∙◌, arith, append_assoc, length-append}
use Rattle.std.proofs.Math.Seq.{take-suc}
use Rattle.std.proofs.lemmas.List.{append-nil}
use Rattle.std.proofs.lemmas.List.Concat.{flat_map-append}
use Rattle.std.proofs.lemmas.List.Elements.{filter_map-append}
use Rattle.std.specs.Int.{w16, w32, w64, to_le_bytes}
use Rattle.std.specs.List.{cons_option, filter_map, flat_map}
use Rattle.std.specs.Prelude.{if◌then◌else◌}
use Rattle.config_lists.specs.Numbered.{numbers_from}
use Rattle.nvt_fields.specs.Window.{window}
use Rattle.nvt_fields.proofs.Windows.{length-window, window-zeros}
use Rattle.ana_view.specs.Counts.{Counts, count_in}
use Rattle.ana_view.specs.Group.{Descriptor, descriptor_with, listed_by, state_code}
use Rattle.ana_view.specs.Page.{ana_page, descriptor_bytes, descriptor_head, nsid_bytes}
use Rattle.ana_view.specs.declared.groups.Groups.{Groups}
use Rattle.ana_view.specs.Tables.{descriptor_of, listing_of, nsids_of, shown_of, state_of}
use Rattle.ana_view.proofs.Numbers.{up_to}

-- 4 bytes for each identifier
pub length-nsid_bytes : (nsids : List ℕ) → length (nsid_bytes nsids) ≡ 4 * length nsids
length-nsid_bytes [] = refl
length-nsid_bytes (n ∷ nsids) = omega (arith, length-append (to_le_bytes w32 n) (nsid_bytes nsids), length-nsid_bytes nsids)

-- one item more
pub take_next : {X : Type 0} (xs : List X) (i : ℕ) (x : X) → i < length xs → x ≡ get_or xs i x → take (i + 1) xs ≡ take i xs ++ x ∷ []
take_next {X = X} xs i x below is =
    let one : i + 1 ≡ suc i = omega arith in
    ap (λ k. take k xs) one ∙ take-suc xs i x below ∙ ap (λ (y : X). take i xs ++ y ∷ []) (sym is)

pub nsid_next : (nsids : List ℕ) (i n : ℕ) → i < length nsids → n ≡ get_or nsids i n
    → nsid_bytes (take (i + 1) nsids) ≡ nsid_bytes (take i nsids) ++ to_le_bytes w32 n
nsid_next nsids i n below is = ap nsid_bytes (take_next nsids i n below is) ∙ rw (flat_map-append, append-nil) refl

pub length_of_head : (id count changes state : ℕ) → length (descriptor_head id count changes state) ≡ 32
unfolding descriptor_head
length_of_head id count changes state = refl

-- ---- the page

-- the first 16 bytes
unfoldable pub header_of : ℕ → ℕ → List ℕ
header_of changes count = to_le_bytes w64 changes ++ to_le_bytes w16 count ++ replicate 6 0

pub page_parts : (groups_only : Bool) (counts : Counts) (groups : List Descriptor) → header_of counts.changes (length groups) ++ flat_map (descriptor_bytes groups_only counts) groups ≡ ana_page groups_only counts groups
unfolding ana_page header_of
page_parts groups_only counts groups = refl

pub length_of_header : (changes count : ℕ) → length (header_of changes count) ≡ 16
unfolding header_of
length_of_header changes count = refl

-- the numbers of the header, and zeros behind them
pub header_shown : (out : List ℕ) (offset changes count n : ℕ) → out ≡ window (to_le_bytes w64 changes ++ to_le_bytes w16 count) offset n → out ≡ window (header_of changes count) offset n
unfolding header_of
header_shown out offset changes count n shown = shown ∙ window-zeros (to_le_bytes w64 changes ++ to_le_bytes w16 count) 6 offset n

-- the descriptors of the groups up to one that is passed
abbrev pub shown_until : Groups → ℕ → List Descriptor
shown_until t group = filter_map (descriptor_of t) (numbers_from 1 (group - 1))

descriptor_is : (t : Groups) (group : ℕ) → 0 < length (nsids_of t group) → descriptor_of t group ≡ Some (shown_of t group)
descriptor_is t group some = by_nsids (nsids_of t group) some where
  by_nsids : (nsids : List ℕ) → 0 < length nsids → descriptor_with group (state_of t group) nsids ≡ Some (record { id = group; state = state_of t group; nsids = nsids })
  by_nsids [] some = absurd (omega arith)
  by_nsids (n ∷ nsids) some = refl

descriptor_is_absent : (t : Groups) (group : ℕ) → length (nsids_of t group) ≡ 0 → descriptor_of t group ≡ None
descriptor_is_absent t group none = by_nsids (nsids_of t group) none where
  by_nsids : (nsids : List ℕ) → length nsids ≡ 0 → descriptor_with group (state_of t group) nsids ≡ None
  by_nsids [] none = refl
  by_nsids (n ∷ nsids) none = absurd (omega arith)

-- a group that holds a namespace
pub shown_next : (t : Groups) (group : ℕ) → 1 ≤ group → 0 < length (nsids_of t group) → shown_until t (group + 1) ≡ shown_until t group ++ shown_of t group ∷ []
shown_next t group above some =
    ap (filter_map (descriptor_of t)) (up_to group above)
    ∙ filter_map-append (descriptor_of t) (numbers_from 1 (group - 1)) (group ∷ [])
    ∙ ap (λ o. shown_until t group ++ cons_option o []) (descriptor_is t group some)

-- .. or does not
pub passed_next : (t : Groups) (group : ℕ) → 1 ≤ group → length (nsids_of t group) ≡ 0 → shown_until t (group + 1) ≡ shown_until t group
passed_next t group above none =
    ap (filter_map (descriptor_of t)) (up_to group above)
    ∙ filter_map-append (descriptor_of t) (numbers_from 1 (group - 1)) (group ∷ [])
    ∙ ap (λ o. shown_until t group ++ cons_option o []) (descriptor_is_absent t group none)
    ∙ append-nil (shown_until t group)

pub all_shown : (t : Groups) (group : ℕ) → group ≡ 33 → shown_until t group ≡ listing_of t
unfolding listed_by
all_shown t group all =
    let last : group - 1 ≡ 32 = omega arith in
    ap (λ n. filter_map (descriptor_of t) (numbers_from 1 n)) last

-- so many bytes for a descriptor
abbrev pub len_of : Bool → ℕ → ℕ
len_of groups_only count = if groups_only then 32 else 32 + 4 * count

pub length_of_descriptor : (groups_only : Bool) (counts : Counts) (g : Descriptor) → length (descriptor_bytes groups_only counts g) ≡ len_of groups_only (length g.nsids)
length_of_descriptor true counts g =
    let head = descriptor_head g.id 0 (count_in counts.groups g.id) (state_code g.state) in
    omega (arith, length-append {A = ℕ} head [], length_of_head g.id 0 (count_in counts.groups g.id) (state_code g.state))
length_of_descriptor false counts g =
    let head = descriptor_head g.id (length g.nsids) (count_in counts.groups g.id) (state_code g.state) in
    omega (arith, length-append head (nsid_bytes g.nsids), length_of_head g.id (length g.nsids) (count_in counts.groups g.id) (state_code g.state), length-nsid_bytes g.nsids)

-- the page with one descriptor more
pub page_next : (header : List ℕ) (groups_only : Bool) (counts : Counts) (groups : List Descriptor) (g : Descriptor)
    → header ++ flat_map (descriptor_bytes groups_only counts) (groups ++ g ∷ []) ≡ (header ++ flat_map (descriptor_bytes groups_only counts) groups) ++ descriptor_bytes groups_only counts g
page_next header groups_only counts groups g =
    rw (flat_map-append, append-nil (descriptor_bytes groups_only counts g)) (sym (append_assoc header (flat_map (descriptor_bytes groups_only counts) groups) (descriptor_bytes groups_only counts g)))

pub length_next : (groups_only : Bool) (counts : Counts) (groups : List Descriptor) (g : Descriptor)
    → length (flat_map (descriptor_bytes groups_only counts) (groups ++ g ∷ [])) ≡ length (flat_map (descriptor_bytes groups_only counts) groups) + len_of groups_only (length g.nsids)
length_next groups_only counts groups g =
    ap length (page_next [] groups_only counts groups g)
    ∙ length-append (flat_map (descriptor_bytes groups_only counts) groups) (descriptor_bytes groups_only counts g)
    ∙ ap (λ n. length (flat_map (descriptor_bytes groups_only counts) groups) + n) (length_of_descriptor groups_only counts g)

pub len_bound : (groups_only : Bool) (count : ℕ) → len_of groups_only count ≤ 32 + 4 * count
len_bound true count = omega arith
len_bound false count = omega arith

-- a window has its own length
pub own_length : (out page : List ℕ) (offset n : ℕ) → out ≡ window page offset n → out ≡ window page offset (length out)
own_length out page offset n shown =
    let len : length out ≡ n = ap length shown ∙ length-window page offset n in
    rw len shown
