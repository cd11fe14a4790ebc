-- The lines that commands print.
use Rattle.std.specs.Prelude.{ℕ, ◌==◌, ◌||◌, Bool, List, [], ◌∷◌, ◌++◌, codes, flat_map, map, slice_index, slice_range, if◌then◌else◌}
use Rattle.std.specs.Char.{is_ascii_graphic}
use Rattle.std.specs.Fmt.{decimal}
use Rattle.hex.specs.Hex.{encode_lower}
use Rattle.nvt_fields.specs.Field.{field_at}
use Rattle.nvt_fields.specs.Name.{up_to_zero}
use Rattle.host_pages.specs.Group.{change_of, id_of, nsids_of, state_of}
use Rattle.host_pages.specs.NsList.{is_overflowed, nsids_listed}

-- ---- the texts of a discovery record

-- spaces and zeros pad a text
abbrev pub is_padding : ℕ → Bool
is_padding b = b == 32 || b == 0

-- a byte before what follows it, which is nothing where that is padding alone
abbrev pub before : ℕ → List ℕ → List ℕ
before b [] = if is_padding b then [] else b ∷ []
before b (c ∷ cs) = b ∷ c ∷ cs

-- a field without the padding at its end
abbrev pub without_padding : List ℕ → List ℕ
without_padding [] = []
without_padding (b ∷ bs) = before b (without_padding bs)

-- bytes that no word has are shown as `?`
abbrev pub shown : ℕ → ℕ
shown b = if is_ascii_graphic b then b else 63

abbrev pub text_of : List ℕ → List ℕ
text_of field = map shown (without_padding field)

-- ---- the discovery log page

-- `genctr G records N`
abbrev pub genctr_line : ℕ → ℕ → List ℕ
genctr_line genctr records = codes "genctr " ++ (decimal genctr ++ (codes " records " ++ (decimal records ++ codes "\n")))

-- `record TRTYPE ADRFAM SUBTYPE PORTID `
abbrev pub record_head : List ℕ → List ℕ
record_head r = codes "record " ++ (decimal (slice_index r 0) ++ (codes " " ++ (decimal (slice_index r 1) ++ (codes " "
    ++ (decimal (slice_index r 2) ++ (codes " " ++ (decimal (field_at 2 4 r) ++ codes " ")))))))

-- .. and the texts TRADDR, TRSVCID and NQN
abbrev pub record_line : List ℕ → List ℕ
record_line r = record_head r ++ text_of (slice_range r 512 768) ++ codes " " ++ text_of (slice_range r 32 64) ++ codes " "
    ++ text_of (up_to_zero (slice_range r 256 512)) ++ codes "\n"

-- ---- the Asymmetric Namespace Access log page, and lists

-- `change C groups N`
abbrev pub change_line : ℕ → ℕ → List ℕ
change_line change groups = codes "change " ++ (decimal change ++ (codes " groups " ++ (decimal groups ++ codes "\n")))

-- each after a space
abbrev pub nsid_words : List ℕ → List ℕ
nsid_words nsids = flat_map (λ nsid. codes " " ++ decimal nsid) nsids

-- `group ID STATE COUNT`
abbrev pub group_head : List ℕ → List ℕ
group_head g = codes "group " ++ (decimal (id_of g) ++ (codes " " ++ (decimal (state_of g) ++ (codes " " ++ decimal (change_of g)))))

-- .. and its namespaces
abbrev pub group_line : List ℕ → List ℕ
group_line g = group_head g ++ nsid_words (nsids_of g) ++ codes "\n"

-- ` all` where the list overflowed, else its identifiers
abbrev pub changed_words : List ℕ → List ℕ
changed_words list = if is_overflowed list then codes " all" else nsid_words (nsids_listed list)

-- `changed NSID..`, or `changed all`
abbrev pub changed_line : List ℕ → List ℕ
changed_line list = codes "changed" ++ changed_words list ++ codes "\n"

-- `NSID`
abbrev pub nsid_line : ℕ → List ℕ
nsid_line nsid = decimal nsid ++ codes "\n"

-- bytes in lower-case hex
abbrev pub hex_line : List ℕ → List ℕ
hex_line bytes = encode_lower bytes ++ codes "\n"
