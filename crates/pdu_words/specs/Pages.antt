-- What a PDU says beside its explanation: the data of a read, of a log page, as far as one PDU shows it, and the fields of
-- a command.
use Rattle.std.specs.Prelude.{ℕ, zero, suc, ◌+◌, ◌*◌, ◌-◌, ◌%◌, ◌==◌, ◌&&◌, Bool, nat_lt, nat_le, min, List, [], ◌∷◌, ◌++◌, codes, length, take, drop, flat_map, slice_index, Option, Some, None, if◌then◌else◌}
use Rattle.std.specs.Fmt.{decimal}
use Rattle.std.specs.List.{before_first}
use Rattle.nvt_fields.specs.Field.{field_at}
use Rattle.pdu_words.specs.declared.command.Command.TheVariants as command
use Rattle.pdu_words.specs.declared.explanation.Explanation.{Explanation}
use Rattle.pdu_words.specs.declared.explanation.Explanation.TheVariants as explanation
use Rattle.pdu_words.specs.Fields.{capsule_words}
use Rattle.pdu_words.specs.Names.{ana_state_name}
use Rattle.pdu_words.specs.Words.{words_of}

-- so many bytes from PDO on, which is byte 3 of a header of 24 (TCP Transport 1.0, section 3.6), if they are there
abbrev pub data_of : ℕ → List ℕ → List ℕ
data_of len bytes = if nat_lt (length bytes) 24 then [] else take len (drop (slice_index bytes 3) bytes)

-- ---- identifiers of namespaces

-- the whole numbers of 4 bytes
unfoldable pub dwords : List ℕ → List ℕ
dwords (a ∷ b ∷ c ∷ d ∷ rest) = field_at 4 0 (a ∷ b ∷ c ∷ d ∷ rest) ∷ dwords rest
dwords _ = []

abbrev pub spaced_words : ℕ → List ℕ
spaced_words n = codes " " ++ decimal n

-- the first eight, and how many there are where they are more
abbrev pub nsids_words : List ℕ → List ℕ
nsids_words nsids =
    flat_map spaced_words (take 8 nsids) ++ (if nat_lt 8 (length nsids) then codes " of " ++ decimal (length nsids) else [])

-- ---- the Changed Namespace List (Base 2.0, section 5.16.1.5)

abbrev pub is_zero : ℕ → Bool
is_zero n = n == 0

-- A 0 ends it, and FFFFFFFFh in its first place stands for more than it can hold.
abbrev pub changed_words : List ℕ → List ℕ
changed_words bytes =
    if nat_lt (length bytes) 4 then [] else
    if field_at 4 0 bytes == 0xFFFFFFFF then codes ": more than 1024 namespaces" else
    if field_at 4 0 bytes == 0 then codes ": no namespaces" else
    codes ": namespaces" ++ nsids_words (before_first is_zero (dwords bytes))

-- ---- the Asymmetric Namespace Access log page (Base 2.0, section 5.16.1.13)

-- a state has its name, or its number
abbrev pub state_words_by : Option (List ℕ) → ℕ → List ℕ
state_words_by None state = codes "state " ++ decimal state
state_words_by (Some name) state = name

abbrev pub state_words : ℕ → List ℕ
state_words state = state_words_by (ana_state_name state) state

-- with Return Groups Only a group has no identifiers
abbrev pub members_words : List ℕ → List ℕ
members_words nsids = if length nsids == 0 then [] else codes ", namespaces" ++ nsids_words nsids

unfoldable pub told_words : ℕ → ℕ → ℕ → List ℕ → List ℕ
told_words id state changes nsids =
    codes "; group " ++ decimal id ++ codes " " ++ state_words state ++ codes ", change count " ++ decimal changes ++ members_words nsids

-- The descriptor of a group: its identifier, the number of its namespaces, its change count, its state in bits 3:0 of
-- byte 16, and its namespaces from byte 32 on.
abbrev pub group_words : List ℕ → List ℕ
group_words group =
    told_words (field_at 4 0 group) (slice_index group 16 % 16) (field_at 8 8 group) (dwords (drop 32 group))

-- the next descriptor begins so far behind: the head has 32 bytes, and each identifier 4
abbrev pub group_len : List ℕ → ℕ
group_len bytes = 32 + 4 * field_at 4 4 bytes

-- whether a descriptor stands whole in front
abbrev pub shows_group : List ℕ → Bool
shows_group bytes = nat_le 32 (length bytes) && nat_le (group_len bytes) (length bytes)

-- the descriptors that stand whole in front one after the other, so many at most
unfoldable pub groups_in : ℕ → List ℕ → List (List ℕ)
groups_in zero bytes = []
groups_in (suc most) bytes =
    if shows_group bytes then take (group_len bytes) bytes ∷ groups_in most (drop (group_len bytes) bytes) else []

abbrev pub more_words : ℕ → List ℕ
more_words left = if left == 0 then [] else codes "; " ++ decimal left ++ codes " more"

-- of so many groups the first eight, as far as they are shown, and how many more there are
abbrev pub groups_words : ℕ → List ℕ → List ℕ
groups_words count bytes =
    flat_map group_words (groups_in (min count 8) bytes) ++ more_words (count - length (groups_in (min count 8) bytes))

unfoldable pub listing_words : ℕ → ℕ → List ℕ → List ℕ
listing_words changes count bytes =
    codes ": change count " ++ decimal changes ++ codes ", groups " ++ decimal count ++ groups_words count bytes

-- The header has the change count, and the number of groups at byte 8. The descriptors follow it.
abbrev pub ana_words : List ℕ → List ℕ
ana_words bytes =
    if nat_lt (length bytes) 16 then [] else
    listing_words (field_at 8 0 bytes) (field_at 2 8 bytes) (drop 16 bytes)

-- ---- the data of a read

-- The offset of the read and that of the PDU say where in the page the data stand: a list is shown from any of its
-- identifiers on, and groups from the page's beginning alone.
abbrev pub log_words : ℕ → ℕ → ℕ → List ℕ → List ℕ
log_words lid offset datao bytes =
    if lid == 0x04 && offset % 4 == 0 && datao % 4 == 0 then changed_words bytes else
    if lid == 0x0C && offset == 0 && datao == 0 then ana_words bytes else []

-- ---- the data, or the command of a capsule

abbrev pub detail_words : Explanation → List ℕ → List ℕ
detail_words (explanation.C2hData head (Some (command.GetLogPage lid offset))) bytes =
    log_words lid offset head.datao (data_of head.datal bytes)
detail_words (explanation.CapsuleCmd cid (Some c)) bytes = capsule_words c bytes
detail_words _ bytes = []

abbrev pub described_words : Explanation → List ℕ → List ℕ
described_words explanation bytes = words_of explanation ++ detail_words explanation bytes
