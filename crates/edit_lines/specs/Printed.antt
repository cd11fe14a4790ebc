-- The lines that a replay prints.
use Rattle.std.specs.Prelude.{◌≡◌, ℕ, zero, suc, ◌&&◌, nat_le, nat_lt, List, [], ◌∷◌, ◌++◌, All, length, take, drop, codes, flat_map, if◌then◌else◌}
use Rattle.std.specs.Fmt.{decimal}
use Rattle.hex.specs.Hex.{encode_lower}
use Rattle.nvt_fields.specs.Field.{field_at}
use Rattle.edit_lines.specs.declared.reply.Reply.{Reply}
use Rattle.edit_lines.specs.Reply.{text_of_reply}

-- `K WORD`
abbrev pub event_line : ℕ → List ℕ → List ℕ
event_line k word = decimal k ++ (codes " " ++ (word ++ codes "\n"))

-- `edit ok`
abbrev pub edit_made_line : List ℕ
edit_made_line = codes "edit ok\n"

-- the reply to an edit that is refused
abbrev pub reply_line : Reply → List ℕ
reply_line reply = text_of_reply reply ++ codes "\n"

-- `K pdu HEX`
abbrev pub pdu_line : ℕ → List ℕ → List ℕ
pdu_line k pdu = decimal k ++ codes " pdu " ++ encode_lower pdu ++ codes "\n"

-- the length of the PDU at the front: its PLEN, or all where that is no length of a PDU there
abbrev pub pdu_length : List ℕ → ℕ
pdu_length output =
    if nat_lt (length output) 8 then length output
    else if nat_le 8 (field_at 4 4 output) && nat_le (field_at 4 4 output) (length output)
    then field_at 4 4 output else length output

-- the first PDUs of an output, as many as these at most
abbrev pub first_pdus : ℕ → List ℕ → List (List ℕ)
first_pdus zero output = []
first_pdus (suc n) [] = []
first_pdus (suc n) (b ∷ bytes) =
    take (pdu_length (b ∷ bytes)) (b ∷ bytes) ∷ first_pdus n (drop (pdu_length (b ∷ bytes)) (b ∷ bytes))

-- the PDUs that an output is cut into; each has a byte, so there are no more than bytes
unfoldable pub pdus_of : List ℕ → List (List ℕ)
pdus_of output = first_pdus (length output) output

-- these PDUs are the output, cut: joined they are all of it, in its order, and each is as long as it says
pub record AreAllOf (output : List ℕ) (pdus : List (List ℕ)) : Type 0 where
  pub joined : flat_map (λ pdu. pdu) pdus ≡ output
  pub sized : All (λ pdu. length pdu ≡ pdu_length pdu) pdus

-- a line for each PDU of an output of connection k, in order
abbrev pub output_lines : ℕ → List ℕ → List ℕ
output_lines k output = flat_map (pdu_line k) (pdus_of output)
