-- What a transfer holds after H2CData.
use Rattle.std.proofs.Common.{◌≡◌, ℕ, ◌+◌, ◌≤◌, true, List, [], ◌∷◌, ◌++◌, length, Option, Some, None, refl, sym, ap, ◌∙◌, arith, append_assoc, append-nil, length-append}
use Rattle.std.proofs.lemmas.Bool.Decides.{nat_tests}
use Rattle.data_transfer.specs.declared.fault.DataFault.{DataFault}
use Rattle.data_transfer.specs.Laws.{HoldsWhatCame, after_all, brought, joined}
use Rattle.data_transfer.specs.Part.{H2cData, Part, begun, is_whole, part_after, part_fault}

module _ {C : Type 0} where
  -- one H2CData
  bytes_after : (fault : Option DataFault) (pdu : H2cData) (part : Part C) → (part_after fault pdu part).bytes ≡ part.bytes ++ brought fault pdu
  bytes_after None pdu part = refl
  bytes_after (Some fault) pdu part = sym (append-nil part.bytes)

  asked_after : (fault : Option DataFault) (pdu : H2cData) (part : Part C) → (part_after fault pdu part).asked ≡ part.asked
  asked_after None pdu part = refl
  asked_after (Some fault) pdu part = refl

  cid_after : (fault : Option DataFault) (pdu : H2cData) (part : Part C) → (part_after fault pdu part).cid ≡ part.cid
  cid_after None pdu part = refl
  cid_after (Some fault) pdu part = refl

  command_after : (fault : Option DataFault) (pdu : H2cData) (part : Part C) → (part_after fault pdu part).command ≡ part.command
  command_after None pdu part = refl
  command_after (Some fault) pdu part = refl

  -- one that is accepted fits
  accepted_fits : (part : Part C) (pdu : H2cData) → part_fault part pdu ≡ None → length part.bytes + length pdu.bytes ≤ part.asked
  accepted_fits part pdu none = grind (arith, nat_tests)

  fits_after : (fault : Option DataFault) (part : Part C) (pdu : H2cData) → part_fault part pdu ≡ fault → length part.bytes ≤ part.asked → length (part_after fault pdu part).bytes ≤ part.asked
  fits_after None part pdu none fits = omega (arith, accepted_fits part pdu none, length-append part.bytes pdu.bytes)
  fits_after (Some fault) part pdu refused fits = fits

  -- any number of them
  bytes_after_all : (part : Part C) (pdus : List H2cData) → (after_all part pdus).bytes ≡ part.bytes ++ joined part pdus
  bytes_after_all part [] = sym (append-nil part.bytes)
  bytes_after_all part (pdu ∷ later) =
      let fault = part_fault part pdu in
      let next = part_after fault pdu part in
      bytes_after_all next later ∙ ap (λ bytes. bytes ++ joined next later) (bytes_after fault pdu part) ∙ append_assoc part.bytes (brought fault pdu) (joined next later)

  asked_after_all : (part : Part C) (pdus : List H2cData) → (after_all part pdus).asked ≡ part.asked
  asked_after_all part [] = refl
  asked_after_all part (pdu ∷ later) =
      let fault = part_fault part pdu in asked_after_all (part_after fault pdu part) later ∙ asked_after fault pdu part

  cid_after_all : (part : Part C) (pdus : List H2cData) → (after_all part pdus).cid ≡ part.cid
  cid_after_all part [] = refl
  cid_after_all part (pdu ∷ later) =
      let fault = part_fault part pdu in cid_after_all (part_after fault pdu part) later ∙ cid_after fault pdu part

  command_after_all : (part : Part C) (pdus : List H2cData) → (after_all part pdus).command ≡ part.command
  command_after_all part [] = refl
  command_after_all part (pdu ∷ later) =
      let fault = part_fault part pdu in command_after_all (part_after fault pdu part) later ∙ command_after fault pdu part

  fits_after_all : (part : Part C) (pdus : List H2cData) → length part.bytes ≤ part.asked → length (after_all part pdus).bytes ≤ part.asked
  fits_after_all part [] fits = fits
  fits_after_all part (pdu ∷ later) fits =
      let fault = part_fault part pdu in
      let next = part_after fault pdu part in
      let same : next.asked ≡ part.asked = asked_after fault pdu part in
      let now : length next.bytes ≤ part.asked = fits_after fault part pdu refl fits in
      let rest : length (after_all next later).bytes ≤ next.asked = fits_after_all next later (omega arith) in
      omega arith

  whole_is_asked : (part : Part C) → is_whole part ≡ true → length part.bytes ≡ part.asked
  whole_is_asked part whole = grind (arith, nat_tests)

  pub holds_what_came : (cid : ℕ) (command : C) (asked : ℕ) (pdus : List H2cData) → HoldsWhatCame cid command asked pdus
  holds_what_came cid command asked pdus =
      let first = begun cid command asked in
      let held : (after_all first pdus).bytes ≡ joined first pdus = bytes_after_all first pdus in
      let same : (after_all first pdus).asked ≡ asked = asked_after_all first pdus in
      record {
        bytes = held;
        within = rw (← held) (fits_after_all first pdus (omega arith));
        whole = λ whole. ap length (sym held) ∙ whole_is_asked (after_all first pdus) whole ∙ same;
        same_cid = cid_after_all first pdus;
        same_command = command_after_all first pdus;
      }
