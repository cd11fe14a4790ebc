-- Bytes that are asked for are appended to the output in pieces, one after another.
use Rattle.std.proofs.Common.{◌≡◌, ◌≤◌, ◌<◌, ℕ, zero, suc, ◌+◌, ◌-◌, ◌==◌, true, false, List, [], ◌∷◌, ◌++◌, length, take, drop, refl, sym, ap, ◌∙◌, append_assoc, append-nil, arith}
use Rattle.std.specs.List.{flat_map}
use Rattle.std.proofs.lemmas.Bool.Decides.{nat_tests}
use Rattle.std.proofs.lemmas.List.{length-drop}
use Rattle.std.proofs.lemmas.List.Concat.{flat_map-cons}
use Rattle.pdu_codec.specs.declared.r2t.R2t.{R2t}
use Rattle.host_driver.specs.declared.phase.TransportLimits.{TransportLimits}
use Rattle.host_driver.specs.Requested.{asked_of, piece, piece_pdu, pieces, pieces_from, requested_of, requested_room}
use Rattle.host_driver.proofs.Pieces.{pieces-last, pieces-more}

-- These bytes, from an offset on, are still to be appended, where the output was this and had so much spare room.
pub record Sending (cpda most : ℕ) (request : R2t) (start : ℕ) (bytes old new : List ℕ) (old_spare new_spare offset : ℕ) (left : List ℕ) : Type 0 where
  pub fuel : ℕ
  pub enough : length left ≤ fuel
  pub some : 1 ≤ length left
  pub end : offset + length left ≡ start + length bytes
  pub sends : new ++ flat_map (piece_pdu cpda request) (pieces_from fuel most offset left) ≡ old ++ flat_map (piece_pdu cpda request) (pieces most start bytes)
  pub room : requested_room (length left) ≤ new_spare
  pub spare : old_spare + requested_room (length left) ≤ new_spare + requested_room (length bytes)

pub begins_sending : (cpda most : ℕ) (request : R2t) (start : ℕ) (bytes output : List ℕ) (spare : ℕ) → 1 ≤ length bytes → requested_room (length bytes) ≤ spare
    → Sending cpda most request start bytes output output spare spare start bytes
begins_sending cpda most request start bytes output spare some room = record {
  fuel = length bytes;
  enough = omega arith;
  some = some;
  end = refl;
  sends = refl;
  room = room;
  spare = omega arith;
}

-- the pieces of what is left, by how many they may be
goes_on-by : (cpda most : ℕ) (request : R2t) (start : ℕ) (bytes old new after : List ℕ) (old_spare new_spare after_spare offset : ℕ) (left : List ℕ) (fuel : ℕ)
    → length left ≤ fuel → offset + length left ≡ start + length bytes
    → new ++ flat_map (piece_pdu cpda request) (pieces_from fuel most offset left) ≡ old ++ flat_map (piece_pdu cpda request) (pieces most start bytes)
    → requested_room (length left) ≤ new_spare → old_spare + requested_room (length left) ≤ new_spare + requested_room (length bytes)
    → 4096 ≤ most → most < length left → after ≡ new ++ piece_pdu cpda request (piece offset false (take most left))
    → new_spare ≤ after_spare + (152 + most) → Sending cpda most request start bytes old after old_spare after_spare (offset + most) (drop most left)
goes_on-by cpda most request start bytes old new after old_spare new_spare after_spare offset left zero enough end sends room spare least more appended uses = absurd (omega (arith, enough, more))
goes_on-by cpda most request start bytes old new after old_spare new_spare after_spare offset left (suc n) enough end sends room spare least more appended uses =
    let pdu = piece_pdu cpda request (piece offset false (take most left)) in
    let others = flat_map (piece_pdu cpda request) (pieces_from n most (offset + most) (drop most left)) in
    let long : length (drop most left) ≡ length left - most = length-drop most left in
    record {
      fuel = n;
      enough = omega (arith, long, enough, least);
      some = omega (arith, long, more);
      end = omega (arith, long, end, more);
      sends = ap (λ (l : List ℕ). l ++ others) appended ∙ append_assoc new pdu others
          ∙ ap (λ (l : List ℕ). new ++ l) (sym (flat_map-cons (piece_pdu cpda request) (piece offset false (take most left)) (pieces_from n most (offset + most) (drop most left))))
          ∙ ap (λ ps. new ++ flat_map (piece_pdu cpda request) ps) (sym (pieces-more n most offset left more)) ∙ sends;
      room = omega (arith, long, uses, room, least, more);
      spare = omega (arith, long, uses, spare, least, more);
    }

pub goes_on : (cpda most : ℕ) (request : R2t) (start : ℕ) (bytes old new after : List ℕ) (old_spare new_spare after_spare offset : ℕ) (left : List ℕ)
    → Sending cpda most request start bytes old new old_spare new_spare offset left → 4096 ≤ most → most < length left
    → after ≡ new ++ piece_pdu cpda request (piece offset false (take most left)) → new_spare ≤ after_spare + (152 + most)
    → Sending cpda most request start bytes old after old_spare after_spare (offset + most) (drop most left)
goes_on cpda most request start bytes old new after old_spare new_spare after_spare offset left h least more appended uses =
    goes_on-by cpda most request start bytes old new after old_spare new_spare after_spare offset left h.fuel h.enough h.end h.sends h.room h.spare least more appended uses

ends-by : (cpda most : ℕ) (request : R2t) (start : ℕ) (bytes old new after : List ℕ) (offset : ℕ) (left : List ℕ) (fuel : ℕ)
    → length left ≤ fuel → 1 ≤ length left → length left ≤ most
    → new ++ flat_map (piece_pdu cpda request) (pieces_from fuel most offset left) ≡ old ++ flat_map (piece_pdu cpda request) (pieces most start bytes)
    → after ≡ new ++ piece_pdu cpda request (piece offset true left) → after ≡ old ++ flat_map (piece_pdu cpda request) (pieces most start bytes)
ends-by cpda most request start bytes old new after offset left zero enough some few sends appended = absurd (omega (arith, enough, some))
ends-by cpda most request start bytes old new after offset left (suc n) enough some few sends appended =
    let one = ap (flat_map (piece_pdu cpda request)) (pieces-last n most offset left few) in
    appended ∙ ap (λ (l : List ℕ). new ++ l) (sym (append-nil (piece_pdu cpda request (piece offset true left))))
    ∙ ap (λ (l : List ℕ). new ++ l) (sym one) ∙ sends

-- .. and the last
pub ends_sending : (cpda most : ℕ) (request : R2t) (start : ℕ) (bytes old new after : List ℕ) (old_spare new_spare offset : ℕ) (left : List ℕ)
    → Sending cpda most request start bytes old new old_spare new_spare offset left → length left ≤ most
    → after ≡ new ++ piece_pdu cpda request (piece offset true left) → after ≡ old ++ flat_map (piece_pdu cpda request) (pieces most start bytes)
ends_sending cpda most request start bytes old new after old_spare new_spare offset left h few appended =
    ends-by cpda most request start bytes old new after offset left h.fuel h.enough h.some few h.sends appended

-- where nothing is asked for nothing is sent
is_zero : (n : ℕ) → true ≡ (n == 0) → n ≡ 0
is_zero n h = grind (arith, nat_tests)

no_pieces : (most offset : ℕ) (bytes : List ℕ) → length bytes ≡ 0 → pieces most offset bytes ≡ []
unfolding pieces_from
no_pieces most offset [] none = refl
no_pieces most offset (x ∷ xs) none = absurd (omega (arith, none))

pub nothing_sent : (limits : TransportLimits) (request : R2t) (bytes output : List ℕ) → true ≡ (length (asked_of request bytes) == 0)
    → output ≡ output ++ requested_of limits request bytes
unfolding requested_of
nothing_sent limits request bytes output none =
    sym (append-nil output) ∙ ap (λ ps. output ++ flat_map (piece_pdu limits.cpda request) ps) (sym (no_pieces limits.maxh2cdata request.r2to (asked_of request bytes) (is_zero _ none)))
