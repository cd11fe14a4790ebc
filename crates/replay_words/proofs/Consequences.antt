-- The laws of what is known of connections.
use Rattle.std.proofs.Common.{◌≡◌, ◌≢◌, ℕ, ◌-◌, ◌==◌, suc, Bool, true, cond, nat_lt, List, [], ◌∷◌, ◌++◌, length, drop, set, Option, Some, None, option_map, refl, ap, ◌∙◌, arith, length-append}
use Rattle.std.specs.Prelude.{slice_get, reverse}
use Rattle.std.specs.List.{position}
use Rattle.std.proofs.lemmas.Bool.{lt-ltb}
use Rattle.std.proofs.lemmas.Bool.Decides.{nat_tests}
use Rattle.std.proofs.lemmas.List.{get_or-set_other, get_or-set_same, reverse-append}
use Rattle.tables.specs.NumberTable.{place}
use Rattle.replay_words.specs.declared.outstanding.Sent.{Sent}
use Rattle.replay_words.specs.HostStream.{Heard, saying}
use Rattle.replay_words.specs.HostStreams.{Known, HeardBy, after_saying, said_on}
use Rattle.replay_words.specs.Laws.{ConnectionsAreApart, ClosedIsForgotten, SentIsKnown}
use Rattle.replay_words.specs.Outstanding.{command_at, last_place_of, has_cid}

others_stay : (number other : ℕ) (known : Known) (o : Option Heard) → other ≢ number
    → place (set known number o) other ≡ place known other
others_stay number other known o apart = get_or-set_other known number other o None apart

heard_apart : (number other : ℕ) (o : Option Heard) (old new : Known) (bytes text : List ℕ) → other ≢ number
    → HeardBy o number old new bytes text → place new other ≡ place old other
heard_apart number other None old new bytes text apart h = ap (λ (k : Known). place k other) h.0
heard_apart number other (Some heard) old new bytes text apart h =
    ap (λ (k : Known). place k other) h.2 ∙ others_stay number other old (Some h.0) apart

said_apart : (number other : ℕ) (o : Option Heard) (old : Known) (pdu : List ℕ) → other ≢ number
    → place (after_saying number o pdu old) other ≡ place old other
said_apart number other None old pdu apart = refl
said_apart number other (Some heard) old pdu apart = others_stay number other old (Some (saying heard pdu)) apart

pub connections_are_apart : ConnectionsAreApart
connections_are_apart number other old new bytes text pdu apart = record {
  heard = heard_apart number other (place old number) old new bytes text apart;
  said = said_apart number other (place old number) old pdu apart;
  closed = others_stay number other old None apart;
}

pub closed_is_forgotten : ClosedIsForgotten
closed_is_forgotten number known pdu within = ap (λ (o : Option Heard). said_on o pdu) (get_or-set_same known number None None within)

last_of : (xs : List Sent) (x : Sent) → slice_get (xs ++ x ∷ []) (length xs) ≡ Some x
last_of [] x = refl
last_of (y ∷ ys) x = last_of ys x

first_here : (p : Sent → Bool) (x : Sent) (ys : List Sent) → p x ≡ true → position p (x ∷ ys) ≡ Some 0
first_here p x ys e = rw (e, lt-ltb 0 (suc (length ys)) (omega arith)) refl

same_cid : (n : ℕ) → (n == n) ≡ true
same_cid n = grind (arith, nat_tests)

one_less : (xs : List Sent) (x : Sent) → length (xs ++ x ∷ []) - 1 - 0 ≡ length xs
one_less xs x = let len = length-append xs (x ∷ []) in omega (arith, len)

found_last : (xs : List Sent) (x : Sent) → last_place_of x.cid (xs ++ x ∷ []) ≡ Some (length xs)
found_last xs x =
    let backwards : reverse (xs ++ x ∷ []) ≡ x ∷ reverse xs = reverse-append xs (x ∷ []) in
    let place = first_here (has_cid x.cid) x (reverse xs) (same_cid x.cid) in
    ap (λ ys. option_map (λ behind. length (xs ++ x ∷ []) - 1 - behind) (position (has_cid x.cid) ys)) backwards
    ∙ ap (option_map (λ behind. length (xs ++ x ∷ []) - 1 - behind)) place ∙ ap Some (one_less xs x)

known_last : (xs : List Sent) (x : Sent) → command_at (last_place_of x.cid (xs ++ x ∷ [])) (xs ++ x ∷ []) ≡ Some x.command
known_last xs x =
    ap (λ o. command_at o (xs ++ x ∷ [])) (found_last xs x)
    ∙ ap (option_map (λ (s : Sent). s.command)) (last_of xs x)

pub sent_is_known : SentIsKnown
sent_is_known sent new = known_last (cond (nat_lt (length sent) 1024) sent (drop 1 sent)) new
