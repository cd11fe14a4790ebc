-- Laws of what is known of connections.
use Rattle.std.specs.Prelude.{◌≡◌, ◌≢◌, ℕ, ◌<◌, List, length, Some, None}
use Rattle.tables.specs.NumberTable.{place, without}
use Rattle.replay_words.specs.declared.outstanding.Sent.{Sent}
use Rattle.pdu_words.specs.declared.subject.Which.TheVariants.{Newest}
use Rattle.replay_words.specs.HostStreams.{Known, HeardOn, after_saying, said_on}
use Rattle.pdu_words.specs.Explanation.{explanation_of}
use Rattle.replay_words.specs.Outstanding.{command_of_subject, remembered}

-- another connection is as it was
pub record Apart (number other : ℕ) (old new : Known) (bytes text pdu : List ℕ) : Type 0 where
  pub heard : HeardOn number old new bytes text → place new other ≡ place old other
  pub said : place (after_saying number (place old number) pdu old) other ≡ place old other
  pub closed : place (without old number) other ≡ place old other

abbrev pub ConnectionsAreApart : Type 0
ConnectionsAreApart = (number other : ℕ) (old new : Known) (bytes text pdu : List ℕ) → other ≢ number → Apart number other old new bytes text pdu

abbrev pub ClosedIsForgotten : Type 0
ClosedIsForgotten = (number : ℕ) (known : Known) (pdu : List ℕ) → number < length known
    → said_on (place (without known number) number) pdu ≡ explanation_of pdu None

abbrev pub SentIsKnown : Type 0
SentIsKnown = (sent : List Sent) (new : Sent)
    → command_of_subject (record { which = Newest; cid = new.cid }) (remembered sent new) ≡ Some new.command
