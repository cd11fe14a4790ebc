-- What happens to the events of one controller.
use Rattle.std.specs.Prelude.{ℕ, Bool, true, false, not, ◌&&◌, List, [], ◌∷◌}
use Rattle.event_queue.specs.declared.kind.EventKind.{EventKind}
use Rattle.event_queue.specs.Kind.{is_in_mask, is_same_kind}

-- An event request of this command identifier was accepted; an edit was an event for this kind; the kind's log page
-- was read, with this value of RAE; Asynchronous Event Configuration was set to this; the controller was reset.
-- What is refused is no occurrence.
pub data Occurrence : Type 0 where
  accepted : ℕ → Occurrence
  arose : EventKind → Occurrence
  read_page : EventKind → Bool → Occurrence
  set_mask : ℕ → Occurrence
  was_reset : Occurrence

abbrev pub resets : Occurrence → Bool
resets (accepted cid) = false
resets (arose kind) = false
resets (read_page kind rae) = false
resets (set_mask mask) = false
resets was_reset = true

-- whether nothing is left to tell of a kind after it: a reset, or a read of any part of its log page with RAE 0
abbrev pub quiets : Occurrence → EventKind → Bool
quiets (accepted cid) kind = false
quiets (arose other) kind = false
quiets (read_page other rae) kind = is_same_kind other kind && not rae
quiets (set_mask mask) kind = false
quiets was_reset kind = true

-- whether it is an edit that is an event for a kind
abbrev pub arises : Occurrence → EventKind → Bool
arises (accepted cid) kind = false
arises (arose other) kind = is_same_kind other kind
arises (read_page other rae) kind = false
arises (set_mask mask) kind = false
arises was_reset kind = false

-- whether a kind is enabled after it, where it was so before
abbrev pub enables : Occurrence → EventKind → Bool → Bool
enables (accepted cid) kind before = before
enables (arose other) kind before = before
enables (read_page other rae) kind before = before
enables (set_mask mask) kind before = is_in_mask mask kind
enables was_reset kind before = false

-- the request that it is
abbrev pub request_in : Occurrence → List ℕ
request_in (accepted cid) = cid ∷ []
request_in (arose kind) = []
request_in (read_page kind rae) = []
request_in (set_mask mask) = []
request_in was_reset = []
