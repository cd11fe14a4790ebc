-- The transfers of all connections: what stands at each connection under each tag (TTAG), from 0 on.
use Rattle.std.specs.Prelude.{◌≡◌, ℕ, ◌==◌, ◌&&◌, Bool, false, List, [], slice_index_or, Option, Some, None, is_none, is_some, count_by, if◌then◌else◌}
use Rattle.std.specs.List.{list_any, position_or_len, range_with_len}
use Rattle.tables.specs.NumberTable.{place}
use Rattle.data_transfer.specs.Part.{Part}

module _ {C : Type 0} where
  -- what stands at a connection under a tag
  abbrev pub part_at : List (List (Option (Part C))) → ℕ → ℕ → Option (Part C)
  part_at queues conn ttag = place (slice_index_or queues conn []) ttag

  -- at each connection under each tag stands what the function says
  pub record Stand (queues : List (List (Option (Part C)))) (parts : ℕ → ℕ → Option (Part C)) : Type 0 where
    pub at : (conn ttag : ℕ) → part_at queues conn ttag ≡ parts conn ttag

  -- no transfer anywhere
  abbrev pub no_parts : ℕ → ℕ → Option (Part C)
  no_parts conn ttag = None

  -- with this at one connection under one tag; all else stays
  abbrev pub with_part : (ℕ → ℕ → Option (Part C)) → ℕ → ℕ → Option (Part C) → ℕ → ℕ → Option (Part C)
  with_part parts conn ttag slot k t = if k == conn && t == ttag then slot else parts k t

  -- with no transfer of one connection; all else stays
  abbrev pub without_queue : (ℕ → ℕ → Option (Part C)) → ℕ → ℕ → ℕ → Option (Part C)
  without_queue parts conn k t = if k == conn then None else parts k t

  -- the first of the tags, which are 0 to 62, that no transfer of a connection uses
  unfoldable pub free_tag : (ℕ → Option (Part C)) → ℕ
  free_tag tags = position_or_len (λ ttag. is_none (tags ttag)) (range_with_len 0 63)

  -- how many transfers a connection has
  unfoldable pub count_of : (ℕ → Option (Part C)) → ℕ
  count_of tags = count_by (λ ttag. is_some (tags ttag)) (range_with_len 0 63)

  abbrev pub is_of : ℕ → Option (Part C) → Bool
  is_of cid None = false
  is_of cid (Some part) = part.cid == cid

  -- whether one of them is of the command of that identifier
  unfoldable pub has_command : (ℕ → Option (Part C)) → ℕ → Bool
  has_command tags cid = list_any (λ ttag. is_of cid (tags ttag)) (range_with_len 0 63)
