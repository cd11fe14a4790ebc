-- How a `Queue` keeps the transfers of one connection. No public clause cites this module.
use Rattle.std.specs.Prelude.{◌≡◌, ℕ, List, Option, Some, None, length, replicate}
use Rattle.tables.specs.NumberTable.{place}
use Rattle.data_transfer.specs.Part.{Part}
use Rattle.data_transfer.specs.Parts.{count_of}

module _ {C : Type 0} where
  -- no transfer under any of the tags
  unfoldable pub no_tags : List (Option (Part C))
  no_tags = replicate 63 None

  -- what stands under each tag
  abbrev pub tags_in : Option (List (Option (Part C))) → List (Option (Part C))
  tags_in None = no_tags
  tags_in (Some table) = table

  -- a table has all the tags
  abbrev pub HasAllTags : Option (List (Option (Part C))) → Type 0
  HasAllTags None = Unit {0}
  HasAllTags (Some table) = length table ≡ 63

  -- what is true of each queue: its table has all the tags, and the count is that of its transfers
  pub record IsQueue (count : ℕ) (table : Option (List (Option (Part C)))) : Type 0 where
    pub tags : HasAllTags table
    pub counted : count ≡ count_of (place (tags_in table))
