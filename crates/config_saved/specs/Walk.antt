-- What one step of a walk over edits answers and leaves.
use Rattle.std.specs.Prelude.{◌≡◌, List, [], ◌∷◌, ◌++◌, drop, Option, Some, None, Result, Ok, Err}
use Rattle.std.specs.declared.alloc.AllocError.{AllocError}
use Rattle.config_lists.specs.declared.edit.Edit.{Edit}
use Rattle.nvt_config.specs.Configuration.{Configuration}
use Rattle.config_saved.specs.Saved.{saved_edits}
use Rattle.config_saved.specs.declared.edits_left.EditsLeft.{EditsLeft}
use Rattle.config_saved.specs.declared.item_edits.ItemEdits.{ItemEdits}
use Rattle.config_saved.specs.declared.items_over.ItemsOver.{ItemsOver}

-- the edit, where there is one
abbrev pub edits_due : Option Edit → List Edit
edits_due None = []
edits_due (Some edit) = edit ∷ []

-- both of an item
abbrev pub edits_in : ItemEdits → List Edit
edits_in edits = edits.first ∷ edits_due edits.second

-- the edits of the items that are not over
abbrev pub edits_behind : Configuration → ItemsOver → List Edit
edits_behind c over = saved_edits (record {
  units = [];
  subsystems = drop over.subsystems c.subsystems;
  namespaces = drop over.namespaces c.namespaces;
  ports = drop over.ports c.ports;
  links = drop over.links c.links;
  hosts = drop over.hosts c.hosts;
  allows = drop over.allows c.allows;
  states = drop over.states c.states;
  referrals = drop over.referrals c.referrals;
  shows = drop over.shows c.shows;
})

-- .. after the one that is due
abbrev pub edits_left : Configuration → EditsLeft → List Edit
edits_left c left = edits_due left.due ++ edits_behind c left.items

-- The first of the edits that were left, and those after it are left; none where none was left. Where no memory is, all
-- are left.
abbrev pub TakesFirst : List Edit → List Edit → Result (Option Edit) AllocError → Type 0
TakesFirst old new (Ok (Some edit)) = old ≡ edit ∷ new
TakesFirst old new (Ok None) = (old ≡ []) × (new ≡ old)
TakesFirst old new (Err fault) = new ≡ old

-- .. and so of those of an item
abbrev pub TakesItem : List Edit → List Edit → Result (Option ItemEdits) AllocError → Type 0
TakesItem old new (Ok (Some edits)) = old ≡ edits_in edits ++ new
TakesItem old new (Ok None) = (old ≡ []) × (new ≡ old)
TakesItem old new (Err fault) = new ≡ old
