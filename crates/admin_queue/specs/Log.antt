-- The log pages that there are (Base 2.0, section 5.16.1).
use Rattle.std.specs.Prelude.{ℕ, ◌%◌, ◌==◌, Bool, false, List, Option, Some, None, if◌then◌else◌}
use Rattle.change_lists.specs.ChangedSet.{empties}
use Rattle.event_queue.specs.declared.kind.EventKind.{EventKind}
use Rattle.event_queue.specs.declared.kind.EventKind.TheVariants as kind
use Rattle.admin_queue.specs.declared.log.LogPage.{LogPage}
use Rattle.admin_queue.specs.declared.log.LogPage.TheVariants.{Discovery, ChangedNamespaces, AnaGroups}

-- the page that a log identifier names, with this log specific field: a discovery controller, which has no subsystem, has
-- one, and an I/O controller the two others
abbrev pub page_of_lid : Option (List ℕ) → ℕ → ℕ → Option LogPage
page_of_lid None lid lsp = if lid == 0x70 then Some Discovery else None
page_of_lid (Some subsystem) lid lsp =
    if lid == 0x04 then Some ChangedNamespaces else
    if lid == 0x0C then Some (AnaGroups (lsp % 2 == 1)) else None

-- the kind of events that tell a host to read it
abbrev pub kind_of : LogPage → EventKind
kind_of Discovery = kind.Discovery
kind_of ChangedNamespaces = kind.Namespace
kind_of (AnaGroups groups_only) = kind.Ana

-- whether a read of so many bytes from an offset on is one of all of a Changed Namespace List
abbrev pub read_whole : LogPage → ℕ → ℕ → Bool
read_whole Discovery offset len = false
read_whole ChangedNamespaces offset len = empties offset len
read_whole (AnaGroups groups_only) offset len = false
