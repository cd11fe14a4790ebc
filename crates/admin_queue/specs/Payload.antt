-- The data that a command returns, by where its bytes come from.
use Rattle.std.specs.Prelude.{◌≡◌, ◌≤◌, ℕ, ◌+◌, ◌*◌, List, [], Option, Some, None, find, replicate}
use Rattle.std.specs.Str.{bytes_eq}
use Rattle.config_lists.specs.declared.namespace.Namespace.{Namespace}
use Rattle.config_lists.specs.declared.subsystem.Subsystem.{Subsystem}
use Rattle.config_lists.specs.Namespace.{is_named}
use Rattle.nvt_config.specs.Configuration.{Configuration}
use Rattle.nvt_config.specs.SeenBy.{seen_by}
use Rattle.identify_data.specs.Controller.{Controller, controller_data, discovery, io}
use Rattle.identify_data.specs.Descriptors.{descriptor_list}
use Rattle.identify_data.specs.Namespace.{namespace_data}
use Rattle.nvt_fields.specs.Window.{window}
use Rattle.admin_queue.specs.declared.payload.Payload.{Payload}
use Rattle.admin_queue.specs.declared.payload.Payload.TheVariants.{LogPage, Identify}
use Rattle.admin_queue.specs.declared.payload.Structure.{Structure}
use Rattle.admin_queue.specs.declared.payload.Structure.TheVariants as structure
use Rattle.admin_queue.specs.Controller.{AdminController}
use Rattle.admin_queue.specs.Pages.{Pages, log_page_bytes}

-- in bytes
abbrev pub payload_len : Payload → ℕ
payload_len (LogPage part) = 4 * part.dwords
payload_len (Identify s) = 4096

-- so many bytes from an offset on are a part that is written at once: any within a log page's, and of what an
-- Identify returns all
abbrev pub IsPart : Payload → ℕ → ℕ → Type 0
IsPart (LogPage part) offset len = offset + len ≤ 4 * part.dwords
IsPart (Identify s) offset len = (offset ≡ 0) × (len ≡ 4096)

-- ---- what an Identify returns (Base 2.0, section 5.17.2)

abbrev pub serial_at : Option Subsystem → List ℕ
serial_at None = []
serial_at (Some s) = s.serial

-- the serial number of a subsystem
abbrev pub serial_in : Configuration → List ℕ → List ℕ
serial_in config nqn = serial_at (find (λ s. bytes_eq s.nqn nqn) config.subsystems)

abbrev pub identity_by : ℕ → Option (List ℕ) → Configuration → Controller
identity_by cntlid None config = discovery cntlid
identity_by cntlid (Some nqn) config = io cntlid (serial_in config nqn) nqn

-- what tells the controller from others
abbrev pub identity_of : Configuration → AdminController → Controller
identity_of config c = identity_by c.cntlid c.subsystem config

-- the namespace of this identifier in a subsystem, in the configuration as a host sees it
abbrev pub namespace_of : Option (List ℕ) → Configuration → ℕ → Option Namespace
namespace_of None seen nsid = None
namespace_of (Some nqn) seen nsid = find (is_named nqn nsid) seen.namespaces

-- the namespace of this identifier in the controller's subsystem, where its host sees it
abbrev pub namespace_in : AdminController → Configuration → ℕ → Option Namespace
namespace_in c config nsid = namespace_of c.subsystem (seen_by config c.host) nsid

-- the identifiers of a subsystem's active namespaces above this one that a host sees
abbrev pub active_of : Option (List ℕ) → List ℕ → Pages → ℕ → List ℕ
active_of None host pages above = replicate 4096 0
active_of (Some nqn) host pages above = window (pages.active host nqn above) 0 4096

-- .. of the controller's subsystem, that its host sees
abbrev pub active_in : AdminController → Pages → ℕ → List ℕ
active_in c pages above = active_of c.subsystem c.host pages above

abbrev pub descriptors_at : Option Namespace → List ℕ
descriptors_at None = replicate 4096 0
descriptors_at (Some n) = descriptor_list n

abbrev pub structure_bytes : Structure → Pages → Configuration → AdminController → List ℕ
structure_bytes structure.Controller pages config c = controller_data (identity_of config c)
structure_bytes (structure.Namespace nsid) pages config c = namespace_data (namespace_in c config nsid)
structure_bytes (structure.ActiveList above) pages config c = active_in c pages above
structure_bytes (structure.Descriptors nsid) pages config c = descriptors_at (namespace_in c config nsid)

-- ---- the data

abbrev pub payload_bytes : Payload → Pages → Configuration → AdminController → List ℕ
payload_bytes (LogPage part) pages config c = window (log_page_bytes part.page pages c) part.offset (4 * part.dwords)
payload_bytes (Identify s) pages config c = structure_bytes s pages config c
