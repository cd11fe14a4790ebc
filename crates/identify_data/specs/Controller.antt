-- What is told of a controller: the Identify Controller data structure (Base 2.0, section 5.17.2.1).
use Rattle.std.specs.Prelude.{ℕ, ◌≤◌, List, [], ◌∷◌, ◌++◌, length, codes}
use Rattle.nvt_fields.specs.Field.{padded}
use Rattle.nvt_fields.specs.Name.{discovery_nqn}
use Rattle.config_lists.specs.Namespace.{nsid_max}
use Rattle.identify_data.specs.declared.controller_data.ControllerIdentity.{ControllerIdentity}
use Rattle.identify_data.specs.declared.controller_data.ControllerIdentity.TheVariants.{Io, Discovery}
use Rattle.identify_data.specs.Fields.{Field, at, byte, dword, table, word}

-- A controller, apart from where its texts lie: of a subsystem with namespaces, with its identifier, its serial number
-- and the subsystem's name; or of the discovery subsystem, with its identifier.
pub data Controller : Type 0 where
  io : ℕ → List ℕ → List ℕ → Controller
  discovery : ℕ → Controller

abbrev pub controller_of : ControllerIdentity → Controller
controller_of (Io cntlid serial subnqn) = io cntlid serial.now subnqn.now
controller_of (Discovery cntlid) = discovery cntlid

-- its texts fit their fields
abbrev pub TextsFit : Controller → Type 0
TextsFit (io cntlid serial subnqn) = (length serial ≤ 20) × (length subnqn ≤ 256)
TextsFit (discovery cntlid) = Unit {0}

-- CNTLID, SN and SUBNQN
abbrev pub cntlid_of : Controller → ℕ
cntlid_of (io cntlid serial subnqn) = cntlid
cntlid_of (discovery cntlid) = cntlid

-- SN: the operator gives a subsystem its own; the discovery subsystem, which nobody adds, has a fixed one
abbrev pub serial_of : Controller → List ℕ
serial_of (io cntlid serial subnqn) = serial
serial_of (discovery cntlid) = codes "DISCOVERY"

-- SUBNQN: the discovery subsystem has its well-known name on every target
abbrev pub subnqn_of : Controller → List ℕ
subnqn_of (io cntlid serial subnqn) = subnqn
subnqn_of (discovery cntlid) = discovery_nqn

-- the value on an I/O controller, and that on a discovery controller
abbrev pub by_kind : {A : Type 0} → Controller → A → A → A
by_kind (io cntlid serial subnqn) on_io on_discovery = on_io
by_kind (discovery cntlid) on_io on_discovery = on_discovery

-- Controller Capabilities and Features
abbrev pub capabilities : Controller → List Field
capabilities c =
    at 4 (padded 20 0x20 (serial_of c))  -- SN
    ∷ at 24 (padded 40 0x20 (codes "NVMe TCP Target"))  -- MN
    ∷ at 64 (padded 8 0x20 (codes "1.0"))  -- FR
    ∷ at 76 (byte (by_kind c 0x0B 0))  -- CMIC
    ∷ at 77 (byte 5)  -- MDTS
    ∷ at 78 (word (cntlid_of c))  -- CNTLID
    ∷ at 80 (dword 0x0002_0000)  -- VER
    ∷ at 92 (dword (by_kind c 0x0000_0900 0x8000_0000))  -- OAES
    ∷ at 96 (dword 1)  -- CTRATT
    ∷ at 111 (byte (by_kind c 1 2))  -- CNTRLTYPE
    ∷ []

-- Admin Command Set Attributes and Optional Controller Capabilities
abbrev pub admin_attributes : Controller → List Field
admin_attributes c =
    at 259 (byte 3)  -- AERL
    ∷ at 261 (byte 0x04)  -- LPA
    ∷ at 320 (word 10)  -- KAS
    ∷ at 342 (byte (by_kind c 10 0))  -- ANATT
    ∷ at 343 (byte (by_kind c 0x1F 0))  -- ANACAP
    ∷ at 344 (dword (by_kind c 32 0))  -- ANAGRPMAX
    ∷ at 348 (dword (by_kind c 32 0))  -- NANAGRPID
    ∷ []

-- NVM Command Set Attributes
abbrev pub nvm_attributes : Controller → List Field
nvm_attributes c =
    at 512 (byte (by_kind c 0x66 0))  -- SQES
    ∷ at 513 (byte (by_kind c 0x44 0))  -- CQES
    ∷ at 514 (word 64)  -- MAXCMD
    ∷ at 516 (dword (by_kind c nsid_max 0))  -- NN
    ∷ at 520 (word (by_kind c 0x0009 0))  -- ONCS
    ∷ at 525 (byte (by_kind c 0x05 0))  -- VWC
    ∷ at 536 (dword 0x0030_0001)  -- SGLS
    ∷ at 540 (dword (by_kind c nsid_max 0))  -- MNAN
    ∷ at 768 (padded 256 0 (subnqn_of c))  -- SUBNQN
    ∷ []

-- Fabrics Specific
abbrev pub fabrics_attributes : Controller → List Field
fabrics_attributes c =
    at 1792 (dword (by_kind c 516 0))  -- IOCCSZ
    ∷ at 1796 (dword (by_kind c 1 0))  -- IORCSZ
    ∷ at 1803 (byte 1)  -- MSDBD
    ∷ []

abbrev pub controller_fields : Controller → List Field
controller_fields c = capabilities c ++ (admin_attributes c ++ (nvm_attributes c ++ fabrics_attributes c))

unfoldable pub controller_data : Controller → List ℕ
controller_data c = table (controller_fields c)
