-- The reply to an edit that is refused.
use Rattle.std.specs.Prelude.{ℕ, List, ◌++◌, codes}
use Rattle.config_lists.specs.declared.fault.EditFault.{EditFault}
use Rattle.config_lists.specs.declared.fault.EditFault.TheVariants.{BadValue, NoSuch, Exists, DiskInUse, InUse, Full, Memory}
use Rattle.config_lists.specs.declared.fault.Value.{Value}
use Rattle.config_lists.specs.declared.fault.Value.TheVariants as value
use Rattle.config_lists.specs.declared.fault.Item.{Item}
use Rattle.config_lists.specs.declared.fault.Item.TheVariants as item

abbrev pub word_of_value : Value → List ℕ
word_of_value value.Nqn = codes "Nqn"
word_of_value value.Serial = codes "Serial"
word_of_value value.Nsid = codes "Nsid"
word_of_value value.Blocks = codes "Blocks"
word_of_value value.BlockSize = codes "BlockSize"
word_of_value value.Uuid = codes "Uuid"
word_of_value value.Group = codes "Group"
word_of_value value.Port = codes "Port"
word_of_value value.Address = codes "Address"
word_of_value value.Service = codes "Service"

abbrev pub word_of_item : Item → List ℕ
word_of_item item.Subsystem = codes "Subsystem"
word_of_item item.Disk = codes "Disk"
word_of_item item.Namespace = codes "Namespace"
word_of_item item.Uuid = codes "Uuid"
word_of_item item.Port = codes "Port"
word_of_item item.Link = codes "Link"
word_of_item item.Host = codes "Host"
word_of_item item.Allow = codes "Allow"
word_of_item item.Referral = codes "Referral"
word_of_item item.Show = codes "Show"

-- the kind of the refusal, and which value or item it is for
abbrev pub reply_of : EditFault → List ℕ
reply_of (BadValue value) = codes "refused BadValue " ++ word_of_value value
reply_of (NoSuch item) = codes "refused NoSuch " ++ word_of_item item
reply_of (Exists item) = codes "refused Exists " ++ word_of_item item
reply_of DiskInUse = codes "refused DiskInUse"
reply_of (InUse item) = codes "refused InUse " ++ word_of_item item
reply_of (Full item) = codes "refused Full " ++ word_of_item item
reply_of Memory = codes "refused Memory"
