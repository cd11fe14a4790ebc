-- The extent of a command that passes every check is on the disk of its namespace.
use Rattle.std.proofs.Common.{◌≡◌, ◌≤◌, ℕ, ◌+◌, ◌*◌, ◌^◌, ◌==◌, Bool, true, false, not, ◌||◌, List, Option, Some, None, Result, Ok, Err, IfOk, length, nat_le, nat_lt, slice_get, get_or, refl, ap, ◌∙◌, arith}
use Rattle.std.specs.Prelude.{if◌then◌else◌}
use Rattle.std.specs.List.{list_all}
use Rattle.std.proofs.lemmas.Bool.{and_parts, eqb-true, leb-true, ltb-false}
use Rattle.std.proofs.lemmas.List.Sums.{AllPass-from_list_all}
use Rattle.std.proofs.lemmas.Option.{get_or_from_slice_get, slice_get_within, slice_get-get_or}
use Rattle.config_lists.specs.declared.namespace.BlockSize.{BlockSize}
use Rattle.config_lists.specs.declared.namespace.BlockSize.TheVariants.{Bytes512, Bytes4096}
use Rattle.config_lists.specs.declared.namespace.Namespace.{Namespace}
use Rattle.config_lists.specs.Namespace.{bytes_of, is_named}
use Rattle.config_lists.proofs.Lists.{found_holds}
use Rattle.nvt_config.specs.Configuration.{Configuration, are_disks}
use Rattle.nvt_config.specs.SeenBy.{seen_by}
use Rattle.nvt_config.specs.Valid.{IsNamespace, IsValid, is_size_on}
use Rattle.nvt_config.proofs.Seeing.{sees_what_is_shown}
use Rattle.nvt_fields.specs.declared.status.Status.{Status}
use Rattle.nvt_fields.specs.Status.{data_sgl_length_invalid, invalid_field, lba_out_of_range, sgl_offset_invalid, sgl_type_invalid}
use Rattle.pdu_codec.specs.declared.command.BlockCommand.{BlockCommand}
use Rattle.pdu_codec.specs.declared.sgl.Sgl.{Sgl}
use Rattle.config_lists.specs.GroupState.{state_for}
use Rattle.pdu_codec.specs.Sqe.{block_command_of, nsid_of, opcode_of, sgl1_of}
use Rattle.io_queue.specs.declared.beginning.Placed.{Placed}
use Rattle.io_queue.specs.declared.beginning.Placed.TheVariants.{InCapsule, ToCome}
use Rattle.io_queue.specs.declared.opcode.IoOpcode.{IoOpcode}
use Rattle.io_queue.specs.declared.opcode.IoOpcode.TheVariants as opcode
use Rattle.io_queue.specs.declared.operation.Action.TheVariants as action
use Rattle.io_queue.specs.declared.operation.Extent.{Extent}
use Rattle.io_queue.specs.declared.operation.Operation.{Operation}
use Rattle.io_queue.specs.Opcode.{opcode_of_code}
use Rattle.io_queue.specs.Operation.{HasExtent, IsWithin, operation_on}
use Rattle.io_queue.specs.Beginning.{IsBegunWithin, begin, compare_begun, is_capsule_offset, is_transport, on_namespace, on_opcode, performed, locate, locate_at, read, write_begun}
use Rattle.io_queue.specs.Blocks.{data_len, extent_of, in_range, limited, units_of}
use Rattle.io_queue.specs.Finishing.{covered, finish, on_namespace_again}
use Rattle.io_queue.specs.Reach.{FitsDisk, IsSmall, found_reached, namespace_seen, reached, refuse, state_verdict, then_do}

-- ---- the disk of a namespace

some_same : {A : Type 0} (a b : A) (o : Option A) → o ≡ Some a → o ≡ Some b → a ≡ b
some_same a b o h k = cc

disk_bounded : (units : List ℕ) (k size : ℕ) → are_disks units ≡ true → slice_get units k ≡ Some size → size ≤ 2 ^ 40
disk_bounded units k size disks is =
    let pass = AllPass-from_list_all (λ n. nat_le n (2 ^ 40)) units (and_parts (nat_le (length units) 256) (list_all (λ n. nat_le n (2 ^ 40)) units) disks).1 in
    let below = slice_get_within units k size is in
    let same : get_or units k 0 ≡ size = some_same (get_or units k 0) size (slice_get units k) (slice_get-get_or units k 0 below) is in
    rw same at (leb-true (get_or units k 0) (2 ^ 40) (pass k 0 below))

on_disk_by : (units : List ℕ) (n : Namespace) (o : Option ℕ) → are_disks units ≡ true → slice_get units n.disk ≡ o
    → is_size_on o n.blocks (bytes_of n.block_size) ≡ true → FitsDisk units n
on_disk_by units n None disks is fits = cc
on_disk_by units n (Some size) disks is fits = record {
  size = size;
  is = is;
  fits = leb-true (n.blocks * bytes_of n.block_size) (size * 512) (and_parts (nat_le 1 n.blocks) (nat_le (n.blocks * bytes_of n.block_size) (size * 512)) fits).1;
  bound = disk_bounded units n.disk size disks is;
}

pub found_on_disk : (c : Configuration) (host subsystem : List ℕ) (nsid : ℕ) (n : Namespace) → IsValid c
    → namespace_seen c host subsystem nsid ≡ Some n → FitsDisk c.units n
found_on_disk c host subsystem nsid n valid found =
    let seen = sees_what_is_shown.valid c host valid in
    let holds = found_holds (IsNamespace c.units c.subsystems) (is_named subsystem nsid) (seen_by c host).namespaces seen.namespaces.sound in
    let sound : IsNamespace c.units c.subsystems n = rw found at holds in
    on_disk_by c.units n (slice_get c.units n.disk) valid.disks refl sound.size

pub on_disk_is_small : (units : List ℕ) (n : Namespace) → FitsDisk units n → IsSmall n
on_disk_is_small units n on =
    let fits = on.fits in
    let bound = on.bound in
    omega (arith, fits, bound)

-- ---- the extent of a command

range_by : (size : BlockSize) (blocks first count units : ℕ) → blocks * bytes_of size ≤ units * 512 → first + count ≤ blocks
    → first * units_of size + count * units_of size ≤ units
range_by Bytes512 blocks first count units fits below = omega (arith, fits, below)
range_by Bytes4096 blocks first count units fits below = omega (arith, fits, below)

-- an extent is on the disk, and has as many bytes as the command's data, at most 131,072
record IsLimited (units : List ℕ) (n : Namespace) (c : BlockCommand) (e : Extent) : Type 0 where
  extent : HasExtent units e
  len : 512 * e.units ≡ data_len n c
  bound : data_len n c ≤ 131072

len_by : (size : BlockSize) (blocks : ℕ) → 512 * (blocks * units_of size) ≡ blocks * bytes_of size
len_by Bytes512 blocks = omega arith
len_by Bytes4096 blocks = omega arith

extent_within : (units : List ℕ) (n : Namespace) (c : BlockCommand) → FitsDisk units n → nat_lt n.blocks (c.first + c.blocks) ≡ false
    → HasExtent units (extent_of n c)
extent_within units n c on inside = record {
  disk = slice_get_within units n.disk on.size on.is;
  within = rw (get_or_from_slice_get units n.disk on.size 0 on.is)
      (range_by n.block_size n.blocks c.first c.blocks on.size on.fits (ltb-false n.blocks (c.first + c.blocks) inside));
}

-- what follows what holds
then_holds : {A B : Type 0} (P : A → Type 0) (Q : B → Type 0) (r : Result A Status) (next : A → Result B Status) → IfOk r P
    → ((a : A) → P a → IfOk (next a) Q) → IfOk (then_do r next) Q
then_holds P Q (Ok a) next h k = k a h
then_holds P Q (Err status) next h k = tt

refuse_holds : {A : Type 0} (P : A → Type 0) (test : Bool) (status : Status) (next : Result A Status) → (test ≡ false → IfOk next P)
    → IfOk (refuse test status next) P
refuse_holds P true status next h = tt
refuse_holds P false status next h = h refl

range_within : (units : List ℕ) (n : Namespace) (c : BlockCommand) → FitsDisk units n
    → IfOk (in_range n c) (λ e. HasExtent units e)
range_within units n c on =
    refuse_holds (λ (e : Extent). HasExtent units e) (nat_lt n.blocks (c.first + c.blocks)) lba_out_of_range (Ok (extent_of n c))
    (extent_within units n c on)

limited_within : (units : List ℕ) (n : Namespace) (c : BlockCommand) → FitsDisk units n → IfOk (limited n c) (IsLimited units n c)
limited_within units n c on =
    refuse_holds (IsLimited units n c) (nat_lt 131072 (data_len n c)) invalid_field (in_range n c) (λ small.
    refuse_holds (IsLimited units n c) (nat_lt n.blocks (c.first + c.blocks)) lba_out_of_range (Ok (extent_of n c)) (λ inside. record {
      extent = extent_within units n c on inside;
      len = len_by n.block_size c.blocks;
      bound = ltb-false 131072 (data_len n c) small;
    }))

-- ---- at the capsule

read_within : (units : List ℕ) (n : Namespace) (c : BlockCommand) (sgl : Sgl) (len : ℕ) → FitsDisk units n
    → IfOk (read n c sgl) (IsWithin units len)
read_within units n c sgl len on =
    then_holds (IsLimited units n c) (IsWithin units len) (limited n c) _ (limited_within units n c on)
    (λ e h.
    refuse_holds (IsWithin units len) (not (is_transport sgl.sgl_type)) sgl_type_invalid _ (λ typed.
    refuse_holds (IsWithin units len) (not (sgl.len == data_len n c)) data_sgl_length_invalid (Ok (operation_on e action.Read)) (λ same.
    (h.extent, few e.units (data_len n c) h.len h.bound)))) where
      few : (units len : ℕ) → 512 * units ≡ len → len ≤ 131072 → units ≤ 256
      few units len is bound = omega (arith, is, bound)

-- the data of an extent on its disk are in a capsule that brings so many bytes, or at most 131,072 are to come
abbrev IsPlaced : List ℕ → ℕ → Placed → Type 0
IsPlaced units len (InCapsule e at) = HasExtent units e × (at + 512 * e.units ≤ len)
IsPlaced units len (ToCome n) = n ≤ 131072

not_false : (test : Bool) → not test ≡ false → test ≡ true
not_false true h = refl
not_false false h = cc

locate_at_within : (units : List ℕ) (n : Namespace) (c : BlockCommand) (e : Extent) (sgl : Sgl) (len : ℕ) → IsLimited units n c e → sgl.len ≡ data_len n c
    → IfOk (locate_at e sgl len) (IsPlaced units len)
locate_at_within units n c e sgl len h same = by (is_transport sgl.sgl_type) where
  within : (units bytes : ℕ) → 512 * units ≡ bytes → sgl.len ≡ bytes → sgl.address + sgl.len ≤ len → sgl.address + 512 * units ≤ len
  within units bytes is same inside = omega (arith, is, same, inside)

  bounded : (bytes : ℕ) → sgl.len ≡ bytes → bytes ≤ 131072 → sgl.len ≤ 131072
  bounded bytes is bound = omega (arith, is, bound)

  by : (transport : Bool) → IfOk (if transport then Ok (ToCome sgl.len) else
      refuse (nat_lt len (sgl.address + sgl.len)) sgl_offset_invalid (Ok (InCapsule e sgl.address))) (IsPlaced units len)
  by true = bounded (data_len n c) same h.bound
  by false =
      refuse_holds (IsPlaced units len) (nat_lt len (sgl.address + sgl.len)) sgl_offset_invalid (Ok (InCapsule e sgl.address)) (λ inside.
      (h.extent, within e.units (data_len n c) h.len same (ltb-false len (sgl.address + sgl.len) inside)))

locate_within : (units : List ℕ) (n : Namespace) (c : BlockCommand) (sgl : Sgl) (len : ℕ) → FitsDisk units n
    → IfOk (locate n c sgl len) (IsPlaced units len)
locate_within units n c sgl len on =
    then_holds (IsLimited units n c) (IsPlaced units len) (limited n c) _ (limited_within units n c on)
    (λ e h.
    refuse_holds (IsPlaced units len) (not (is_capsule_offset sgl.sgl_type || is_transport sgl.sgl_type)) sgl_type_invalid _ (λ typed.
    refuse_holds (IsPlaced units len) (not (sgl.len == data_len n c)) data_sgl_length_invalid _ (λ same.
    locate_at_within units n c e sgl len h (eqb-true sgl.len (data_len n c) (not_false (sgl.len == data_len n c) same)))))

performed_within : (units : List ℕ) (len : ℕ) (r : Result Operation Status) → IfOk r (IsWithin units len) → IfOk (performed r) (IsBegunWithin units len)
performed_within units len (Ok op) h = h
performed_within units len (Err status) h = tt

write_within : (units : List ℕ) (len : ℕ) (fua : Bool) (p : Placed) → IsPlaced units len p → IsBegunWithin units len (write_begun fua p)
write_within units len fua (InCapsule e at) h = h
write_within units len fua (ToCome n) h = h

compare_within : (units : List ℕ) (len : ℕ) (p : Placed) → IsPlaced units len p → IsBegunWithin units len (compare_begun p)
compare_within units len (InCapsule e at) h = h
compare_within units len (ToCome n) h = h

pub begun_within : (units : List ℕ) (n : Namespace) (code : IoOpcode) (entry : List ℕ) (len : ℕ) → FitsDisk units n
    → IfOk (on_namespace n code entry len) (IsBegunWithin units len)
begun_within units n opcode.Flush entry len on = (record { disk = slice_get_within units n.disk on.size on.is; within = omega arith }, refl)
begun_within units n opcode.Read entry len on =
    performed_within units len (read n (block_command_of entry) (sgl1_of entry)) (read_within units n (block_command_of entry) (sgl1_of entry) len on)
begun_within units n opcode.Write entry len on =
    then_holds (IsPlaced units len) (IsBegunWithin units len) (locate n (block_command_of entry) (sgl1_of entry) len) _
    (locate_within units n (block_command_of entry) (sgl1_of entry) len on) (write_within units len (block_command_of entry).fua)
begun_within units n opcode.Compare entry len on =
    then_holds (IsPlaced units len) (IsBegunWithin units len) (locate n (block_command_of entry) (sgl1_of entry) len) _
    (locate_within units n (block_command_of entry) (sgl1_of entry) len on) (compare_within units len)
begun_within units n opcode.WriteZeroes entry len on =
    then_holds (λ (e : Extent). HasExtent units e) (IsBegunWithin units len) (in_range n (block_command_of entry)) _
    (range_within units n (block_command_of entry) on) (λ e h. (h, tt))

-- ---- once the data has come

covered_within : (units : List ℕ) (n : Namespace) (c : BlockCommand) (came : ℕ) → FitsDisk units n
    → IfOk (covered n c came) (λ e. HasExtent units e × (0 + 512 * e.units ≤ came))
covered_within units n c came on =
    then_holds (λ (e : Extent). e ≡ extent_of n c × HasExtent units e) P (in_range n c) _
    (refuse_holds (λ (e : Extent). e ≡ extent_of n c × HasExtent units e) (nat_lt n.blocks (c.first + c.blocks)) lba_out_of_range (Ok (extent_of n c))
    (λ inside. (refl, extent_within units n c on inside)))
    (λ e h.
    refuse_holds P (not (came == data_len n c)) data_sgl_length_invalid (Ok e) (λ same. (
      h.1,
      all e.units (data_len n c) (ap (λ (x : Extent). 512 * x.units) h.0 ∙ len_by n.block_size c.blocks)
          (eqb-true came (data_len n c) (not_false (came == data_len n c) same)),
    ))) where
      P : Extent → Type 0
      P e = HasExtent units e × (0 + 512 * e.units ≤ came)

      all : (units bytes : ℕ) → 512 * units ≡ bytes → came ≡ bytes → 0 + 512 * units ≤ came
      all units bytes is same = omega (arith, is, same)

pub again_within : (units : List ℕ) (n : Namespace) (code : Option IoOpcode) (entry : List ℕ) (came : ℕ) → FitsDisk units n
    → IfOk (on_namespace_again n code entry came) (IsWithin units came)
again_within units n (Some opcode.Write) entry came on =
    then_holds (λ (e : Extent). HasExtent units e × (0 + 512 * e.units ≤ came)) (IsWithin units came) (covered n (block_command_of entry) came) _
    (covered_within units n (block_command_of entry) came on) (λ e h. h)
again_within units n (Some opcode.Compare) entry came on =
    then_holds (λ (e : Extent). HasExtent units e × (0 + 512 * e.units ≤ came)) (IsWithin units came) (covered n (block_command_of entry) came) _
    (covered_within units n (block_command_of entry) came on) (λ e h. h)
again_within units n _ entry came on = tt

-- ---- whatever is reached

any_ok : {A B : Type 0} (r : Result A B) → IfOk r (λ a. Unit {0})
any_ok (Ok a) = tt
any_ok (Err b) = tt

found_fits : (c : Configuration) (host : List ℕ) (port : ℕ) (subsystem : List ℕ) (nsid : ℕ) → IsValid c → (o : Option Namespace)
    → namespace_seen c host subsystem nsid ≡ o → IfOk (found_reached o c port subsystem) (FitsDisk c.units)
found_fits c host port subsystem nsid valid None is = tt
found_fits c host port subsystem nsid valid (Some n) is =
    then_holds (λ reached. Unit {0}) (FitsDisk c.units) (state_verdict (state_for port subsystem n.group c.states)) _
    (any_ok (state_verdict (state_for port subsystem n.group c.states))) (λ reached h. found_on_disk c host subsystem nsid n valid is)

reached_fits : (c : Configuration) (host : List ℕ) (port : ℕ) (subsystem entry : List ℕ) → IsValid c → IfOk (reached c host port subsystem entry) (FitsDisk c.units)
reached_fits c host port subsystem entry valid =
    found_fits c host port subsystem (nsid_of entry) valid (namespace_seen c host subsystem (nsid_of entry)) refl

pub decided_within : (c : Configuration) (host : List ℕ) (port : ℕ) (subsystem entry : List ℕ) (len : ℕ) → IsValid c
    → IfOk (begin c host port subsystem entry len) (IsBegunWithin c.units len)
decided_within c host port subsystem entry len valid = by (opcode_of_code (opcode_of entry)) where
  by : (code : Option IoOpcode) → IfOk (on_opcode code c host port subsystem entry len) (IsBegunWithin c.units len)
  by None = tt
  by (Some code) =
      then_holds (FitsDisk c.units) (IsBegunWithin c.units len) (reached c host port subsystem entry) _ (reached_fits c host port subsystem entry valid)
      (λ n on. begun_within c.units n code entry len on)

pub finished_within : (c : Configuration) (host : List ℕ) (port : ℕ) (subsystem entry : List ℕ) (came : ℕ) → IsValid c
    → IfOk (finish c host port subsystem entry came) (IsWithin c.units came)
finished_within c host port subsystem entry came valid =
    then_holds (FitsDisk c.units) (IsWithin c.units came) (reached c host port subsystem entry) _ (reached_fits c host port subsystem entry valid)
    (λ n on. again_within c.units n (opcode_of_code (opcode_of entry)) entry came on)
