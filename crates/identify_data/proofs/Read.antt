-- What is read back of the fields that are found.
use Rattle.std.proofs.Common.{◌≡◌, ℕ, ◌+◌, ◌-◌, ◌*◌, ◌<◌, ◌≤◌, ◌^◌, Bool, true, false, not, List, [], ◌∷◌, ◌++◌, ◌==◌, ◌&&◌, zero, suc, length, get_or, take, drop, replicate, slice_index, slice_range, cond, refl, ap, sym, ◌∙◌, arith, subst, nat_lt, slice_get, Some, None}
use Rattle.std.proofs.lemmas.Grind.{common_steps}
use Rattle.std.proofs.Math.Seq.{take-append_seam}
use Rattle.std.proofs.lemmas.List.{get_or-drop, get_or-take, take-append-drop}
use Rattle.std.specs.Char.{is_ascii_graphic}
use Rattle.std.specs.Int.{bytes_low_first}
use Rattle.std.specs.List.{AllByRecursion, list_all, prefix_len}
use Rattle.std.specs.Prelude.{unwrap_or}
use Rattle.byteorder.specs.Numbers.{little_number-reads_back}
use Rattle.byteorder.specs.Endian.{little_number}
use Rattle.config_lists.specs.declared.namespace.BlockSize.{BlockSize}
use Rattle.config_lists.specs.declared.namespace.BlockSize.TheVariants.{Bytes512, Bytes4096}
use Rattle.config_lists.specs.declared.namespace.Namespace.{Namespace}
use Rattle.config_lists.specs.Namespace.{bytes_of}
use Rattle.nvt_fields.specs.Field.{field_at, padded}
use Rattle.nvt_fields.specs.Name.{IsName, up_to_zero}
use Rattle.identify_data.specs.Controller.{Controller, TextsFit, by_kind, cntlid_of, controller_data, controller_fields, subnqn_of}
use Rattle.identify_data.specs.Descriptors.{descriptor_list}
use Rattle.identify_data.specs.Fields.{Field, at, byte, dword, qword, word}
use Rattle.identify_data.specs.Laws.{HostsReadBack, IsFound}
use Rattle.identify_data.specs.Namespace.{lbads_of, namespace_data, namespace_fields}
use Rattle.identify_data.proofs.Written.{length-padded}
use Rattle.identify_data.proofs.Found.{fields_are_found, subnqn_fits}

-- a number that stands at a place
number_at : (n offset x : ℕ) (structure : List ℕ) → x < 256 ^ n → take n (drop offset structure) ≡ bytes_low_first 0 n x → field_at n offset structure ≡ x
unfolding field_at
number_at n offset x structure small stands =
    ap (little_number n) (sym (take-append-drop n (drop offset structure)) ∙ ap (λ (b : List ℕ). b ++ drop n (drop offset structure)) stands)
    ∙ little_number-reads_back n x (drop n (drop offset structure)) small

-- one byte of those that stand at a place
byte_of : (len offset k : ℕ) (structure bytes : List ℕ) → take len (drop offset structure) ≡ bytes → k < len → slice_index structure (offset + k) ≡ slice_index bytes k
byte_of len offset k structure bytes stands inside =
    sym (get_or-drop offset structure k 0) ∙ sym (get_or-take len (drop offset structure) k 0 inside) ∙ ap (λ (b : List ℕ). get_or b k 0) stands

block_bytes : (b : BlockSize) → 2 ^ slice_index (bytes_low_first 0 4 (lbads_of b * 2 ^ 16)) 2 ≡ bytes_of b
block_bytes Bytes512 = refl
block_bytes Bytes4096 = refl

-- a byte of a name is not zero
not_zero : (x : ℕ) (rest : Bool) → is_ascii_graphic x && rest ≡ true → (x == 0) ≡ false
not_zero x rest graphic = grind (arith, common_steps)

all_rest : (x : ℕ) (rest : Bool) → is_ascii_graphic x && rest ≡ true → rest ≡ true
all_rest x rest graphic = grind (arith, common_steps)

prefix_of_zeros : (n : ℕ) → prefix_len (λ b. not (b == 0)) (replicate n 0) ≡ 0
prefix_of_zeros zero = refl
prefix_of_zeros (suc n) = refl

prefix_of_name : (text : List ℕ) (n : ℕ) → list_all is_ascii_graphic text ≡ true → prefix_len (λ b. not (b == 0)) (text ++ replicate n 0) ≡ length text
prefix_of_name [] n graphic = prefix_of_zeros n
prefix_of_name (x ∷ text) n graphic =
    let rest = list_all is_ascii_graphic text in
    let more = prefix_len (λ b. not (b == 0)) (text ++ replicate n 0) in
    let here : cond (not (x == 0)) (1 + more) 0 ≡ 1 + more = ap (λ b. cond (not b) (1 + more) 0) (not_zero x rest graphic) in
    here ∙ omega (arith, prefix_of_name text n (all_rest x rest graphic))

name_is_graphic : (text : List ℕ) → IsName text → list_all is_ascii_graphic text ≡ true
name_is_graphic text named = grind (arith, common_steps)

name_is_short : (text : List ℕ) → IsName text → length text ≤ 223
name_is_short text named = grind (arith, common_steps)

cut_at : (first len n : ℕ) → first ≡ n → n < len → unwrap_or (cond (nat_lt first len) (Some first) None) len ≡ n
cut_at first len n at within = grind (arith, common_steps)

name_of : (text : List ℕ) → IsName text → up_to_zero (padded 256 0 text) ≡ text
name_of text named =
    let field = padded 256 0 text in
    let zeros = replicate {A = ℕ} (256 - length text) 0 in
    let short : length text ≤ 223 = name_is_short text named in
    let within : length text < length field = omega (arith, length-padded 256 0 text) in
    let first = prefix_of_name text (256 - length text) (name_is_graphic text named) in
    let cut = cut_at (prefix_len (λ b. not (b == 0)) field) (length field) (length text) first within in
    ap (λ n. take n field) cut ∙ take-append_seam text zeros

-- a field of those that are found, by its number in the table
found_of : (structure : List ℕ) (fields : List Field) (k : ℕ) (f : Field) → AllByRecursion (IsFound structure) fields → slice_get fields k ≡ Some f → IsFound structure f
found_of structure [] k f found is = cc
found_of structure (first ∷ fields) zero f found is = let same : first ≡ f = cc in subst (IsFound structure) same found.0
found_of structure (first ∷ fields) (suc k) f found is = found_of structure fields k f found.1 is

-- of a controller and of a namespace
of_controller : (c : Controller) → TextsFit c → (k : ℕ) (f : Field) → slice_get (controller_fields c) k ≡ Some f → IsFound (controller_data c) f
of_controller c fits k f is = found_of (controller_data c) (controller_fields c) k f (fields_are_found.controllers c fits).found is

of_namespace : (n : Namespace) (k : ℕ) (f : Field) → slice_get (namespace_fields n) k ≡ Some f → IsFound (namespace_data (Some n)) f
of_namespace n k f is = found_of (namespace_data (Some n)) (namespace_fields n) k f (fields_are_found.namespaces n).found is

subnqn_found : (c : Controller) → TextsFit c → slice_range (controller_data c) 768 1024 ≡ padded 256 0 (subnqn_of c)
subnqn_found c fits =
    let end : 1024 ≡ 768 + length (padded 256 0 (subnqn_of c)) = omega (arith, subnqn_fits c fits) in
    ap (λ e. slice_range (controller_data c) 768 e) end
    ∙ of_controller c fits 25 (at 768 (padded 256 0 (subnqn_of c))) refl

size_found : (n : Namespace) → n.blocks < 2 ^ 64 → field_at 8 0 (namespace_data (Some n)) * 2 ^ slice_index (namespace_data (Some n)) 130 ≡ n.blocks * bytes_of n.block_size
size_found n small =
    let told = namespace_data (Some n) in
    let blocks : field_at 8 0 told ≡ n.blocks = number_at 8 0 n.blocks told small (of_namespace n 0 (at 0 (qword n.blocks)) refl) in
    let format = dword (lbads_of n.block_size * 2 ^ 16) in
    let lbads : slice_index told 130 ≡ slice_index format 2 = byte_of 4 128 2 told format (of_namespace n 6 (at 128 format) refl) (omega arith) in
    let block : 2 ^ slice_index told 130 ≡ bytes_of n.block_size = ap (λ (k : ℕ). 2 ^ k) lbads ∙ block_bytes n.block_size in
    ap (λ (m : ℕ). m * 2 ^ slice_index told 130) blocks ∙ ap (λ (m : ℕ). n.blocks * m) block

pub hosts_read_back : HostsReadBack
hosts_read_back = record {
  cntlid = λ c fits small. number_at 2 78 (cntlid_of c) (controller_data c) small (of_controller c fits 5 (at 78 (word (cntlid_of c))) refl);
  cntrltype = λ c fits. byte_of 1 111 0 (controller_data c) (byte (by_kind c 1 2)) (of_controller c fits 9 (at 111 (byte (by_kind c 1 2))) refl) (omega arith);
  subnqn = λ c fits named. ap up_to_zero (subnqn_found c fits) ∙ name_of (subnqn_of c) named;
  size = size_found;
  group = λ n small. number_at 4 92 n.group (namespace_data (Some n)) small (of_namespace n 5 (at 92 (dword n.group)) refl);
  uuid = λ n whole. ap (λ e. slice_range (descriptor_list n) 4 e) (sym (ap (λ k. 4 + k) whole)) ∙ (fields_are_found.descriptors n whole).found.1.1.0;
}
