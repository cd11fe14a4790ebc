-- What a change of the namespaces keeps.
use Rattle.std.proofs.Common.{◌≡◌, ◌*◌, ◌==◌, ◌||◌, ◌++◌, ◌∷◌, [], ℕ, Bool, true, false, not, List, Option, Some, None, All, nat_le, nat_lt, length, get_or, find, slice_get, unwrap_or, if◌then◌else◌, refl, sym, ◌∙◌, subst, arith}
use Rattle.std.proofs.lemmas.Bool.{and_from, and_parts, both_ways, cond_both, eq-eqb, eqb-false, eqb-true, false_from_ne_true, le-leb, leb-false, ltb-false, not-true, or_left, or_parts}
use Rattle.std.proofs.lemmas.List.Elements.{All-push, All-filter, filter_passes}
use Rattle.std.proofs.lemmas.List.Folds.{list_any-append}
use Rattle.std.proofs.lemmas.List.Kept.{AllPairs-filter}
use Rattle.std.proofs.lemmas.Option.{slice_get-get_or}
use Rattle.std.specs.Option.{is_none}
use Rattle.std.specs.Str.{bytes_eq}
use Rattle.config_lists.specs.declared.namespace.BlockSize.TheVariants.{Bytes512, Bytes4096}
use Rattle.config_lists.specs.declared.namespace.Namespace.{Namespace}
use Rattle.config_lists.specs.declared.namespace.Setting.{Setting}
use Rattle.config_lists.specs.declared.namespace.Setting.TheVariants.{Blocks, Group, Visibility as VisibilitySet}
use Rattle.config_lists.specs.declared.namespace.Visibility.{Visibility}
use Rattle.config_lists.specs.declared.show.Show.{Show}
use Rattle.config_lists.specs.declared.subsystem.Subsystem.{Subsystem}
use Rattle.config_lists.specs.Namespace.{block_size_of, bytes_of, is_group, is_named, with_setting}
use Rattle.config_lists.specs.Lists.{changed_where, without}
use Rattle.config_lists.specs.Show.{is_show_of}
use Rattle.config_lists.proofs.Distinct.{All-changed_at, distinct-push, distinct_after, found_alone}
use Rattle.config_lists.proofs.Lists.{list_any-changed_where, list_any-without}
use Rattle.config_lists.proofs.Names.{bytes_eq-same, same_name}
use Rattle.nvt_config.specs.Accept.{are_bad_blocks, are_bad_blocks_of, block_size_named, is_over}
use Rattle.nvt_config.specs.Configuration.{Configuration, has_namespace, has_subsystem, has_uuid, is_disk_used, with_namespace, with_namespace_set, without_namespace}
use Rattle.nvt_config.specs.Valid.{AreNamespaces, AreShows, IsNamespace, IsValid, is_size_on}
use Rattle.nvt_config.proofs.Shows.{AreShows-elsewhere, AreShows-without}

-- where each of the subsystems that they name stays
pub AreNamespaces-elsewhere : (units : List ℕ) (ss ts : List Subsystem) (ns : List Namespace) → All (λ n. has_subsystem ss n.subsystem ≡ true → has_subsystem ts n.subsystem ≡ true) ns → AreNamespaces units ss ns → AreNamespaces units ts ns
AreNamespaces-elsewhere units ss ts ns stay valid = record {
  sound = λ k d below.
      let old : IsNamespace units ss (get_or ns k d) = valid.sound k d below in
      record { subsystem = stay k d below old.subsystem; nsid = old.nsid; size = old.size; uuid = old.uuid; group = old.group };
  distinct = valid.distinct;
  disks = valid.disks;
  uuids = valid.uuids;
}

-- blocks that are not too many are on the disk, where that is there
size_on : (units : Option ℕ) (blocks bytes u : ℕ) → units ≡ Some u → ((blocks == 0) || is_over units blocks bytes) ≡ false → is_size_on units blocks bytes ≡ true
size_on None blocks bytes u there fits = cc
size_on (Some n) blocks bytes u there fits =
    let both : ((blocks == 0) ≡ false) × (nat_lt (n * 512) (blocks * bytes) ≡ false) = or_parts (blocks == 0) (nat_lt (n * 512) (blocks * bytes)) fits in
    let some : blocks ≡ 0 → ⊥ = eqb-false blocks 0 both.0 in
    and_from (nat_le 1 blocks) (nat_le (blocks * bytes) (n * 512)) (le-leb 1 blocks (omega arith)) (le-leb (blocks * bytes) (n * 512) (ltb-false (n * 512) (blocks * bytes) both.1))

pub sound_size : (c : Configuration) (disk blocks bytes : ℕ) → nat_le (length c.units) disk ≡ false → are_bad_blocks c disk blocks bytes ≡ false → is_size_on (slice_get c.units disk) blocks bytes ≡ true
sound_size c disk blocks bytes there fits =
    size_on (slice_get c.units disk) blocks bytes (get_or c.units disk 0) (slice_get-get_or c.units disk 0 (leb-false (length c.units) disk there)) fits

-- a block size that has a name has so many bytes
pub bytes_of-named : (bytes : ℕ) → is_none (block_size_of bytes) ≡ false → bytes_of (block_size_named bytes) ≡ bytes
bytes_of-named bytes = cond_both (bytes == 512) (Some Bytes512) (if bytes == 4096 then Some Bytes4096 else None) (λ o. is_none o ≡ false → bytes_of (unwrap_or o Bytes4096) ≡ bytes)
    (λ is _. sym (eqb-true bytes 512 is))
    (λ _. cond_both (bytes == 4096) (Some Bytes4096) None (λ o. is_none o ≡ false → bytes_of (unwrap_or o Bytes4096) ≡ bytes)
    (λ is _. sym (eqb-true bytes 4096 is))
    (λ _ none. cc))

pub AreNamespaces-push : (units : List ℕ) (ss : List Subsystem) (ns : List Namespace) (n : Namespace) → AreNamespaces units ss ns → IsNamespace units ss n → has_namespace ns n.subsystem n.nsid ≡ false → has_uuid ns n.uuid ≡ false → is_disk_used ns n.disk ≡ false → AreNamespaces units ss (ns ++ n ∷ [])
AreNamespaces-push units ss ns n valid sound absent own free = record {
  sound = All-push (IsNamespace units ss) ns n valid.sound sound;
  distinct = distinct-push (λ a b. (a.subsystem ≡ b.subsystem) × (a.nsid ≡ b.nsid)) (is_named n.subsystem n.nsid) ns n valid.distinct absent (λ a same. and_from (bytes_eq a.subsystem n.subsystem) (a.nsid == n.nsid) (bytes_eq-same a.subsystem n.subsystem same.0) (eq-eqb a.nsid n.nsid same.1));
  disks = distinct-push (λ a b. a.disk ≡ b.disk) (λ a. a.disk == n.disk) ns n valid.disks free (λ a same. eq-eqb a.disk n.disk same);
  uuids = distinct-push (λ a b. a.uuid ≡ b.uuid) (λ a. bytes_eq a.uuid n.uuid) ns n valid.uuids own (λ a same. bytes_eq-same a.uuid n.uuid same);
}

-- what tells namespaces apart stays when another value is set
apart_as_before : (P : List ℕ → ℕ → ℕ → List ℕ → Type 0) (value : Setting) (n : Namespace) → (let m : Namespace = with_setting value n in P m.subsystem m.nsid m.disk m.uuid) → P n.subsystem n.nsid n.disk n.uuid
apart_as_before P (Blocks blocks) n same = same
apart_as_before P (Group group) n same = same
apart_as_before P (VisibilitySet visibility) n same = same

AreNamespaces-set : (units : List ℕ) (ss : List Subsystem) (ns : List Namespace) (nqn : List ℕ) (nsid : ℕ) (value : Setting) → AreNamespaces units ss ns → All (λ n. is_named nqn nsid n ≡ true → IsNamespace units ss (with_setting value n)) ns → AreNamespaces units ss (changed_where (is_named nqn nsid) (with_setting value) ns)
AreNamespaces-set units ss ns nqn nsid value valid sound =
    let named : Namespace → Bool = is_named nqn nsid in
    let set : Namespace → Namespace = with_setting value in
    record {
      sound = All-changed_at (IsNamespace units ss) named set ns valid.sound sound;
      distinct = distinct_after (λ a b. (a.subsystem ≡ b.subsystem) × (a.nsid ≡ b.nsid)) named set (λ a b. apart_as_before (λ s i _ _. (s ≡ b.subsystem) × (i ≡ b.nsid)) value a) (λ a b. apart_as_before (λ s i _ _. (a.subsystem ≡ s) × (a.nsid ≡ i)) value b) ns valid.distinct;
      disks = distinct_after (λ a b. a.disk ≡ b.disk) named set (λ a b. apart_as_before (λ _ _ k _. k ≡ b.disk) value a) (λ a b. apart_as_before (λ _ _ k _. a.disk ≡ k) value b) ns valid.disks;
      uuids = distinct_after (λ a b. a.uuid ≡ b.uuid) named set (λ a b. apart_as_before (λ _ _ _ u. u ≡ b.uuid) value a) (λ a b. apart_as_before (λ _ _ _ u. a.uuid ≡ u) value b) ns valid.uuids;
    }

-- two that have the name are one
one_named : (nqn : List ℕ) (nsid : ℕ) (a b : Namespace) → ¬ ((a.subsystem ≡ b.subsystem) × (a.nsid ≡ b.nsid)) → ¬ ((is_named nqn nsid a ≡ true) × (is_named nqn nsid b ≡ true))
one_named nqn nsid a b differ both =
    let first : (bytes_eq a.subsystem nqn ≡ true) × ((a.nsid == nsid) ≡ true) = and_parts (bytes_eq a.subsystem nqn) (a.nsid == nsid) both.0 in
    let second : (bytes_eq b.subsystem nqn ≡ true) × ((b.nsid == nsid) ≡ true) = and_parts (bytes_eq b.subsystem nqn) (b.nsid == nsid) both.1 in
    differ (same_name a.subsystem nqn first.0 ∙ sym (same_name b.subsystem nqn second.0), eqb-true a.nsid nsid first.1 ∙ sym (eqb-true b.nsid nsid second.1))

-- a size that is set is on the namespace's disk
size_set : (units : Option ℕ) (blocks old bytes : ℕ) → is_size_on units old bytes ≡ true → ((blocks == 0) || is_over units blocks bytes) ≡ false → is_size_on units blocks bytes ≡ true
size_set None blocks old bytes sound fits = cc
size_set (Some n) blocks old bytes sound fits = size_on (Some n) blocks bytes n refl fits

pub sound_blocks : (c : Configuration) (nqn : List ℕ) (nsid blocks : ℕ) → AreNamespaces c.units c.subsystems c.namespaces → are_bad_blocks_of c (find (is_named nqn nsid) c.namespaces) blocks ≡ false → AreNamespaces c.units c.subsystems (changed_where (is_named nqn nsid) (with_setting (Blocks blocks)) c.namespaces)
sound_blocks c nqn nsid blocks valid fits =
    AreNamespaces-set c.units c.subsystems c.namespaces nqn nsid (Blocks blocks) valid (λ k d below named.
    let n : Namespace = get_or c.namespaces k d in
    let old : IsNamespace c.units c.subsystems n = valid.sound k d below in
    let found : find (is_named nqn nsid) c.namespaces ≡ Some n = found_alone (is_named nqn nsid) c.namespaces k d (λ i j e less within. one_named nqn nsid (get_or c.namespaces i e) (get_or c.namespaces j e) (valid.distinct i j e less within)) below named in
    let good : are_bad_blocks c n.disk blocks (bytes_of n.block_size) ≡ false = subst (λ o. are_bad_blocks_of c o blocks ≡ false) found fits in
    record {
      subsystem = old.subsystem;
      nsid = old.nsid;
      size = size_set (slice_get c.units n.disk) blocks n.blocks (bytes_of n.block_size) old.size good;
      uuid = old.uuid;
      group = old.group;
    })

pub sound_group : (c : Configuration) (nqn : List ℕ) (nsid group : ℕ) → AreNamespaces c.units c.subsystems c.namespaces → is_group group ≡ true → AreNamespaces c.units c.subsystems (changed_where (is_named nqn nsid) (with_setting (Group group)) c.namespaces)
sound_group c nqn nsid group valid sound =
    AreNamespaces-set c.units c.subsystems c.namespaces nqn nsid (Group group) valid (λ k d below named.
    let old : IsNamespace c.units c.subsystems (get_or c.namespaces k d) = valid.sound k d below in
    record { subsystem = old.subsystem; nsid = old.nsid; size = old.size; uuid = old.uuid; group = sound })

AreNamespaces-without : (units : List ℕ) (ss : List Subsystem) (ns : List Namespace) (nqn : List ℕ) (nsid : ℕ) → AreNamespaces units ss ns → AreNamespaces units ss (without (is_named nqn nsid) ns)
AreNamespaces-without units ss ns nqn nsid valid =
    let stays : Namespace → Bool = λ n. not (is_named nqn nsid n) in
    record {
      sound = All-filter stays (IsNamespace units ss) ns valid.sound;
      distinct = AllPairs-filter (λ a b. ¬ ((a.subsystem ≡ b.subsystem) × (a.nsid ≡ b.nsid))) stays ns valid.distinct;
      disks = AllPairs-filter (λ a b. ¬ (a.disk ≡ b.disk)) stays ns valid.disks;
      uuids = AllPairs-filter (λ a b. ¬ (a.uuid ≡ b.uuid)) stays ns valid.uuids;
    }

-- what is true of a configuration stays where its namespaces and its shows alone change
with_namespaces : (c : Configuration) (ns : List Namespace) (shows : List Show) → IsValid c → AreNamespaces c.units c.subsystems ns → AreShows ns c.hosts shows
    → IsValid (record c { namespaces = ns; shows = shows })
with_namespaces c ns shows valid sound shown = record {
  disks = valid.disks;
  subsystems = valid.subsystems;
  namespaces = sound;
  ports = valid.ports;
  links = valid.links;
  hosts = valid.hosts;
  allows = valid.allows;
  states = valid.states;
  referrals = valid.referrals;
  shows = shown;
}

-- the shows of a configuration, where each namespace that is there stays
shows_stay : (c : Configuration) (ns : List Namespace) → ((nqn : List ℕ) (nsid : ℕ) → has_namespace c.namespaces nqn nsid ≡ true → has_namespace ns nqn nsid ≡ true) → IsValid c → AreShows ns c.hosts c.shows
shows_stay c ns stay valid =
    AreShows-elsewhere c.namespaces ns c.hosts c.hosts c.shows (λ k d _. let s : Show = get_or c.shows k d in stay s.subsystem s.nsid) (λ _ _ _ live. live) valid.shows

-- .. where a value of one is set
named_as_before : (nqn : List ℕ) (nsid : ℕ) (value : Setting) (n : Namespace) → is_named nqn nsid (with_setting value n) ≡ is_named nqn nsid n
named_as_before nqn nsid (Blocks blocks) n = refl
named_as_before nqn nsid (Group group) n = refl
named_as_before nqn nsid (VisibilitySet visibility) n = refl

stays_set : (ns : List Namespace) (nqn : List ℕ) (nsid : ℕ) (value : Setting) (name : List ℕ) (id : ℕ) → has_namespace ns name id ≡ true
    → has_namespace (changed_where (is_named nqn nsid) (with_setting value) ns) name id ≡ true
stays_set ns nqn nsid value name id there =
    list_any-changed_where (is_named name id) (is_named nqn nsid) (with_setting value) (λ n _. named_as_before name id value n) ns ∙ there

-- one that goes is not the one of a show that stays
other_named : (nqn : List ℕ) (nsid : ℕ) (s : Show) (n : Namespace) → is_show_of nqn nsid s ≡ false → is_named s.subsystem s.nsid n ≡ true → is_named nqn nsid n ≡ false
other_named nqn nsid s n other named =
    let shown : (bytes_eq n.subsystem s.subsystem ≡ true) × ((n.nsid == s.nsid) ≡ true) = and_parts (bytes_eq n.subsystem s.subsystem) (n.nsid == s.nsid) named in
    let subsystem = same_name n.subsystem s.subsystem shown.0 in
    let id = eqb-true n.nsid s.nsid shown.1 in
    false_from_ne_true (is_named nqn nsid n) (λ gone.
    let both : (bytes_eq n.subsystem nqn ≡ true) × ((n.nsid == nsid) ≡ true) = and_parts (bytes_eq n.subsystem nqn) (n.nsid == nsid) gone in
    let same : bytes_eq s.subsystem nqn ≡ true = subst (λ (l : List ℕ). bytes_eq l nqn ≡ true) subsystem both.0 in
    let same_id : (s.nsid == nsid) ≡ true = subst (λ k. (k == nsid) ≡ true) id both.1 in
    both_ways (is_show_of nqn nsid s) other (and_from (s.nsid == nsid) (bytes_eq s.subsystem nqn) same_id same))

-- .. where one goes, with its shows
shows_without : (c : Configuration) (nqn : List ℕ) (nsid : ℕ) → IsValid c → AreShows (without (is_named nqn nsid) c.namespaces) c.hosts (without (is_show_of nqn nsid) c.shows)
shows_without c nqn nsid valid =
    let goes : Show → Bool = is_show_of nqn nsid in
    let left : List Show = without goes c.shows in
    AreShows-elsewhere c.namespaces (without (is_named nqn nsid) c.namespaces) c.hosts c.hosts left (λ k d below there.
    let s : Show = get_or left k d in
    let stays : goes s ≡ false = not-true (goes s) (filter_passes (λ s. not (goes s)) c.shows k d below) in
    list_any-without (is_named s.subsystem s.nsid) (is_named nqn nsid) (λ n named. other_named nqn nsid s n stays named) c.namespaces ∙ there)
    (λ _ _ _ live. live) (AreShows-without c.namespaces c.hosts c.shows goes valid.shows)

pub IsValid-with_namespace : (c : Configuration) (n : Namespace) → IsValid c → IsNamespace c.units c.subsystems n → has_namespace c.namespaces n.subsystem n.nsid ≡ false → has_uuid c.namespaces n.uuid ≡ false → is_disk_used c.namespaces n.disk ≡ false → IsValid (with_namespace c n)
IsValid-with_namespace c n valid sound absent own free =
    let ns : List Namespace = c.namespaces ++ n ∷ [] in
    with_namespaces c ns c.shows valid (AreNamespaces-push c.units c.subsystems c.namespaces n valid.namespaces sound absent own free)
    (shows_stay c ns (λ nqn nsid there. list_any-append (is_named nqn nsid) c.namespaces (n ∷ []) ∙ or_left (has_namespace c.namespaces nqn nsid) _ there) valid)

with_setting_valid : (c : Configuration) (nqn : List ℕ) (nsid : ℕ) (value : Setting) → IsValid c
    → AreNamespaces c.units c.subsystems (changed_where (is_named nqn nsid) (with_setting value) c.namespaces) → IsValid (with_namespace_set c nqn nsid value)
with_setting_valid c nqn nsid value valid sound =
    let ns : List Namespace = changed_where (is_named nqn nsid) (with_setting value) c.namespaces in
    with_namespaces c ns c.shows valid sound (shows_stay c ns (stays_set c.namespaces nqn nsid value) valid)

pub IsValid-with_blocks : (c : Configuration) (nqn : List ℕ) (nsid blocks : ℕ) → IsValid c → are_bad_blocks_of c (find (is_named nqn nsid) c.namespaces) blocks ≡ false → IsValid (with_namespace_set c nqn nsid (Blocks blocks))
IsValid-with_blocks c nqn nsid blocks valid fits =
    with_setting_valid c nqn nsid (Blocks blocks) valid (sound_blocks c nqn nsid blocks valid.namespaces fits)

pub IsValid-with_group : (c : Configuration) (nqn : List ℕ) (nsid group : ℕ) → IsValid c → is_group group ≡ true → IsValid (with_namespace_set c nqn nsid (Group group))
IsValid-with_group c nqn nsid group valid sound =
    with_setting_valid c nqn nsid (Group group) valid (sound_group c nqn nsid group valid.namespaces sound)

pub IsValid-with_visibility : (c : Configuration) (nqn : List ℕ) (nsid : ℕ) (visibility : Visibility) → IsValid c → IsValid (with_namespace_set c nqn nsid (VisibilitySet visibility))
IsValid-with_visibility c nqn nsid visibility valid =
    with_setting_valid c nqn nsid (VisibilitySet visibility) valid (AreNamespaces-set c.units c.subsystems c.namespaces nqn nsid (VisibilitySet visibility) valid.namespaces (λ k d below named.
    let old : IsNamespace c.units c.subsystems (get_or c.namespaces k d) = valid.namespaces.sound k d below in
    record { subsystem = old.subsystem; nsid = old.nsid; size = old.size; uuid = old.uuid; group = old.group }))

pub IsValid-without_namespace : (c : Configuration) (nqn : List ℕ) (nsid : ℕ) → IsValid c → IsValid (without_namespace c nqn nsid)
IsValid-without_namespace c nqn nsid valid =
    with_namespaces c (without (is_named nqn nsid) c.namespaces) (without (is_show_of nqn nsid) c.shows) valid (AreNamespaces-without c.units c.subsystems c.namespaces nqn nsid valid.namespaces) (shows_without c nqn nsid valid)
