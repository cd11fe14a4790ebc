-- The edits of subsystems and of namespaces add them.
use Rattle.std.proofs.Common.{◌≡◌, ◌==◌, ◌*◌, ◌<◌, ◌++◌, ◌∷◌, [], ℕ, Bool, true, false, not, ◌||◌, List, Option, Some, None, Ok, IsTrue, nat_le, nat_lt, length, slice_get, refl, ap, sym, ◌∙◌, subst, arith, inl, inr}
use Rattle.std.proofs.lemmas.Bool.{and_from, and_parts, cases_lt, cond_both, eq-eqb, eqb-true, le-ltb, leb-true, lt-leb, ne_eqb, not-true, not_from_true, or_from}
use Rattle.std.proofs.lemmas.Option.{slice_get_past}
use Rattle.std.specs.Option.{is_none}
use Rattle.std.specs.Str.{bytes_eq}
use Rattle.config_lists.specs.declared.namespace.BlockSize.{BlockSize}
use Rattle.config_lists.specs.declared.namespace.BlockSize.TheVariants.{Bytes512, Bytes4096}
use Rattle.config_lists.specs.declared.namespace.Namespace.{Namespace}
use Rattle.config_lists.specs.declared.namespace.Setting.TheVariants.{Visibility as VisibilitySet}
use Rattle.config_lists.specs.declared.namespace.Visibility.{Visibility}
use Rattle.config_lists.specs.declared.namespace.Visibility.TheVariants.{All as SeenByAll, Named}
use Rattle.config_lists.specs.declared.subsystem.Subsystem.{Subsystem}
use Rattle.config_lists.specs.Namespace.{block_size_of, bytes_of, is_for_all, is_group, is_named, is_nsid, with_setting}
use Rattle.config_lists.specs.Subsystem.{is_discovery, is_serial, is_subsystem}
use Rattle.config_lists.proofs.Names.{bytes_eq-same, same_name}
use Rattle.config_lists.specs.declared.edit.Edit.TheVariants.{NamespaceAdd, NamespaceView, SubsystemAdd}
use Rattle.nvt_config.specs.Accept.{accept, block_size_named, is_over, namespace_of}
use Rattle.nvt_config.specs.Configuration.{Configuration, has_namespace, has_subsystem}
use Rattle.nvt_config.specs.Valid.{AreNamespaces, AreSubsystems, IsNamespace, IsValid, is_size_on}
use Rattle.config_saved.specs.Saved.{added_namespace, after_all, edits_of_subsystem, edits_of_namespace}
use Rattle.config_saved.proofs.Items.{changed_last, finds_last, item_fits, item_new, item_sound}
use Rattle.config_saved.proofs.Rebuild.{AddEach, accept_where_none, after_first, after_one}
use Rattle.config_saved.proofs.Stages.{at_namespaces, at_subsystems}

pub subsystems_added : (c : Configuration) → IsValid c → AddEach edits_of_subsystem (at_subsystems c) c.subsystems
subsystems_added c valid before s after whole =
    let are : AreSubsystems (before ++ s ∷ after) = subst AreSubsystems (sym whole) valid.subsystems in
    let sound = and_parts (not (is_discovery s.nqn)) (is_serial s.serial) (item_sound (λ (t : Subsystem). IsTrue (is_subsystem t)) before s after are.sound) in
    let new = item_new (λ s t. s.nqn ≡ t.nqn) (λ t. bytes_eq t.nqn s.nqn) before s after are.distinct (λ t. same_name t.nqn s.nqn) in
    after_one (at_subsystems c before) (at_subsystems c (before ++ s ∷ [])) (SubsystemAdd s.nqn s.serial s.access)
    (accept_where_none (at_subsystems c before) (SubsystemAdd s.nqn s.serial s.access)
    (not-true (is_discovery s.nqn) sound.0, (not_from_true (is_serial s.serial) sound.1, (new, (item_fits 32 before s after are.count, tt)))))

-- a size that the disk has is no bad one
fits : (units : Option ℕ) (blocks bytes : ℕ) → is_size_on units blocks bytes ≡ true → ((blocks == 0) || is_over units blocks bytes) ≡ false
fits None blocks bytes size = cc
fits (Some units) blocks bytes size =
    let parts = and_parts (nat_le 1 blocks) (nat_le (blocks * bytes) (units * 512)) size in
    let some : 0 < blocks = omega (arith, leb-true 1 blocks parts.0) in
    or_from (blocks == 0) (nat_lt (units * 512) (blocks * bytes)) (ne_eqb blocks 0 (λ none. omega arith)) (le-ltb (units * 512) (blocks * bytes) (leb-true (blocks * bytes) (units * 512) parts.1))

-- a disk that has room is there
disk_there : (units : List ℕ) (disk blocks bytes : ℕ) → is_size_on (slice_get units disk) blocks bytes ≡ true → nat_le (length units) disk ≡ false
disk_there units disk blocks bytes size =
    elim (cases_lt disk (length units)) [
      | inl below ↦ lt-leb (length units) disk below
      | inr past ↦ absurd (cc (subst (λ o. is_size_on o blocks bytes ≡ true) (slice_get_past units disk past) size))
    ]

-- a block size is read back from its bytes
block_size_there : (size : BlockSize) → is_none (block_size_of (bytes_of size)) ≡ false
block_size_there Bytes512 = refl
block_size_there Bytes4096 = refl

block_size_named-bytes_of : (size : BlockSize) → block_size_named (bytes_of size) ≡ size
block_size_named-bytes_of Bytes512 = refl
block_size_named-bytes_of Bytes4096 = refl

-- the namespace as it is before its visibility is set
abbrev seen_by_all : Namespace → Namespace
seen_by_all n = record n { visibility = SeenByAll }

namespace_of-added : (n : Namespace) → namespace_of (added_namespace n) ≡ seen_by_all n
namespace_of-added n = ap (λ (size : BlockSize). record (seen_by_all n) { block_size = size }) (block_size_named-bytes_of n.block_size)

is_for_all-All : (visibility : Visibility) → is_for_all visibility ≡ true → SeenByAll ≡ visibility
is_for_all-All SeenByAll is = refl
is_for_all-All Named is = cc

is_named-self : (n : Namespace) → is_named n.subsystem n.nsid n ≡ true
is_named-self n = and_from (bytes_eq n.subsystem n.subsystem) (n.nsid == n.nsid) (bytes_eq-same n.subsystem n.subsystem refl) (eq-eqb n.nsid n.nsid refl)

module _ (c : Configuration) (valid : IsValid c) (before : List Namespace) (n : Namespace) (after : List Namespace) (whole : before ++ n ∷ after ≡ c.namespaces) where
  are : AreNamespaces c.units c.subsystems (before ++ n ∷ after)
  are = subst (AreNamespaces c.units c.subsystems) (sym whole) valid.namespaces

  sound : IsNamespace c.units c.subsystems n
  sound = item_sound (IsNamespace c.units c.subsystems) before n after are.sound

  new_name : has_namespace before n.subsystem n.nsid ≡ false
  new_name = item_new (λ a b. (a.subsystem ≡ b.subsystem) × (a.nsid ≡ b.nsid)) (is_named n.subsystem n.nsid) before n after are.distinct (λ a named.
      let parts = and_parts (bytes_eq a.subsystem n.subsystem) (a.nsid == n.nsid) named in
      (same_name a.subsystem n.subsystem parts.0, eqb-true a.nsid n.nsid parts.1))

  -- it is added as one that each host sees
  namespace_added : accept (at_namespaces c before) (NamespaceAdd (added_namespace n)) ≡ Ok (at_namespaces c (before ++ seen_by_all n ∷ []))
  namespace_added =
      accept_where_none (at_namespaces c before) (NamespaceAdd (added_namespace n)) (
        not_from_true (is_nsid n.nsid) sound.nsid,
        (
          fits (slice_get c.units n.disk) n.blocks (bytes_of n.block_size) sound.size,
          (
            block_size_there n.block_size,
            (
              sound.uuid,
              (
                not_from_true (is_group n.group) sound.group,
                (
                  not_from_true (has_subsystem c.subsystems n.subsystem) sound.subsystem,
                  (
                    disk_there c.units n.disk n.blocks (bytes_of n.block_size) sound.size,
                    (
                      new_name,
                      (
                        item_new (λ a b. a.uuid ≡ b.uuid) (λ a. bytes_eq a.uuid n.uuid) before n after are.uuids (λ a. same_name a.uuid n.uuid),
                        (
                          item_new (λ a b. a.disk ≡ b.disk) (λ a. a.disk == n.disk) before n after are.disks (λ a. eqb-true a.disk n.disk),
                          tt,
                        ),
                      ),
                    ),
                  ),
                ),
              ),
            ),
          ),
        ),
      )
      ∙ ap (λ (m : Namespace). Ok (at_namespaces c (before ++ m ∷ []))) (namespace_of-added n)

  -- .. and is then seen by those whom it is for
  visibility_set : accept (at_namespaces c (before ++ seen_by_all n ∷ [])) (NamespaceView n.subsystem n.nsid n.visibility) ≡ Ok (at_namespaces c (before ++ n ∷ []))
  visibility_set =
      let named : Namespace → Bool = is_named n.subsystem n.nsid in
      accept_where_none (at_namespaces c (before ++ seen_by_all n ∷ [])) (NamespaceView n.subsystem n.nsid n.visibility) (
        not_from_true (has_subsystem c.subsystems n.subsystem) sound.subsystem,
        (not_from_true (has_namespace (before ++ seen_by_all n ∷ []) n.subsystem n.nsid) (finds_last named before (seen_by_all n) (is_named-self n)), tt),
      )
      ∙ ap (λ l. Ok (at_namespaces c l)) (changed_last named (with_setting (VisibilitySet n.visibility)) before (seen_by_all n) new_name (is_named-self n))

  edits_add_namespace : after_all (at_namespaces c before) (edits_of_namespace n) ≡ Ok (at_namespaces c (before ++ n ∷ []))
  edits_add_namespace =
      cond_both (is_for_all n.visibility) [] (NamespaceView n.subsystem n.nsid n.visibility ∷ []) (λ more. after_all (at_namespaces c before) (NamespaceAdd (added_namespace n) ∷ more) ≡ Ok (at_namespaces c (before ++ n ∷ [])))
      (λ all. after_one (at_namespaces c before) (at_namespaces c (before ++ n ∷ [])) (NamespaceAdd (added_namespace n))
      (namespace_added ∙ ap (λ (v : Visibility). Ok (at_namespaces c (before ++ record n { visibility = v } ∷ []))) (is_for_all-All n.visibility all)))
      (λ named. after_first (at_namespaces c before) (at_namespaces c (before ++ seen_by_all n ∷ [])) (NamespaceAdd (added_namespace n)) (NamespaceView n.subsystem n.nsid n.visibility ∷ []) (Ok (at_namespaces c (before ++ n ∷ []))) namespace_added
      (after_one (at_namespaces c (before ++ seen_by_all n ∷ [])) (at_namespaces c (before ++ n ∷ [])) (NamespaceView n.subsystem n.nsid n.visibility) visibility_set))

pub namespaces_added : (c : Configuration) → IsValid c → AddEach edits_of_namespace (at_namespaces c) c.namespaces
namespaces_added c valid before n after whole = edits_add_namespace c valid before n after whole
