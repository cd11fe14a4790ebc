-- Which edits change the records of nobody, or of one host alone.
use Rattle.std.proofs.Common.{◌≡◌, ℕ, Bool, true, false, ◌&&◌, ◌||◌, ◌⊎◌, List, [], ◌∷◌, ◌++◌, Ok, bytes_eq, refl, ap, sym, subst, ◌∙◌, inl, inr}
use Rattle.std.proofs.Math.Path.{fun_ext}
use Rattle.std.proofs.lemmas.Bool.{cases_Bool, both_ways, false_from_ne_true}
use Rattle.std.proofs.lemmas.List.Folds.{list_any-append}
use Rattle.config_lists.specs.declared.edit.Edit.{Edit}
use Rattle.config_lists.specs.declared.edit.Edit.TheVariants.{NamespaceAdd, NamespaceSize, NamespaceGroup, NamespaceDel, NamespaceView, NamespaceShow, NamespaceHide, HostDel, AllowAdd, AllowDel, AnaSet}
use Rattle.config_lists.specs.declared.edit.NewNamespace.{NewNamespace}
use Rattle.config_lists.specs.declared.allow.Allow.{Allow}
use Rattle.config_lists.specs.declared.group_state.AnaState.{AnaState}
use Rattle.config_lists.specs.declared.group_state.GroupState.{GroupState}
use Rattle.config_lists.specs.declared.host.Host.{Host}
use Rattle.config_lists.specs.declared.namespace.Namespace.{Namespace}
use Rattle.config_lists.specs.declared.namespace.Visibility.{Visibility}
use Rattle.config_lists.specs.declared.show.Show.{Show}
use Rattle.config_lists.specs.Lists.{without}
use Rattle.nvt_config.specs.Accept.{accept, effect}
use Rattle.nvt_config.specs.Configuration.{Configuration, has_allow, with_allow, without_allow}
use Rattle.nvt_config.proofs.Refusals.{is_effect}
use Rattle.nvt_config.proofs.States.{states_alone}
use Rattle.discovery_view.specs.declared.allowed.Allowance.{Allowance}
use Rattle.discovery_view.specs.declared.allowed.Allowance.TheVariants.{Given, Taken}
use Rattle.discovery_view.specs.Allowed.{allows_after, edit_of, host_of}
use Rattle.discovery_view.specs.Reach.{Leaves, no_host}
use Rattle.discovery_view.proofs.Rows.{same_name, turned}
use Rattle.discovery_view.proofs.Strangers.{shown_who}

-- ---- what no record tells of

other_namespaces : (c : Configuration) (namespaces : List Namespace) (shows : List Show) → Leaves no_host c (record c { namespaces = namespaces; shows = shows })
other_namespaces c namespaces shows = record { catalog = refl; places = λ host apart. refl }

other_states : (c : Configuration) (states : List GroupState) → Leaves no_host c (record c { states = states })
other_states c states = record { catalog = refl; places = λ host apart. refl }

other_hosts : (c : Configuration) (hosts : List Host) → Leaves no_host c (record c { hosts = hosts })
other_hosts c hosts = record { catalog = refl; places = λ host apart. refl }

-- ---- who is allowed

apart_too : (a b : List ℕ) → bytes_eq a b ≡ false → bytes_eq b a ≡ false
apart_too a b apart = false_from_ne_true (bytes_eq b a) (λ same. both_ways (bytes_eq a b) apart (turned b a same))

nothing_more : (b s : Bool) → (b || ((s && false) || false)) ≡ b
nothing_more true s = refl
nothing_more false true = refl
nothing_more false false = refl

one_added : (allows : List Allow) (a : Allow) (nqn host : List ℕ) → bytes_eq host a.host ≡ false → has_allow (allows ++ a ∷ []) nqn host ≡ has_allow allows nqn host
one_added allows a nqn host apart =
    list_any-append (λ (b : Allow). bytes_eq b.subsystem nqn && bytes_eq b.host host) allows (a ∷ [])
    ∙ ap (λ t. has_allow allows nqn host || ((bytes_eq a.subsystem nqn && t) || false)) (apart_too host a.host apart)
    ∙ nothing_more (has_allow allows nqn host) (bytes_eq a.subsystem nqn)

two_tests : (s t : Bool) → (s && t) ≡ true → t ≡ true
two_tests true t both = both
two_tests false t both = absurd (cc)

not_this : (s r : Bool) → r ≡ ((s && false) || r)
not_this true r = refl
not_this false r = refl

some_removed : (allows : List Allow) (nqn name other host : List ℕ) → bytes_eq host name ≡ false
    → has_allow (without (λ a. bytes_eq a.subsystem nqn && bytes_eq a.host name) allows) other host ≡ has_allow allows other host
some_removed [] nqn name other host apart = refl
some_removed (a ∷ allows) nqn name other host apart =
    let rest = some_removed allows nqn name other host apart in
    elim (cases_Bool (bytes_eq a.subsystem nqn && bytes_eq a.host name)) [
      | inl goes ↦
          let its = same_name a.host name (two_tests (bytes_eq a.subsystem nqn) (bytes_eq a.host name) goes) in
          let not_his : bytes_eq a.host host ≡ false = ap (λ h. bytes_eq h host) its ∙ apart_too host name apart in
          rw goes (rest ∙ not_this (bytes_eq a.subsystem other) (has_allow allows other host) ∙ ap (λ t. (bytes_eq a.subsystem other && t) || has_allow allows other host) (sym not_his))
      | inr stays ↦ rw stays (ap (λ r. (bytes_eq a.subsystem other && bytes_eq a.host host) || r) rest)
    ]

with_one : (c : Configuration) (a : Allow) → Leaves (λ host. bytes_eq host a.host) c (with_allow c a)
with_one c a = record {
  catalog = refl;
  places = λ host apart. ap (shown_who c) (fun_ext (λ nqn. one_added c.allows a nqn host apart));
}

without_one : (c : Configuration) (nqn name : List ℕ) → Leaves (λ host. bytes_eq host name) c (without_allow c nqn name)
without_one c nqn name = record {
  catalog = refl;
  places = λ host apart. ap (shown_who c) (fun_ext (λ other. some_removed c.allows nqn name other host apart));
}

-- an allowance that is given or taken
pub allowance_leaves : (c : Configuration) (a : Allowance) → Leaves (λ other. bytes_eq other (host_of a)) c (record c { allows = allows_after c.allows a })
allowance_leaves c (Given nqn host) = with_one c (record { subsystem = nqn.now; host = host.now })
allowance_leaves c (Taken nqn host) = without_one c nqn.now host.now

pub allowance_becomes : (c : Configuration) (a : Allowance) (d : Configuration) → accept c (edit_of a) ≡ Ok d → d ≡ record c { allows = allows_after c.allows a }
allowance_becomes c (Given nqn host) d is = is_effect c d (AllowAdd nqn.now host.now) is
allowance_becomes c (Taken nqn host) d is = is_effect c d (AllowDel nqn.now host.now) is

-- ---- what an edit reaches

then_leaves : (c d : Configuration) (edit was : Edit) → edit ≡ was → accept c edit ≡ Ok d → Leaves no_host c (effect c was) → Leaves no_host c d
then_leaves c d edit was is ok leaves = subst (Leaves no_host c) (sym (is_effect c d edit ok ∙ ap (effect c) is)) leaves

pub nobody_reached : (edit : Edit)
    → ((n : NewNamespace) × (edit ≡ NamespaceAdd n))
    ⊎ (((nqn : List ℕ) × (nsid : ℕ) × (blocks : ℕ) × (edit ≡ NamespaceSize nqn nsid blocks))
    ⊎ (((nqn : List ℕ) × (nsid : ℕ) × (group : ℕ) × (edit ≡ NamespaceGroup nqn nsid group))
    ⊎ (((nqn : List ℕ) × (nsid : ℕ) × (edit ≡ NamespaceDel nqn nsid))
    ⊎ (((nqn : List ℕ) × (nsid : ℕ) × (visibility : Visibility) × (edit ≡ NamespaceView nqn nsid visibility))
    ⊎ (((nqn : List ℕ) × (nsid : ℕ) × (host : List ℕ) × (edit ≡ NamespaceShow nqn nsid host))
    ⊎ (((nqn : List ℕ) × (nsid : ℕ) × (host : List ℕ) × (edit ≡ NamespaceHide nqn nsid host))
    ⊎ (((nqn : List ℕ) × (edit ≡ HostDel nqn))
    ⊎ ((port : ℕ) × (nqn : List ℕ) × (group : ℕ) × (state : AnaState) × (edit ≡ AnaSet port nqn group state)))))))))
    → (c d : Configuration) → accept c edit ≡ Ok d → Leaves no_host c d
nobody_reached edit (inl (n, is)) c d ok = then_leaves c d edit (NamespaceAdd n) is ok (other_namespaces c _ _)
nobody_reached edit (inr (inl (nqn, nsid, blocks, is))) c d ok = then_leaves c d edit (NamespaceSize nqn nsid blocks) is ok (other_namespaces c _ _)
nobody_reached edit (inr (inr (inl (nqn, nsid, group, is)))) c d ok = then_leaves c d edit (NamespaceGroup nqn nsid group) is ok (other_namespaces c _ _)
nobody_reached edit (inr (inr (inr (inl (nqn, nsid, is))))) c d ok = then_leaves c d edit (NamespaceDel nqn nsid) is ok (other_namespaces c _ _)
nobody_reached edit (inr (inr (inr (inr (inl (nqn, nsid, visibility, is)))))) c d ok = then_leaves c d edit (NamespaceView nqn nsid visibility) is ok (other_namespaces c _ _)
nobody_reached edit (inr (inr (inr (inr (inr (inl (nqn, nsid, host, is))))))) c d ok = then_leaves c d edit (NamespaceShow nqn nsid host) is ok (other_namespaces c _ _)
nobody_reached edit (inr (inr (inr (inr (inr (inr (inl (nqn, nsid, host, is)))))))) c d ok = then_leaves c d edit (NamespaceHide nqn nsid host) is ok (other_namespaces c _ _)
nobody_reached edit (inr (inr (inr (inr (inr (inr (inr (inl (nqn, is))))))))) c d ok = then_leaves c d edit (HostDel nqn) is ok (other_hosts c _)
nobody_reached edit (inr (inr (inr (inr (inr (inr (inr (inr (port, nqn, group, state, is))))))))) c d ok =
    then_leaves c d edit (AnaSet port nqn group state) is ok (subst (Leaves no_host c) (sym (states_alone c port nqn group state)) (other_states c _))
