-- A host sees what each host sees, and what it is shown.
use Rattle.std.proofs.Common.{◌≡◌, ◌↔◌, ◌==◌, ◌∷◌, [], ℕ, Bool, true, List, All, AllPairs, Any, Contains, filter, get_or, refl, sym, ap, ◌∙◌, subst, inl, inr, arith}
use Rattle.std.proofs.lemmas.Bool.{and_parts, cases_Bool, eqb-true, eq-eqb, and_from, or_cases, or_left, or_right}
use Rattle.std.proofs.lemmas.List.Elements.{All-cons, All-contains, All-contains_itself, All-filter, All-weaker, Contains-append_right, Contains-get_or, filter_passes}
use Rattle.std.proofs.lemmas.List.Folds.{Any-from_list_any, list_any_at}
use Rattle.std.proofs.lemmas.List.Kept.{AllPairs-filter}
use Rattle.std.specs.Str.{bytes_eq}
use Rattle.config_lists.specs.declared.namespace.Namespace.{Namespace}
use Rattle.config_lists.specs.declared.namespace.Visibility.{Visibility}
use Rattle.config_lists.specs.declared.namespace.Visibility.TheVariants.{All as ForAll, Named}
use Rattle.config_lists.specs.declared.show.Show.{Show}
use Rattle.config_lists.specs.Namespace.{is_for_all}
use Rattle.config_lists.specs.Show.{has_show, is_seen, is_show_of, is_show_to}
use Rattle.config_lists.proofs.Names.{bytes_eq-same, same_name}
use Rattle.nvt_config.specs.Configuration.{Configuration}
use Rattle.nvt_config.specs.SeenBy.{SeesNamespace, SeesWhatIsShown, seen_by, seen_by_strangers}
use Rattle.nvt_config.specs.Valid.{AreShows, IsNamespace, IsValid}

-- ---- what passes a test

head_of : {X : Type 0} (x : X) (xs : List X) → Contains (x ∷ xs) x
head_of x xs = Contains-get_or (x ∷ xs) 0 x (omega arith)

each_kept : {X : Type 0} (p : X → Bool) (xs : List X) → All (λ x. p x ≡ true → Contains (filter p xs) x) xs
each_kept {X = X} p [] = λ k d below. absurd (omega arith)
each_kept {X = X} p (x ∷ xs) =
    All-cons (λ y. p y ≡ true → Contains (filter p (x ∷ xs)) y) x xs
    (λ passes. rw passes (head_of x (filter p xs)))
    (All-weaker (λ y. p y ≡ true → Contains (filter p xs) y) (λ y. p y ≡ true → Contains (filter p (x ∷ xs)) y) (λ y kept passes. elim (cases_Bool (p x)) [
      | inl is ↦ rw is (Contains-append_right (x ∷ []) (filter p xs) y (kept passes))
      | inr left ↦ rw left (kept passes)
    ]) xs (each_kept p xs))

kept : {X : Type 0} (p : X → Bool) (xs : List X) (x : X) → Contains (filter p xs) x ↔ (Contains xs x × (p x ≡ true))
kept p xs x = (
  λ there. (
    All-contains (Contains xs) (filter p xs) x (All-filter p (Contains xs) xs (All-contains_itself xs)) there,
    All-contains (λ y. p y ≡ true) (filter p xs) x (filter_passes p xs) there,
  ),
  λ both. All-contains (λ y. p y ≡ true → Contains (filter p xs) y) xs x (each_kept p xs) both.0 both.1,
)

-- ---- who sees a namespace

for_all : (v : Visibility) → is_for_all v ≡ true → v ≡ ForAll
for_all ForAll is = refl
for_all Named is = cc

same_show : (s t : Show) → s.subsystem ≡ t.subsystem → s.nsid ≡ t.nsid → s.host ≡ t.host → s ≡ t
same_show s t subsystem nsid host =
    ap (λ (x : List ℕ). record s { subsystem = x }) subsystem
    ∙ ap (λ (x : ℕ). record s { subsystem = t.subsystem; nsid = x }) nsid
    ∙ ap (λ (x : List ℕ). record t { host = x }) host

is_show : (subsystem : List ℕ) (nsid : ℕ) (host : List ℕ) (s : Show) → is_show_to subsystem nsid host s ≡ true
    → s ≡ (let t : Show = record { subsystem = subsystem; nsid = nsid; host = host } in t)
is_show subsystem nsid host s is =
    let parts = and_parts (is_show_of subsystem nsid s) (bytes_eq s.host host) is in
    let names = and_parts (s.nsid == nsid) (bytes_eq s.subsystem subsystem) parts.0 in
    same_show s (record { subsystem = subsystem; nsid = nsid; host = host }) (same_name s.subsystem subsystem names.1) (eqb-true s.nsid nsid names.0) (same_name s.host host parts.1)

is_shown : (shows : List Show) (subsystem : List ℕ) (nsid : ℕ) (host : List ℕ)
    → has_show shows subsystem nsid host ≡ true ↔ Contains shows (record { subsystem = subsystem; nsid = nsid; host = host })
is_shown shows subsystem nsid host =
    let show : Show = record { subsystem = subsystem; nsid = nsid; host = host } in
    let test : Show → Bool = is_show_to subsystem nsid host in (
      λ found.
          let any : Any (λ s. test s ≡ true) shows = Any-from_list_any test shows found in
          let there : Contains shows any.1 = (any.0, any.2, any.3) in
          subst (λ (s : Show). Contains shows s) (is_show subsystem nsid host any.1 any.4) there,
      λ there.
          let same : test show ≡ true = and_from (is_show_of subsystem nsid show) (bytes_eq host host) (and_from (nsid == nsid) (bytes_eq subsystem subsystem) (eq-eqb nsid nsid refl) (bytes_eq-same subsystem subsystem refl)) (bytes_eq-same host host refl) in
          list_any_at test shows there.0 show there.1 (subst (λ (s : Show). test s ≡ true) (sym there.2) same),
    )

sees : (c : Configuration) (host : List ℕ) (n : Namespace) → is_seen c.shows host n ≡ true ↔ SeesNamespace c host n
sees c host n =
    let shown = is_shown c.shows n.subsystem n.nsid host in
    let all : Bool = is_for_all n.visibility in
    let named : Bool = has_show c.shows n.subsystem n.nsid host in (
      λ is. elim (or_cases all named is) [ inl each ↦ inl (for_all n.visibility each) | inr one ↦ inr (shown.0 one) ],
      λ is. elim is [
        | inl each ↦ or_left all named (ap is_for_all each)
        | inr there ↦ or_right all named (shown.1 there)
      ],
    )

-- ---- what it sees is a configuration

no_shows : (c : Configuration) → AreShows c.namespaces c.hosts []
no_shows c = record {
  count = omega arith;
  sound = λ k d below. absurd (omega arith);
  distinct = λ i j d less below. absurd (omega arith);
}

seen_valid : (c : Configuration) (host : List ℕ) → IsValid c → IsValid (seen_by c host)
seen_valid c host valid =
    let stays : Namespace → Bool = is_seen c.shows host in
    record {
      disks = valid.disks;
      subsystems = valid.subsystems;
      namespaces = record {
        sound = All-filter stays (IsNamespace c.units c.subsystems) c.namespaces valid.namespaces.sound;
        distinct = AllPairs-filter (λ a b. ¬ ((a.subsystem ≡ b.subsystem) × (a.nsid ≡ b.nsid))) stays c.namespaces valid.namespaces.distinct;
        disks = AllPairs-filter (λ a b. ¬ (a.disk ≡ b.disk)) stays c.namespaces valid.namespaces.disks;
        uuids = AllPairs-filter (λ a b. ¬ (a.uuid ≡ b.uuid)) stays c.namespaces valid.namespaces.uuids;
      };
      ports = valid.ports;
      links = valid.links;
      hosts = valid.hosts;
      allows = valid.allows;
      states = valid.states;
      referrals = valid.referrals;
      shows = no_shows (seen_by c host);
    }

-- what strangers see is what a host sees where nothing is shown
nothing_shown : (c : Configuration) → IsValid c → IsValid (record c { shows = [] })
nothing_shown c valid = record {
  disks = valid.disks;
  subsystems = valid.subsystems;
  namespaces = valid.namespaces;
  ports = valid.ports;
  links = valid.links;
  hosts = valid.hosts;
  allows = valid.allows;
  states = valid.states;
  referrals = valid.referrals;
  shows = no_shows c;
}

pub strangers_valid : (c : Configuration) → IsValid c → IsValid (seen_by_strangers c)
strangers_valid c valid = seen_valid (record c { shows = [] }) [] (nothing_shown c valid)

pub sees_what_is_shown : SeesWhatIsShown
sees_what_is_shown = record {
  namespaces = λ c host n.
      let both = kept (is_seen c.shows host) c.namespaces n in
      let who = sees c host n in
      (λ there. ((both.0 there).0, who.0 (both.0 there).1), λ there. both.1 (there.0, who.1 there.1));
  valid = seen_valid;
}
