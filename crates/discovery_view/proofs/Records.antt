-- What each edit changes of the records of a configuration: one stretch of them, and no more than it reaches.
use Rattle.std.proofs.Common.{◌≡◌, ℕ, ◌≤◌, ◌+◌, ◌==◌, Bool, true, false, List, [], ◌∷◌, ◌++◌, length, filter, map, refl, sym, ap, ◌∙◌, arith, bytes_eq}
use Rattle.std.specs.List.{AllByRecursion, flat_map}
use Rattle.std.proofs.Math.Path.{fun_ext}
use Rattle.std.proofs.lemmas.Grind.{flat_map-append}
use Rattle.std.proofs.lemmas.List.{map-append}
use Rattle.std.proofs.lemmas.List.Concat.{flat_map-cons}
use Rattle.std.proofs.lemmas.List.Elements.{filter-append}
use Rattle.config_lists.specs.declared.link.Link.{Link}
use Rattle.config_lists.specs.declared.port.Port.{Port}
use Rattle.config_lists.specs.declared.subsystem.Subsystem.{Subsystem}
use Rattle.nvt_config.specs.Configuration.{has_link}
use Rattle.discovery_view.specs.Record.{Parts}
use Rattle.discovery_view.specs.Records.{parts_of, referral_of}
use Rattle.discovery_view.proofs.Changing.{Changes, ahead, behind, changed, changes_where, mapped}
use Rattle.discovery_view.proofs.Splitting.{Fail, every_more}

-- ---- the records, by the lists that they are of

abbrev pub linked : List Link → Port → List Subsystem → List Parts
linked links port subsystems = map (parts_of port) (filter (λ s. has_link links port.id s.nqn) subsystems)

abbrev pub records : List Link → List Subsystem → List Port → List Port → List Parts
records links subsystems ports referrals = flat_map (λ port. linked links port subsystems) ports ++ map referral_of referrals

at_one : {X Y : Type 0} (f : X → List Y) (a : List X) (x : X) (b : List X) → flat_map f (a ++ x ∷ b) ≡ flat_map f a ++ (f x ++ flat_map f b)
at_one f a x b = flat_map-append f a (x ∷ b) ∙ ap (λ zs. flat_map f a ++ zs) (flat_map-cons f x b)

-- ---- ports

pub port_replaced : (links : List Link) (subsystems : List Subsystem) (a : List Port) (p q : Port) (b referrals : List Port) (n : ℕ) → length (linked links q subsystems) ≤ n
    → Changes n (records links subsystems (a ++ p ∷ b) referrals) (records links subsystems (a ++ q ∷ b) referrals)
port_replaced links subsystems a p q b referrals n few =
    let f : Port → List Parts = λ port. linked links port subsystems in
    ahead n _ _ (map referral_of referrals)
    (changes_where n _ _ _ _ (at_one f a p b) (at_one f a q b) (changed n (flat_map f a) (f p) (f q) (flat_map f b) few))

pub port_removed : (links : List Link) (subsystems : List Subsystem) (a : List Port) (p : Port) (b referrals : List Port)
    → Changes 0 (records links subsystems (a ++ p ∷ b) referrals) (records links subsystems (a ++ b) referrals)
port_removed links subsystems a p b referrals =
    let f : Port → List Parts = λ port. linked links port subsystems in
    ahead 0 _ _ (map referral_of referrals)
    (changes_where 0 _ _ _ _ (at_one f a p b) (flat_map-append f a b) (changed 0 (flat_map f a) (f p) [] (flat_map f b) (omega arith)))

pub port_added : (links : List Link) (subsystems : List Subsystem) (a : List Port) (q : Port) (b referrals : List Port) → linked links q subsystems ≡ []
    → Changes 0 (records links subsystems (a ++ b) referrals) (records links subsystems (a ++ q ∷ b) referrals)
port_added links subsystems a q b referrals none =
    let f : Port → List Parts = λ port. linked links port subsystems in
    let few : length (f q) ≤ 0 = rw none (omega arith) in
    ahead 0 _ _ (map referral_of referrals)
    (changes_where 0 _ _ _ _ (flat_map-append f a b) (at_one f a q b) (changed 0 (flat_map f a) [] (f q) (flat_map f b) few))

-- ---- referrals

pub referral_replaced : (links : List Link) (subsystems : List Subsystem) (ports a : List Port) (p q : Port) (b : List Port)
    → Changes 1 (records links subsystems ports (a ++ p ∷ b)) (records links subsystems ports (a ++ q ∷ b))
referral_replaced links subsystems ports a p q b =
    behind 1 _ _ _ (mapped 1 referral_of _ _ (changed 1 a (p ∷ []) (q ∷ []) b (omega arith)))

pub referral_added : (links : List Link) (subsystems : List Subsystem) (ports a : List Port) (q : Port) (b : List Port)
    → Changes 1 (records links subsystems ports (a ++ b)) (records links subsystems ports (a ++ q ∷ b))
referral_added links subsystems ports a q b = behind 1 _ _ _ (mapped 1 referral_of _ _ (changed 1 a [] (q ∷ []) b (omega arith)))

pub referral_removed : (links : List Link) (subsystems : List Subsystem) (ports a : List Port) (p : Port) (b : List Port)
    → Changes 0 (records links subsystems ports (a ++ p ∷ b)) (records links subsystems ports (a ++ b))
referral_removed links subsystems ports a p b = behind 0 _ _ _ (mapped 0 referral_of _ _ (changed 0 a (p ∷ []) [] b (omega arith)))

-- ---- subsystems

same_records : (links : List Link) (one other : List Subsystem) (ports referrals : List Port) → ((port : Port) → linked links port other ≡ linked links port one)
    → records links other ports referrals ≡ records links one ports referrals
same_records links one other ports referrals same =
    ap (λ f. flat_map f ports ++ map referral_of referrals) (fun_ext same)

filter_past : {T : Type 0} (test : T → Bool) (a : List T) (x : T) (b : List T) → test x ≡ false → filter test (a ++ x ∷ b) ≡ filter test (a ++ b)
filter_past test a x b fails = filter-append test a (x ∷ b) ∙ rw fails (sym (filter-append test a b))

-- one that has no link has no record
pub no_record : (links : List Link) (a : List Subsystem) (s : Subsystem) (b : List Subsystem) (ports referrals : List Port) → ((id : ℕ) → has_link links id s.nqn ≡ false)
    → records links (a ++ s ∷ b) ports referrals ≡ records links (a ++ b) ports referrals
no_record links a s b ports referrals none =
    same_records links (a ++ b) (a ++ s ∷ b) ports referrals
    (λ port. ap (map (parts_of port)) (filter_past (λ t. has_link links port.id t.nqn) a s b (none port.id)))

-- one that has the name of another has its records
named_alike : (links : List Link) (port : Port) (s t : Subsystem) (b : List Subsystem) (held : Bool) → t.nqn ≡ s.nqn → has_link links port.id s.nqn ≡ held
    → linked links port (t ∷ b) ≡ linked links port (s ∷ b)
named_alike links port s t b true same is =
    let too : has_link links port.id t.nqn ≡ true = ap (has_link links port.id) same ∙ is in
    rw (is, too) (ap (λ n. record (parts_of port s) { nqn = n } ∷ linked links port b) same)
named_alike links port s t b false same is =
    let too : has_link links port.id t.nqn ≡ false = ap (has_link links port.id) same ∙ is in
    rw (is, too) refl

linked_apart : (links : List Link) (port : Port) (a b : List Subsystem) → linked links port (a ++ b) ≡ linked links port a ++ linked links port b
linked_apart links port a b = ap (map (parts_of port)) (filter-append (λ s. has_link links port.id s.nqn) a b) ∙ map-append (parts_of port) _ _

pub same_name_same_records : (links : List Link) (a : List Subsystem) (s t : Subsystem) (b : List Subsystem) (ports referrals : List Port) → t.nqn ≡ s.nqn
    → records links (a ++ t ∷ b) ports referrals ≡ records links (a ++ s ∷ b) ports referrals
same_name_same_records links a s t b ports referrals same =
    same_records links (a ++ s ∷ b) (a ++ t ∷ b) ports referrals
    (λ port. linked_apart links port a (t ∷ b) ∙ ap (λ zs. linked links port a ++ zs) (named_alike links port s t b _ same refl) ∙ sym (linked_apart links port a (s ∷ b)))

-- ---- links

same_by : {T : Type 0} (one other : T → Bool) (x : T) (xs : List T) (b : Bool) → one x ≡ b → other x ≡ one x → filter other xs ≡ filter one xs
    → filter other (x ∷ xs) ≡ filter one (x ∷ xs)
same_by one other x xs true is same rest = rw (same, is) (ap (λ zs. x ∷ zs) rest)
same_by one other x xs false is same rest = rw (same, is) rest

same_filter : {T : Type 0} (one other : T → Bool) (xs : List T) → AllByRecursion (λ x. other x ≡ one x) xs → filter other xs ≡ filter one xs
same_filter one other [] same = refl
same_filter one other (x ∷ xs) same = same_by one other x xs _ refl same.0 (same_filter one other xs same.1)

same_joined : {X Y : Type 0} (one other : X → List Y) (xs : List X) → AllByRecursion (λ x. other x ≡ one x) xs → flat_map other xs ≡ flat_map one xs
same_joined one other [] same = refl
same_joined one other (x ∷ xs) same =
    flat_map-cons other x xs ∙ ap (λ zs. zs ++ flat_map other xs) same.0 ∙ ap (λ zs. one x ++ zs) (same_joined one other xs same.1) ∙ sym (flat_map-cons one x xs)

-- the links that one port has to one subsystem are others
pub record LinksDiffer (port : ℕ) (nqn : List ℕ) (one other : List Link) : Type 0 where
  pub ports : (id : ℕ) (n : List ℕ) → (id == port) ≡ false → has_link other id n ≡ has_link one id n
  pub names : (id : ℕ) (n : List ℕ) → bytes_eq n nqn ≡ false → has_link other id n ≡ has_link one id n

one_port : (port : ℕ) (nqn : List ℕ) (one other : List Link) (p : Port) (a : List Subsystem) (s : Subsystem) (b : List Subsystem) (n : ℕ) → LinksDiffer port nqn one other
    → Fail (λ (t : Subsystem). bytes_eq t.nqn nqn) a → Fail (λ (t : Subsystem). bytes_eq t.nqn nqn) b → length (filter (λ (t : Subsystem). has_link other p.id t.nqn) (s ∷ [])) ≤ n
    → Changes n (linked one p (a ++ s ∷ b)) (linked other p (a ++ s ∷ b))
one_port port nqn one other p a s b n differ before after few =
    let old : Subsystem → Bool = λ t. has_link one p.id t.nqn in
    let new : Subsystem → Bool = λ t. has_link other p.id t.nqn in
    let same : (t : Subsystem) → bytes_eq t.nqn nqn ≡ false → new t ≡ old t = λ t apart. differ.names p.id t.nqn apart in
    let first = same_filter old new a (every_more (λ t. bytes_eq t.nqn nqn ≡ false) (λ t. new t ≡ old t) same a before) in
    let last = same_filter old new b (every_more (λ t. bytes_eq t.nqn nqn ≡ false) (λ t. new t ≡ old t) same b after) in
    mapped n (parts_of p) _ _
    (changes_where n _ _ _ _
    (filter-append old a (s ∷ b) ∙ ap (λ zs. filter old a ++ zs) (filter-append old (s ∷ []) b))
    (filter-append new a (s ∷ b) ∙ ap (λ zs. filter new a ++ zs) (filter-append new (s ∷ []) b) ∙ ap (λ zs. zs ++ (filter new (s ∷ []) ++ filter new b)) first
    ∙ ap (λ zs. filter old a ++ (filter new (s ∷ []) ++ zs)) last)
    (changed n (filter old a) (filter old (s ∷ [])) (filter new (s ∷ [])) (filter old b) few))

other_port : (port : ℕ) (nqn : List ℕ) (one other : List Link) (p : Port) (subsystems : List Subsystem) → LinksDiffer port nqn one other → (p.id == port) ≡ false
    → linked other p subsystems ≡ linked one p subsystems
other_port port nqn one other p subsystems differ apart =
    ap (λ f. map (parts_of p) (filter (λ (s : Subsystem). f s.nqn) subsystems)) (fun_ext (λ n. differ.ports p.id n apart))

pub links_changed : (port : ℕ) (nqn : List ℕ) (one other : List Link) (a : List Port) (p : Port) (b : List Port) (c : List Subsystem) (s : Subsystem) (d : List Subsystem)
    (referrals : List Port) (n : ℕ) → LinksDiffer port nqn one other
    → Fail (λ (q : Port). q.id == port) a → Fail (λ (q : Port). q.id == port) b → Fail (λ (t : Subsystem). bytes_eq t.nqn nqn) c → Fail (λ (t : Subsystem). bytes_eq t.nqn nqn) d
    → length (filter (λ (t : Subsystem). has_link other p.id t.nqn) (s ∷ [])) ≤ n
    → Changes n (records one (c ++ s ∷ d) (a ++ p ∷ b) referrals) (records other (c ++ s ∷ d) (a ++ p ∷ b) referrals)
links_changed port nqn one other a p b c s d referrals n differ before after first last few =
    let subsystems = c ++ s ∷ d in
    let old : Port → List Parts = λ q. linked one q subsystems in
    let new : Port → List Parts = λ q. linked other q subsystems in
    let same : (q : Port) → (q.id == port) ≡ false → new q ≡ old q = λ q apart. other_port port nqn one other q subsystems differ apart in
    let front = same_joined old new a (every_more (λ q. (q.id == port) ≡ false) (λ q. new q ≡ old q) same a before) in
    let rest = same_joined old new b (every_more (λ q. (q.id == port) ≡ false) (λ q. new q ≡ old q) same b after) in
    ahead n _ _ (map referral_of referrals)
    (changes_where n _ _ _ _ (at_one old a p b)
    (at_one new a p b ∙ ap (λ zs. zs ++ (new p ++ flat_map new b)) front ∙ ap (λ zs. flat_map old a ++ (new p ++ zs)) rest)
    (behind n (flat_map old a) _ _ (ahead n _ _ (flat_map old b) (one_port port nqn one other p c s d n differ first last few))))
