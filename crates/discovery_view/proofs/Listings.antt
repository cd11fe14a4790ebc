-- The records of a page come in rising order, and are those that the host is shown.
use Rattle.std.proofs.Common.{◌≡◌, ◌≢◌, ◌⊎◌, ◌==◌, ◌&&◌, ◌||◌, ◌++◌, ◌∷◌, [], ℕ, zero, suc, Bool, true, List, All, AllPairs, Contains, nat_lt, get_or, filter, map, refl, sym, ◌∙◌, subst, ap, inl, inr, arith}
use Rattle.std.proofs.lemmas.Bool.{cases_Bool, cases_order, both_ways, lt-ltb, ltb-true}
use Rattle.std.proofs.lemmas.Bool.Decides.{nat_tests}
use Rattle.std.proofs.lemmas.List.Elements.{All-append, All-cons, All-contains, All-contains_itself, All-head, All-map, All-nil, All-tail, All-weaker, Contains-append_left, Contains-append_right}
use Rattle.std.proofs.lemmas.List.Kept.{AllPairs-cons, AllPairs-filter}
use Rattle.std.specs.List.{flat_map}
use Rattle.config_lists.specs.declared.port.Port.{Port}
use Rattle.config_lists.specs.declared.subsystem.Subsystem.{Subsystem}
use Rattle.nvt_config.specs.Configuration.{Configuration}
use Rattle.nvt_config.specs.Valid.{ArePorts, IsValid}
use Rattle.nvt_config.specs.Permission.{may_use}
use Rattle.discovery_view.specs.declared.record.Subtype.TheVariants.{Referral, NvmSubsystem}
use Rattle.discovery_view.specs.Listing.{IsBefore, IsListing, IsReferral, IsServed, IsShown}
use Rattle.discovery_view.specs.Order.{in_order, name_below, put_in_order}
use Rattle.discovery_view.specs.Record.{Parts}
use Rattle.discovery_view.specs.Records.{parts_of, ports_in_order, records_of, records_on, referral_of, referrals_in_order, subsystems_in_order}
use Rattle.discovery_view.proofs.Orders.{All-in_order, All-put}

-- what a list with one more element in front contains
first_in : {T : Type 0} (x : T) (xs : List T) → Contains (x ∷ xs) x
first_in x xs = (0, omega arith, refl)

later_in : {T : Type 0} (x : T) (xs : List T) (y : T) → Contains xs y → Contains (x ∷ xs) y
later_in x xs y (k, below, is) = (suc k, omega arith, is)

either_in : {T : Type 0} (x : T) (xs : List T) (y : T) → Contains (x ∷ xs) y → (x ≡ y) ⊎ Contains xs y
either_in x xs y (zero, below, is) = inl is
either_in x xs y (suc k, below, is) = inr (k, omega arith, is)

nothing_in : {T : Type 0} (y : T) → Contains {X = T} [] y → ⊥
nothing_in y (k, below, is) = omega arith

-- the elements in order are those of the list
in_put : {T : Type 0} (below : T → T → Bool) (x : T) (xs : List T) (y : T) → Contains (x ∷ xs) y → Contains (put_in_order below x xs) y
in_put below x [] y found = found
in_put {T = T} below x (z ∷ xs) y found =
    elim (cases_Bool (below x z)) [
      | inl before ↦ rw before found
      | inr behind ↦ rw behind (elim (either_in x (z ∷ xs) y found) [
        | inl here ↦ later_in z (put_in_order below x xs) y (in_put below x xs y (subst (λ (w : T). Contains (x ∷ xs) w) here (first_in x xs)))
        | inr there ↦ elim (either_in z xs y there) [
          | inl next ↦ subst (λ (w : T). Contains (z ∷ put_in_order below x xs) w) next (first_in z (put_in_order below x xs))
          | inr rest ↦ later_in z (put_in_order below x xs) y (in_put below x xs y (later_in x xs y rest))
        ]
      ])
    ]

into_order : {T : Type 0} (below : T → T → Bool) (xs : List T) (y : T) → Contains xs y → Contains (in_order below xs) y
into_order below [] y found = found
into_order {T = T} below (x ∷ xs) y found =
    in_put below x (in_order below xs) y (elim (either_in x xs y found) [
      | inl here ↦ subst (λ (w : T). Contains (x ∷ in_order below xs) w) here (first_in x (in_order below xs))
      | inr there ↦ later_in x (in_order below xs) y (into_order below xs y there)
    ])

out_of_order : {T : Type 0} (below : T → T → Bool) (xs : List T) → All (Contains xs) (in_order below xs)
out_of_order below xs = All-in_order (Contains xs) below xs (All-contains_itself xs)

-- an element that passes is in what is kept, and each that is kept passes
in_filter : {T : Type 0} (test : T → Bool) (xs : List T) (y : T) → Contains xs y → test y ≡ true → Contains (filter test xs) y
in_filter test [] y found passes = found
in_filter {T = T} test (x ∷ xs) y found passes =
    elim (either_in x xs y found) [
      | inl here ↦
          let first : test x ≡ true = ap test here ∙ passes in
          rw first (subst (λ (w : T). Contains (x ∷ filter test xs) w) here (first_in x (filter test xs)))
      | inr there ↦ elim (cases_Bool (test x)) [
        | inl first ↦ rw first (later_in x (filter test xs) y (in_filter test xs y there passes))
        | inr fails ↦ rw fails (in_filter test xs y there passes)
      ]
    ]

All-kept : {T : Type 0} (P : T → Type 0) (test : T → Bool) (xs : List T) → All (λ x. test x ≡ true → P x) xs → All P (filter test xs)
All-kept P test [] all = All-nil P
All-kept P test (x ∷ xs) all =
    let rest = All-kept P test xs (All-tail (λ y. test y ≡ true → P y) x xs all) in
    elim (cases_Bool (test x)) [
      | inl first ↦ rw first (All-cons P x (filter test xs) (All-head (λ y. test y ≡ true → P y) x xs all first) rest)
      | inr fails ↦ rw fails rest
    ]

in_map : {S T : Type 0} (f : S → T) (xs : List S) (x : S) → Contains xs x → Contains (map f xs) (f x)
in_map f [] x found = absurd (nothing_in x found)
in_map {T = T} f (y ∷ xs) x found =
    elim (either_in y xs x found) [
      | inl here ↦ subst (λ (w : T). Contains (f y ∷ map f xs) w) (ap f here) (first_in (f y) (map f xs))
      | inr there ↦ later_in (f y) (map f xs) (f x) (in_map f xs x there)
    ]

in_joined : {S T : Type 0} (f : S → List T) (xs : List S) (x : S) (y : T) → Contains xs x → Contains (f x) y → Contains (flat_map f xs) y
in_joined f [] x y found inside = absurd (nothing_in x found)
in_joined {S = S} f (z ∷ xs) x y found inside =
    elim (either_in z xs x found) [
      | inl here ↦ Contains-append_left (f z) (flat_map f xs) y (subst (λ (w : S). Contains (f w) y) (sym here) inside)
      | inr there ↦ Contains-append_right (f z) (flat_map f xs) y (in_joined f xs x y there inside)
    ]

All-joined : {S T : Type 0} (P : T → Type 0) (f : S → List T) (xs : List S) → All (λ x. All P (f x)) xs → All P (flat_map f xs)
All-joined P f [] all = All-nil P
All-joined P f (x ∷ xs) all =
    All-append P (f x) (flat_map f xs) (All-head (λ y. All P (f y)) x xs all) (All-joined P f xs (All-tail (λ y. All P (f y)) x xs all))

-- pairs
AllPairs-head : {T : Type 0} (R : T → T → Type 0) (x : T) (xs : List T) → AllPairs R (x ∷ xs) → All (R x) xs
AllPairs-head R x xs pairs = λ k d below. pairs 0 (suc k) d (omega arith) (omega arith)

AllPairs-tail : {T : Type 0} (R : T → T → Type 0) (x : T) (xs : List T) → AllPairs R (x ∷ xs) → AllPairs R xs
AllPairs-tail R x xs pairs = λ i j d less below. pairs (suc i) (suc j) d (omega arith) (omega arith)

AllPairs-nil : {T : Type 0} (R : T → T → Type 0) → AllPairs R []
AllPairs-nil R = λ i j d less below. absurd (omega arith)

AllPairs-append : {T : Type 0} (R : T → T → Type 0) (xs ys : List T) → AllPairs R xs → AllPairs R ys → All (λ x. All (R x) ys) xs → AllPairs R (xs ++ ys)
AllPairs-append R [] ys one other between = other
AllPairs-append R (x ∷ xs) ys one other between =
    AllPairs-cons R x (xs ++ ys)
    (All-append (R x) xs ys (AllPairs-head R x xs one) (All-head (λ y. All (R y) ys) x xs between))
    (AllPairs-append R xs ys (AllPairs-tail R x xs one) other (All-tail (λ y. All (R y) ys) x xs between))

AllPairs-map : {S T : Type 0} (R : T → T → Type 0) (f : S → T) (xs : List S) → AllPairs (λ x y. R (f x) (f y)) xs → AllPairs R (map f xs)
AllPairs-map R f [] pairs = AllPairs-nil R
AllPairs-map R f (x ∷ xs) pairs =
    AllPairs-cons R (f x) (map f xs)
    (All-map (R (f x)) f xs (AllPairs-head (λ y z. R (f y) (f z)) x xs pairs))
    (AllPairs-map R f xs (AllPairs-tail (λ y z. R (f y) (f z)) x xs pairs))

AllPairs-joined : {S T : Type 0} (Q : S → S → Type 0) (R : T → T → Type 0) (f : S → List T) → ((x : S) → AllPairs R (f x)) → ((x y : S) → Q x y → All (λ p. All (R p) (f y)) (f x)) → (xs : List S) → AllPairs Q xs → AllPairs R (flat_map f xs)
AllPairs-joined Q R f each across [] pairs = AllPairs-nil R
AllPairs-joined Q R f each across (x ∷ xs) pairs =
    AllPairs-append R (f x) (flat_map f xs) (each x)
    (AllPairs-joined Q R f each across xs (AllPairs-tail Q x xs pairs))
    (λ k d below. All-joined (R (get_or (f x) k d)) f xs (All-weaker (Q x) (λ y. All (R (get_or (f x) k d)) (f y)) (λ y apart. across x y apart k d below) xs (AllPairs-head Q x xs pairs)))

-- each element is below the ones after it
sorted_put : {T : Type 0} (below : T → T → Bool) → ((x y z : T) → below x y ≡ true → below y z ≡ true → below x z ≡ true) → (x : T) (xs : List T) → AllPairs (λ y z. below y z ≡ true) xs → All (λ y. (below x y ≡ true) ⊎ (below y x ≡ true)) xs → AllPairs (λ y z. below y z ≡ true) (put_in_order below x xs)
sorted_put below chain x [] sorted apart = AllPairs-cons (λ y z. below y z ≡ true) x [] (All-nil (λ y. below x y ≡ true)) sorted
sorted_put {T = T} below chain x (y ∷ xs) sorted apart =
    let R : T → T → Type 0 = λ u v. below u v ≡ true in
    let above : All (R y) xs = AllPairs-head R y xs sorted in
    elim (cases_Bool (below x y)) [
      | inl before ↦ rw before (AllPairs-cons R x (y ∷ xs) (All-cons (R x) y xs before (All-weaker (R y) (R x) (λ z next. chain x y z before next) xs above)) sorted)
      | inr behind ↦
          let first : below y x ≡ true = elim (All-head (λ z. (below x z ≡ true) ⊎ (below z x ≡ true)) y xs apart) [ inl before ↦ absurd (both_ways (below x y) behind before) | inr after ↦ after ] in
          rw behind (AllPairs-cons R y (put_in_order below x xs) (All-put (R y) below x xs first above)
          (sorted_put below chain x xs (AllPairs-tail R y xs sorted) (All-tail (λ z. (below x z ≡ true) ⊎ (below z x ≡ true)) y xs apart)))
    ]

sorted_in_order : {T : Type 0} (below : T → T → Bool) → ((x y z : T) → below x y ≡ true → below y z ≡ true → below x z ≡ true) → (xs : List T) → AllPairs (λ x y. (below x y ≡ true) ⊎ (below y x ≡ true)) xs → AllPairs (λ x y. below x y ≡ true) (in_order below xs)
sorted_in_order below chain [] apart = AllPairs-nil (λ x y. below x y ≡ true)
sorted_in_order {T = T} below chain (x ∷ xs) apart =
    let D : T → T → Type 0 = λ u v. (below u v ≡ true) ⊎ (below v u ≡ true) in
    sorted_put below chain x (in_order below xs) (sorted_in_order below chain xs (AllPairs-tail D x xs apart)) (All-in_order (D x) below xs (AllPairs-head D x xs apart))

-- names
heads_chain : (a b c : ℕ) (x y z : Bool) → (x ≡ true → y ≡ true → z ≡ true) → (nat_lt a b || ((a == b) && x)) ≡ true → (nat_lt b c || ((b == c) && y)) ≡ true → (nat_lt a c || ((a == c) && z)) ≡ true
heads_chain a b c x y z rest one other = grind (arith, nat_tests, rest)

heads_apart : (a b : ℕ) (x y : Bool) → (a ≡ b → (x ≡ true) ⊎ (y ≡ true)) → ((nat_lt a b || ((a == b) && x)) ≡ true) ⊎ ((nat_lt b a || ((b == a) && y)) ≡ true)
heads_apart a b x y rest =
    elim (cases_order a b) [
      | inl same ↦ elim (rest same) [ inl first ↦ inl (grind (arith, nat_tests)) | inr second ↦ inr (grind (arith, nat_tests)) ]
      | inr differ ↦ elim differ [ inl less ↦ inl (grind (arith, nat_tests)) | inr more ↦ inr (grind (arith, nat_tests)) ]
    ]

pub name_chain : (a b c : List ℕ) → name_below a b ≡ true → name_below b c ≡ true → name_below a c ≡ true
name_chain [] [] c one other = absurd (cc)
name_chain [] (b ∷ bs) [] one other = absurd (cc)
name_chain [] (b ∷ bs) (c ∷ cs) one other = refl
name_chain (a ∷ more) [] c one other = absurd (cc)
name_chain (a ∷ more) (b ∷ bs) [] one other = absurd (cc)
name_chain (a ∷ more) (b ∷ bs) (c ∷ cs) one other =
    heads_chain a b c (name_below more bs) (name_below bs cs) (name_below more cs) (name_chain more bs cs) one other

pub name_apart : (a b : List ℕ) → a ≢ b → (name_below a b ≡ true) ⊎ (name_below b a ≡ true)
name_apart [] [] differ = absurd (differ refl)
name_apart [] (b ∷ bs) differ = inl refl
name_apart (a ∷ more) [] differ = inr refl
name_apart (a ∷ more) (b ∷ bs) differ =
    heads_apart a b (name_below more bs) (name_below bs more) (λ same. name_apart more bs (λ rest. differ (cc)))

pub id_apart : (a b : ℕ) → a ≢ b → (nat_lt a b ≡ true) ⊎ (nat_lt b a ≡ true)
id_apart a b differ =
    elim (cases_order a b) [
      | inl same ↦ absurd (differ same)
      | inr apart ↦ elim apart [ inl less ↦ inl (lt-ltb a b less) | inr more ↦ inr (lt-ltb b a more) ]
    ]

-- ports, or referrals, by their numbers
pub numbers_rising : (ports : List Port) → ArePorts ports → AllPairs (λ p q. nat_lt p.id q.id ≡ true) (in_order (λ p q. nat_lt p.id q.id) ports)
numbers_rising ports valid =
    sorted_in_order (λ p q. nat_lt p.id q.id)
    (λ x y z one other. lt-ltb x.id z.id (omega (arith, ltb-true x.id y.id one, ltb-true y.id z.id other))) ports
    (λ i j d less below. id_apart _ _ (valid.distinct i j d less below))

pub names_rising : (c : Configuration) → IsValid c → AllPairs (λ s t. name_below s.nqn t.nqn ≡ true) (subsystems_in_order c)
names_rising c valid =
    sorted_in_order (λ s t. name_below s.nqn t.nqn)
    (λ x y z one other. name_chain x.nqn y.nqn z.nqn one other) c.subsystems
    (λ i j d less below. name_apart _ _ (valid.subsystems.distinct i j d less below))

-- the records of one port
port_rising : (c : Configuration) (host : List ℕ) → IsValid c → (port : Port) → AllPairs IsBefore (records_on c host port)
port_rising c host valid port =
    let test : Subsystem → Bool = λ s. may_use c host s.nqn port.id in
    let kept : List Subsystem = filter test (subsystems_in_order c) in
    let rising : AllPairs (λ s t. name_below s.nqn t.nqn ≡ true) kept = AllPairs-filter (λ s t. name_below s.nqn t.nqn ≡ true) test (subsystems_in_order c) (names_rising c valid) in
    AllPairs-map IsBefore (parts_of port) kept (λ i j d less below. inr (refl, inr (refl, rising i j d less below)))

of_port : (c : Configuration) (host : List ℕ) (port : Port) → All (λ p. p.port ≡ port.id) (records_on c host port)
of_port c host port =
    All-map (λ p. p.port ≡ port.id) (parts_of port) (filter (λ s. may_use c host s.nqn port.id) (subsystems_in_order c)) (λ k d below. refl)

of_subsystems : (c : Configuration) (host : List ℕ) (port : Port) → All (λ p. p.subtype ≡ NvmSubsystem) (records_on c host port)
of_subsystems c host port =
    All-map (λ p. p.subtype ≡ NvmSubsystem) (parts_of port) (filter (λ s. may_use c host s.nqn port.id) (subsystems_in_order c)) (λ k d below. refl)

ports_apart : (c : Configuration) (host : List ℕ) (x y : Port) → nat_lt x.id y.id ≡ true → All (λ p. All (IsBefore p) (records_on c host y)) (records_on c host x)
ports_apart c host x y less = λ k d below j e inside.
    inr (
      of_subsystems c host x k d below ∙ sym (of_subsystems c host y j e inside),
      inl (omega (arith, ltb-true x.id y.id less, of_port c host x k d below, of_port c host y j e inside)),
    )

-- the records of the subsystems on ports
abbrev pub served : Configuration → List ℕ → List Parts
served c host = flat_map (records_on c host) (ports_in_order c)

served_rising : (c : Configuration) (host : List ℕ) → IsValid c → AllPairs IsBefore (served c host)
served_rising c host valid =
    AllPairs-joined (λ p q. nat_lt p.id q.id ≡ true) IsBefore (records_on c host) (port_rising c host valid) (ports_apart c host) (ports_in_order c) (numbers_rising c.ports valid.ports)

port_served : (c : Configuration) (host : List ℕ) (port : Port) → Contains c.ports port → All (IsServed c host) (records_on c host port)
port_served c host port there =
    let test : Subsystem → Bool = λ s. may_use c host s.nqn port.id in
    let subsystems : List Subsystem = subsystems_in_order c in
    All-map (IsServed c host) (parts_of port) (filter test subsystems)
    (All-kept (λ s. IsServed c host (parts_of port s)) test subsystems
    (All-weaker (Contains c.subsystems) (λ s. test s ≡ true → IsServed c host (parts_of port s)) (λ s inside passes. (port, s, there, inside, passes, refl)) subsystems (out_of_order (λ s t. name_below s.nqn t.nqn) c.subsystems)))

all_served : (c : Configuration) (host : List ℕ) → All (IsServed c host) (served c host)
all_served c host =
    All-joined (IsServed c host) (records_on c host) (ports_in_order c)
    (All-weaker (Contains c.ports) (λ port. All (IsServed c host) (records_on c host port)) (λ port there. port_served c host port there) (ports_in_order c) (out_of_order (λ p q. nat_lt p.id q.id) c.ports))

served_in : (c : Configuration) (host : List ℕ) (p : Parts) → IsServed c host p → Contains (served c host) p
served_in c host p (port, s, there, inside, passes, is) =
    let test : Subsystem → Bool = λ t. may_use c host t.nqn port.id in
    let subsystems : List Subsystem = subsystems_in_order c in
    subst (λ (w : Parts). Contains (served c host) w) (sym is)
    (in_joined (records_on c host) (ports_in_order c) port (parts_of port s) (into_order (λ x y. nat_lt x.id y.id) c.ports port there)
    (in_map (parts_of port) (filter test subsystems) s (in_filter test subsystems s (into_order (λ x y. name_below x.nqn y.nqn) c.subsystems s inside) passes)))

-- the records of the referrals
abbrev pub referred : Configuration → List Parts
referred c = map referral_of (referrals_in_order c)

referred_rising : (c : Configuration) → IsValid c → AllPairs IsBefore (referred c)
referred_rising c valid =
    let rising = numbers_rising c.referrals valid.referrals in
    AllPairs-map IsBefore referral_of (referrals_in_order c) (λ i j d less below. inr (refl, inl (ltb-true _ _ (rising i j d less below))))

all_referred : (c : Configuration) → All (IsReferral c) (referred c)
all_referred c =
    All-map (IsReferral c) referral_of (referrals_in_order c)
    (All-weaker (Contains c.referrals) (λ r. IsReferral c (referral_of r)) (λ r there. (r, there, refl)) (referrals_in_order c) (out_of_order (λ p q. nat_lt p.id q.id) c.referrals))

referred_in : (c : Configuration) (p : Parts) → IsReferral c p → Contains (referred c) p
referred_in c p (referral, there, is) =
    subst (λ (w : Parts). Contains (referred c) w) (sym is)
    (in_map referral_of (referrals_in_order c) referral (into_order (λ x y. nat_lt x.id y.id) c.referrals referral there))

-- subsystems before referrals
kinds_apart : (c : Configuration) (host : List ℕ) → All (λ p. All (IsBefore p) (referred c)) (served c host)
kinds_apart c host =
    let subsystems : All (λ p. p.subtype ≡ NvmSubsystem) (served c host) = All-joined (λ p. p.subtype ≡ NvmSubsystem) (records_on c host) (ports_in_order c) (λ k d below. of_subsystems c host _) in
    let referrals : All (λ p. p.subtype ≡ Referral) (referred c) = All-map (λ p. p.subtype ≡ Referral) referral_of (referrals_in_order c) (λ k d below. refl) in
    λ k d below j e inside. inl (subsystems k d below, referrals j e inside)

pub all_shown : (c : Configuration) (host : List ℕ) → All (IsShown c host) (records_of c host)
all_shown c host =
    All-append (IsShown c host) (served c host) (referred c)
    (All-weaker (IsServed c host) (IsShown c host) (λ p is. inl is) (served c host) (all_served c host))
    (All-weaker (IsReferral c) (IsShown c host) (λ p is. inr is) (referred c) (all_referred c))

shown_in : (c : Configuration) (host : List ℕ) (p : Parts) → IsShown c host p → Contains (records_of c host) p
shown_in c host p (inl is) = Contains-append_left (served c host) (referred c) p (served_in c host p is)
shown_in c host p (inr is) = Contains-append_right (served c host) (referred c) p (referred_in c p is)

pub records_listed : (c : Configuration) (host : List ℕ) → IsValid c → IsListing c host (records_of c host)
records_listed c host valid = record {
  rising = AllPairs-append IsBefore (served c host) (referred c) (served_rising c host valid) (referred_rising c valid) (kinds_apart c host);
  shown = λ p. (λ found. All-contains (IsShown c host) (records_of c host) p (all_shown c host) found, λ shown. shown_in c host p shown);
}
