-- The records that a host is shown are some of the catalog, at its places.
use Rattle.std.proofs.Common.{◌≡◌, ℕ, zero, suc, Bool, true, false, All, ◌⊎◌, ◌+◌, ◌-◌, ◌*◌, ◌≤◌, ◌<◌, ◌&&◌, ◌||◌, Bor, bytes_eq, List, [], ◌∷◌, ◌++◌, filter, map, length, length-append, OnOk, Result, Ok, Err, get_or, min, slice_range, take, drop, take-add, drop-drop, refl, ap, sym, ◌∙◌, arith, inl, inr, append_assoc}
use Rattle.std.proofs.lemmas.Bool.{cases_Bool, cases_lt}
use Rattle.std.proofs.lemmas.List.{drop-map, drop_more, length-drop, length-map, map-append, nil_from_length, take-append-drop, take-map, take_more}
use Rattle.std.proofs.lemmas.List.Elements.{All-cons, All-filter, All-head, All-nil, All-tail, filter-append}
use Rattle.std.proofs.lemmas.List.Folds.{list_any-append}
use Rattle.std.specs.List.{AllByRecursion, flat_map, list_any}
use Rattle.config_lists.specs.declared.allow.Allow.{Allow}
use Rattle.config_lists.specs.declared.port.Port.{Port}
use Rattle.config_lists.specs.declared.subsystem.Subsystem.{Subsystem}
use Rattle.nvt_config.specs.Configuration.{Configuration, has_allow, has_link}
use Rattle.nvt_config.specs.Permission.{is_open_subsystem}
use Rattle.discovery_view.specs.Catalog.{catalog_of, is_referral, is_shown, linked_among, no_parts, places_from, places_of, records_at}
use Rattle.discovery_view.specs.Plan.{common_first, spliced}
use Rattle.discovery_view.specs.Ready.{AreReady, IsWithin, Places}
use Rattle.discovery_view.specs.Record.{Parts, record_of, same_parts}
use Rattle.discovery_view.specs.Records.{parts_of, ports_in_order, records_among, records_of, referral_of, referrals_in_order, subsystems_in_order}
use Rattle.discovery_view.proofs.Told.{told_apart}
use Rattle.discovery_view.proofs.Slots.{filter_bound}

-- ---- at the places of those that pass are those that pass

own_place : (done : List Parts) (p : Parts) (rest : List Parts) → get_or (done ++ p ∷ rest) (length done) no_parts ≡ p
own_place [] p rest = refl
own_place (q ∷ done) p rest = own_place done p rest

one_done : (done : List Parts) (p : Parts) → 1 + length done ≡ length (done ++ p ∷ [])
one_done done p = omega (arith, length-append done (p ∷ []))

at_places : (test : Parts → Bool) (done xs : List Parts) → map (λ k. get_or (done ++ xs) k no_parts) (places_from test (length done) xs) ≡ filter test xs
at_places test done [] = refl
at_places test done (p ∷ xs) =
    let all : done ++ p ∷ xs ≡ (done ++ p ∷ []) ++ xs = sym (append_assoc done (p ∷ []) xs) in
    let rest : map (λ k. get_or (done ++ p ∷ xs) k no_parts) (places_from test (1 + length done) xs) ≡ filter test xs =
    rw (all, one_done done p) (at_places test (done ++ p ∷ []) xs) in
    elim (cases_Bool (test p)) [
      | inl passes ↦ rw (passes, own_place done p xs) (ap (λ l. p ∷ l) rest)
      | inr fails ↦ rw fails rest
    ]

pub records_at_places : (test : Parts → Bool) (xs : List Parts) → records_at xs (places_from test 0 xs) ≡ filter test xs
records_at_places test xs = at_places test [] xs

places_below : (test : Parts → Bool) (k n : ℕ) (xs : List Parts) → k + length xs ≤ n → All (λ place. place < n) (places_from test k xs)
places_below test k n [] below = All-nil (λ place. place < n)
places_below test k n (p ∷ xs) below =
    let rest = places_below test (1 + k) n xs (omega (arith, below)) in
    elim (cases_Bool (test p)) [
      | inl passes ↦ rw passes (All-cons (λ place. place < n) k (places_from test (1 + k) xs) (omega (arith, below)) rest)
      | inr fails ↦ rw fails rest
    ]

pub places_within : (test : Parts → Bool) (xs : List Parts) → All (λ place. place < length xs) (places_from test 0 xs)
places_within test xs = places_below test 0 (length xs) xs (omega arith)

-- ---- those of the catalog that a host is shown are its records

among_those : (c : Configuration) (host : List ℕ) (port : Port) (subsystems : List Subsystem) → filter (is_shown c host) (linked_among c port subsystems) ≡ records_among c host port subsystems
among_those c host port [] = refl
among_those c host port (s ∷ subsystems) =
    let rest = among_those c host port subsystems in
    let admits = is_open_subsystem c.subsystems s.nqn || has_allow c.allows s.nqn host in
    elim (cases_Bool (has_link c.links port.id s.nqn)) [
      | inl linked ↦
          elim (cases_Bool admits) [
            | inl admitted ↦ rw (linked, admitted) (ap (λ l. parts_of port s ∷ l) rest)
            | inr refused ↦ rw (linked, refused) rest
          ]
      | inr apart ↦ rw apart rest
    ]

ports_those : (c : Configuration) (host : List ℕ) (subsystems : List Subsystem) (ports : List Port)
    → filter (is_shown c host) (flat_map (λ port. linked_among c port subsystems) ports) ≡ flat_map (λ port. records_among c host port subsystems) ports
ports_those c host subsystems [] = refl
ports_those c host subsystems (port ∷ ports) =
    let rest = flat_map (λ p. linked_among c p subsystems) ports in
    filter-append (is_shown c host) (linked_among c port subsystems) rest
    ∙ ap (λ l. l ++ filter (is_shown c host) rest) (among_those c host port subsystems)
    ∙ ap (λ l. records_among c host port subsystems ++ l) (ports_those c host subsystems ports)

referrals_those : (c : Configuration) (host : List ℕ) (referrals : List Port) → filter (is_shown c host) (map referral_of referrals) ≡ map referral_of referrals
referrals_those c host [] = refl
referrals_those c host (r ∷ referrals) = ap (λ l. referral_of r ∷ l) (referrals_those c host referrals)

pub catalog_those : (c : Configuration) (host : List ℕ) → filter (is_shown c host) (catalog_of c) ≡ records_of c host
catalog_those c host =
    let links = flat_map (λ port. linked_among c port (subsystems_in_order c)) (ports_in_order c) in
    let referrals = map referral_of (referrals_in_order c) in
    filter-append (is_shown c host) links referrals
    ∙ ap (λ l. l ++ filter (is_shown c host) referrals) (ports_those c host (subsystems_in_order c) (ports_in_order c))
    ∙ ap (λ l. flat_map (λ port. records_among c host port (subsystems_in_order c)) (ports_in_order c) ++ l) (referrals_those c host (referrals_in_order c))

pub shown_records : (c : Configuration) (host : List ℕ) → records_at (catalog_of c) (places_of c host) ≡ records_of c host
shown_records c host = records_at_places (is_shown c host) (catalog_of c) ∙ catalog_those c host

-- ---- what is ready

pub shown_ready : (c : Configuration) (host : List ℕ) → AreReady (catalog_of c) → AreReady (records_of c host)
shown_ready c host ready = rw (← catalog_those c host) (record {
  few = omega (arith, filter_bound (is_shown c host) (catalog_of c), ready.few);
  whole = All-filter (is_shown c host) (λ p. length (record_of p) ≡ 1024) (catalog_of c) ready.whole;
})

pub shown_within : (c : Configuration) (host : List ℕ) (row : Places) → row.places ≡ places_of c host → AreReady (catalog_of c) → IsWithin (catalog_of c) row
shown_within c host row is ready = record {
  places = rw is (places_within (is_shown c host) (catalog_of c));
  ready = rw (is, shown_records c host) (shown_ready c host ready);
}

linked_bound : (c : Configuration) (port : Port) (subsystems : List Subsystem) → length (linked_among c port subsystems) ≤ length subsystems
linked_bound c port subsystems =
    let linked = filter (λ (s : Subsystem). has_link c.links port.id s.nqn) subsystems in
    omega (arith, length-map linked (parts_of port), filter_bound (λ (s : Subsystem). has_link c.links port.id s.nqn) subsystems)

links_bound : (c : Configuration) (subsystems : List Subsystem) (ports : List Port) → length subsystems ≤ 32 → length (flat_map (λ p. linked_among c p subsystems) ports) ≤ 32 * length ports
links_bound c subsystems [] few = omega arith
links_bound c subsystems (port ∷ ports) few =
    let here = linked_among c port subsystems in
    let rest = flat_map (λ p. linked_among c p subsystems) ports in
    omega (arith, length-append here rest, linked_bound c port subsystems, links_bound c subsystems ports few)

pub catalog_bound : (c : Configuration) (subsystems : List Subsystem) (ports referrals : List Port) → length subsystems ≤ 32 → length ports ≤ 16 → length referrals ≤ 16
    → length (flat_map (λ p. linked_among c p subsystems) ports ++ map referral_of referrals) ≤ 1056
catalog_bound c subsystems ports referrals few fewer fewest =
    let links = flat_map (λ p. linked_among c p subsystems) ports in
    omega (arith, length-append links (map referral_of referrals), length-map referrals referral_of, links_bound c subsystems ports few)

-- ---- a catalog, slot by slot

pub one_linked : (c : Configuration) (port : Port) (s : Subsystem) (rest : List Subsystem) → linked_among c port (s ∷ []) ++ linked_among c port rest ≡ linked_among c port (s ∷ rest)
one_linked c port s rest =
    elim (cases_Bool (has_link c.links port.id s.nqn)) [
      | inl linked ↦ rw linked refl
      | inr apart ↦ rw apart refl
    ]

-- what is added in two steps
pub both_added : {T : Type 0} (old mid new here rest all : List T) → mid ≡ old ++ here → new ≡ mid ++ rest → here ++ rest ≡ all → new ≡ old ++ all
both_added old mid new here rest all one two whole =
    two ∙ ap (λ l. l ++ rest) one ∙ append_assoc old here rest ∙ ap (λ l. old ++ l) whole

-- ---- what is the same at the beginning and at the end of two lists

pub one_more_first : (xs ys : List Parts) (k : ℕ) (p q : Parts) → k < length xs → k < length ys → take k xs ≡ take k ys → p ≡ get_or xs k p → q ≡ get_or ys k q → same_parts p q ≡ true → take (k + 1) xs ≡ take (k + 1) ys
one_more_first xs ys k p q one other so_far here there same =
    take_more xs k p one ∙ ap (λ l. l ++ get_or xs k p ∷ []) so_far ∙ ap (λ x. take k ys ++ x ∷ []) (sym here ∙ told_apart p q same ∙ there) ∙ sym (take_more ys k q other)

pub one_more_last : (xs ys : List Parts) (k : ℕ) (p q : Parts) → k < length xs → k < length ys → drop (length xs - k) xs ≡ drop (length ys - k) ys
    → p ≡ get_or xs (length xs - 1 - k) p → q ≡ get_or ys (length ys - 1 - k) q → same_parts p q ≡ true → drop (length xs - (k + 1)) xs ≡ drop (length ys - (k + 1)) ys
one_more_last xs ys k p q one other so_far here there same =
    back xs k p one ∙ ap (λ l. get_or xs (length xs - 1 - k) p ∷ l) so_far ∙ ap (λ x. x ∷ drop (length ys - k) ys) (sym here ∙ told_apart p q same ∙ there) ∙ sym (back ys k q other)
  where
    back : (zs : List Parts) (k : ℕ) (d : Parts) → k < length zs → drop (length zs - (k + 1)) zs ≡ get_or zs (length zs - 1 - k) d ∷ drop (length zs - k) zs
    back zs k d below =
        let place : length zs - (k + 1) ≡ length zs - 1 - k = omega arith in
        let next : length zs - 1 - k + 1 ≡ length zs - k = omega (arith, below) in
        ap (λ n. drop n zs) place ∙ drop_more zs (length zs - 1 - k) d (omega (arith, below)) ∙ ap (λ n. get_or zs (length zs - 1 - k) d ∷ drop n zs) next

abbrev pub AreWhole : List Parts → Type 0
AreWhole records = All (λ p. length (record_of p) ≡ 1024) records

-- .. where they were added
pub then_whole : {X E : Type 0} (a b c : List Parts) (r : Result X E) → (AreWhole a → AreWhole b) → OnOk r (AreWhole b → AreWhole c) → OnOk r (AreWhole a → AreWhole c)
then_whole a b c (Ok x) one two = λ all. two (one all)
then_whole a b c (Err error) one two = tt

pub in_turn : {T : Type 0} (P : T → Type 0) (xs : List T) → All P xs → AllByRecursion P xs
in_turn P [] all = tt
in_turn P (x ∷ xs) all = (All-head P x xs all, in_turn P xs (All-tail P x xs all))

-- ---- what stays at the beginning and at the end, and what comes between

pub spliced_is : (slots catalog fresh : List Parts) (first last : ℕ) → first ≤ length slots → first ≤ length catalog → take first slots ≡ take first catalog
    → last ≤ length (drop first slots) → last ≤ length (drop first catalog)
    → drop (length (drop first slots) - last) (drop first slots) ≡ drop (length (drop first catalog) - last) (drop first catalog)
    → fresh ≡ slice_range catalog first (length catalog - last) → spliced slots first fresh last ≡ catalog
spliced_is slots catalog fresh first last one other front few fewer back is =
    let long = length-drop first slots in
    let longer = length-drop first catalog in
    let end : length catalog - last ≡ first + (length catalog - last - first) = omega (arith, other, longer, fewer) in
    let upto : take (length catalog - last) catalog ≡ take first catalog ++ slice_range catalog first (length catalog - last) =
    ap (λ n. take n catalog) end ∙ take-add first (length catalog - last - first) catalog in
    let behind : drop (length slots - last) slots ≡ drop (length catalog - last) catalog =
    ap (λ n. drop n slots) (omega (arith, one, long, few)) ∙ sym (drop-drop (length (drop first slots) - last) first slots)
    ∙ back
    ∙ drop-drop (length (drop first catalog) - last) first catalog ∙ ap (λ n. drop n catalog) (omega (arith, other, longer, fewer)) in
    rw (front, is, ← upto, behind) (take-append-drop (length catalog - last) catalog)

-- ---- formed records

-- at a place of both tables are a record and what it tells
pub formed_at : {R : Type 0} (bytes : R → List ℕ) (formed : List R) (slots : List Parts) (place : ℕ) (r : R) → map bytes formed ≡ map record_of slots → place < length slots
    → r ≡ get_or formed place r → bytes r ≡ record_of (get_or slots place no_parts)
formed_at bytes [] [] place r same below is = absurd (omega (arith, below))
formed_at bytes [] (p ∷ slots) place r same below is = absurd (cc)
formed_at bytes (q ∷ formed) [] place r same below is = absurd (omega (arith, below))
formed_at bytes (q ∷ formed) (p ∷ slots) zero r same below is = let first : bytes q ≡ record_of p = cc in ap bytes is ∙ first
formed_at bytes (q ∷ formed) (p ∷ slots) (suc place) r same below is =
    let behind : map bytes formed ≡ map record_of slots = cc in
    formed_at bytes formed slots place r behind (omega (arith, below)) is

-- .. where records come between
pub formed_spliced : {R : Type 0} (bytes : R → List ℕ) (formed fresh : List R) (slots new : List Parts) (first last : ℕ) → map bytes formed ≡ map record_of slots → map bytes fresh ≡ map record_of new
    → map bytes (spliced formed first fresh last) ≡ map record_of (spliced slots first new last)
formed_spliced bytes formed fresh slots new first last same between =
    let long : length formed ≡ length slots = sym (length-map formed bytes) ∙ ap length same ∙ length-map slots record_of in
    let front : map bytes (take first formed) ≡ map record_of (take first slots) = sym (take-map bytes first formed) ∙ ap (take first) same ∙ take-map record_of first slots in
    let back : map bytes (drop (length formed - last) formed) ≡ map record_of (drop (length slots - last) slots) =
    sym (drop-map bytes (length formed - last) formed) ∙ ap (drop (length formed - last)) same ∙ drop-map record_of (length formed - last) slots
    ∙ ap (λ n. map record_of (drop (n - last) slots)) long in
    map-append bytes (take first formed ++ fresh) (drop (length formed - last) formed)
    ∙ ap (λ l. l ++ map bytes (drop (length formed - last) formed)) (map-append bytes (take first formed) fresh)
    ∙ (λ i. (front i ++ between i) ++ back i)
    ∙ ap (λ l. l ++ map record_of (drop (length slots - last) slots)) (sym (map-append record_of (take first slots) new))
    ∙ sym (map-append record_of (take first slots ++ new) (drop (length slots - last) slots))

-- the record of a row at an index
pub at_row : (slots : List Parts) (places : List ℕ) (index d : ℕ) → index < length places → get_or (records_at slots places) index no_parts ≡ get_or slots (get_or places index d) no_parts
at_row slots [] index d below = absurd (omega (arith, below))
at_row slots (k ∷ places) zero d below = refl
at_row slots (k ∷ places) (suc index) d below = at_row slots places index d (omega (arith, below))

-- ---- how many are the same

pub one_more_common : (xs ys : List Parts) (k : ℕ) (p q : Parts) → k < length xs → k < length ys → p ≡ get_or xs k p → q ≡ get_or ys k q → same_parts p q ≡ true
    → k + common_first (drop k xs) (drop k ys) ≡ k + 1 + common_first (drop (k + 1) xs) (drop (k + 1) ys)
one_more_common xs ys k p q one other here there same =
    rw (drop_more xs k p one, drop_more ys k q other, ← here, ← there, same) (omega arith)

pub none_common : (xs ys : List Parts) (k : ℕ) (p q : Parts) → k < length xs → k < length ys → p ≡ get_or xs k p → q ≡ get_or ys k q → same_parts p q ≡ false
    → k ≡ k + common_first (drop k xs) (drop k ys)
none_common xs ys k p q one other here there differ =
    rw (drop_more xs k p one, drop_more ys k q other, ← here, ← there, differ) (omega arith)

none_in_nothing : (xs ys : List Parts) → (xs ≡ []) ⊎ (ys ≡ []) → common_first xs ys ≡ 0
none_in_nothing [] ys none = refl
none_in_nothing (x ∷ xs) [] none = refl
none_in_nothing (x ∷ xs) (y ∷ ys) (inl none) = absurd (cc)
none_in_nothing (x ∷ xs) (y ∷ ys) (inr none) = absurd (cc)

pub end_common : (xs ys : List Parts) (k n : ℕ) → n ≤ k → n ≡ min (length xs) (length ys) → k ≡ k + common_first (drop k xs) (drop k ys)
end_common xs ys k n past least =
    let nothing : (drop k xs ≡ []) ⊎ (drop k ys ≡ []) =
    elim (cases_lt (length xs) (length ys)) [
      | inl shorter ↦ inl (nil_from_length (drop k xs) (omega (arith, length-drop k xs, past, least, shorter)))
      | inr longer ↦ inr (nil_from_length (drop k ys) (omega (arith, length-drop k ys, past, least, longer)))
    ] in
    let none = none_in_nothing (drop k xs) (drop k ys) nothing in
    omega (arith, none)

-- ---- who is allowed

either_way : (x s h r : Bool) → h ≡ true → ((x || (s || false)) || r) ≡ (x || ((s && h) || r))
either_way true s true r is = refl
either_way false true true r is = refl
either_way false false true r is = refl
either_way x s false r is = absurd (cc)

neither_way : (s h r : Bool) → h ≡ false → r ≡ ((s && h) || r)
neither_way true false r is = refl
neither_way false false r is = refl
neither_way s true r is = absurd (cc)

-- one allow more is looked at
pub allow_of_host : (names : List (Bor (List ℕ))) (name : Bor (List ℕ)) (a : Allow) (rest : List Allow) (nqn host : List ℕ) → name.now ≡ a.subsystem → bytes_eq a.host host ≡ true
    → (list_any (λ (n : Bor (List ℕ)). bytes_eq n.now nqn) (names ++ name ∷ []) || has_allow rest nqn host) ≡ (list_any (λ (n : Bor (List ℕ)). bytes_eq n.now nqn) names || has_allow (a ∷ rest) nqn host)
allow_of_host names name a rest nqn host is same =
    ap (λ b. b || has_allow rest nqn host) (list_any-append (λ (n : Bor (List ℕ)). bytes_eq n.now nqn) names (name ∷ []))
    ∙ ap (λ t. (list_any (λ (n : Bor (List ℕ)). bytes_eq n.now nqn) names || (bytes_eq t nqn || false)) || has_allow rest nqn host) is
    ∙ either_way (list_any (λ (n : Bor (List ℕ)). bytes_eq n.now nqn) names) (bytes_eq a.subsystem nqn) (bytes_eq a.host host) (has_allow rest nqn host) same

pub allow_of_other : (a : Allow) (rest : List Allow) (nqn host : List ℕ) → bytes_eq a.host host ≡ false → has_allow rest nqn host ≡ has_allow (a ∷ rest) nqn host
allow_of_other a rest nqn host apart = neither_way (bytes_eq a.subsystem nqn) (bytes_eq a.host host) (has_allow rest nqn host) apart

-- the places of those that are shown, where the names are those of the subsystems that allow the host
pub shown_by_names : (c : Configuration) (host : List ℕ) (allows : List ℕ → Bool) → ((nqn : List ℕ) → allows nqn ≡ has_allow c.allows nqn host) → (p : Parts)
    → (is_referral p.subtype || (is_open_subsystem c.subsystems p.nqn || allows p.nqn)) ≡ is_shown c host p
shown_by_names c host allows same p = rw (same p.nqn) refl
