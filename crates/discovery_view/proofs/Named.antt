-- Ports by their numbers, subsystems by their names, and the links between them.
use Rattle.std.proofs.Common.{◌≡◌, ◌≢◌, ℕ, ◌≤◌, ◌+◌, ◌==◌, ◌&&◌, ◌||◌, Bool, true, false, nat_lt, List, [], ◌∷◌, ◌++◌, All, AllPairs, length, filter, refl, sym, ap, ◌∙◌, inl, inr, arith, bytes_eq}
use Rattle.std.specs.List.{list_any}
use Rattle.std.proofs.lemmas.Bool.{cases_Bool, both_ways, eqb-true, false_from_ne_true}
use Rattle.std.proofs.lemmas.Bool.Decides.{nat_tests}
use Rattle.std.proofs.lemmas.List.{length-map}
use Rattle.std.proofs.lemmas.List.Elements.{All-head, All-tail}
use Rattle.std.proofs.lemmas.List.Folds.{list_any-append}
use Rattle.config_lists.specs.declared.link.Link.{Link}
use Rattle.config_lists.specs.declared.port.Port.{Port}
use Rattle.config_lists.specs.declared.subsystem.Subsystem.{Subsystem}
use Rattle.config_lists.specs.Lists.{without}
use Rattle.nvt_config.specs.Configuration.{has_link, has_port, has_subsystem, is_subsystem_linked}
use Rattle.nvt_config.specs.Valid.{ArePorts, AreSubsystems, IsLink}
use Rattle.discovery_view.specs.Order.{in_order, name_below}
use Rattle.discovery_view.specs.Records.{parts_of}
use Rattle.discovery_view.proofs.Rows.{own_name, same_name}
use Rattle.discovery_view.proofs.Ordering.{Apart, name_chain, names_apart, number_chain, numbers_apart}
use Rattle.discovery_view.proofs.Records.{LinksDiffer, linked}
use Rattle.discovery_view.proofs.Splitting.{Fail, NotBoth, Ordered, at_most_one, length_ordered, ordered}

-- ---- ports and referrals, by their numbers

abbrev pub lower_port : Port → Port → Bool
lower_port p q = nat_lt p.id q.id

abbrev pub is_number : ℕ → Port → Bool
is_number id port = port.id == id

other_number : (a b id : ℕ) → (a == id) ≡ false → (b == id) ≡ true → a ≢ b
other_number a b id fails passes same = both_ways (a == id) fails (ap (λ n. n == id) same ∙ passes)

port_apart : (id : ℕ) (p : Port) → (p.id == id) ≡ true → (q : Port) → is_number id q ≡ false → Apart lower_port q p
port_apart id p passes q fails = numbers_apart q.id p.id (other_number q.id p.id id fails passes)

pub one_number : (id : ℕ) (ports : List Port) → ArePorts ports → AllPairs (NotBoth (is_number id)) ports
one_number id ports valid = λ i j d less below passes.
    false_from_ne_true _ (λ also. valid.distinct i j d less below (eqb-true _ id passes ∙ sym (eqb-true _ id also)))

-- a port among the others, and one of the same number in its place
pub ports_with : (id : ℕ) (us : List Port) (p q : Port) (vs : List Port) → Fail (is_number id) us → Fail (is_number id) vs → (p.id == id) ≡ true → q.id ≡ p.id
    → Ordered lower_port (is_number id) us p q vs
ports_with id us p q vs before after passes same =
    let also : (q.id == id) ≡ true = ap (λ n. n == id) same ∙ passes in
    ordered lower_port (λ x y z. number_chain x.id y.id z.id) (is_number id) us p q vs before after (port_apart id p passes) (port_apart id q also)
    (λ z. ap (λ n. nat_lt n z.id) (sym same))

-- ---- subsystems, by their names

abbrev pub lower_name : Subsystem → Subsystem → Bool
lower_name s t = name_below s.nqn t.nqn

abbrev pub is_name : List ℕ → Subsystem → Bool
is_name nqn s = bytes_eq s.nqn nqn

name_apart : (nqn : List ℕ) (s : Subsystem) → bytes_eq s.nqn nqn ≡ true → (t : Subsystem) → is_name nqn t ≡ false → Apart lower_name t s
name_apart nqn s passes t fails =
    names_apart t.nqn s.nqn (λ same. both_ways (bytes_eq t.nqn nqn) fails (ap (λ n. bytes_eq n nqn) same ∙ passes))

pub one_name : (nqn : List ℕ) (subsystems : List Subsystem) → AreSubsystems subsystems → AllPairs (NotBoth (is_name nqn)) subsystems
one_name nqn subsystems valid = λ i j d less below passes.
    false_from_ne_true _ (λ also. valid.distinct i j d less below (same_name _ nqn passes ∙ sym (same_name _ nqn also)))

pub names_with : (nqn : List ℕ) (us : List Subsystem) (s t : Subsystem) (vs : List Subsystem) → Fail (is_name nqn) us → Fail (is_name nqn) vs → bytes_eq s.nqn nqn ≡ true → t.nqn ≡ s.nqn
    → Ordered lower_name (is_name nqn) us s t vs
names_with nqn us s t vs before after passes same =
    let also : bytes_eq t.nqn nqn ≡ true = ap (λ n. bytes_eq n nqn) same ∙ passes in
    ordered lower_name (λ x y z. name_chain x.nqn y.nqn z.nqn) (is_name nqn) us s t vs before after (name_apart nqn s passes) (name_apart nqn t also)
    (λ z. ap (λ n. name_below n z.nqn) (sym same))

-- ---- links

no_and : (a b : Bool) → b ≡ false → (a && b) ≡ false
no_and true b h = h
no_and false b h = refl

no_or : (a b : Bool) → a ≡ false → b ≡ false → (a || b) ≡ false
no_or a b one other = rw (one, other) refl

-- no link is of a subsystem that is not there, or that none names
pub none_of_name : (links : List Link) (nqn : List ℕ) (id : ℕ) → is_subsystem_linked links nqn ≡ false → has_link links id nqn ≡ false
none_of_name [] nqn id none = refl
none_of_name (l ∷ links) nqn id none =
    no_or _ _ (no_and (l.port == id) (bytes_eq l.subsystem nqn) (first _ _ none)) (none_of_name links nqn id (second _ _ none))
  where
    first : (a b : Bool) → (a || b) ≡ false → a ≡ false
    first true b h = h
    first false b h = refl

    second : (a b : Bool) → (a || b) ≡ false → b ≡ false
    second true b h = absurd (cc)
    second false b h = h

pub unlinked_name : (ports : List Port) (subsystems : List Subsystem) (links : List Link) (nqn : List ℕ) → All (IsLink ports subsystems) links → has_subsystem subsystems nqn ≡ false
    → is_subsystem_linked links nqn ≡ false
unlinked_name ports subsystems [] nqn sound none = refl
unlinked_name ports subsystems (l ∷ links) nqn sound none =
    let here = All-head (IsLink ports subsystems) l links sound in
    no_or _ _
    (false_from_ne_true (bytes_eq l.subsystem nqn) (λ same. both_ways (has_subsystem subsystems nqn) none (ap (has_subsystem subsystems) (sym (same_name l.subsystem nqn same)) ∙ here.subsystem)))
    (unlinked_name ports subsystems links nqn (All-tail (IsLink ports subsystems) l links sound) none)

pub unlinked_port : (ports : List Port) (subsystems : List Subsystem) (links : List Link) (id : ℕ) (nqn : List ℕ) → All (IsLink ports subsystems) links → has_port ports id ≡ false
    → has_link links id nqn ≡ false
unlinked_port ports subsystems [] id nqn sound none = refl
unlinked_port ports subsystems (l ∷ links) id nqn sound none =
    let here = All-head (IsLink ports subsystems) l links sound in
    no_or _ _
    (no_first (l.port == id) (bytes_eq l.subsystem nqn)
    (false_from_ne_true (l.port == id) (λ same. both_ways (has_port ports id) none (ap (has_port ports) (sym (eqb-true l.port id same)) ∙ here.port))))
    (unlinked_port ports subsystems links id nqn (All-tail (IsLink ports subsystems) l links sound) none)
  where
    no_first : (a b : Bool) → a ≡ false → (a && b) ≡ false
    no_first true b h = absurd (cc)
    no_first false b h = refl

pub nothing_linked : (links : List Link) (port : Port) (subsystems : List Subsystem) → ((nqn : List ℕ) → has_link links port.id nqn ≡ false) → linked links port subsystems ≡ []
nothing_linked links port [] none = refl
nothing_linked links port (s ∷ subsystems) none = rw (none s.nqn) (nothing_linked links port subsystems none)

-- a link more, and one less
abbrev pub its : ℕ → List ℕ → Link → Bool
its port nqn link = (link.port == port) && bytes_eq link.subsystem nqn

turned_number : (a b : ℕ) → (a == b) ≡ false → (b == a) ≡ false
turned_number a b apart = grind (arith, nat_tests, apart)

turned_name : (a b : List ℕ) → bytes_eq a b ≡ false → bytes_eq b a ≡ false
turned_name a b apart = false_from_ne_true (bytes_eq b a) (λ same. both_ways (bytes_eq a b) apart (ap (λ n. bytes_eq n b) (sym (same_name b a same)) ∙ own_name b))

with_none : (a b : Bool) → b ≡ false → (a || (b || false)) ≡ a
with_none true b h = refl
with_none false b h = rw h refl

pub link_added : (links : List Link) (port : ℕ) (nqn : List ℕ) → LinksDiffer port nqn links (links ++ (record { port = port; subsystem = nqn }) ∷ [])
link_added links port nqn = record {
  ports = λ id n apart.
      list_any-append (its id n) links ((record { port = port; subsystem = nqn }) ∷ [])
      ∙ with_none (has_link links id n) ((port == id) && bytes_eq nqn n) (no_first (port == id) (bytes_eq nqn n) (turned_number id port apart));
  names = λ id n apart.
      list_any-append (its id n) links ((record { port = port; subsystem = nqn }) ∷ [])
      ∙ with_none (has_link links id n) ((port == id) && bytes_eq nqn n) (no_and (port == id) (bytes_eq nqn n) (turned_name n nqn apart));
}
  where
    no_first : (a b : Bool) → a ≡ false → (a && b) ≡ false
    no_first true b h = absurd (cc)
    no_first false b h = refl

two_tests : (s t : Bool) → (s && t) ≡ true → (s ≡ true) × (t ≡ true)
two_tests true t both = (refl, both)
two_tests false t both = absurd (cc)

skipped : (a b : Bool) → a ≡ false → b ≡ (a || b)
skipped a b h = rw h refl

-- where a link of the one kind is none of the other, taking those away changes nothing of these
others_stay : (one other : Link → Bool) (links : List Link) → ((l : Link) → one l ≡ true → other l ≡ false) → list_any other (without one links) ≡ list_any other links
others_stay one other [] apart = refl
others_stay one other (l ∷ links) apart =
    let rest = others_stay one other links apart in
    elim (cases_Bool (one l)) [
      | inl goes ↦ rw goes (rest ∙ skipped (other l) (list_any other links) (apart l goes))
      | inr stays ↦ rw stays (ap (λ r. other l || r) rest)
    ]

pub none_stays : (one : Link → Bool) (links : List Link) → list_any one (without one links) ≡ false
none_stays one [] = refl
none_stays one (l ∷ links) =
    let rest = none_stays one links in
    elim (cases_Bool (one l)) [ inl goes ↦ rw goes rest | inr stays ↦ rw (stays, stays) rest ]

pub link_removed : (links : List Link) (port : ℕ) (nqn : List ℕ) → LinksDiffer port nqn links (without (its port nqn) links)
link_removed links port nqn = record {
  ports = λ id n apart. others_stay (its port nqn) (its id n) links (λ l goes.
      let at : l.port ≡ port = eqb-true l.port port (two_tests _ _ goes).0 in
      no_first (l.port == id) (bytes_eq l.subsystem n) (ap (λ m. m == id) at ∙ turned_number id port apart));
  names = λ id n apart. others_stay (its port nqn) (its id n) links (λ l goes.
      let at : l.subsystem ≡ nqn = same_name l.subsystem nqn (two_tests _ _ goes).1 in
      no_and (l.port == id) (bytes_eq l.subsystem n) (ap (λ m. bytes_eq m n) at ∙ turned_name n nqn apart));
}
  where
    no_first : (a b : Bool) → a ≡ false → (a && b) ≡ false
    no_first true b h = absurd (cc)
    no_first false b h = refl

-- ---- as many records as links

filter_either : {T : Type 0} (one other : T → Bool) (xs : List T) → length (filter (λ x. one x || other x) xs) ≤ length (filter one xs) + length (filter other xs)
filter_either one other [] = omega arith
filter_either one other (x ∷ xs) = by (one x) (other x) refl refl (filter_either one other xs)
  where
    by : (a b : Bool) → one x ≡ a → other x ≡ b → length (filter (λ y. one y || other y) xs) ≤ length (filter one xs) + length (filter other xs)
        → length (filter (λ y. one y || other y) (x ∷ xs)) ≤ length (filter one (x ∷ xs)) + length (filter other (x ∷ xs))
    by true true p q rest = rw (p, q) (omega (arith, rest))
    by true false p q rest = rw (p, q) (omega (arith, rest))
    by false true p q rest = rw (p, q) (omega (arith, rest))
    by false false p q rest = rw (p, q) (omega (arith, rest))

filter_none : {T : Type 0} (xs : List T) → length (filter (λ (x : T). false) xs) ≡ 0
filter_none [] = refl
filter_none (x ∷ xs) = filter_none xs

link_first : (l : Link) (links : List Link) (id : ℕ) (subsystems : List Subsystem) (here : Bool) → (l.port == id) ≡ here → AreSubsystems subsystems
    → length (filter (λ (s : Subsystem). (l.port == id) && bytes_eq l.subsystem s.nqn) subsystems) + length (filter (λ (k : Link). k.port == id) links) ≤ length (filter (λ (k : Link). k.port == id) (l ∷ links))
link_first l links id subsystems true is valid =
    rw is (omega (
      arith,
      at_most_one (λ (s : Subsystem). bytes_eq l.subsystem s.nqn) subsystems
          (λ i j d less below passes. false_from_ne_true _ (λ also. valid.distinct i j d less below (sym (same_name l.subsystem _ passes) ∙ same_name l.subsystem _ also))),
    ))
link_first l links id subsystems false is valid = rw is (omega (arith, filter_none subsystems))

links_bound : (links : List Link) (id : ℕ) (subsystems : List Subsystem) → AreSubsystems subsystems
    → length (filter (λ (s : Subsystem). has_link links id s.nqn) subsystems) ≤ length (filter (λ (l : Link). l.port == id) links)
links_bound [] id subsystems valid = omega (arith, filter_none subsystems)
links_bound (l ∷ links) id subsystems valid =
    omega (
      arith,
      filter_either (λ (s : Subsystem). (l.port == id) && bytes_eq l.subsystem s.nqn) (λ (s : Subsystem). has_link links id s.nqn) subsystems,
      link_first l links id subsystems _ refl valid,
      links_bound links id subsystems valid,
    )

pub linked_bound : (links : List Link) (port : Port) (subsystems : List Subsystem) → AreSubsystems subsystems
    → length (linked links port (in_order lower_name subsystems)) ≤ length (filter (λ (l : Link). l.port == port.id) links)
linked_bound links port subsystems valid =
    omega (
      arith,
      length-map (filter (λ (s : Subsystem). has_link links port.id s.nqn) (in_order lower_name subsystems)) (parts_of port),
      length_ordered lower_name (λ (s : Subsystem). has_link links port.id s.nqn) subsystems,
      links_bound links port.id subsystems valid,
    )
