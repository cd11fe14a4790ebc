-- The groups of one subsystem that are ready: they are those that it shows, on each port.
use Rattle.std.proofs.Common.{◌≡◌, ◌≢◌, ◌==◌, ◌&&◌, ◌||◌, ℕ, Bool, true, false, Option, Some, None, is_some, List, [], ◌∷◌, ◌++◌, IfSome, bytes_eq, nat_eq, refl, ap, sym, subst, ◌∙◌, inl, inr, unwrap_or, arith, if◌then◌else◌}
use Rattle.std.proofs.lemmas.Bool.{both_ways, cases_Bool}
use Rattle.std.proofs.lemmas.Bool.Decides.{nat_tests}
use Rattle.std.proofs.lemmas.List.Folds.{list_any-append}
use Rattle.std.specs.List.{list_any}
use Rattle.std.specs.Map.{lookup}
use Rattle.config_lists.specs.declared.group_state.AnaState.TheVariants.{Optimized}
use Rattle.config_lists.specs.declared.group_state.GroupState.{GroupState}
use Rattle.config_lists.specs.GroupState.{is_state_on, state_for}
use Rattle.nvt_config.specs.Configuration.{Configuration}
use Rattle.indexmap.specs.IndexMap.{insert_entry}
use Rattle.ana_view.specs.Bodies.{AreListed, HasMore, HasPorts}
use Rattle.ana_view.specs.Group.{Descriptor, descriptor, descriptor_with, listed, members}
use Rattle.ana_view.specs.View.{AreGroupsOf, OfSubsystem}
use Rattle.ana_view.proofs.Counting.{listed_alike}
use Rattle.ana_view.proofs.Listed.{none_on, plain_groups}

-- ---- the ports of one subsystem

abbrev Ports : Type 0
Ports = List (ℕ × List Descriptor)

put_port : (es : Ports) (port : ℕ) (groups : List Descriptor) (p : ℕ)
    → lookup (nat_eq p) (insert_entry nat_eq es port groups) ≡ (if nat_eq p port then Some groups else lookup (nat_eq p) es)
put_port [] port groups p = refl
put_port (e ∷ es) port groups p =
    elim (cases_Bool (nat_eq port e.0)) [
      | inl same ↦
          let is : port ≡ e.0 = grind (arith, nat_tests, same) in
          rw same (rw is (elim (cases_Bool (nat_eq p e.0)) [
            | inl here ↦ rw here refl
            | inr there ↦ rw there refl
          ]))
      | inr apart ↦
          rw apart (elim (cases_Bool (nat_eq p e.0)) [
            | inl here ↦
                let differ : nat_eq p port ≡ false = grind (arith, nat_tests, here, apart) in
                rw here (rw differ refl)
            | inr there ↦ rw there (put_port es port groups p)
          ])
    ]

pub put_listed : (c : Configuration) (subsystem : List ℕ) (es : Ports) (port : ℕ) (groups : List Descriptor) → AreListed c subsystem es → groups ≡ listed c subsystem port
    → AreListed c subsystem (insert_entry nat_eq es port groups)
put_listed c subsystem es port groups are is p =
    rw (put_port es port groups p) (elim (cases_Bool (nat_eq p port)) [
      | inl same ↦
          let here : port ≡ p = grind (arith, nat_tests, same) in
          rw same (is ∙ ap (listed c subsystem) here)
      | inr apart ↦ rw apart (are p)
    ])

pub put_more : (es : Ports) (port : ℕ) (groups : List Descriptor) → HasMore es (insert_entry nat_eq es port groups) port
put_more es port groups p =
    ap is_some (put_port es port groups p) ∙ elim (cases_Bool (nat_eq p port)) [
      | inl same ↦ rw same refl
      | inr apart ↦ rw apart refl
    ]

pub there_already : (es : Ports) (port : ℕ) → is_some (lookup (nat_eq port) es) ≡ true → HasMore es es port
there_already es port there p =
    elim (cases_Bool (nat_eq p port)) [
      | inl same ↦
          let is : port ≡ p = grind (arith, nat_tests, same) in
          rw same (subst (λ (k : ℕ). is_some (lookup (nat_eq k) es) ≡ true) is there)
      | inr apart ↦ rw apart refl
    ]

-- ---- a port without a state

pub more_ports : (subsystem : List ℕ) (states : List GroupState) (s : GroupState) (old new : Ports) → bytes_eq s.subsystem subsystem ≡ true → HasMore old new s.port → HasPorts subsystem states old → HasPorts subsystem (states ++ s ∷ []) new
more_ports subsystem states s old new own more has port =
    let on : is_state_on port subsystem s ≡ nat_eq port s.port = ap (λ b. (s.port == port) && b) own ∙ turned s.port port in
    list_any-append (is_state_on port subsystem) states (s ∷ [])
    ∙ ap (λ b. b || (is_state_on port subsystem s || false)) (has port)
    ∙ ap (λ b. is_some (lookup (nat_eq port) old) || (b || false)) on
    ∙ swapped (is_some (lookup (nat_eq port) old)) (nat_eq port s.port)
    ∙ sym (more port)
  where
    turned : (a b : ℕ) → ((a == b) && true) ≡ nat_eq b a
    turned a b = grind (arith, nat_tests)

    swapped : (a b : Bool) → (a || (b || false)) ≡ (b || a)
    swapped true true = refl
    swapped true false = refl
    swapped false true = refl
    swapped false false = refl

pub same_ports : (subsystem : List ℕ) (states : List GroupState) (s : GroupState) (ports : Ports) → bytes_eq s.subsystem subsystem ≡ false → HasPorts subsystem states ports → HasPorts subsystem (states ++ s ∷ []) ports
same_ports subsystem states s ports other has port =
    list_any-append (is_state_on port subsystem) states (s ∷ [])
    ∙ ap (λ b. list_any (is_state_on port subsystem) states || (((s.port == port) && b) || false)) other
    ∙ off (list_any (is_state_on port subsystem) states) (s.port == port)
    ∙ has port
  where
    off : (a b : Bool) → (a || ((b && false) || false)) ≡ a
    off true true = refl
    off true false = refl
    off false true = refl
    off false false = refl

none_set : (port : ℕ) (subsystem : List ℕ) (group : ℕ) (states : List GroupState) → list_any (is_state_on port subsystem) states ≡ false → state_for port subsystem group states ≡ Optimized
none_set port subsystem group [] none = refl
none_set port subsystem group (s ∷ states) none =
    elim (cases_Bool (is_state_on port subsystem s)) [
      | inl on ↦ absurd (both_ways true (sym (ap (λ b. b || list_any (is_state_on port subsystem) states) on) ∙ none) refl)
      | inr off ↦ rw off (none_set port subsystem group states (sym (ap (λ b. b || list_any (is_state_on port subsystem) states) off) ∙ none))
    ]

all_on : (c : Configuration) (subsystem : List ℕ) (v : OfSubsystem) → v.plain ≡ plain_groups c subsystem → AreListed c subsystem v.ports → HasPorts subsystem c.states v.ports
    → AreGroupsOf c subsystem v
all_on c subsystem v plain are has = record {
  on_each = λ port. by_entry port (lookup (nat_eq port) v.ports) (are port) (has port);
} where
  by_entry : (port : ℕ) (o : Option (List Descriptor)) → IfSome o (λ groups. groups ≡ listed c subsystem port) → list_any (is_state_on port subsystem) c.states ≡ is_some o → unwrap_or o v.plain ≡ listed c subsystem port
  by_entry port None are none =
      plain ∙ listed_alike (λ group. descriptor_with group Optimized (members c subsystem group)) (descriptor c subsystem port)
      (λ group above below. ap (λ s. descriptor_with group s (members c subsystem group)) (sym (none_set port subsystem group c.states none)))
  by_entry port (Some groups) is some = is

-- a subsystem without a namespace has no groups
none_at_all : (c : Configuration) (subsystem : List ℕ) (v : OfSubsystem) → v.plain ≡ plain_groups c subsystem → v.plain ≡ [] → v.ports ≡ [] → AreGroupsOf c subsystem v
none_at_all c subsystem v plain empty ports = record {
  on_each = λ port.
      ap (λ (ps : Ports). unwrap_or (lookup (nat_eq port) ps) v.plain) ports ∙ empty ∙ sym (none_on c subsystem port (sym plain ∙ empty));
}

pub groups_of : (c : Configuration) (subsystem : List ℕ) (v : OfSubsystem) → v.plain ≡ plain_groups c subsystem → AreListed c subsystem v.ports → (v.plain ≢ [] → HasPorts subsystem c.states v.ports)
    → (v.plain ≡ [] → v.ports ≡ []) → AreGroupsOf c subsystem v
groups_of c subsystem v plain are has sparse = by_list v.plain refl where
  by_list : (l : List Descriptor) → v.plain ≡ l → AreGroupsOf c subsystem v
  by_list [] empty = none_at_all c subsystem v plain empty (sparse empty)
  by_list (d ∷ ds) some = all_on c subsystem v plain are (has (λ none. absurd (cc (some, none))))
