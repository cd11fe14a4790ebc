-- The pages that a target owes a host are one page as time goes on.
use Rattle.std.proofs.Common.{◌≡◌, ℕ, suc, ◌+◌, ◌-◌, ◌%◌, ◌^◌, List, [], ◌∷◌, ◌++◌, length, map, drop, refl, sym, subst, ap, ◌∙◌, inl, inr, arith}
use Rattle.std.specs.Prelude.{slice_index_or}
use Rattle.std.specs.List.{flat_map}
use Rattle.std.proofs.lemmas.Bool.{cases_Bool, cases_lt, false≢true}
use Rattle.std.proofs.lemmas.List.{drop_more, length-map}
use Rattle.std.proofs.lemmas.List.Concat.{flat_map-cons}
use Rattle.std.proofs.lemmas.List.Elements.{All-map}
use Rattle.nvt_config.specs.Configuration.{Configuration}
use Rattle.discovery_view.specs.Page.{discovery_page}
use Rattle.discovery_view.specs.Record.{Parts, record_of, same_records}
use Rattle.discovery_view.specs.Records.{records_of}
use Rattle.discovery_view.specs.Told.{IsSound}
use Rattle.discovery_view.specs.View.{changes_records}
use Rattle.discovery_view.proofs.Told.{records_differ_with_their_parts}
use Rattle.host_pages.specs.Laws.{joined}
use Rattle.host_pages.specs.Moments.{AreMoments, Follows, IsPage, Page, bytes_of}
use Rattle.target_history.specs.Event.{Event, edited, given_up, opened, stepped, ticked}
use Rattle.target_history.specs.History.{Opening, config_of, generation_of, happened, page_of}
use Rattle.target_history.specs.Occurrence.{config_after}
use Rattle.discovery_history.specs.Growing.{changes_at, happened_by, page_at}
use Rattle.discovery_history.specs.Laws.{DiscoveryPagesAreMoments}
use Rattle.discovery_history.proofs.Few.{records-few}
use Rattle.discovery_history.proofs.Sound.{AreSound, are_sound}

-- what a configuration and a count make of a page
abbrev page_by : Configuration → List ℕ → ℕ → Page
page_by c host n = record { genctr = n % 2 ^ 64; records = map record_of (records_of c host) }

joined-map : (ps : List Parts) → joined (map record_of ps) ≡ flat_map record_of ps
joined-map [] = refl
joined-map (p ∷ ps) =
    flat_map-cons (λ part. part) (record_of p) (map record_of ps) ∙ ap (λ rest. record_of p ++ rest) (joined-map ps) ∙ sym (flat_map-cons record_of p ps)

pub bytes_are : (disks : Opening) (events : List Event) (host : List ℕ) (n : ℕ) → bytes_of (page_at disks events host n) ≡ page_of disks (happened_by disks events n) host
unfolding bytes_of discovery_page
bytes_are disks events host n =
    let records = records_of (config_of disks (happened_by disks events n)) host in
    rw (joined-map records, length-map records record_of) refl

page_is : (c : Configuration) (host : List ℕ) (n : ℕ) → IsSound c → IsPage (page_by c host n)
page_is c host n sound =
    let few = records-few c host sound.valid in
    record {
      genctr = omega arith;
      count = omega (arith, few);
      each = All-map (λ r. length r ≡ 1024) record_of (records_of c host) (records_differ_with_their_parts.sizes c host sound);
    }

-- ---- one event more

-- an edit from one configuration to another, each of which is sound
edit_follows : (c d : Configuration) (host : List ℕ) (n : ℕ) → IsSound c → IsSound d → Follows (page_by c host n) (page_by d host (changes_records c d host + n)) n (changes_records c d host + n)
edit_follows c d host n of_c of_d =
    let told = records_differ_with_their_parts.told c d host host of_c of_d in
    elim (cases_Bool (same_records (records_of c host) (records_of d host))) [
      | inl same ↦
          let alike = told.records.0 same in
          rw same (inl (record { genctr = ap (λ k. k % 2 ^ 64) (omega arith); records = sym alike }, omega arith))
      | inr other ↦
          rw other (inr (record { genctr = omega arith; records = λ alike. false≢true (sym other ∙ told.records.1 (sym alike)) }, omega arith))
    ]

stays : (c : Configuration) (host : List ℕ) (n : ℕ) → Follows (page_by c host n) (page_by c host n) n n
stays c host n = inl (record { genctr = refl; records = refl }, refl)

event_follows : (disks : Opening) (event : Event) (before : List Event) (host : List ℕ) → IsSound (config_of disks (happened disks before)) → IsSound (config_of disks (happened disks (event ∷ before)))
    → Follows (page_by (config_of disks (happened disks before)) host (generation_of disks (happened disks before) host))
    (page_by (config_of disks (happened disks (event ∷ before))) host (generation_of disks (happened disks (event ∷ before)) host))
    (generation_of disks (happened disks before) host) (generation_of disks (happened disks (event ∷ before)) host)
event_follows disks (edited edit) before host old new =
    edit_follows (config_of disks (happened disks before)) (config_after (edited edit) (config_of disks (happened disks before))) host (generation_of disks (happened disks before) host) old new
event_follows disks (opened port k) before host old new = stays (config_of disks (happened disks before)) host (generation_of disks (happened disks before) host)
event_follows disks (stepped k front m) before host old new = stays (config_of disks (happened disks before)) host (generation_of disks (happened disks before) host)
event_follows disks (given_up k) before host old new = stays (config_of disks (happened disks before)) host (generation_of disks (happened disks before) host)
event_follows disks (ticked now) before host old new = stays (config_of disks (happened disks before)) host (generation_of disks (happened disks before) host)

-- the next moment has one event more, or is behind the last one
next_follows : (disks : Opening) (events : List Event) (host : List ℕ) → AreSound disks events → (n : ℕ)
    → Follows (page_at disks events host n) (page_at disks events host (suc n)) (changes_at disks events host n) (changes_at disks events host (suc n))
next_follows disks events host sound n =
    elim (cases_lt n (length events)) [
      | inl within ↦
          let at = length events - suc n in
          let one : at + 1 ≡ length events - n = omega (arith, within) in
          let event = slice_index_or events at (given_up 0) in
          let grown : drop at events ≡ event ∷ drop (length events - n) events =
          drop_more events at (given_up 0) (omega (arith, within)) ∙ ap (λ k. event ∷ drop k events) one in
          subst (λ l. Follows (page_at disks events host n) (page_by (config_of disks (happened disks l)) host (generation_of disks (happened disks l) host)) (changes_at disks events host n) (generation_of disks (happened disks l) host))
          (sym grown)
          (event_follows disks event (drop (length events - n) events) host (sound n) (subst (λ l. IsSound (config_of disks (happened disks l))) grown (sound (suc n))))
      | inr past ↦
          let same : length events - suc n ≡ length events - n = omega (arith, past) in
          subst (λ k. Follows (page_at disks events host n) (page_by (config_of disks (happened disks (drop k events))) host (generation_of disks (happened disks (drop k events)) host)) (changes_at disks events host n) (generation_of disks (happened disks (drop k events)) host))
          (sym same)
          (stays (config_of disks (happened_by disks events n)) host (changes_at disks events host n))
    ]

are_moments : (disks : Opening) (events : List Event) (host : List ℕ) → AreSound disks events → AreMoments (page_at disks events host) (changes_at disks events host)
are_moments disks events host sound = record {
  each = λ n. page_is (config_of disks (happened_by disks events n)) host (changes_at disks events host n) (sound n);
  next = next_follows disks events host sound;
}

pub discovery_pages_are_moments : DiscoveryPagesAreMoments
discovery_pages_are_moments = record {
  moments = λ t disks events received taken agrees host. are_moments disks events host (are_sound t disks events received taken agrees);
  bytes = bytes_are;
}
