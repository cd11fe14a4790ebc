-- What stands at each connection under each tag after a change of one connection's transfers.
use Rattle.std.proofs.Common.{◌≡◌, ◌⊎◌, ℕ, ◌<◌, ◌≤◌, ◌==◌, ◌&&◌, Bool, true, false, if◌then◌else◌, List, [], length, replicate, set, get_or, Option, Some, None, refl, sym, ap, ◌∙◌, inl, inr, arith}
use Rattle.std.proofs.lemmas.Bool.{cases_eq, cases_lt}
use Rattle.std.proofs.lemmas.Bool.Decides.{nat_tests}
use Rattle.std.proofs.lemmas.List.{get_or_past, get_or-set_same, get_or-set_other, get_or-replicate, length-replicate}
use Rattle.std.proofs.lemmas.Option.{none-some}
use Rattle.tables.specs.NumberTable.{place}
use Rattle.tables.proofs.NumberTables.{place-with_value, place-without, place_past}
use Rattle.data_transfer.specs.Part.{H2cData, Part, data_after, left_in}
use Rattle.data_transfer.specs.Parts.{Stand, no_parts, part_at, with_part, without_queue}
use Rattle.data_transfer.specs.Queue.{no_tags}
use Rattle.data_transfer.proofs.Tags.{place-no_tags}

-- two tests of a place, one after the other, are one
both : {T : Type 0} (a b : Bool) (x y z : T) → (a ≡ true → y ≡ z) → (if a then (if b then x else y) else z) ≡ (if a && b then x else z)
both true true x y z same = refl
both true false x y z same = same refl
both false true x y z same = refl
both false false x y z same = refl

-- a place that keeps what it has
kept : {T : Type 0} (b : Bool) (x z : T) → (b ≡ true → z ≡ x) → z ≡ (if b then x else z)
kept true x z same = same refl
kept false x z same = refl

module _ {C : Type 0} where
  -- with another queue at one connection
  at_queue : (queues : List (List (Option (Part C)))) (conn : ℕ) (queue : List (Option (Part C))) (k t : ℕ) → conn < length queues
      → part_at (set queues conn queue) k t ≡ (if k == conn then place queue t else part_at queues k t)
  at_queue queues conn queue k t within =
      elim (cases_eq k conn) [
        | inl same ↦
            let equal : (k == conn) ≡ true = grind (arith, nat_tests) in
            rw equal (ap (λ q. place q t) (ap (λ n. get_or (set queues conn queue) n []) same ∙ get_or-set_same queues conn queue [] within))
        | inr differs ↦
            let unequal : (k == conn) ≡ false = grind (arith, nat_tests) in
            rw unequal (ap (λ q. place q t) (get_or-set_other queues conn k queue [] differs))
      ]

  -- with this at one tag of a queue, which is one of its tags, or gets nothing
  at_tag : (queue : List (Option (Part C))) (ttag : ℕ) (slot : Option (Part C)) (t : ℕ) → (ttag < length queue) ⊎ (slot ≡ None)
      → place (set queue ttag slot) t ≡ (if t == ttag then slot else place queue t)
  at_tag queue ttag None t fits = place-without queue ttag t
  at_tag queue ttag (Some part) t (inl within) = place-with_value queue ttag part t within
  at_tag queue ttag (Some part) t (inr none) = absurd (none-some part (sym none))

  there : (queues : List (List (Option (Part C)))) (conn k t : ℕ) → (k == conn) ≡ true → place (get_or queues conn []) t ≡ part_at queues k t
  there queues conn k t same = let equal : k ≡ conn = grind (arith, nat_tests) in ap (λ n. place (get_or queues n []) t) (sym equal)

  -- one connection's queue gets this at one tag
  Stand-slot : (old : List (List (Option (Part C)))) (conn ttag : ℕ) (slot : Option (Part C)) → conn < length old
      → (ttag < length (get_or old conn [])) ⊎ (slot ≡ None) → Stand (set old conn (set (get_or old conn []) ttag slot)) (with_part (part_at old) conn ttag slot)
  Stand-slot old conn ttag slot within fits =
      let queue = get_or old conn [] in
      record {
        at = λ k t.
            at_queue old conn (set queue ttag slot) k t within
            ∙ ap (λ o. if k == conn then o else part_at old k t) (at_tag queue ttag slot t fits)
            ∙ both (k == conn) (t == ttag) slot (place queue t) (part_at old k t) (there old conn k t);
      }

  -- a tag that is none of a queue's has nothing
  fits_by : (f : Option (Part C) → Option (Part C)) (queue : List (Option (Part C))) (ttag : ℕ) → f None ≡ None → (ttag < length queue) ⊎ (f (place queue ttag) ≡ None)
  fits_by f queue ttag none =
      elim (cases_lt ttag (length queue)) [
        | inl within ↦ inl within
        | inr past ↦ inr (ap f (place_past queue ttag past) ∙ none)
      ]

  -- a transfer begins
  pub Stand-begun : (old new : List (List (Option (Part C)))) (conn ttag : ℕ) (part : Part C) → conn < length old
      → ttag < length (get_or old conn []) → new ≡ set old conn (set (get_or old conn []) ttag (Some part)) → Stand new (with_part (part_at old) conn ttag (Some part))
  Stand-begun old new conn ttag part within tag changed = rw changed (Stand-slot old conn ttag (Some part) within (inl tag))

  -- an H2CData comes
  pub Stand-data : (old new : List (List (Option (Part C)))) (conn ttag : ℕ) (pdu : H2cData) → conn < length old
      → new ≡ set old conn (set (get_or old conn []) ttag (data_after (part_at old conn ttag) pdu)) → Stand new (with_part (part_at old) conn ttag (data_after (part_at old conn ttag) pdu))
  Stand-data old new conn ttag pdu within changed =
      rw changed (Stand-slot old conn ttag _ within (fits_by (λ o. data_after o pdu) (get_or old conn []) ttag refl))

  -- a transfer is finished
  pub Stand-left : (old new : List (List (Option (Part C)))) (conn ttag : ℕ) → conn < length old
      → new ≡ set old conn (set (get_or old conn []) ttag (left_in (part_at old conn ttag))) → Stand new (with_part (part_at old) conn ttag (left_in (part_at old conn ttag)))
  Stand-left old new conn ttag within changed =
      rw changed (Stand-slot old conn ttag _ within (fits_by left_in (get_or old conn []) ttag refl))

  -- a connection's transfers are dropped
  pub Stand-dropped : (old new : List (List (Option (Part C)))) (conn : ℕ) → conn < length old → new ≡ set old conn no_tags → Stand new (without_queue (part_at old) conn)
  Stand-dropped old new conn within changed =
      rw changed (
      record {
        at = λ k t. at_queue old conn no_tags k t within ∙ ap (λ o. if k == conn then o else part_at old k t) (place-no_tags C t);
      }
      )

  -- a connection that is none of these has nothing
  nothing_past : (old : List (List (Option (Part C)))) (conn k t : ℕ) → length old ≤ conn → (k == conn) ≡ true → part_at old k t ≡ None
  nothing_past old conn k t past same =
      let equal : k ≡ conn = grind (arith, nat_tests) in ap (λ q. place q t) (get_or_past old k [] (omega arith))

  pub part_at-past : (old : List (List (Option (Part C)))) (conn ttag : ℕ) → length old ≤ conn → part_at old conn ttag ≡ None
  part_at-past old conn ttag past = ap (λ q. place q ttag) (get_or_past old conn [] past)

  pub Stand-past : (old : List (List (Option (Part C)))) (conn ttag : ℕ) (slot : Option (Part C)) → length old ≤ conn → slot ≡ None → Stand old (with_part (part_at old) conn ttag slot)
  Stand-past old conn ttag slot past none =
      rw none (record { at = λ k t. kept (k == conn && t == ttag) None (part_at old k t) (λ both_same. nothing_past old conn k t past (first (k == conn) (t == ttag) both_same)) })
    where
      first : (a b : Bool) → (a && b) ≡ true → a ≡ true
      first true b same = refl
      first false b same = same

  pub Stand-dropped_past : (old : List (List (Option (Part C)))) (conn : ℕ) → length old ≤ conn → Stand old (without_queue (part_at old) conn)
  Stand-dropped_past old conn past = record { at = λ k t. kept (k == conn) None (part_at old k t) (nothing_past old conn k t past) }

module _ (C : Type 0) where
  -- at first there is nothing
  pub Stand-new : (new : List (List (Option (Part C)))) (n : ℕ) → new ≡ replicate n no_tags → Stand new no_parts
  Stand-new new n made =
      rw made (
      record {
        at = λ k t.
            elim (cases_lt k n) [
              | inl within ↦ ap (λ q. place q t) (get_or-replicate n k no_tags [] within) ∙ place-no_tags C t
              | inr past ↦ ap (λ q. place q t) (get_or_past (replicate n no_tags) k [] (rw (length-replicate {A = List (Option (Part C))} n no_tags) past))
            ];
      }
      )

-- for `grind`: what stands after each call
pub ruleset places = (Stand-begun, Stand-data, Stand-left, Stand-dropped, Stand-past, Stand-dropped_past, part_at-past, Stand-new)
