-- The tags of one connection: that one is free where fewer than all are used.
use Rattle.std.proofs.Common.{◌≡◌, ◌⊎◌, ℕ, suc, zero, ◌+◌, ◌<◌, ◌≤◌, ◌||◌, Bool, true, false, cond, List, length, set, Option, Some, None, is_none, is_some, IsSome, get_or, unwrap_or, position, count_by, refl, sym, ap, ◌∙◌, inl, inr, arith, true≢false}
use Rattle.std.specs.List.{list_any, position_or_len, range_with_len}
use Rattle.std.proofs.lemmas.Bool.{cases_lt}
use Rattle.std.proofs.lemmas.Bool.Decides.{nat_tests}
use Rattle.std.proofs.lemmas.List.{get_or-replicate, get_or_past, length-replicate, set-get_or}
use Rattle.std.proofs.lemmas.List.FromFn.{get_or-range_with_len, length-range_with_len}
use Rattle.std.proofs.lemmas.List.Sums.{fails_before_first, passes_at_first, position_or_len_is, sum_by-cons}
use Rattle.tables.specs.NumberTable.{place}
use Rattle.data_transfer.specs.Laws.{IsLeastFree}
use Rattle.data_transfer.specs.Part.{Part}
use Rattle.data_transfer.specs.Parts.{count_of, free_tag, has_command, is_of}
use Rattle.data_transfer.specs.Queue.{no_tags}

-- a test that each number of a range passes counts all of them, and one that none passes counts none
count-all : (p : ℕ → Bool) (a n : ℕ) → ((t : ℕ) → t < a + n → p t ≡ true) → count_by p (range_with_len a n) ≡ n
count-all p a zero passes = refl
count-all p a (suc n) passes =
    let rest : count_by p (range_with_len (a + 1) n) ≡ n = count-all p (a + 1) n (λ t below. passes t (omega arith)) in
    let sum : cond {A = ℕ} true 1 0 + count_by p (range_with_len (a + 1) n) ≡ suc n = omega arith in
    sum_by-cons (λ t. cond {A = ℕ} (p t) 1 0) a (range_with_len (a + 1) n) ∙ ap (λ b. cond {A = ℕ} b 1 0 + count_by p (range_with_len (a + 1) n)) (passes a (omega arith)) ∙ sum

count-none : (p : ℕ → Bool) (a n : ℕ) → ((t : ℕ) → p t ≡ false) → count_by p (range_with_len a n) ≡ 0
count-none p a zero fails = refl
count-none p a (suc n) fails =
    let rest : count_by p (range_with_len (a + 1) n) ≡ 0 = count-none p (a + 1) n fails in
    let sum : cond {A = ℕ} false 1 0 + count_by p (range_with_len (a + 1) n) ≡ 0 = omega arith in
    sum_by-cons (λ t. cond {A = ℕ} (p t) 1 0) a (range_with_len (a + 1) n) ∙ ap (λ b. cond {A = ℕ} b 1 0 + count_by p (range_with_len (a + 1) n)) (fails a) ∙ sum

any-none : (p : ℕ → Bool) (a n : ℕ) → ((t : ℕ) → p t ≡ false) → list_any p (range_with_len a n) ≡ false
any-none p a zero fails = refl
any-none p a (suc n) fails =
    ap (λ b. b || list_any p (range_with_len (a + 1) n)) (fails a) ∙ any-none p (a + 1) n fails

is_some_by : {T : Type 0} → (o : Option T) → is_none o ≡ false → is_some o ≡ true
is_some_by None there = sym there
is_some_by (Some x) there = refl

-- a number of a range stands at its own place
at_number : (n t : ℕ) → t < n → get_or (range_with_len 0 n) t 0 ≡ t
at_number n t within = omega (arith, get_or-range_with_len 0 n t 0 within)

module _ {C : Type 0} where
  not_none : (o : Option (Part C)) → IsSome o → is_none o ≡ false
  not_none None there = absurd (true≢false (sym there))
  not_none (Some part) there = refl

  none_there : (o : Option (Part C)) → is_none o ≡ true → o ≡ None
  none_there None is = refl
  none_there (Some x) is = absurd (true≢false (sym is))

  -- each tag below the first free one is used
  used_below : (tags : ℕ → Option (Part C)) (t : ℕ) → t < 63 → t < free_tag tags → IsSome (tags t)
  unfolding free_tag
  used_below tags t within below =
      is_some_by (tags t)
      (ap (λ m. is_none (tags m)) (sym (at_number 63 t within)) ∙ fails_before_first (λ m. is_none (tags m)) (range_with_len 0 63) t 0 below)

  -- where fewer than all tags are used, one is free
  pub free_within : (tags : ℕ → Option (Part C)) → count_of tags < 63 → free_tag tags < 63
  unfolding count_of
  free_within tags few =
      elim (cases_lt (free_tag tags) 63) [
        | inl within ↦ within
        | inr past ↦
            let all : count_by (λ t. is_some (tags t)) (range_with_len 0 63) ≡ 63 = count-all (λ t. is_some (tags t)) 0 63 (λ t below. used_below tags t (omega arith) (omega arith)) in
            absurd (omega arith)
      ]

  -- and it is the least one
  pub IsLeastFree-free_tag : (tags : ℕ → Option (Part C)) → count_of tags < 63 → IsLeastFree tags (free_tag tags)
  unfolding free_tag
  IsLeastFree-free_tag tags few =
      let within = free_within tags few in
      let first = position_or_len (λ t. is_none (tags t)) (range_with_len 0 63) in
      let inside : first < length (range_with_len 0 63) = omega (arith, length-range_with_len 0 63) in
      record {
        free = none_there (tags first) (ap (λ m. is_none (tags m)) (sym (at_number 63 first within)) ∙ passes_at_first (λ m. is_none (tags m)) (range_with_len 0 63) 0 inside);
        used = λ below less. used_below tags below (omega arith) less;
      }

  -- a search in a table finds it
  position-free_tag : (table : List (Option (Part C))) → length table ≡ 63 → count_of (place table) < 63 → position is_none table ≡ Some (free_tag (place table))
  position-free_tag table long few =
      let within = free_within (place table) few in
      let least = IsLeastFree-free_tag (place table) few in
      let first : position_or_len is_none table ≡ free_tag (place table) = position_or_len_is is_none table (free_tag (place table)) None (omega arith) (λ k below. not_none (place table k) (least.used k below)) (λ inside. ap is_none least.free) in
      let there : position_or_len is_none table < length table = omega arith in
      let found : position is_none table ≡ Some (position_or_len is_none table) = grind (arith, nat_tests) in
      found ∙ ap Some first

  pub free_tag-found : (table : List (Option (Part C))) (n : ℕ) → length table ≡ 63 → count_of (place table) < 63 → n ≡ unwrap_or (position is_none table) 0 → n ≡ free_tag (place table)
  free_tag-found table n long few found = found ∙ ap (λ o. unwrap_or o 0) (position-free_tag table long few)

  pub nothing-found : (table : List (Option (Part C))) (n : ℕ) → count_of (place table) < 63 → n ≡ free_tag (place table) → place table n ≡ None
  nothing-found table n few found = ap (place table) found ∙ (IsLeastFree-free_tag (place table) few).free

-- a connection without a table has no transfer
module _ (C : Type 0) where
  pub place-no_tags : (n : ℕ) → place (no_tags {C = C}) n ≡ None
  unfolding no_tags
  place-no_tags n = by_place (cases_lt n 63)
    where
      by_place : (n < 63) ⊎ (63 ≤ n) → place (no_tags {C = C}) n ≡ None
      by_place (inl within) = get_or-replicate 63 n None None within
      by_place (inr past) = get_or_past no_tags n None (rw (length-replicate {A = Option (Part C)} 63 None) past)

  pub length-no_tags : length (no_tags {C = C}) ≡ 63
  unfolding no_tags
  length-no_tags = length-replicate {A = Option (Part C)} 63 None

  -- .. and so has one with a new table
  pub count_of-none : (table : List (Option (Part C))) → table ≡ no_tags → count_of (place table) ≡ 0
  unfolding count_of
  count_of-none table new = count-none (λ ttag. is_some (place table ttag)) 0 63 (λ t. ap is_some (ap (λ x. place x t) new ∙ place-no_tags t))

  -- .. nor one of any command
  pub has_command-no_tags : (cid : ℕ) → has_command (place (no_tags {C = C})) cid ≡ false
  unfolding has_command
  has_command-no_tags cid = any-none (λ ttag. is_of cid (place (no_tags {C = C}) ttag)) 0 63 (λ t. ap (is_of cid) (place-no_tags t))

  pub length-none : (table : List (Option (Part C))) → table ≡ no_tags → length table ≡ 63
  length-none table new = ap length new ∙ length-no_tags

  pub set-no_tags : (n : ℕ) → set (no_tags {C = C}) n None ≡ no_tags
  set-no_tags n = ap (set no_tags n) (sym (place-no_tags n)) ∙ set-get_or no_tags n None

-- for `grind`: what a search for a free tag finds
pub ruleset tags = (free_within, free_tag-found, place-no_tags, count_of-none, has_command-no_tags, length-none, set-no_tags)
