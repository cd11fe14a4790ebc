-- What a host is shown of a subsystem, show by show.
use Rattle.std.proofs.Common.{◌≡◌, ℕ, ◌+◌, ◌<◌, ◌==◌, ◌&&◌, ◌||◌, Bool, true, false, List, get_or, length, take, refl, ap, sym, ◌∙◌, arith}
use Rattle.std.proofs.lemmas.Bool.Decides.{nat_tests}
use Rattle.std.proofs.lemmas.List.Folds.{list_any_more}
use Rattle.std.specs.Str.{bytes_eq}
use Rattle.config_lists.specs.declared.show.Show.{Show}
use Rattle.config_lists.specs.Show.{has_show, is_show_in, is_show_to}
use Rattle.config_lists.specs.NsidSet.{with_nsid}
use Rattle.config_lists.proofs.Sets.{nsids_alike, one_more}
use Rattle.config_lists.specs.Onlooker.{nsids_shown}

module _ (shows : List Show) (host subsystem : List ℕ) (i : ℕ) (s : Show) (below : i < length shows) (read : s ≡ get_or shows i s) where
  -- what is shown by one show more
  more : (k : ℕ) → has_show (take (i + 1) shows) subsystem k host ≡ (has_show (take i shows) subsystem k host || is_show_to subsystem k host s)
  more k =
      list_any_more (is_show_to subsystem k host) shows i s below
      ∙ ap (λ x. has_show (take i shows) subsystem k host || is_show_to subsystem k host x) (sym read)

  -- a show of the subsystem to the host
  pub one_shown : is_show_in subsystem host s ≡ true → with_nsid s.nsid (nsids_shown (take i shows) host subsystem) ≡ nsids_shown (take (i + 1) shows) host subsystem
  one_shown own =
      one_more (λ k. has_show (take i shows) subsystem k host) s.nsid
      ∙ nsids_alike (λ k. (k == s.nsid) || has_show (take i shows) subsystem k host) (λ k. has_show (take (i + 1) shows) subsystem k host) (λ k first last. here k) where
        its_own : (a b c : Bool) → (b && c) ≡ true → ((a && b) && c) ≡ a
        its_own true b c both = both
        its_own false b c both = refl

        exchanged : (x a : Bool) → (x || a) ≡ (a || x)
        exchanged true true = refl
        exchanged true false = refl
        exchanged false true = refl
        exchanged false false = refl

        here : (k : ℕ) → ((k == s.nsid) || has_show (take i shows) subsystem k host) ≡ has_show (take (i + 1) shows) subsystem k host
        here k =
            let same : (k == s.nsid) ≡ (s.nsid == k) = grind (arith, nat_tests) in
            ap (λ b. b || has_show (take i shows) subsystem k host) same
            ∙ exchanged (s.nsid == k) (has_show (take i shows) subsystem k host)
            ∙ sym (ap (λ b. has_show (take i shows) subsystem k host || b) (its_own (s.nsid == k) (bytes_eq s.subsystem subsystem) (bytes_eq s.host host) own))
            ∙ sym (more k)

  -- another one
  pub none_shown : is_show_in subsystem host s ≡ false → nsids_shown (take i shows) host subsystem ≡ nsids_shown (take (i + 1) shows) host subsystem
  none_shown other =
      nsids_alike (λ k. has_show (take i shows) subsystem k host) (λ k. has_show (take (i + 1) shows) subsystem k host) (λ k first last. here k) where
        not_its_own : (a b c : Bool) → (b && c) ≡ false → ((a && b) && c) ≡ false
        not_its_own true b c neither = neither
        not_its_own false b c neither = refl

        or_false : (a : Bool) → (a || false) ≡ a
        or_false true = refl
        or_false false = refl

        here : (k : ℕ) → has_show (take i shows) subsystem k host ≡ has_show (take (i + 1) shows) subsystem k host
        here k =
            sym (or_false (has_show (take i shows) subsystem k host))
            ∙ sym (ap (λ b. has_show (take i shows) subsystem k host || b) (not_its_own (s.nsid == k) (bytes_eq s.subsystem subsystem) (bytes_eq s.host host) other))
            ∙ sym (more k)
