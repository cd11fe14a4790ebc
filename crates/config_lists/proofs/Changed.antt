-- What one show more or less says of what a host is shown.
use Rattle.std.proofs.Common.{◌≡◌, ℕ, ◌==◌, Bool, true, false, not, ◌&&◌, List, [], ◌∷◌, filter, refl, ap, ◌∙◌, inl, inr}
use Rattle.std.proofs.lemmas.Bool.{and_parts, both_ways, cases_Bool, eqb-true}
use Rattle.std.proofs.lemmas.Map.Views.{any-filter_same}
use Rattle.std.specs.List.{list_any}
use Rattle.std.specs.Str.{bytes_eq}
use Rattle.config_lists.specs.declared.show.Show.{Show}
use Rattle.config_lists.specs.Lists.{without}
use Rattle.config_lists.specs.Show.{has_show, is_show_to}
use Rattle.config_lists.proofs.Names.{same_name}
use Rattle.config_lists.specs.Shows.{is_left}

-- what it names, where it is that one
names : (subsystem : List ℕ) (nsid : ℕ) (host : List ℕ) (s : Show) → is_show_to subsystem nsid host s ≡ true → (s.nsid ≡ nsid) × (s.subsystem ≡ subsystem) × (s.host ≡ host)
names subsystem nsid host s is =
    let parts = and_parts ((s.nsid == nsid) && bytes_eq s.subsystem subsystem) (bytes_eq s.host host) is in
    let first = and_parts (s.nsid == nsid) (bytes_eq s.subsystem subsystem) parts.0 in
    (eqb-true s.nsid nsid first.0, same_name s.subsystem subsystem first.1, same_name s.host host parts.1)

-- two of the same names are told apart by nothing
module _ (subsystem : List ℕ) (nsid : ℕ) (host : List ℕ) (out : Show) where
  same_test : is_show_to subsystem nsid host out ≡ true → (s : Show) → is_show_to out.subsystem out.nsid out.host s ≡ is_show_to subsystem nsid host s
  same_test is s =
      let named = names subsystem nsid host out is in
      ap (λ (n : ℕ). is_show_to out.subsystem n out.host s) named.0
      ∙ ap (λ (a : List ℕ). is_show_to a nsid out.host s) named.1
      ∙ ap (λ (h : List ℕ). is_show_to subsystem nsid h s) named.2

  same_show : (s : Show) → is_show_to out.subsystem out.nsid out.host s ≡ true → is_show_to subsystem nsid host s ≡ is_show_to subsystem nsid host out
  same_show s is =
      let named = names out.subsystem out.nsid out.host s is in
      ap (λ (n : ℕ). ((n == nsid) && bytes_eq s.subsystem subsystem) && bytes_eq s.host host) named.0
      ∙ ap (λ (a : List ℕ). ((out.nsid == nsid) && bytes_eq a subsystem) && bytes_eq s.host host) named.1
      ∙ ap (λ (h : List ℕ). ((out.nsid == nsid) && bytes_eq out.subsystem subsystem) && bytes_eq h host) named.2

  -- where the one of these names is taken out, none is left
  pub taken_out : is_show_to subsystem nsid host out ≡ true → (shows : List Show) → has_show (without (is_show_to out.subsystem out.nsid out.host) shows) subsystem nsid host ≡ false
  taken_out is shows =
      any-filter_same (is_show_to subsystem nsid host) (is_left out) false (λ s own. ap not (same_test is s ∙ own)) shows

  -- where it is another one, what was shown is shown still
  pub others_left : is_show_to subsystem nsid host out ≡ false → (shows : List Show) → has_show (without (is_show_to out.subsystem out.nsid out.host) shows) subsystem nsid host ≡ has_show shows subsystem nsid host
  others_left other shows =
      any-filter_same (is_show_to subsystem nsid host) (is_left out) true (λ s own. elim (cases_Bool (is_show_to out.subsystem out.nsid out.host s)) [
        | inl same ↦ absurd (both_ways (is_show_to subsystem nsid host s) (same_show s same ∙ other) own)
        | inr apart ↦ ap not apart
      ]) shows

-- what is left passes a test where it passed both
pub any_left : {X : Type 0} (test stays : X → Bool) (xs : List X) → list_any test (filter stays xs) ≡ list_any (λ x. test x && stays x) xs
any_left test stays [] = refl
any_left test stays (x ∷ xs) = here (stays x) refl (any_left test stays xs) where
  and_true : (a : Bool) → (a && true) ≡ a
  and_true true = refl
  and_true false = refl

  and_false : (a : Bool) → (a && false) ≡ false
  and_false true = refl
  and_false false = refl

  here : (b : Bool) → stays x ≡ b → list_any test (filter stays xs) ≡ list_any (λ y. test y && stays y) xs → list_any test (filter stays (x ∷ xs)) ≡ list_any (λ y. test y && stays y) (x ∷ xs)
  here true is rest = rw (is, and_true (test x), rest) refl
  here false is rest = rw (is, and_false (test x)) rest
