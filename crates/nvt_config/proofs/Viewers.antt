-- The hosts that have a value of their own, as the shows are gone through one by one.
use Rattle.std.proofs.Common.{◌≡◌, ◌||◌, ◌&&◌, ℕ, Bool, true, false, Option, Some, None, is_some, List, [], ◌∷◌, ◌++◌, bytes_eq, refl, ap, sym, subst, ◌∙◌, inl, inr}
use Rattle.std.proofs.lemmas.Bool.{and_from, and_parts, both_ways, cases_Bool, false_from_ne_true}
use Rattle.std.proofs.lemmas.List.Folds.{list_any-append}
use Rattle.std.specs.Borrow.{Bor}
use Rattle.std.specs.Option.{option_copied}
use Rattle.config_lists.specs.declared.show.Show.{Show}
use Rattle.config_lists.specs.Show.{is_show_in, is_shown_of}
use Rattle.config_lists.proofs.Names.{bytes_eq-same, same_name}
use Rattle.tables.specs.NameTable.{IsPut, value_of}
use Rattle.nvt_config.specs.Viewers.{AreOwnOf}

pub either_way : (a b : List ℕ) → bytes_eq a b ≡ bytes_eq b a
either_way a b =
    elim (cases_Bool (bytes_eq b a)) [
      | inl same ↦ bytes_eq-same a b (sym (same_name b a same)) ∙ sym same
      | inr apart ↦ false_from_ne_true (bytes_eq a b) (λ same. both_ways (bytes_eq b a) apart (bytes_eq-same b a (sym (same_name a b same)))) ∙ sym apart
    ]

or_none : (b : Bool) → (b || false) ≡ b
or_none true = refl
or_none false = refl

-- a value that is lent is there
pub some_lent : {T : Type 0} (o : Option (Bor T)) → is_some o ≡ true → is_some (option_copied o) ≡ true
some_lent None some = cc
some_lent (Some x) some = refl

module _ {T : Type 0} (subsystem : List ℕ) (Meant : List ℕ → T → Type 0) where
  pub own_first : AreOwnOf [] subsystem Meant []
  own_first = record { who = λ host. refl; what = λ host. tt }

  shown_more : (shows : List Show) (show : Show) (host : List ℕ) → is_shown_of (shows ++ show ∷ []) subsystem host ≡ (is_shown_of shows subsystem host || is_show_in subsystem host show)
  shown_more shows show host = list_any-append (is_show_in subsystem host) shows (show ∷ []) ∙ ap (λ b. is_shown_of shows subsystem host || b) (or_none (is_show_in subsystem host show))

  -- a show of another subsystem
  pub own_passed : (shows : List Show) (show : Show) (own : List (List ℕ × T)) → bytes_eq show.subsystem subsystem ≡ false → AreOwnOf shows subsystem Meant own → AreOwnOf (shows ++ show ∷ []) subsystem Meant own
  own_passed shows show own apart are = record {
    who = λ host. are.who host ∙ sym (shown_more shows show host ∙ ap (λ b. is_shown_of shows subsystem host || (b && bytes_eq show.host host)) apart ∙ or_none (is_shown_of shows subsystem host));
    what = are.what;
  }

  -- one to a host that has its value already
  pub own_there : (shows : List Show) (show : Show) (own : List (List ℕ × T)) → is_some (value_of own show.host) ≡ true → AreOwnOf shows subsystem Meant own → AreOwnOf (shows ++ show ∷ []) subsystem Meant own
  own_there shows show own there are = record {
    who = λ host. are.who host ∙ sym (shown_more shows show host ∙ elim (cases_Bool (is_show_in subsystem host show)) [
      | inl is ↦
          let same : show.host ≡ host = same_name show.host host (and_parts (bytes_eq show.subsystem subsystem) (bytes_eq show.host host) is).1 in
          let shown : is_shown_of shows subsystem host ≡ true = subst (λ (h : List ℕ). is_shown_of shows subsystem h ≡ true) same (sym (are.who show.host) ∙ there) in
          rw shown refl
      | inr fails ↦ rw fails (or_none (is_shown_of shows subsystem host))
    ]);
    what = are.what;
  }

  -- one to a host that gets its value
  pub own_put : (shows : List Show) (show : Show) (own new : List (List ℕ × T)) (value : T) → bytes_eq show.subsystem subsystem ≡ true → IsPut own new show.host value → Meant show.host value
      → AreOwnOf shows subsystem Meant own → AreOwnOf (shows ++ show ∷ []) subsystem Meant new
  own_put shows show own new value here put meant are = record {
    who = λ host.
        rw (put host) (elim (cases_Bool (bytes_eq host show.host)) [
          | inl same ↦
              let is : is_show_in subsystem host show ≡ true = and_from (bytes_eq show.subsystem subsystem) (bytes_eq show.host host) here (either_way show.host host ∙ same) in
              rw same (sym (shown_more shows show host ∙ ap (λ b. is_shown_of shows subsystem host || b) is ∙ or_yes (is_shown_of shows subsystem host)))
          | inr apart ↦
              let fails : is_show_in subsystem host show ≡ false =
              ap (λ b. bytes_eq show.subsystem subsystem && b) (either_way show.host host ∙ apart) ∙ and_none (bytes_eq show.subsystem subsystem) in
              rw apart (are.who host ∙ sym (shown_more shows show host ∙ ap (λ b. is_shown_of shows subsystem host || b) fails ∙ or_none (is_shown_of shows subsystem host)))
        ]);
    what = λ host.
        rw (put host) (elim (cases_Bool (bytes_eq host show.host)) [
          | inl same ↦ rw same (subst (λ (h : List ℕ). Meant h value) (sym (same_name host show.host same)) meant)
          | inr apart ↦ rw apart (are.what host)
        ]);
  } where
    or_yes : (b : Bool) → (b || true) ≡ true
    or_yes true = refl
    or_yes false = refl

    and_none : (b : Bool) → (b && false) ≡ false
    and_none true = refl
    and_none false = refl
