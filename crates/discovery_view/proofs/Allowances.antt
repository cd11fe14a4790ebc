-- What a host is shown by the names of the subsystems that allow it, and once an allow is given or taken.
use Rattle.std.proofs.Common.{◌≡◌, ℕ, Bool, true, false, ◌&&◌, ◌||◌, List, [], ◌∷◌, ◌++◌, Bor, bytes_eq, refl, ap, sym, ◌∙◌}
use Rattle.std.proofs.Math.Path.{fun_ext}
use Rattle.std.proofs.lemmas.List.Folds.{list_any-append}
use Rattle.config_lists.specs.declared.allow.Allow.{Allow}
use Rattle.nvt_config.specs.Configuration.{Configuration, has_allow}
use Rattle.discovery_view.specs.Allowed.{is_named}
use Rattle.discovery_view.specs.Catalog.{places_by, places_of}
use Rattle.discovery_view.proofs.Rows.{own_name}
use Rattle.discovery_view.proofs.Strangers.{shown_who}

pub places_named : (c : Configuration) (names : List (Bor (List ℕ))) (allows : List Allow) (host : List ℕ) → ((nqn : List ℕ) → is_named names nqn ≡ has_allow allows nqn host)
    → places_by c names ≡ places_of (record c { allows = allows }) host
places_named c names allows host same =
    let who : is_named names ≡ (λ (nqn : List ℕ). has_allow allows nqn host) = fun_ext same in
    ap (shown_who c) who

-- ---- names

pub given_named : (names : List (Bor (List ℕ))) (name : Bor (List ℕ)) (subsystem : List ℕ) (allows : List Allow) (nqn host : List ℕ) → name.now ≡ subsystem → is_named names nqn ≡ has_allow allows nqn host
    → is_named (names ++ name ∷ []) nqn ≡ has_allow (allows ++ (record { subsystem = subsystem; host = host }) ∷ []) nqn host
given_named names name subsystem allows nqn host is same =
    list_any-append (λ (n : Bor (List ℕ)). bytes_eq n.now nqn) names (name ∷ [])
    ∙ rw (same, is, own_name host) (both (bytes_eq subsystem nqn))
    ∙ sym (list_any-append (λ (a : Allow). bytes_eq a.subsystem nqn && bytes_eq a.host host) allows ((record { subsystem = subsystem; host = host }) ∷ []))
  where
    both : (b : Bool) → (has_allow allows nqn host || (b || false)) ≡ (has_allow allows nqn host || ((b && true) || false))
    both true = refl
    both false = refl
