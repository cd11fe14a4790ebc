-- Pages that are read, or refused.
use Rattle.std.proofs.Common.{◌≡◌, ℕ, List, Result, Ok, Err, refl, subst}
use Rattle.std.specs.Prelude.{MatchOption, Option, Some, None}
use Rattle.host_link.specs.declared.fault.SessionFault.{SessionFault}
use Rattle.host_link.specs.declared.fault.SessionFault.TheVariants.{BadPage}
use Rattle.host_program.specs.Pages.{PrintsPage}
use Rattle.host_program.specs.Printed.{Prints}

module _ {F : Type 0} where
  pub prints_page : (o : Option F) (read : Result (List ℕ) F) (page log : List ℕ) (text_of : List ℕ → List ℕ) (result : Result (Unit {0}) SessionFault)
      (a b : Option (List ℕ)) → MatchOption o (read ≡ Ok page) (λ f. read ≡ Err f) → read ≡ Ok log → Prints (text_of log) result a b
      → PrintsPage o (text_of page) result a b
  prints_page None read page log text_of result a b h is p =
      let e : log ≡ page = cc in
      subst (λ (l : List ℕ). Prints (text_of l) result a b) e p
  prints_page (Some f) read page log text_of result a b h is p = cc

  pub bad_page : (o : Option F) (read : Result (List ℕ) F) (page text : List ℕ) (f : F) (a : Option (List ℕ))
      → MatchOption o (read ≡ Ok page) (λ f. read ≡ Err f) → read ≡ Err f → PrintsPage o text (Err BadPage) a a
  bad_page None read page text f a h is = cc
  bad_page (Some g) read page text f a h is = record { bad = refl; nothing = refl }
