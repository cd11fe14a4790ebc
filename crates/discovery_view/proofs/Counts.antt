-- The count of the changes to a host's records goes on with one more change, or none.
use Rattle.std.proofs.Common.{◌≡◌, ℕ, ◌+◌, ◌%◌, ◌^◌, List, ap, sym, ◌∙◌, arith, inl, inr}
use Rattle.std.proofs.Math.Nat.{mod-add-mod}
use Rattle.std.proofs.lemmas.Bool.{cases_Bool}
use Rattle.nvt_config.specs.Configuration.{Configuration}
use Rattle.discovery_view.specs.Record.{same_records}
use Rattle.discovery_view.specs.Records.{records_of}
use Rattle.discovery_view.specs.View.{changes_records, count_after}

pub count_goes_on : (before after : Configuration) (host : List ℕ) (n : ℕ) → (changes_records before after host + n) % 2 ^ 64 ≡ count_after (records_of before host) (records_of after host) (n % 2 ^ 64)
count_goes_on before after host n =
    elim (cases_Bool (same_records (records_of before host) (records_of after host))) [
      | inl same ↦ let none : 0 + n ≡ n = omega arith in rw same (ap (λ k. k % 2 ^ 64) none)
      | inr differ ↦
          let one : 1 + n ≡ n + 1 = omega arith in
          rw differ (ap (λ k. k % 2 ^ 64) one ∙ sym (mod-add-mod n (2 ^ 64) 1))
    ]
