-- The namespaces that changed, and the list that tells of them.
use Rattle.std.proofs.Common.{◌≡◌, ℕ, ◌-◌, ◌*◌, ◌<◌, ◌≤◌, Bool, true, false, not, ◌==◌, ◌&&◌, ◌||◌, List, [], ◌∷◌, ◌++◌, Option, Some, None, filter, get_or, is_some, length, nat_eq, nat_lt, replicate, length-append, refl, ap, sym, ◌∙◌, arith, inl, inr}
use Rattle.std.proofs.lemmas.Bool.{cases_Bool}
use Rattle.std.proofs.lemmas.Bool.Decides.{nat_tests}
use Rattle.std.proofs.lemmas.List.{length-replicate}
use Rattle.std.specs.List.{list_any}
use Rattle.std.specs.Option.{option_map}
use Rattle.config_lists.specs.declared.namespace.Namespace.{Namespace}
use Rattle.config_lists.specs.Namespace.{nsid_max}
use Rattle.config_lists.specs.Nsids.{is_taken, nsids_in}
use Rattle.nvt_config.specs.Configuration.{Configuration}
use Rattle.config_lists.specs.NsidSet.{IsNsidSet, with_nsid}
use Rattle.config_lists.specs.Numbered.{nsids_where}
use Rattle.config_lists.proofs.Numbers.{kept_where}
use Rattle.config_lists.proofs.Sets.{is_where, no_nsids, nsids_alike, one_more, set_is_where}
use Rattle.nvt_fields.specs.Field.{padded}
use Rattle.nvt_fields.specs.Window.{window}
use Rattle.nvt_fields.proofs.Windows.{window-zeros}
use Rattle.change_lists.specs.ActiveList.{list_page}
use Rattle.change_lists.specs.ChangedSet.{ChangedIsListed, IsChangedList, changed_page, nsids_told, with_all, with_nsids}
use Rattle.change_lists.specs.Changes.{ChangesAreNoted, are_same, attributes_of, changes_namespace, edited, is_changed, with_changes}
use Rattle.change_lists.specs.Tables.{differs, noted}
use Rattle.change_lists.proofs.Pages.{length-page}

-- those that pass one of two tests, of which the second is that of a set
pub with_these : (p q these : ℕ → Bool) → ((k : ℕ) → 1 ≤ k → k ≤ nsid_max → these k ≡ p k)
    → nsids_where (λ n. these n || q n) ≡ nsids_where (λ n. p n || list_any (nat_eq n) (nsids_where q))
with_these p q these same =
    nsids_alike (λ n. these n || q n) (λ n. p n || list_any (nat_eq n) (nsids_where q)) (λ k above below.
    ap (λ b. b || q k) (same k above below) ∙ ap (λ b. p k || b) (sym (is_where q k above below)))

-- ---- what happened

all_noted : (nsids : List ℕ) (p : ℕ → Bool) → with_nsids nsids (nsids_where p) ≡ nsids_where (λ n. list_any (nat_eq n) nsids || p n)
all_noted [] p = refl
all_noted (nsid ∷ nsids) p =
    ap (with_nsids nsids) (one_more p nsid)
    ∙ all_noted nsids (λ n. (n == nsid) || p n)
    ∙ nsids_alike (λ n. list_any (nat_eq n) nsids || ((n == nsid) || p n)) (λ n. list_any (nat_eq n) (nsid ∷ nsids) || p n) (λ k above below. regroup (list_any (nat_eq k) nsids) (k == nsid) (p k)) where
      regroup : (a b c : Bool) → (a || (b || c)) ≡ ((b || a) || c)
      regroup true true c = refl
      regroup true false c = refl
      regroup false b c = or_false b c where
        or_false : (b c : Bool) → (b || c) ≡ ((b || false) || c)
        or_false true c = refl
        or_false false c = refl

comes_back : (a b c : Bool) → b ≡ true → (a || (b || c)) ≡ true
comes_back true b c h = refl
comes_back false true c h = refl
comes_back false false c h = cc

none_is_set : nsids_where (λ _. false) ≡ []
none_is_set = no_nsids (λ _. false) (λ k above below. refl)

-- ---- sets

pub empty_is_set : (set : List ℕ) → set ≡ [] → IsNsidSet set
empty_is_set set empty = rw empty none_is_set

pub where_is_set : (p : ℕ → Bool) (set : List ℕ) → set ≡ nsids_where p → IsNsidSet set
where_is_set p set is = rw is (set_is_where p)

pub changes_are_noted : ChangesAreNoted
changes_are_noted = record {
  first = λ subsystem. none_is_set;
  once_emptied = λ before subsystem. none_is_set;
  after_edit = λ before old new subsystem nsids noted.
      nsids_alike (is_changed (edited old new ∷ before) subsystem) (λ n. list_any (nat_eq n) nsids || is_changed before subsystem n) (λ k above below. ap (λ b. b || is_changed before subsystem k) (sym (noted k above below)))
      ∙ sym (all_noted nsids (is_changed before subsystem));
  after_changes = λ before old new subsystem.
      with_these (changes_namespace old new subsystem) (is_changed before subsystem) (changes_namespace old new subsystem) (λ k above below. refl);
  come_back = λ before old new subsystem nsid changes.
      comes_back (changes_namespace new old subsystem nsid) (changes_namespace old new subsystem nsid) (is_changed before subsystem nsid) changes;
}

-- ---- what is in neither of two tables does not differ

differing_is_taken : (before after : List (Option Namespace)) (k : ℕ) → is_taken before k ≡ false → is_taken after k ≡ false → differs before after k ≡ false
differing_is_taken before after k = neither (get_or before k None) (get_or after k None) where
  neither : (a b : Option Namespace) → is_some a ≡ false → is_some b ≡ false → not (are_same (option_map attributes_of a) (option_map attributes_of b)) ≡ false
  neither None None none_a none_b = refl
  neither (Some a) b some none_b = absurd (cc)
  neither None (Some b) none_a some = absurd (cc)

-- so those of the one and those of the other that differ are all that do
one_of_both : (p : ℕ → Bool) (a b : Bool) (k : ℕ) → (a ≡ false → b ≡ false → p k ≡ false) → ((p k && a) || (p k && b)) ≡ p k
one_of_both p true b k none = with_true (p k) b where
  with_true : (c b : Bool) → ((c && true) || (c && b)) ≡ c
  with_true true b = refl
  with_true false b = refl
one_of_both p false true k none = with_second (p k) where
  with_second : (c : Bool) → ((c && false) || (c && true)) ≡ c
  with_second true = refl
  with_second false = refl
one_of_both p false false k none = with_none (p k) (none refl refl) where
  with_none : (c : Bool) → c ≡ false → ((c && false) || (c && false)) ≡ c
  with_none true h = cc
  with_none false h = refl

-- those of a table that pass
in_table : (p : ℕ → Bool) (table : List (Option Namespace)) (k : ℕ) → 1 ≤ k → k ≤ nsid_max → list_any (nat_eq k) (filter p (nsids_in table)) ≡ (p k && is_taken table k)
in_table p table k above below = kept_where p (nsids_in table) k ∙ ap (λ b. p k && b) (is_where (is_taken table) k above below)

both_noted : (before after : List (Option Namespace)) (set : List ℕ) → IsNsidSet set
    → noted (differs before after) (nsids_in after) (noted (differs before after) (nsids_in before) set) ≡ nsids_where (λ n. differs before after n || list_any (nat_eq n) set)
both_noted before after set is =
    let p : ℕ → Bool = differs before after in
    let first : List ℕ = filter p (nsids_in before) in
    let second : List ℕ = filter p (nsids_in after) in
    let old : ℕ → Bool = λ n. list_any (nat_eq n) set in
    ap (λ s. with_nsids second (with_nsids first s)) (sym is)
    ∙ ap (with_nsids second) (all_noted first old)
    ∙ all_noted second (λ n. list_any (nat_eq n) first || old n)
    ∙ nsids_alike (λ n. list_any (nat_eq n) second || (list_any (nat_eq n) first || old n)) (λ n. p n || old n) (λ k above below.
    ap (λ b. b || (list_any (nat_eq k) first || old k)) (in_table p after k above below)
    ∙ ap (λ b. (p k && is_taken after k) || (b || old k)) (in_table p before k above below)
    ∙ regroup (p k && is_taken after k) (p k && is_taken before k) (old k)
    ∙ ap (λ b. b || old k) (one_of_both p (is_taken after k) (is_taken before k) k (λ none_after none_before. differing_is_taken before after k none_before none_after))) where
      regroup : (a b c : Bool) → (a || (b || c)) ≡ ((a || b) || c)
      regroup true b c = refl
      regroup false b c = refl

pub all_differing : (before after : List (Option Namespace))
    → noted (differs before after) (nsids_in after) (noted (differs before after) (nsids_in before) []) ≡ nsids_where (differs before after)
all_differing before after =
    both_noted before after [] (empty_is_set [] refl)
    ∙ nsids_alike (λ n. differs before after n || false) (differs before after) (λ k above below. or_false (differs before after k)) where
      or_false : (b : Bool) → (b || false) ≡ b
      or_false true = refl
      or_false false = refl

-- ---- what joins a set

pub all_joined : (nsids set : List ℕ) → IsNsidSet set → with_nsids nsids set ≡ with_all nsids set
all_joined nsids set is = ap (with_nsids nsids) (sym is) ∙ all_noted nsids (λ n. list_any (nat_eq n) set)

pub changes_joined : (old new : Configuration) (subsystem nsids set : List ℕ) → nsids ≡ nsids_where (changes_namespace old new subsystem)
    → with_all nsids set ≡ with_changes old new subsystem set
changes_joined old new subsystem nsids set is =
    ap (λ l. with_all l set) is
    ∙ nsids_alike (λ n. list_any (nat_eq n) (nsids_where (changes_namespace old new subsystem)) || list_any (nat_eq n) set) (λ n. changes_namespace old new subsystem n || list_any (nat_eq n) set) (λ k above below.
    ap (λ b. b || list_any (nat_eq k) set) (is_where (changes_namespace old new subsystem) k above below))

-- ---- the list

told_fits : (set : List ℕ) → length (list_page (nsids_told set)) ≤ 4096
told_fits set = elim (cases_Bool (nat_lt 1024 (length set))) [
  | inl more ↦ rw more (omega (arith, length-page (0xFFFFFFFF ∷ [])))
  | inr few ↦
      let fits : length set ≤ 1024 = grind (arith, nat_tests, few) in
      rw few (omega (arith, length-page set, fits))
]

pub page_is_whole : (set : List ℕ) → length (changed_page set) ≡ 4096
page_is_whole set =
    let bytes : List ℕ = list_page (nsids_told set) in
    omega (arith, told_fits set, length-append bytes (replicate (4096 - length bytes) 0), length-replicate {A = ℕ} (4096 - length bytes) 0)

-- the entries, with the zeros behind them
pub page_shown : (set entries out : List ℕ) (offset n : ℕ) → nsids_told set ≡ entries → out ≡ window (list_page entries) offset n → out ≡ window (changed_page set) offset n
page_shown set entries out offset n told shown =
    shown ∙ window-zeros (list_page entries) (4096 - length (list_page entries)) offset n ∙ ap (λ e. window (padded 4096 0 (list_page e)) offset n) (sym told)

pub told_few : (set : List ℕ) → length set ≤ 1024 → nsids_told set ≡ set
told_few set few = let test : nat_lt 1024 (length set) ≡ false = grind (arith, nat_tests, few) in rw test refl

pub told_many : (set : List ℕ) → 1024 < length set → nsids_told set ≡ 0xFFFFFFFF ∷ []
told_many set many = let test : nat_lt 1024 (length set) ≡ true = grind (arith, nat_tests, many) in rw test refl

padded_by : (entries : List ℕ) → padded 4096 0 (list_page entries) ≡ list_page entries ++ replicate (4096 - 4 * length entries) 0
padded_by entries = ap (λ n. list_page entries ++ replicate (4096 - n) 0) (length-page entries)

pub changed_is_listed : ChangedIsListed
changed_is_listed test = by_set (nsids_where test) where
  by_set : (set : List ℕ) → IsChangedList set
  by_set set = record {
    whole = page_is_whole set;
    listed = λ few. ap (λ e. padded 4096 0 (list_page e)) (told_few set few) ∙ padded_by set;
    overflowed = λ many. ap (λ e. padded 4096 0 (list_page e)) (told_many set many) ∙ padded_by (0xFFFFFFFF ∷ []);
  }

-- ---- those that are left to be noted

pub noted_next : (p : ℕ → Bool) (nsid : ℕ) (rest set : List ℕ) → p nsid ≡ true → noted p (nsid ∷ rest) set ≡ noted p rest (with_nsid nsid set)
noted_next p nsid rest set passes = rw passes refl

pub passed_next : (p : ℕ → Bool) (nsid : ℕ) (rest set : List ℕ) → p nsid ≡ false → noted p (nsid ∷ rest) set ≡ noted p rest set
passed_next p nsid rest set fails = rw fails refl
