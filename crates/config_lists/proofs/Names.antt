-- Names that are the same, and a name that no item has.
use Rattle.std.proofs.Common.{◌≡◌, ◌≢◌, ◌<◌, ℕ, true, false, List, length, get_or, sym, subst}
use Rattle.std.proofs.lemmas.Bool.{both_ways}
use Rattle.std.proofs.lemmas.Slice.Eq.{bytes_eq-Decides}
use Rattle.std.specs.List.{list_any}
use Rattle.std.specs.Str.{bytes_eq}
use Rattle.config_lists.proofs.Lists.{no_item}

pub same_name : (a b : List ℕ) → bytes_eq a b ≡ true → a ≡ b
same_name a b = (bytes_eq-Decides a b).0

pub bytes_eq-same : (a b : List ℕ) → a ≡ b → bytes_eq a b ≡ true
bytes_eq-same a b = (bytes_eq-Decides a b).1

-- an item of a new name differs from each that is there
pub new_name : {X : Type 0} (name : X → List ℕ) (xs : List X) (n : List ℕ) → list_any (λ x. bytes_eq (name x) n) xs ≡ false → (k : ℕ) (d : X) → k < length xs → name (get_or xs k d) ≢ n
new_name name xs n absent k d below same =
    both_ways (bytes_eq (name (get_or xs k d)) n) (no_item (λ x. bytes_eq (name x) n) xs k d absent below) (bytes_eq-same (name (get_or xs k d)) n same)

-- a name that is the same as another is not a third
pub other_name : (a n other : List ℕ) → bytes_eq other n ≡ false → bytes_eq a other ≡ true → bytes_eq a n ≡ false
other_name a n other differ same = subst (λ b. bytes_eq b n ≡ false) (sym (same_name a other same)) differ
