-- How many namespaces a configuration has.
use Rattle.std.proofs.Common.{◌≡◌, ◌≢◌, ◌<◌, ◌≤◌, ◌==◌, ◌∷◌, ◌^◌, [], ℕ, true, List, Any, All, AllPairs, nat_le, length, get_or, map, slice_get, sym, ◌∙◌, subst, arith, inl, inr}
use Rattle.std.proofs.lemmas.Bool.{and_parts, eqb-true, leb-true}
use Rattle.std.proofs.lemmas.Bool.Decides.{Decides-eqb}
use Rattle.std.proofs.lemmas.List.{get_or-map, length-map}
use Rattle.std.proofs.lemmas.List.Elements.{All-map}
use Rattle.std.proofs.lemmas.List.Folds.{Any-from_list_any}
use Rattle.std.proofs.lemmas.Map.Made.{IsDistinct-from_AllPairs}
use Rattle.std.proofs.lemmas.Map.Steps.{length-le_from_distinct_below}
use Rattle.std.proofs.lemmas.Option.{slice_get_past}
use Rattle.std.proofs.lemmas.Bool.{cases_lt}
use Rattle.std.specs.List.{list_all}
use Rattle.config_lists.specs.declared.namespace.Namespace.{Namespace}
use Rattle.config_lists.specs.Namespace.{bytes_of}
use Rattle.nvt_config.specs.Configuration.{Configuration}
use Rattle.nvt_config.specs.Valid.{IsValid, is_size_on}

-- a disk that has room is there
disk_below : (units : List ℕ) (disk blocks bytes : ℕ) → is_size_on (slice_get units disk) blocks bytes ≡ true → disk < length units
disk_below units disk blocks bytes fits =
    elim (cases_lt disk (length units)) [
      | inl below ↦ below
      | inr past ↦ absurd (cc (subst (λ o. is_size_on o blocks bytes ≡ true) (slice_get_past units disk past) fits))
    ]

distinct-map : {X : Type 0} (f : X → ℕ) (xs : List X) → AllPairs (λ x y. f x ≢ f y) xs → AllPairs (λ i j. i ≢ j) (map f xs)
distinct-map f [] distinct i j d less below = absurd (omega (arith, below))
distinct-map f (x ∷ xs) distinct i j d less below =
    let all : List _ = x ∷ xs in
    let later : j < length all = omega (arith, below, length-map all f) in
    let earlier : i < length all = omega arith in
    λ same. distinct i j x less later (sym (get_or-map f all i x d earlier) ∙ same ∙ get_or-map f all j x d later)

-- no two namespaces are on the same disk, so there are no more of them than disks
namespaces-le-disks : (c : Configuration) → IsValid c → length c.namespaces ≤ length c.units
namespaces-le-disks c valid =
    let disks : List ℕ = map (λ n. n.disk) c.namespaces in
    let below : All (λ disk. disk < length c.units) disks = All-map (λ disk. disk < length c.units) (λ n. n.disk) c.namespaces (λ k d within.
    let n : Namespace = get_or c.namespaces k d in
    disk_below c.units n.disk n.blocks (bytes_of n.block_size) (valid.namespaces.sound k d within).size) in
    let few : length disks ≤ length c.units = length-le_from_distinct_below disks (length c.units) (IsDistinct-from_AllPairs Decides-eqb disks (distinct-map (λ n. n.disk) c.namespaces valid.namespaces.disks)) (λ q there.
    let any : Any (λ disk. (q == disk) ≡ true) disks = Any-from_list_any (λ disk. q == disk) disks there in
    subst (λ disk. disk < length c.units) (any.3 ∙ sym (eqb-true q any.1 any.4)) (below any.0 any.1 any.2)) in
    subst (λ n. n ≤ length c.units) (length-map c.namespaces (λ n. n.disk)) few

pub namespaces_are_few : (c : Configuration) → IsValid c → length c.namespaces ≤ 256
namespaces_are_few c valid =
    let most : length c.units ≤ 256 = leb-true (length c.units) 256 (and_parts (nat_le (length c.units) 256) (list_all (λ n. nat_le n (2 ^ 40)) c.units) valid.disks).0 in
    let few : length c.namespaces ≤ length c.units = namespaces-le-disks c valid in
    omega arith
