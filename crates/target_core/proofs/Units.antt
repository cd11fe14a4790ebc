-- The disks that a target is made with.
use Rattle.std.proofs.Common.{◌≡◌, ◌≤◌, ℕ, List, [], ◌∷◌, length, map, Result, Ok, Err, IfOk, refl, ap, ◌∙◌, arith}
use Rattle.block_store.specs.Stored.{Stored}
use Rattle.nvt_config.specs.Configuration.{Configuration, disks_alone}
use Rattle.io_queue.specs.Execution.{sizes}
use Rattle.target_core.specs.Target.{IsNewTarget, IsOver, TargetState}
use Rattle.target_history.specs.History.{Opening}

pub map_twice : {A B C : Type 0} (f : B → C) (g : A → B) (xs : List A) → map f (map g xs) ≡ map (λ x. f (g x)) xs
map_twice f g [] = refl
map_twice f g (x ∷ xs) = ap (λ ys. f (g x) ∷ ys) (map_twice f g xs)

pub stores_hold : {D : Type 0} (contents synced : D → List (List ℕ)) (faults strays : D → ℕ) (disks : List D) (stores : List Stored)
    → stores ≡ map (λ d. record { contents = contents d; synced = synced d; faults = faults d; strays = strays d }) disks
    → map (λ (s : Stored). s.contents) stores ≡ map contents disks
stores_hold contents synced faults strays disks stores is =
    ap (map (λ (s : Stored). s.contents)) is
    ∙ map_twice (λ (s : Stored). s.contents) (λ d. let s : Stored = record { contents = contents d; synced = synced d; faults = faults d; strays = strays d } in s) disks

pub sizes_are : (disks : List Stored) (opening : Opening) → map (λ (s : Stored). s.contents) disks ≡ opening → map length opening ≡ sizes disks
sizes_are disks opening is = rw (← is) (map_twice length (λ (s : Stored). s.contents) disks)

-- a target over disks that hold these units is new
pub is_new : (t : TargetState) (c : Configuration) (disks : List Stored) (opening : Opening) → c ≡ disks_alone (map length opening)
    → map (λ (s : Stored). s.contents) disks ≡ opening → IsOver c disks t → IsNewTarget opening t
is_new t c disks opening alone is over = record {
  over = record {
    config = over.config ∙ alone;
    shown = rw alone at over.shown;
    formed = rw alone at over.formed;
    clock = over.clock;
    streams = over.streams;
    connections = over.connections;
    transfers = over.transfers;
    rows = over.rows;
    controllers = over.controllers;
    disks = refl;
  };
  formed =
      let none : t.formed ≤ 0 = rw alone at over.formed in
      omega (arith, none);
  units = ap (map (λ (s : Stored). s.contents)) over.disks ∙ is;
}

pub all_ok : {A E : Type 0} (P Q : A → Type 0) (r : Result A E) → ((a : A) → P a → Q a) → IfOk r P → IfOk r Q
all_ok P Q (Ok a) h k = h a k
all_ok P Q (Err e) h k = tt
