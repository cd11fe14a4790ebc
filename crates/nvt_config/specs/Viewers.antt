-- Which hosts have a value of their own of a subsystem, beside the one that strangers have.
use Rattle.std.specs.Prelude.{◌≡◌, ℕ, List, IfSome, is_some}
use Rattle.config_lists.specs.declared.show.Show.{Show}
use Rattle.config_lists.specs.Show.{is_shown_of}
use Rattle.tables.specs.NameTable.{value_of}

module _ {T : Type 0} where
  -- exactly the hosts that are shown a namespace of the subsystem have one, and it is one that is meant for the host
  pub record AreOwnOf (shows : List Show) (subsystem : List ℕ) (Meant : List ℕ → T → Type 0) (own : List (List ℕ × T)) : Type 0 where
    pub who : (host : List ℕ) → is_some (value_of own host) ≡ is_shown_of shows subsystem host
    pub what : (host : List ℕ) → IfSome (value_of own host) (Meant host)
