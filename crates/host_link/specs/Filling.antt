-- What a receive leaves of a piece.
use Rattle.std.specs.Prelude.{ℕ, List, Result, Ok, Err}
use Rattle.host_link.specs.Conversation.{FillsWith, Receiving, came, failed, not_asked}
use Rattle.host_link.specs.Link.{LinkState}

-- whether the link failed
abbrev pub IsAnswerOf : {E : Type 0} → Receiving → Result (Unit {0}) E → Type 0
IsAnswerOf (came bytes) (Ok done) = Unit {0}
IsAnswerOf (came bytes) (Err fault) = ⊥
IsAnswerOf failed (Ok done) = ⊥
IsAnswerOf failed (Err fault) = Unit {0}
IsAnswerOf not_asked (Ok done) = Unit {0}
IsAnswerOf not_asked (Err fault) = ⊥

pub record FillsBy {E : Type 0} (result : Result (Unit {0}) E) (old new : LinkState) (before after : List ℕ) : Type 0 where
  pub receiving : Receiving
  pub fills : FillsWith receiving old new before after
  pub answers : IsAnswerOf receiving result
