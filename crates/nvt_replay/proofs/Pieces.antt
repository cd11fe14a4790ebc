-- The bytes of an `rx`, piece by piece.
use Rattle.std.proofs.Common.{◌≡◌, ℕ, suc, ◌<◌, List, [], ◌++◌, take, drop, Option, Some, None, refl, sym, ap, ◌∙◌, subst, append-nil}
use Rattle.tables.specs.NumberTable.{place}
use Rattle.tables.proofs.NumberTables.{with_value_same}
use Rattle.target_core.specs.Connection.{KnownConnection}
use Rattle.target_core.specs.Target.{TargetState, with_stream}
use Rattle.nvt_replay.specs.Played.{HandsOut, Receives, Drains, given, number_taken}

given_nothing : (k : ℕ) (s : Option (List ℕ)) (o : Option KnownConnection) (t : TargetState) → place t.streams k ≡ s → given k s o [] t ≡ t
given_nothing k None o t known = refl
given_nothing k (Some held) None t known = refl
given_nothing k (Some held) (Some c) t known =
    ap (with_stream t k) (append-nil held)
    ∙ ap (λ (streams : List (Option (List ℕ))). let same : TargetState = record t { streams = streams } in same) (with_value_same t.streams k held known)

-- where no byte is taken, all stays
pub none_taken : (k n : ℕ) (bytes : List ℕ) (old new : TargetState) → n ≡ number_taken k bytes old → n ≡ 0 → Receives k (take n bytes) old new
    → HandsOut 0 k bytes old [] new
none_taken k n bytes old new is none received =
    let nothing : take n bytes ≡ [] = ap (λ m. take m bytes) none in (
      sym is ∙ none,
      refl,
      received ∙ ap (λ piece. given k (place old.streams k) (place old.connections k) piece old) nothing
          ∙ given_nothing k (place old.streams k) (place old.connections k) old refl,
    )

-- a piece, what is printed of it, and what the rest prints
pub piece_more : (k n len : ℕ) (bytes rest : List ℕ) (old mid drained last : TargetState) (first text : List ℕ) → len ≡ number_taken k bytes old → 0 < len
    → Receives k (take len bytes) old mid → Drains mid first drained → rest ≡ drop len bytes → HandsOut n k rest drained text last
    → HandsOut (suc n) k bytes old (first ++ text) last
piece_more k n len bytes rest old mid drained last first text is some received drains after more = (
  mid,
  drained,
  first,
  text,
  subst (λ m. 0 < m) is some,
  subst (λ m. Receives k (take m bytes) old mid) is received,
  drains,
  subst (λ r. HandsOut n k r drained text last) (after ∙ ap (λ m. drop m bytes) is) more,
  refl,
)
