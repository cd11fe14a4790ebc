-- What is read of a stream, piece by piece.
use Rattle.std.proofs.Common.{◌≡◌, ◌≢◌, refl, inl, inr, ℕ, All, List, [], ◌∷◌, Option}
use Rattle.std.proofs.KnownBytes.{Consumes-trans}
use Rattle.std.specs.Io.KnownBytes.{Consumes}
use Rattle.host_parts.specs.Lines.{TakesLine, TakesNone}

-- a line, and then the byte that ends it
pub line_ended : (line : List ℕ) (byte : ℕ) (old mid new : Option (List ℕ)) → byte ≡ 10 → All (λ byte. byte ≢ 10) line
    → Consumes old mid line → Consumes mid new (byte ∷ []) → TakesLine line old new
line_ended line byte old mid new is one taken ending = record {
  one = one;
  ending = 10 ∷ [];
  takes = Consumes-trans old mid new line (10 ∷ []) taken (rw is at ending);
  ends = inl refl;
}

-- a line, and then the end of the stream
pub stream_ended : (line : List ℕ) (old mid new : Option (List ℕ)) → All (λ byte. byte ≢ 10) line → Consumes old mid line
    → TakesNone mid new → TakesLine line old new
stream_ended line old mid new one taken none = record {
  one = one;
  ending = [];
  takes = Consumes-trans old mid new line [] taken none.takes;
  ends = inr (refl, inl none.ends);
}

-- no line, and then the end of the stream
pub nothing_left : (line : List ℕ) (old mid new : Option (List ℕ)) → line ≡ [] → Consumes old mid line → TakesNone mid new
    → TakesNone old new
nothing_left line old mid new empty taken none = record {
  takes = Consumes-trans old mid new [] [] (rw empty at taken) none.takes;
  ends = none.ends;
}
