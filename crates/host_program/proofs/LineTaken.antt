-- What is read of a line, piece by piece.
use Rattle.std.proofs.Common.{◌≡◌, ◌≢◌, ◌+◌, ◌∙◌, refl, ap, inl, inr, ℕ, All, List, [], ◌∷◌, ◌++◌, length, Option}
use Rattle.std.proofs.lemmas.List.{length-append}
use Rattle.std.proofs.lemmas.List.Elements.{All-append, All-cons, All-nil}
use Rattle.std.proofs.KnownBytes.{Consumes-nil, Consumes-trans}
use Rattle.std.specs.Io.KnownBytes.{Consumes}
use Rattle.host_program.specs.AwaitedLine.{FindsEnd, PassesLine}

-- so many bytes were read, none of which ends a line
pub record HasRead (count : ℕ) (old mid : Option (List ℕ)) : Type 0 where
  pub line : List ℕ
  pub many : length line ≡ count
  pub one : All (λ byte. byte ≢ 10) line
  pub takes : Consumes old mid line

-- .. and one more, that does not end it
pub read_on : (count byte : ℕ) (old mid new : Option (List ℕ)) → byte ≢ 10 → HasRead count old mid → Consumes mid new (byte ∷ []) → HasRead (count + 1) old new
read_on count byte old mid new other read takes = record {
  line = read.line ++ byte ∷ [];
  many = length-append read.line (byte ∷ []) ∙ ap (λ n. n + 1) read.many;
  one = All-append (λ b. b ≢ 10) read.line (byte ∷ []) read.one (All-cons (λ b. b ≢ 10) byte [] other (All-nil (λ b. b ≢ 10)));
  takes = Consumes-trans old mid new read.line (byte ∷ []) read.takes takes;
}

-- then the byte that ends it
pub line_ended : (count byte : ℕ) (old mid new : Option (List ℕ)) → byte ≡ 10 → HasRead count old mid → Consumes mid new (byte ∷ []) → PassesLine old new
line_ended count byte old mid new is read ending = record {
  line = read.line;
  one = read.one;
  ending = 10 ∷ [];
  takes = Consumes-trans old mid new read.line (10 ∷ []) read.takes (rw is at ending);
  ends = inl refl;
}

-- then nothing is left
pub input_ended : (count : ℕ) (old mid new : Option (List ℕ)) → HasRead count old mid → FindsEnd mid new → PassesLine old new
input_ended count old mid new read none = record {
  line = read.line;
  one = read.one;
  ending = [];
  takes = Consumes-trans old mid new read.line [] read.takes none.takes;
  ends = inr (refl, inl none.ends);
}

-- as many bytes as are waited for
pub line_full : (count : ℕ) (old new : Option (List ℕ)) → count ≡ 1024 → HasRead count old new → PassesLine old new
line_full count old new full read = record {
  line = read.line;
  one = read.one;
  ending = [];
  takes = Consumes-trans old new new read.line [] read.takes (Consumes-nil new);
  ends = inr (refl, inr (rw full at read.many));
}
