use Rattle.std.proofs.Common.{◌≡◌, ◌<◌, ◌^◌, take}
use Rattle.std.specs.Str.Parse.{AllDigits, digits_value}
use Rattle.config_text.proofs.number.digits_value.Given as goal

abbrev pub invariant-loop-b : goal.invariant-loop-b
invariant-loop-b l = record {
  digits : AllDigits 10 (take l.b-index l.word);
  value : l.n ≡ digits_value 10 (take l.b-index l.word);
  fits : l.n < 2 ^ 64;
}
