use Rattle.std.proofs.Common.{◌≡◌, true, take}
use Rattle.std.specs.List.{list_all}
use Rattle.std.specs.Char.{is_ascii_digit}
use Rattle.apv_words.specs.Values.{number_of}
use Rattle.apv_words.proofs.values.number.Given as goal

abbrev pub invariant-loop-byte : goal.invariant-loop-byte
invariant-loop-byte l = record {
  value : l.value ≡ number_of (take l.byte-index l.bytes);
  digits : list_all is_ascii_digit (take l.byte-index l.bytes) ≡ true;
}
