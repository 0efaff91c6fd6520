use Rattle.std.proofs.Common.{◌≡◌, ◌<◌, ◌^◌, true, take}
use Rattle.std.specs.List.{list_all}
use Rattle.std.specs.Str.Parse.{digits_value}
use Rattle.apv_base.specs.model.Video.{is_digit}
use Rattle.apv_video.proofs.tokens.size_of.Given as goal

-- the digits so far
abbrev pub invariant-loop-digit : goal.invariant-loop-digit
invariant-loop-digit l = record {
  size : l.size ≡ digits_value 10 (take l.digit-index l.digits);
  small : l.size < 10 ^ l.digit-index;
  all : list_all is_digit (take l.digit-index l.digits) ≡ true;
}
