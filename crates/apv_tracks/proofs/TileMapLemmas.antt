-- Files of QP offsets: the first bad byte, and the numbers that bytes are.
use Rattle.std.proofs.Common.{◌≡◌, ℕ, suc, ◌-◌, ◌<◌, ◌≤◌, inl, inr, List, ◌++◌, length, take, refl, ap, subst, arith, true, false, nat_lt, length-append}
use Rattle.std.specs.Prelude.{ℤ, pos, negsuc, unsigned_abs, slice_index}
use Rattle.std.specs.Int.{w8, cast_signed, cast_unsigned}
use Rattle.std.proofs.lemmas.Bool.{cases_lt, le-ltb, lt-ltb}
use Rattle.std.proofs.lemmas.List.{get_or_append_left, length-take-le}
use Rattle.apv_files.specs.SlotView.{SlotView}
use Rattle.apv_files.specs.Loops.{Filled}
use Rattle.apv_encoding.specs.Answer.{IsBadOffset, is_missing, is_outside, is_late, HasBadOffset, signed_byte}
use Rattle.apv_tracks.specs.TileMap.{HasNoBadOffset, TileMapStops, TookTileMap, is_outside_byte}

-- ---- bytes

-- the number that a byte is
pub signed-is : (byte : ℕ) → cast_signed w8 byte ≡ signed_byte byte
signed-is byte = elim (cases_lt byte 128) [
  | inl lt ↦ (let e : nat_lt byte 128 ≡ true = lt-ltb byte 128 lt in rw e refl)
  | inr ge ↦ (let e : nat_lt byte 128 ≡ false = le-ltb byte 128 ge in rw e (ap negsuc (omega arith)))
]

-- an offset that is permitted is kept in a byte
pub offset-kept : (offset : ℤ) → unsigned_abs offset ≤ 75 → cast_signed w8 (cast_unsigned w8 offset) ≡ offset
offset-kept (pos n) le = let e : nat_lt n 128 ≡ true = lt-ltb n 128 (omega (arith, le)) in rw e refl
offset-kept (negsuc n) le = let e : nat_lt (256 - suc n) 128 ≡ false = le-ltb (256 - suc n) 128 (omega (arith, le)) in rw e (ap negsuc (omega (arith, le)))

-- ---- bad bytes

module _ (tiles : ℕ) (bytes : List ℕ) where
  -- the bytes before a place are right
  abbrev pub AreRightBefore : ℕ → Type 0
  AreRightBefore place = (other : ℕ) → other < place → is_outside_byte (slice_index bytes other) ≡ false

  -- a right file has a byte for each tile
  pub right-length : HasNoBadOffset tiles bytes → length bytes ≡ tiles
  right-length right = elim (cases_lt (length bytes) tiles) [
    | inl lt ↦ absurd (right (length bytes) (is_missing (omega arith) lt))
    | inr ge ↦ elim (cases_lt tiles (length bytes)) [
      | inl lt ↦ absurd (right tiles (is_late lt (omega arith)))
      | inr le ↦ omega (arith, ge, le)
    ]
  ]

-- ---- what follows

module _ (tiles : ℕ) (bytes more : List ℕ) (long : tiles < length bytes) where
  same-byte : (place : ℕ) → place < length bytes → slice_index (bytes ++ more) place ≡ slice_index bytes place
  same-byte place lt = get_or_append_left bytes more 0 place lt

  longer : (place : ℕ) → place < length bytes → place < length (bytes ++ more)
  longer place lt = omega (arith, length-append bytes more, lt)

  still-bad : (place : ℕ) → IsBadOffset tiles bytes place → (place < length bytes) × IsBadOffset tiles (bytes ++ more) place
  still-bad place (is_missing ge missing) = absurd (omega (arith, ge, missing, long))
  still-bad place (is_outside here low high) =
      (here, is_outside (longer place here) (rw (same-byte place here) low) (rw (same-byte place here) high))
  still-bad place (is_late here late) = (here, is_late (longer place here) late)

  was-bad : (place : ℕ) → place < length bytes → IsBadOffset tiles (bytes ++ more) place → IsBadOffset tiles bytes place
  was-bad place lt (is_missing ge missing) = absurd (omega (arith, longer place lt, ge))
  was-bad place lt (is_outside here low high) =
      is_outside lt (subst (λ (byte : ℕ). 75 < byte) (same-byte place lt) low) (subst (λ (byte : ℕ). byte < 181) (same-byte place lt) high)
  was-bad place lt (is_late here late) = is_late lt late

  -- with a byte after that of the last tile at hand, no further one matters
  pub bad-whatever : (place : ℕ) → HasBadOffset tiles bytes place → HasBadOffset tiles (bytes ++ more) place
  bad-whatever place b =
      let here = still-bad place b.here in
      record {
        here = here.1;
        first = λ other lt is. b.first other lt (was-bad other (omega (arith, lt, here.0)) is);
      }

-- ---- what was read

module _ (tiles : ℕ) (old new : SlotView) (count : ℕ) (buf : List ℕ) where
  held : Filled old count buf new → length (take count buf) ≡ count
  held filled = length-take-le count buf filled.fits

  -- a buffer of 401 bytes holds all that was left, or a byte after that of the last tile
  pub map-stops : (place : ℕ) → tiles ≤ 400 → length buf ≡ 401 → Filled old count buf new → HasBadOffset tiles (take count buf) place → TileMapStops tiles old place new
  map-stops place few size filled b = record {
    taken = take count buf;
    most = omega (arith, held filled, filled.fits, size);
    took = filled.took;
    stops = elim (cases_lt count (length buf)) [
      | inl lt ↦ inr (filled.end lt, b)
      | inr ge ↦ inl (λ more. bad-whatever tiles (take count buf) more (omega (arith, held filled, ge, size, few)) place b)
    ];
  }

  pub map-taken : tiles ≤ 400 → length buf ≡ 401 → Filled old count buf new → HasNoBadOffset tiles (take count buf) → TookTileMap tiles old (take count buf) new
  map-taken few size filled right = record {
    took = filled.took;
    end = filled.end (omega (arith, right-length tiles (take count buf) right, held filled, size, few));
    right = right;
  }
