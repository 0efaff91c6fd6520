-- A component that is written block by block.
use Rattle.std.proofs.Common.{◌≡◌, ℕ, zero, suc, ℤ, ◌+◌, ◌-◌, ◌*◌, ◌/◌, ◌<◌, ◌≤◌, ◌++◌, length, take, drop, replicate, List, [], refl, sym, ap, ap₂, ◌∙◌, arith, append-nil, length-append, lit<}
use Rattle.std.proofs.lemmas.List.{length-drop, length-replicate, length-take-le, nil_from_length, drop_all}
use Rattle.apv_base.specs.model.Bits.{bits, number, padding, AreBytes, AreDigits}
use Rattle.apv_base.specs.model.Block.{Context, start}
use Rattle.apv_base.specs.model.Component.{component_bits, packed, component_bytes}
use Rattle.apv_base.proofs.BitsLemmas.{bits_same, length-bits}
use Rattle.apv_base.proofs.DigitsLemmas.{number_below, digits-drop, digits-take}
use Rattle.apv_bits.specs.declared.writer.BitWriter.{BitWriter}
use Rattle.apv_bits.specs.Writer.{written, bits_after, Appends}
use Rattle.apv_bits.proofs.WriterLemmas.{slice_is}
use Rattle.apv_base.proofs.DigitsLemmas.{digits-append, zeros-small}
use Rattle.apv_base.proofs.PackedLemmas.{bits_of_bytes}
use Rattle.apv_scan.proofs.ComponentLemmas.{bits_component}

-- ---- a writer

-- what was written since the start, and these bits, are all, and there is room for these
pub record IsMidway (all : List ℕ) (start now : BitWriter) (rest : List ℕ) : Type 0 where
  pub word : List ℕ
  pub appends : Appends start now word
  pub all_are : word ++ rest ≡ all
  pub room : length rest ≤ length (bits_after now)

-- ---- the bytes of blocks

length-packed : (n : ℕ) (b : List ℕ) → length (packed n b) ≡ n
unfolding packed
length-packed zero b = refl
length-packed (suc n) b = ap suc (length-packed n (drop 8 b))

pub length-component : (blocks : List (List ℤ)) → length (component_bytes blocks) ≡ (length (component_bits start blocks) + 7) / 8
length-component blocks = length-packed ((length (component_bits start blocks) + 7) / 8) (component_bits start blocks)

-- the number of bits of all blocks, in bytes
pub component_counted : (context : Context) (blocks all : List (List ℤ)) (i count : ℕ) → length blocks ≤ i → blocks ≡ all
    → count + length (component_bits context (drop i blocks)) ≡ length (component_bits start blocks) → (count + 7) / 8 ≡ length (component_bytes all)
component_counted context blocks all i count le e h =
    let none : length (component_bits context (drop i blocks)) ≡ 0 = ap (λ (bs : List (List ℤ)). length (component_bits context bs)) (drop_all i blocks le) in
    ap (λ (n : ℕ). (n + 7) / 8) (omega (arith, h, none, ap (λ (bs : List (List ℤ)). length (component_bits start bs)) e)) ∙ sym (length-component all)

packed_byte : (b : List ℕ) → AreDigits 2 b → number 2 (take 8 (b ++ replicate 8 0)) < 256
packed_byte b h =
    let long : 8 ≤ length (b ++ replicate {A = ℕ} 8 0) = omega (arith, length-append b (replicate {A = ℕ} 8 0), length-replicate {A = ℕ} 8 0) in
    let len : length (take 8 (b ++ replicate {A = ℕ} 8 0)) ≡ 8 = length-take-le 8 (b ++ replicate 8 0) long in
    rw len at (number_below 2 (take 8 (b ++ replicate 8 0)) (digits-take 2 8 (b ++ replicate 8 0) (lit< tt) (digits-append 2 b (replicate 8 0) h (zeros-small 8))))

packed_bytes : (n : ℕ) (b : List ℕ) → AreDigits 2 b → AreBytes (packed n b)
unfolding packed
packed_bytes zero b h i = lit< tt
packed_bytes (suc n) b h zero = packed_byte b h
packed_bytes (suc n) b h (suc i) = packed_bytes n (drop 8 b) (digits-drop 2 8 b h) i

component_is_bytes : (blocks : List (List ℤ)) → AreBytes (component_bytes blocks)
component_is_bytes blocks = packed_bytes ((length (component_bits start blocks) + 7) / 8) (component_bits start blocks) (bits_component start blocks)

-- there is room for the bits of blocks in their bytes
pub component_room : (blocks all : List (List ℤ)) (bytes : List ℕ) (writer : BitWriter) → blocks ≡ all → length bytes ≡ length (component_bytes all) → bits_after writer ≡ bits bytes
    → length (component_bits start blocks) ≤ length (bits_after writer)
component_room blocks all bytes writer e room b =
    omega (arith, room, ap (λ (bs : List (List ℤ)). length (component_bits start bs)) e, length-component all, ap length b, length-bits bytes)

-- the bits of blocks and zeros up to a whole byte fill a slice that has just room for them
pub component_bits_written : (blocks all : List (List ℤ)) (bytes : List ℕ) (first second third : BitWriter) → blocks ≡ all → length bytes ≡ length (component_bytes all)
    → written first ≡ [] → bits_after first ≡ bits bytes → Appends first second (component_bits start blocks) → Appends second third (replicate (padding (length (written second))) 0)
    → bits third.bytes.now ≡ bits (component_bytes all)
component_bits_written blocks all bytes first second third e room w b put align =
    let bits_put : written second ≡ component_bits start all = rw w at put.written ∙ ap (component_bits start) e in
    let same : padding (length (written second)) ≡ padding (length (component_bits start all)) = ap (λ c. padding (length c)) bits_put in
    let len : length (bits_after second) ≡ 8 * length bytes - length (component_bits start all) =
    ap length put.after ∙ length-drop (length (component_bits start blocks)) (bits_after first)
    ∙ ap₂ (λ (m n : ℕ). m - n) (ap length b ∙ length-bits bytes) (ap (λ (bs : List (List ℤ)). length (component_bits start bs)) e) in
    let left : length (bits_after third) ≡ length (bits_after second) - padding (length (component_bits start all)) =
    ap length align.after ∙ length-drop (length (replicate (padding (length (written second))) 0)) (bits_after second)
    ∙ ap (λ n. length (bits_after second) - n) (length-replicate {A = ℕ} (padding (length (written second))) 0 ∙ same) in
    let none : bits_after third ≡ [] = nil_from_length (bits_after third) (omega (arith, left, len, room, length-component all)) in
    slice_is third ∙ ap (λ c. written third ++ c) none ∙ append-nil (written third) ∙ align.written
    ∙ ap (λ c. c ++ replicate (padding (length (written second))) 0) bits_put ∙ ap (λ n. component_bits start all ++ replicate n 0) same
    ∙ sym (bits_of_bytes (component_bits start all) (bits_component start all))

pub component_written : (all : List (List ℤ)) (bytes : List ℕ) → AreBytes bytes → bits bytes ≡ bits (component_bytes all) → bytes ≡ component_bytes all
component_written all bytes are e = bits_same bytes (component_bytes all) are (component_is_bytes all) e
