-- A component that is decoded block by block.
use Rattle.std.proofs.Common.{◌≡◌, ℕ, ℤ, ◌+◌, ◌/◌, ◌<◌, ◌≢◌, ◌++◌, length, take, List, [], ◌∷◌, refl, sym, ap, ◌∙◌, subst, arith, below_more, append_assoc, append-nil, length-append}
use Rattle.std.specs.Prelude.{Contains, slice_index_or}
use Rattle.std.proofs.lemmas.List.{get_or_at, get_or_append_left}
use Rattle.apv_base.specs.declared.rules.Rule.{Rule}
use Rattle.apv_base.specs.declared.rules.Rule.TheVariants.{V31}
use Rattle.apv_base.specs.model.Bits.{bits, padding}
use Rattle.apv_base.specs.model.Scan.{level_at}
use Rattle.apv_base.specs.model.Block.{Context, start, block_bits, next_context, BlockBreaks}
use Rattle.apv_base.specs.model.Component.{IsBlock, AreBlocks, context_after, component_bits, BeginsWith, ComponentBreaks, in_block, in_alignment}
use Rattle.apv_bits.specs.Reader.{Unread, Takes}
use Rattle.apv_quant.specs.Scale.{StepNumbers}
use Rattle.apv_tile.specs.Blocks.{block_at, AreSamplesOfLevels, IsDecodedComponent}

-- ---- one block after others

pub context_more : (context : Context) (blocks : List (List ℤ)) (block : List ℤ)
    → context_after context (blocks ++ block ∷ []) ≡ next_context (context_after context blocks) (level_at block)
context_more context [] block = refl
context_more context (b ∷ bs) block = context_more (next_context context (level_at b)) bs block

pub bits_more : (context : Context) (blocks : List (List ℤ)) (block : List ℤ)
    → component_bits context (blocks ++ block ∷ []) ≡ component_bits context blocks ++ block_bits (context_after context blocks) (level_at block)
bits_more context [] block = append-nil (block_bits context (level_at block))
bits_more context (b ∷ bs) block =
    ap (λ c. block_bits context (level_at b) ++ c) (bits_more (next_context context (level_at b)) bs block)
    ∙ sym (append_assoc (block_bits context (level_at b)) (component_bits (next_context context (level_at b)) bs)
    (block_bits (context_after (next_context context (level_at b)) bs) (level_at block)))

blocks_more : (blocks : List (List ℤ)) (block : List ℤ) → AreBlocks blocks → IsBlock block → AreBlocks (blocks ++ block ∷ [])
blocks_more [] block sound is = (is, tt {0})
blocks_more (b ∷ bs) block sound is = (sound.0, blocks_more bs block sound.1 is)

-- ---- decoding

-- n blocks are read and decoded
pub record AreDecoded (scale : StepNumbers) (depth : ℕ) (bytes : List ℕ) (count : ℕ) (reader : Unread) (context : Context) (samples : List ℕ) : Type 0 where
  pub blocks : List (List ℤ)
  pub many : length blocks ≡ count
  pub begins : BeginsWith bytes blocks reader.left
  pub place : reader.place ≡ length (component_bits start blocks)
  pub after : context ≡ context_after start blocks
  pub each : (block : ℕ) → block < count → AreSamplesOfLevels scale depth (slice_index_or blocks block []) (block_at samples block)

pub none_decoded : (scale : StepNumbers) (depth : ℕ) (bytes : List ℕ) (reader : Unread) (context : Context) (samples : List ℕ)
    → reader ≡ record { left = bits bytes; place = 0 } → context ≡ start → AreDecoded scale depth bytes 0 reader context samples
none_decoded scale depth bytes reader context samples e f = record {
  blocks = [];
  many = refl;
  begins = record { sound = tt {0}; prefix = ap (λ (r : Unread). r.left) (sym e) };
  place = ap (λ (r : Unread). r.place) e;
  after = f;
  each = λ block lt. absurd (omega (arith, lt));
}

pub one_more_decoded : (scale : StepNumbers) (depth : ℕ) (bytes : List ℕ) (count : ℕ) (old new : Unread) (context after : Context) (samples stored : List ℕ) (levels : List ℤ) (made : List ℕ)
    → AreDecoded scale depth bytes count old context samples → IsBlock levels → Takes old new (block_bits context (level_at levels)) → after ≡ next_context context (level_at levels)
    → block_at stored count ≡ made → ((other : ℕ) → other ≢ count → block_at stored other ≡ block_at samples other) → AreSamplesOfLevels scale depth levels made
    → AreDecoded scale depth bytes (count + 1) new after stored
one_more_decoded scale depth bytes count old new context after samples stored levels made d is takes next here others decoded =
    let blocks : List (List ℤ) = d.blocks in
    let word : block_bits context (level_at levels) ≡ block_bits (context_after start d.blocks) (level_at levels) = ap (λ c. block_bits c (level_at levels)) d.after in
    let all : component_bits start (d.blocks ++ levels ∷ []) ≡ component_bits start d.blocks ++ block_bits context (level_at levels) =
    bits_more start d.blocks levels ∙ ap (λ c. component_bits start d.blocks ++ c) (sym word) in
    record {
      blocks = d.blocks ++ levels ∷ [];
      many = omega (arith, length-append d.blocks (levels ∷ []), d.many);
      begins = record {
        sound = blocks_more d.blocks levels d.begins.sound is;
        prefix = d.begins.prefix ∙ ap (λ c. component_bits start d.blocks ++ c) takes.prefix
            ∙ sym (append_assoc (component_bits start d.blocks) (block_bits context (level_at levels)) new.left) ∙ ap (λ c. c ++ new.left) (sym all);
      };
      place = omega (arith, takes.place, d.place, ap length all, length-append (component_bits start d.blocks) (block_bits context (level_at levels)));
      after = next ∙ ap (λ c. next_context c (level_at levels)) d.after ∙ sym (context_more start d.blocks levels);
      each = below_more (λ (block : ℕ). AreSamplesOfLevels scale depth (slice_index_or (d.blocks ++ levels ∷ []) block []) (block_at stored block)) count
          (λ block lt.
          let within : block < length d.blocks = omega (arith, lt, d.many) in
          let ne : block ≢ count = omega (arith, lt) in
          rw (get_or_append_left d.blocks (levels ∷ []) [] block within, others block ne) (d.each block lt))
          (rw (get_or_at d.blocks levels [] [] count d.many, here) decoded);
    }

pub breaks_at : (scale : StepNumbers) (depth : ℕ) (bytes : List ℕ) (n count : ℕ) (reader : Unread) (context : Context) (samples : List ℕ) (rule : Rule)
    → AreDecoded scale depth bytes count reader context samples → count < n → BlockBreaks context reader.left rule → ComponentBreaks n bytes rule
breaks_at scale depth bytes n count reader context samples rule d lt breaks =
    in_block rule d.blocks reader.left (omega (arith, lt, d.many)) d.begins (subst (λ (c : Context). BlockBreaks c reader.left rule) d.after breaks)

pub misaligned : (scale : StepNumbers) (depth : ℕ) (bytes : List ℕ) (n count : ℕ) (reader : Unread) (context : Context) (samples : List ℕ)
    → AreDecoded scale depth bytes count reader context samples → n ≡ count → Contains (take (padding reader.place) reader.left) 1 → ComponentBreaks n bytes V31
misaligned scale depth bytes n count reader context samples d e one =
    in_alignment d.blocks reader.left (d.many ∙ sym e) d.begins (subst (λ (place : ℕ). Contains (take (padding place) reader.left) 1) d.place one)

pub all_decoded : (scale : StepNumbers) (depth : ℕ) (bytes : List ℕ) (count : ℕ) (reader : Unread) (context : Context) (samples : List ℕ)
    → AreDecoded scale depth bytes count reader context samples → length samples / 64 ≡ count → (Contains (take (padding reader.place) reader.left) 1 → ⊥) → IsDecodedComponent scale depth bytes samples
all_decoded scale depth bytes count reader context samples d e zeros = record {
  blocks = d.blocks;
  component = record {
    count = d.many ∙ sym e;
    left = reader.left;
    begins = d.begins;
    aligned = λ one. zeros (subst (λ (place : ℕ). Contains (take (padding place) reader.left) 1) (sym d.place) one);
  };
  each = λ block lt. d.each block (omega (arith, lt, e));
}
