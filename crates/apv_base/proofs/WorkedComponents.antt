-- Worked numbers: the bytes of a component of four blocks, and the rules that others break.
use Rattle.std.proofs.Common.{◌≡◌, ℕ, zero, suc, ℤ, pos, negsuc, ◌≤◌, List, [], ◌∷◌, ◌++◌, replicate, refl, sym, subst, lit≤, lit<, arith}
use Rattle.std.specs.Prelude.{unsigned_abs, slice_index_or}
use Rattle.apv_base.specs.declared.rules.Rule.TheVariants.{V27, V29, V30, V31}
use Rattle.apv_base.specs.model.Bits.{digits, number, bits}
use Rattle.apv_base.specs.model.Block.{coded_value, sign_bit, start, places, ac_elements, BlockBreaks}
use Rattle.apv_base.specs.model.CodeWord.{code_word, zeros_of, halvings}
use Rattle.apv_base.specs.model.Component.{ComponentBreaks, in_block, in_alignment, IsBlock, AreBlocks}
use Rattle.apv_base.specs.model.Quant.{IsLevel}
use Rattle.apv_base.specs.model.Scan.{scan, scan_table}
use Rattle.apv_base.proofs.WorkedFrames.{zeros, grey_blocks}

-- a block whose levels are 0
abbrev all_zero : ℕ → ℤ
all_zero p = pos 0

-- the byte 40 is the bits 01 and six zeros, which end inside a code word with k = 5, such as that of 2080: the rule V27
cut-block : BlockBreaks start (bits (0x40 ∷ [])) V27
unfolding code_word zeros_of halvings digits places ac_elements
cut-block = record {
  block = all_zero;
  wide = record { dc = lit≤ tt; ac = λ p lt. lit≤ tt };
  breaks = record {
    whole = [];
    next = coded_value 5 65535 65535 0;
    more = coded_value 0 63 63 63 ∷ [];
    all = refl;
    permitted = tt;
    left = bits (0x40 ∷ []);
    prefix = refl;
    at = (2080, lit≤ tt, (1 ∷ replicate 11 0, lit< tt, refl));
  };
}

pub cut_word : ComponentBreaks 4 (0x40 ∷ []) V27
cut_word = in_block V27 [] (bits (0x40 ∷ [])) (lit< tt) (record { sound = tt; prefix = refl }) cut-block

-- the bytes 81 07 are the first level, 0, and the bits 0100000111 of the run of 63: the rule V27 in the first block
cut-run : BlockBreaks start (bits (0x81 ∷ 0x07 ∷ [])) V27
unfolding code_word zeros_of halvings digits places ac_elements
cut-run = record {
  block = all_zero;
  wide = record { dc = lit≤ tt; ac = λ p lt. lit≤ tt };
  breaks = record {
    whole = coded_value 5 65535 65535 0 ∷ [];
    next = coded_value 0 63 63 63;
    more = [];
    all = refl;
    permitted = (tt, tt);
    left = 0 ∷ 1 ∷ 0 ∷ 0 ∷ 0 ∷ 0 ∷ 0 ∷ 1 ∷ 1 ∷ 1 ∷ [];
    prefix = refl;
    at = (63, lit≤ tt, (1 ∷ 1 ∷ 0 ∷ [], lit< tt, refl));
  };
}

pub cut_after_level : ComponentBreaks 4 (0x81 ∷ 0x07 ∷ []) V27
cut_after_level = in_block V27 [] (bits (0x81 ∷ 0x07 ∷ [])) (lit< tt) (record { sound = tt; prefix = refl }) cut-run

-- a block whose only level is 1, at scan place 1
abbrev one_at_1 : ℕ → ℤ
one_at_1 zero = pos 0
one_at_1 (suc zero) = pos 1
one_at_1 (suc (suc p)) = pos 0

small : (p : ℕ) → unsigned_abs (one_at_1 p) ≤ 32768
small zero = lit≤ tt
small (suc zero) = lit≤ tt
small (suc (suc p)) = lit≤ tt

-- the bytes 83 20 F8 are the level 1 at scan place 1 and a run of 63 after it, where 62 places are left: the rule V29
long-run : BlockBreaks start (bits (0x83 ∷ 0x20 ∷ 0xF8 ∷ replicate 5 0)) V29
unfolding code_word zeros_of halvings digits places ac_elements
long-run = record {
  block = one_at_1;
  wide = record { dc = lit≤ tt; ac = λ p lt. small p };
  breaks = record {
    whole = coded_value 5 65535 65535 0 ∷ coded_value 0 63 63 0 ∷ coded_value 0 32767 32767 0 ∷ sign_bit (pos 1) (negsuc 0) 0 ∷ [];
    next = coded_value 0 63 62 62;
    more = [];
    all = refl;
    permitted = (tt, (tt, (tt, (lit< tt, tt))));
    left = 0 ∷ 1 ∷ 0 ∷ 0 ∷ 0 ∷ 0 ∷ 0 ∷ 1 ∷ 1 ∷ 1 ∷ 1 ∷ 1 ∷ (replicate 43 0);
    prefix = refl;
    at = (63, (lit≤ tt, (replicate 42 0, refl)), lit< tt);
  };
}

pub run_too_long : ComponentBreaks 4 (0x83 ∷ 0x20 ∷ 0xF8 ∷ replicate 5 0) V29
run_too_long = in_block V29 [] (bits (0x83 ∷ 0x20 ∷ 0xF8 ∷ replicate 5 0)) (lit< tt) (record { sound = tt; prefix = refl }) long-run

-- after the first levels -32768 and 32767, with k = 5: 01, ten zeros, 1, 111111111011111 and the sign 0 is a difference of
-- 65535 upwards, to the level 98302: the rule V30
abbrev next_is_65535 : List ℕ
next_is_65535 = 0 ∷ 1 ∷ (replicate 10 0 ++ 1 ∷ (replicate 9 1 ++ 0 ∷ (replicate 5 1 ++ 0 ∷ [])))

abbrev down : ℕ → ℤ
down zero = negsuc 32767
down (suc p) = pos 0

down-small : (p : ℕ) → unsigned_abs (down p) ≤ 32768
down-small zero = lit≤ tt
down-small (suc p) = lit≤ tt

pub level_too_large : BlockBreaks (record { dc = pos 32767; diff = 65535; first = 0 }) next_is_65535 V30
unfolding code_word zeros_of halvings digits places ac_elements
level_too_large = record {
  block = down;
  wide = record { dc = lit≤ tt; ac = λ p lt. down-small p };
  breaks = record {
    whole = coded_value 5 65535 65535 65535 ∷ [];
    next = sign_bit (pos 98302) (negsuc 32767) 1;
    more = coded_value 0 63 63 63 ∷ [];
    all = refl;
    permitted = (tt, tt);
    left = 0 ∷ [];
    prefix = refl;
    at = (0, [], refl, λ level. absurd (omega (arith, level)));
  };
}

zero-level : (n i : ℕ) → slice_index_or (replicate n (pos 0)) i (pos 0) ≡ pos 0
zero-level zero i = refl
zero-level (suc n) zero = refl
zero-level (suc n) (suc i) = zero-level n i

-- 64 levels of 0 are a block
pub zeros_are_block : IsBlock zeros
zeros_are_block = record { count = refl; levels = λ p. subst IsLevel (sym (zero-level 64 (scan p))) (lit< tt) }

-- n of them are blocks
pub zeros_are_blocks : (n : ℕ) → AreBlocks (replicate n zeros)
zeros_are_blocks zero = tt
zeros_are_blocks (suc n) = (zeros_are_block, zeros_are_blocks n)

-- four blocks whose levels are 0 are 81 07 D4 1F 50 7D 41 F0; with F1 in place of F0 the last alignment bit is 1: the rule
-- V31
pub alignment_bit : ComponentBreaks 4 (0x81 ∷ 0x07 ∷ 0xD4 ∷ 0x1F ∷ 0x50 ∷ 0x7D ∷ 0x41 ∷ 0xF1 ∷ []) V31
unfolding number code_word zeros_of halvings digits places ac_elements scan_table
alignment_bit = in_alignment grey_blocks (0 ∷ 0 ∷ 1 ∷ []) refl (record { sound = zeros_are_blocks 4; prefix = refl }) (2, lit< tt, refl)
