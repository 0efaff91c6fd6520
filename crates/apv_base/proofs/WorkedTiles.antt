-- Worked numbers: tiles other than the first one of a frame.
use Rattle.std.proofs.Common.{◌≡◌, ℕ, zero, suc, ℤ, ◌<◌, ◌⊎◌, inl, inr, List, [], ◌∷◌, ◌++◌, replicate, refl, lit<, false, None, Result, Ok, Err, arith}
use Rattle.apv_base.specs.declared.format.Chroma.TheVariants.{C400, C422}
use Rattle.apv_base.specs.declared.header.FrameHeader.{FrameHeader}
use Rattle.apv_base.specs.declared.rules.Rule.TheVariants.{V21, V22, V27}
use Rattle.apv_base.specs.declared.rules.TileBreak.{TileBreak}
use Rattle.apv_base.specs.model.Bits.{digits, number}
use Rattle.apv_base.specs.model.Block.{places, ac_elements}
use Rattle.apv_base.specs.model.CodedFrame.{CodedFrame, Exists, HasBlocks}
use Rattle.apv_base.specs.model.CodeWord.{code_word, zeros_of, halvings}
use Rattle.apv_base.specs.model.Component.{packed, component_bytes}
use Rattle.apv_base.specs.model.Encode.{block_x, block_y}
use Rattle.apv_base.specs.model.Grid.{Grid, grid_with, tile_count, tile_x, tile_y, tile_w, tile_h, block_count, coded_place}
use Rattle.apv_base.specs.model.Header.{flat, grid_of}
use Rattle.apv_base.specs.model.Judge.{ContentBreaks}
use Rattle.apv_base.specs.model.Scan.{scan_table}
use Rattle.apv_base.specs.model.Table.{walk, spell, fields}
use Rattle.apv_base.specs.model.Tile.{Layout, Tile, tiles_table, tiles_values, tiles_from}
use Rattle.apv_base.proofs.BitsLemmas.{zeros_have_no_one}
use Rattle.apv_base.proofs.WorkedComponents.{zeros_are_blocks, cut_word}
use Rattle.apv_base.proofs.WorkedFrames.{zeros, six}

-- ---- places in the grid of 768x256 samples with six tiles of 16 by 8 macroblocks

-- the sample at 256, 0 is the first one of tile 1, that at 0, 128 the first one of tile 3
pub first_samples : (coded_place six 0 256 0 ≡ record { tile = 1; block = 0; place = 0 }) × (coded_place six 0 0 128 ≡ record { tile = 3; block = 0; place = 0 })
first_samples = (refl, refl)

-- block 0 of tile 4 begins at 256, 128, and block 511 of tile 5 at 760, 248
pub blocks_begin : (block_x six 4 0 0 ≡ 256) × (block_y six 4 0 0 ≡ 128) × (block_x six 5 0 511 ≡ 760) × (block_y six 5 0 511 ≡ 248)
blocks_begin = (refl, refl, refl, refl)

-- ---- a 4:2:2 frame of 400x144 samples with tiles of 16 by 8 macroblocks

abbrev pub four : Grid
four = grid_with (record { width = 400; height = 144; chroma = C422; depth = 10 }) 16 8

-- it has four tiles; the last one begins at macroblock 16, 8 and has 9 by 1 macroblocks, which are 18 blocks of component 1
pub last_tile : (tile_count four ≡ 4) × (tile_x four 3 ≡ 16) × (tile_y four 3 ≡ 8) × (tile_w four 3 ≡ 9) × (tile_h four 3 ≡ 1) × (block_count four 3 1 ≡ 18)
last_tile = (refl, refl, refl, refl, refl, refl)

-- the sample at 199, 143 of component 1 is coded in its block 17, at place 63, and that block begins at 192, 136
pub last_of_1 : coded_place four 1 199 143 ≡ record { tile = 3; block = 17; place = 63 }
last_of_1 = refl

pub block_of_1 : (block_x four 3 1 17 ≡ 192) × (block_y four 3 1 17 ≡ 136)
block_of_1 = (refl, refl)

-- ---- six tiles without data, each of 10 bytes after its size

abbrev pub six_layout : Layout
six_layout = record { comps = 1; depth = 10; count = 6; sizes = None }

abbrev pub empty_tile : Tile
empty_tile = record { lengths = 0 ∷ []; qps = 22 ∷ []; bytes = [] }

-- tile_size, tile_header_size, tile_index, tile_data_size, tile_qp and the reserved byte:
-- 0000000A 000A INDEX 00000000 QP 00
abbrev pub tile_spelled : ℕ → ℕ → List ℕ
tile_spelled index qp = 0 ∷ 0 ∷ 0 ∷ 10 ∷ 0 ∷ 10 ∷ 0 ∷ index ∷ 0 ∷ 0 ∷ 0 ∷ 0 ∷ qp ∷ 0 ∷ []

abbrev pub last_three : ℕ → List ℕ
last_three qp = tile_spelled 3 22 ++ tile_spelled 4 qp ++ tile_spelled 5 22

-- each tile carries its number
pub tiles_spelled : spell 256 (tiles_table six_layout) (tiles_values 1 0 (replicate 6 empty_tile))
    ≡ tile_spelled 0 22 ++ tile_spelled 1 22 ++ tile_spelled 2 22 ++ last_three 22
unfolding spell fields digits tiles_from tiles_values
tiles_spelled = refl

pub tiles_walk : ◌≡◌ {A = Result (List ℕ × List ℕ) TileBreak} (walk 256 (tiles_table six_layout) (tile_spelled 0 22 ++ tile_spelled 1 22 ++ tile_spelled 2 22 ++ last_three 22))
    (Ok (tiles_values 1 0 (replicate 6 empty_tile), []))
unfolding walk number fields digits tiles_from tiles_values
tiles_walk = refl

-- the fourth tile has the tile_index 4: the rule V21 at tile 3
pub other_index : ◌≡◌ {A = Result (List ℕ × List ℕ) TileBreak} (walk 256 (tiles_table six_layout) (tile_spelled 0 22 ++ tile_spelled 1 22 ++ tile_spelled 2 22 ++ tile_spelled 4 22 ++ tile_spelled 5 22))
    (Err (record { tile = 3; rule = V21 }))
unfolding walk number fields digits tiles_from
other_index = refl

-- the fifth has the QP 64, one more than 10 bits permit: the rule V22 at tile 4
pub large_qp : ◌≡◌ {A = Result (List ℕ × List ℕ) TileBreak} (walk 256 (tiles_table six_layout) (tile_spelled 0 22 ++ tile_spelled 1 22 ++ tile_spelled 2 22 ++ last_three 64))
    (Err (record { tile = 4; rule = V22 }))
unfolding walk number fields digits tiles_from
large_qp = refl

-- ---- content that breaks in a tile other than the first: 272x16 samples, 4:0:0, 10 bits, tiles of 16 by 8 macroblocks

abbrev pub wide_header : FrameHeader
wide_header = record {
  info = record { profile = 99; level = 123; band = 0; width = 272; height = 16; chroma = C400; depth = 10; capture = 0 };
  colour = None;
  use_matrix = false;
  matrices = flat ∷ flat ∷ flat ∷ flat ∷ [];
  tile_width = 16;
  tile_height = 8;
  sizes_present = false;
}

-- tile 0 has 16 macroblocks, whose 64 blocks have levels of 0 in 113 bytes; tile 1 has one macroblock
abbrev pub first_data : List ℕ
first_data = component_bytes (replicate 64 zeros)

pub counts : (tile_count (grid_of wide_header) ≡ 2) × (block_count (grid_of wide_header) 0 0 ≡ 64) × (block_count (grid_of wide_header) 1 0 ≡ 4)
counts = (refl, refl, refl)

-- the data of tile 1 is the byte 40, which ends inside a code word
abbrev pub wide_frame : CodedFrame
wide_frame = record {
  header = wide_header;
  tiles = record { lengths = 113 ∷ []; qps = 0 ∷ []; bytes = first_data } ∷ record { lengths = 1 ∷ []; qps = 0 ∷ []; bytes = 0x40 ∷ [] } ∷ [];
}

first_is_component : HasBlocks wide_frame 0 0 (replicate 64 zeros)
unfolding packed number digits code_word zeros_of halvings places ac_elements scan_table
first_is_component = record {
  count = refl;
  left = 0 ∷ 0 ∷ 0 ∷ [];
  begins = record { sound = zeros_are_blocks 64; prefix = refl };
  aligned = zeros_have_no_one 3;
}

blocks_before : (tile comp : ℕ) → Exists wide_frame tile comp → (tile < 1) ⊎ ((tile ≡ 1) × (comp < 0)) → (blocks : List (List ℤ)) × HasBlocks wide_frame tile comp blocks
blocks_before zero zero exists before = (replicate 64 zeros, first_is_component)
blocks_before zero (suc comp) exists before = absurd (omega (arith, exists.1))
blocks_before (suc tile) comp exists (inl lt) = absurd (omega (arith, lt))
blocks_before (suc tile) comp exists (inr same) = absurd (omega (arith, same.1))

-- the rule V27 in component 0 of tile 1
pub breaks_in_1 : ContentBreaks wide_frame (record { tile = 1; comp = 0; rule = V27 })
breaks_in_1 = record { exists = (lit< tt, lit< tt); before = blocks_before; breaks = cut_word }
