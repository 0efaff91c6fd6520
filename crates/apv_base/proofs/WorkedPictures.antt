-- Worked numbers: a 4:2:2 frame of 18x18 samples, the access unit that holds it, and its planes.
use Rattle.std.proofs.Common.{◌≡◌, ℕ, [], ◌∷◌, ◌++◌, length, replicate, refl, false, None}
use Rattle.std.specs.Prelude.{◌+◌, ◌*◌}
use Rattle.apv_base.specs.declared.format.Chroma.TheVariants.{C422}
use Rattle.apv_base.specs.declared.format.Format.{Format}
use Rattle.apv_base.specs.declared.header.FrameHeader.{FrameHeader}
use Rattle.apv_base.specs.model.Bits.{digits, number}
use Rattle.apv_base.specs.model.Block.{places, ac_elements}
use Rattle.apv_base.specs.model.CodedFrame.{Levels}
use Rattle.apv_base.specs.model.CodeWord.{code_word, zeros_of, halvings}
use Rattle.apv_base.specs.model.Component.{packed, component_bytes}
use Rattle.apv_base.specs.model.Encode.{frame_body, frame_pbu, block_x, block_y}
use Rattle.apv_base.specs.model.Format.{macroblocks}
use Rattle.apv_base.specs.model.Grid.{Grid, grid_with, tile_count, block_count, coded_place}
use Rattle.apv_base.specs.model.Header.{flat}
use Rattle.apv_base.specs.model.Pbu.{signature}
use Rattle.apv_base.specs.model.Picture.{picture, picture_len}
use Rattle.apv_base.specs.model.Run.{sized}
use Rattle.apv_base.specs.model.Scan.{scan_table}
use Rattle.apv_base.specs.model.Table.{spell, fields}
use Rattle.apv_base.specs.model.Tile.{tiles_values, tiles_from}
use Rattle.apv_base.proofs.WorkedFrames.{zeros}

-- ---- the grid

abbrev pub format_18 : Format
format_18 = record { width = 18; height = 18; chroma = C422; depth = 10 }

abbrev pub grid_18 : Grid
grid_18 = grid_with format_18 16 8

-- 4 macroblocks in one tile; 16 blocks of component 0, and 8 of each other component
pub counts_18 : (macroblocks format_18 ≡ 4) × (tile_count grid_18 ≡ 1) × (block_count grid_18 0 0 ≡ 16) × (block_count grid_18 0 1 ≡ 8) × (block_count grid_18 0 2 ≡ 8)
counts_18 = (refl, refl, refl, refl, refl)

-- the sample at 8, 17 of component 1 is coded in block 6, which begins at 8, 16; the one at 17, 17 of component 0 is coded
-- in block 12, which begins at 16, 16
pub place_in_1 : coded_place grid_18 1 8 17 ≡ record { tile = 0; block = 6; place = 8 }
place_in_1 = refl

pub place_in_0 : coded_place grid_18 0 17 17 ≡ record { tile = 0; block = 12; place = 9 }
place_in_0 = refl

pub blocks_begin : (block_x grid_18 0 1 6 ≡ 8) × (block_y grid_18 0 1 6 ≡ 16) × (block_x grid_18 0 0 12 ≡ 16) × (block_y grid_18 0 0 12 ≡ 16)
blocks_begin = (refl, refl, refl, refl)

-- ---- the frame: profile 33, level 123, 18x18 samples, 4:2:2, 10 bits, one tile of 16 by 8 macroblocks

abbrev pub header_18 : FrameHeader
header_18 = record {
  info = record { profile = 33; level = 123; band = 0; width = 18; height = 18; chroma = C422; depth = 10; capture = 0 };
  colour = None;
  use_matrix = false;
  matrices = flat ∷ flat ∷ flat ∷ flat ∷ [];
  tile_width = 16;
  tile_height = 8;
  sizes_present = false;
}

abbrev pub levels_18 : Levels
levels_18 = (replicate 16 zeros ∷ replicate 8 zeros ∷ replicate 8 zeros ∷ []) ∷ []

-- the data of 16 blocks whose levels are 0 have 29 bytes, and those of 8 blocks 15
pub data_lengths : (length (component_bytes (replicate 16 zeros)) ≡ 29) × (length (component_bytes (replicate 8 zeros)) ≡ 15)
unfolding packed number code_word zeros_of halvings digits places ac_elements scan_table
data_lengths = (refl, refl)

-- the PBU of the frame at QP 0 has 111 bytes, its pbu_size of 107 among them, and the file of its access unit 119
pub length_of_pbu : length (frame_pbu 1 header_18 (λ tile comp. 0) levels_18) ≡ 111
unfolding frame_body spell fields digits packed number code_word zeros_of halvings places ac_elements scan_table tiles_from tiles_values
length_of_pbu = refl

pub length_of_file : length (sized (signature ++ frame_pbu 1 header_18 (λ tile comp. 0) levels_18)) ≡ 119
unfolding frame_body spell fields digits packed number code_word zeros_of halvings places ac_elements scan_table tiles_from tiles_values
length_of_file = refl

-- ---- planes

-- its picture has 648 samples, 1,296 bytes
pub picture_length : picture_len format_18 ≡ 1296
picture_length = refl

abbrev pub format_2 : Format
format_2 = record { width = 2; height = 2; chroma = C422; depth = 10 }

abbrev pub samples_2 : ℕ → ℕ → ℕ → ℕ
samples_2 comp x y = 256 * comp + 16 * y + x

-- of 2x2 samples, with 256 * comp + 16 * y + x at x, y: 0 1 16 17, then 256 272, then 512 528, each the low byte first
pub planes : picture format_2 samples_2 ≡ 0 ∷ 0 ∷ 1 ∷ 0 ∷ 16 ∷ 0 ∷ 17 ∷ 0 ∷ 0 ∷ 1 ∷ 16 ∷ 1 ∷ 0 ∷ 2 ∷ 16 ∷ 2 ∷ []
unfolding picture
planes = refl
