-- Worked numbers: a grey frame of 16x16 samples, its header, its blocks, and the access unit that holds it.
use Rattle.std.proofs.Common.{◌≡◌, ℕ, zero, suc, ℤ, pos, ◌<◌, List, [], ◌∷◌, ◌++◌, take, drop, replicate, refl, sym, subst, lit≤, lit<, true, false, None, Result, Err, arith}
use Rattle.std.specs.Prelude.{slice_index_or}
use Rattle.apv_base.specs.declared.rules.Rule.{Rule}
use Rattle.apv_base.specs.declared.rules.Rule.TheVariants.{V2, V7, V18, V24}
use Rattle.apv_base.specs.declared.rules.HeadEnd.{HeadEnd}
use Rattle.apv_base.specs.declared.rules.HeadEnd.TheVariants.{Wide}
use Rattle.apv_base.specs.declared.rules.TileBreak.{TileBreak}
use Rattle.apv_base.specs.declared.format.Chroma.TheVariants.{C400}
use Rattle.apv_base.specs.declared.header.FrameHeader.{FrameHeader}
use Rattle.apv_base.specs.model.Bits.{digits, number, bits}
use Rattle.apv_base.specs.model.Block.{places, ac_elements}
use Rattle.apv_base.specs.model.CodeWord.{code_word, zeros_of, halvings}
use Rattle.apv_base.specs.model.Component.{packed, component_bytes, IsBlock, IsComponent}
use Rattle.apv_base.specs.model.Encode.{frame_body, frame_pbu}
use Rattle.apv_base.specs.model.Frame.{bytes_left, WalksHeader, WalksTiles}
use Rattle.apv_base.specs.model.Grid.{Grid, grid_with, tile_count, tile_x, tile_y, tile_w, tile_h, coded_place}
use Rattle.apv_base.specs.model.Header.{header_table, header_values, flat}
use Rattle.apv_base.specs.model.Pbu.{Pbu, signature, pbu_table}
use Rattle.apv_base.specs.model.Body.{with_bodies}
use Rattle.apv_base.specs.model.Unit.{HasPbuHeader, Structure}
use Rattle.apv_base.specs.model.Run.{sized, by_size, cut}
use Rattle.apv_base.specs.model.Output.{OutputSettings, by_content, DecodesTo}
use Rattle.apv_base.specs.model.Picture.{sample}
use Rattle.apv_base.specs.model.Transform.{column_sum, residual}
use Rattle.apv_base.specs.model.AuInfo.{WalksAuInfo, entries_fields}
use Rattle.apv_base.specs.declared.options.Form.TheVariants.{Planar}
use Rattle.apv_base.specs.declared.options.Select.TheVariants.{Primary}
use Rattle.apv_base.specs.declared.exits.Exit.TheVariants.{Broken}
use Rattle.apv_base.specs.model.Scan.{scan, scan_table}
use Rattle.apv_base.specs.model.CodedFrame.{CodedFrame, HasFrame, Levels, Exists, HasBlocks, HasLevels, blocks_at}
use Rattle.apv_base.specs.model.Judge.{DecodedFrame, DecodedUnit, none, decoded, IsValidUnit}
use Rattle.apv_base.specs.model.Quant.{IsLevel}
use Rattle.apv_base.specs.model.Table.{walk, spell, fields}
use Rattle.apv_base.specs.model.Tile.{Tile, tiles_table, tiles_values, tiles_from, layout_in}
use Rattle.apv_base.proofs.BitsLemmas.{zeros_have_no_one}
use Rattle.apv_base.proofs.HeaderLemmas.{flat-is-matrix}
use Rattle.apv_base.proofs.SomeRunLemmas.{accepted-none, accepted-push}

-- profile 99, level 123, 16x16 samples, 4:0:0, 10 bits, one tile of 16 by 16 macroblocks
abbrev pub grey_header : FrameHeader
grey_header = record {
  info = record { profile = 99; level = 123; band = 0; width = 16; height = 16; chroma = C400; depth = 10; capture = 0 };
  colour = None;
  use_matrix = false;
  matrices = flat ∷ flat ∷ flat ∷ flat ∷ [];
  tile_width = 16;
  tile_height = 16;
  sizes_present = false;
}

-- 637B00000010000010020000 00 00004000040000
abbrev pub header_bytes : List ℕ
header_bytes = 0x63 ∷ 0x7B ∷ 0x00 ∷ 0x00 ∷ 0x00 ∷ 0x10 ∷ 0x00 ∷ 0x00 ∷ 0x10 ∷ 0x02 ∷ 0x00 ∷ 0x00 ∷ 0x00 ∷ 0x00 ∷ 0x00 ∷ 0x40 ∷ 0x00 ∷ 0x04 ∷ 0x00 ∷ 0x00 ∷ []

pub header_spelled : spell 2 header_table (header_values grey_header []) ≡ bits header_bytes
unfolding spell fields digits
header_spelled = refl

-- with the size 18 of the tile the bytes after the reserved one are 0000400004200000024000
pub sizes_spelled : spell 2 header_table (header_values (record grey_header { sizes_present = true }) (18 ∷ []))
    ≡ bits (take 13 header_bytes ++ 0x00 ∷ 0x00 ∷ 0x40 ∷ 0x00 ∷ 0x04 ∷ 0x20 ∷ 0x00 ∷ 0x00 ∷ 0x02 ∷ 0x40 ∷ 0x00 ∷ [])
unfolding spell fields digits
sizes_spelled = refl

-- four blocks whose levels are 0
abbrev pub zeros : List ℤ
zeros = replicate 64 (pos 0)

abbrev pub grey_blocks : List (List ℤ)
grey_blocks = zeros ∷ zeros ∷ zeros ∷ zeros ∷ []

abbrev pub grey_levels : Levels
grey_levels = (grey_blocks ∷ []) ∷ []

abbrev pub grey_data : List ℕ
grey_data = 0x81 ∷ 0x07 ∷ 0xD4 ∷ 0x1F ∷ 0x50 ∷ 0x7D ∷ 0x41 ∷ 0xF0 ∷ []

pub data_spelled : component_bytes grey_blocks ≡ grey_data
unfolding packed number code_word zeros_of halvings digits places ac_elements scan_table
data_spelled = refl

-- the body: the header, 00000012 000A 0000 00000008 00 00, and the data
abbrev pub tile_bytes : List ℕ
tile_bytes = 0x00 ∷ 0x00 ∷ 0x00 ∷ 0x12 ∷ 0x00 ∷ 0x0A ∷ 0x00 ∷ 0x00 ∷ 0x00 ∷ 0x00 ∷ 0x00 ∷ 0x08 ∷ 0x00 ∷ 0x00 ∷ grey_data

abbrev pub grey_body : List ℕ
grey_body = header_bytes ++ tile_bytes

-- the PBU of the frame at QP 0: 0000002E 01000100 and the body
pub frame_spelled : frame_pbu 1 grey_header (λ tile comp. 0) grey_levels ≡ 0x00 ∷ 0x00 ∷ 0x00 ∷ 0x2E ∷ 0x01 ∷ 0x00 ∷ 0x01 ∷ 0x00 ∷ grey_body
unfolding frame_body spell fields digits packed number code_word zeros_of halvings places ac_elements scan_table tiles_from tiles_values
frame_spelled = refl

-- the file of its access unit has 58 bytes: 00000036 61507631 and the PBU
pub file_spelled : sized (signature ++ frame_pbu 1 grey_header (λ tile comp. 0) grey_levels)
    ≡ 0x00 ∷ 0x00 ∷ 0x00 ∷ 0x36 ∷ 0x61 ∷ 0x50 ∷ 0x76 ∷ 0x31 ∷ 0x00 ∷ 0x00 ∷ 0x00 ∷ 0x2E ∷ 0x01 ∷ 0x00 ∷ 0x01 ∷ 0x00 ∷ grey_body
unfolding frame_body spell fields digits packed number code_word zeros_of halvings places ac_elements scan_table tiles_from tiles_values
file_spelled = refl

header_walks : WalksHeader grey_body (header_values grey_header []) (bits tile_bytes)
unfolding walk fields digits number
header_walks = refl

abbrev pub grey_tile : Tile
grey_tile = record { lengths = 8 ∷ []; qps = 0 ∷ []; bytes = grey_data }

tiles_walk : WalksTiles (header_values grey_header []) (bytes_left grey_body (bits tile_bytes)) (tiles_values 1 0 (grey_tile ∷ [])) []
unfolding walk fields digits number tiles_from tiles_values
tiles_walk = refl

-- ---- the access unit is valid

abbrev pub grey_frame : CodedFrame
grey_frame = record { header = grey_header; tiles = grey_tile ∷ [] }

pub flat-matrices : (comp : ℕ) → comp < 4 → slice_index_or (flat ∷ flat ∷ flat ∷ flat ∷ []) comp [] ≡ flat
flat-matrices zero lt = refl
flat-matrices (suc zero) lt = refl
flat-matrices (suc (suc zero)) lt = refl
flat-matrices (suc (suc (suc zero))) lt = refl
flat-matrices (suc (suc (suc (suc n)))) lt = absurd (omega arith)

zero-level : (n i : ℕ) → slice_index_or (replicate n (pos 0)) i (pos 0) ≡ pos 0
zero-level zero i = refl
zero-level (suc n) zero = refl
zero-level (suc n) (suc i) = zero-level n i

zeros_are_block : IsBlock zeros
zeros_are_block = record { count = refl; levels = λ p. subst IsLevel (sym (zero-level 64 (scan p))) (lit< tt) }

grey_is_component : IsComponent 4 grey_data grey_blocks
unfolding number code_word zeros_of halvings digits places ac_elements scan_table
grey_is_component = record {
  count = refl;
  left = 0 ∷ 0 ∷ 0 ∷ [];
  begins = record { sound = (zeros_are_block, (zeros_are_block, (zeros_are_block, (zeros_are_block, tt)))); prefix = refl };
  aligned = zeros_have_no_one 3;
}

grey_is_frame : HasFrame grey_body grey_frame
grey_is_frame = record {
  header = record {
    info = record {
      format = record { size = refl; width = lit< tt; height = lit< tt; few = lit≤ tt; low = lit≤ tt; high = lit≤ tt };
      level = lit< tt;
      band = lit≤ tt;
      capture = lit< tt;
      readable = refl;
    };
    colour = tt;
    width = lit< tt;
    height = lit< tt;
    tiles = refl;
    four = refl;
    each = (flat-is-matrix, (flat-is-matrix, (flat-is-matrix, (flat-is-matrix, tt))));
    matrices = λ comp lt without. flat-matrices comp lt;
  };
  tiles = (record { lengths = refl; qps = refl }, tt);
  left = bits tile_bytes;
  after = [];
  walked = header_walks;
  walked_tiles = tiles_walk;
  filler = refl;
}

abbrev pub grey_pbu : Pbu
grey_pbu = record { kind = 1; group = 1; body = grey_body; payloads = [] }

abbrev pub grey_unit : List ℕ
grey_unit = signature ++ 0x00 ∷ 0x00 ∷ 0x00 ∷ 0x2E ∷ 0x01 ∷ 0x00 ∷ 0x01 ∷ 0x00 ∷ grey_body

abbrev pub grey_decoded : DecodedFrame
grey_decoded = record { kind = 1; group = 1; frame = grey_frame; levels = grey_levels }

pbu_header : HasPbuHeader (drop 4 grey_unit) 1 1 grey_body []
unfolding walk number
pbu_header = refl

grey_structure : Structure with_bodies grey_unit (grey_pbu ∷ [])
grey_structure = record {
  signed = refl;
  some = λ none. absurd (let no : ⊥ = cc in no);
  sequence = (
    [],
    record {
      header = pbu_header;
      sound = (refl, (header_values grey_header [], tiles_values 1 0 (grey_tile ∷ []), record { left = bits tile_bytes; after = []; walked = header_walks; walked_tiles = tiles_walk; filler = refl }));
    },
    refl,
  );
}

grey_has_blocks : (tile comp : ℕ) → Exists grey_frame tile comp → HasBlocks grey_frame tile comp (blocks_at grey_levels tile comp)
grey_has_blocks zero zero exists = grey_is_component
grey_has_blocks zero (suc comp) exists = absurd (omega (arith, exists.1))
grey_has_blocks (suc tile) comp exists = absurd (omega (arith, exists.0))

grey_has_levels : HasLevels grey_frame grey_levels
grey_has_levels = record { tiles = refl; comps = (refl, tt); blocks = grey_has_blocks }

abbrev pub grey_decoded_unit : DecodedUnit
grey_decoded_unit = record { bytes = grey_unit; pbus = grey_pbu ∷ []; frames = grey_decoded ∷ [] }

-- the unit of 54 bytes breaks no rule, in structure and in content
pub grey_is_valid : IsValidUnit false grey_decoded_unit
grey_is_valid = record {
  structure = grey_structure;
  strictly = λ strict. absurd (let no : ⊥ = cc in no);
  content = decoded grey_pbu [] grey_decoded [] refl (record { kind = refl; group = refl; frame = grey_is_frame; levels = grey_has_levels }) none;
}

-- each of its samples is 512; here those at the corners
pub grey_samples : (sample grey_frame grey_levels 0 0 0 ≡ 512) × (sample grey_frame grey_levels 0 15 0 ≡ 512) × (sample grey_frame grey_levels 0 15 15 ≡ 512)
unfolding sample column_sum residual
grey_samples = (refl, refl, refl)

-- ---- a file of three such units cut short

abbrev pub grey_file : List ℕ
grey_file = sized grey_unit ++ (sized grey_unit ++ (0x00 ∷ 0x00 ∷ 0x00 ∷ 0x36 ∷ take 26 grey_unit))

abbrev pub plain_settings : OutputSettings
plain_settings = record { output = true; payloads = false; form = Planar; rate = (30, 1); select = Primary; group = None; strict = false }

-- what is left after two units
abbrev pub grey_rest : List ℕ
grey_rest = 0x00 ∷ 0x00 ∷ 0x00 ∷ 0x36 ∷ take 26 grey_unit

-- pictures in planar form may change their format
grey_accepted : (before : List DecodedUnit) → (by_content plain_settings).Accepts before grey_decoded_unit
grey_accepted before = (grey_is_valid, λ y4m. absurd (let no : ⊥ = cc in no))

-- 146 bytes: two units, and the third is cut
pub grey_file_decodes : DecodesTo plain_settings grey_file (grey_decoded_unit ∷ grey_decoded_unit ∷ []) (Broken (record { rule = V2; place = record { unit = 2; pbu = 0; tile = 0; comp = 0 } }))
unfolding digits number
grey_file_decodes =
    let one = accepted-push (by_content plain_settings) [] grey_decoded_unit (accepted-none (by_content plain_settings)) (lit≤ tt) (grey_accepted []) in
    record {
      rest = grey_rest;
      prefix = record {
        parts = refl;
        count = lit≤ tt;
        accepted = accepted-push (by_content plain_settings) (grey_decoded_unit ∷ []) grey_decoded_unit one (lit≤ tt) (grey_accepted (grey_decoded_unit ∷ []));
      };
      stops = by_size _ (cut 54 (lit< tt) (record { long = lit≤ tt; is = refl }) (lit≤ tt) (lit< tt));
    }

-- ---- of two breaks the first in the order is named

-- the reserved byte of the PBU is 1 and the profile is 64: the rule V7
pub reserved_first : ◌≡◌ {A = Result (List ℕ × List ℕ) Rule} (walk 256 pbu_table (0x00 ∷ 0x00 ∷ 0x00 ∷ 0x2E ∷ 0x01 ∷ 0x00 ∷ 0x01 ∷ 0x01 ∷ 0x64 ∷ drop 1 grey_body)) (Err V7)
unfolding walk number
reserved_first = refl

-- the QP is 64 and the data size is 9: the rule V24
pub data_size_first : ◌≡◌ {A = Result (List ℕ × List ℕ) TileBreak} (walk 256 (tiles_table (layout_in (header_values grey_header [])))
    (0x00 ∷ 0x00 ∷ 0x00 ∷ 0x12 ∷ 0x00 ∷ 0x0A ∷ 0x00 ∷ 0x00 ∷ 0x00 ∷ 0x00 ∷ 0x00 ∷ 0x09 ∷ 0x40 ∷ 0x00 ∷ grey_data)) (Err (record { tile = 0; rule = V24 }))
unfolding walk number tiles_from fields digits
data_size_first = refl

-- another size of the tile in the header: the rule V18 at the tile
pub other_size : ◌≡◌ {A = Result (List ℕ × List ℕ) TileBreak} (walk 256 (tiles_table (layout_in (header_values (record grey_header { sizes_present = true }) (19 ∷ [])))) tile_bytes) (Err (record { tile = 0; rule = V18 }))
unfolding walk number tiles_from fields digits
other_size = refl

-- a height of 4,194,320 makes 262,145 macroblocks, more than the limit
pub too_many : ◌≡◌ {A = Result (List ℕ × List ℕ) HeadEnd} (walk 2 header_table (bits (take 6 header_bytes ++ 0x40 ∷ 0x00 ∷ 0x10 ∷ drop 9 header_bytes))) (Err (Wide 262145))
unfolding walk number fields digits
too_many = refl

-- ---- access unit information: 0001 01000100 637B00000010000010020000 00

pub au_info_walks : WalksAuInfo (0x00 ∷ 0x01 ∷ 0x01 ∷ 0x00 ∷ 0x01 ∷ 0x00 ∷ take 12 header_bytes ++ 0x00 ∷ []) (1 ∷ 1 ∷ 1 ∷ 0 ∷ 99 ∷ 123 ∷ 0 ∷ 0 ∷ 16 ∷ 16 ∷ 0 ∷ 2 ∷ 0 ∷ 0 ∷ 0 ∷ []) []
unfolding walk number fields digits entries_fields
au_info_walks = refl

-- ---- the grid of 768x256 samples with tiles of 16 by 8 macroblocks

abbrev pub six : Grid
six = grid_with (record { width = 768; height = 256; chroma = C400; depth = 10 }) 16 8

-- it has six tiles; the last one begins at macroblock 32, 8 and is whole
pub six_tiles : (tile_count six ≡ 6) × (tile_x six 5 ≡ 32) × (tile_y six 5 ≡ 8) × (tile_w six 5 ≡ 16) × (tile_h six 5 ≡ 8)
six_tiles = (refl, refl, refl, refl, refl)

-- the sample at 767, 255 is coded last: in the last block of the last tile, at place 63
pub last_sample : coded_place six 0 767 255 ≡ record { tile = 5; block = 511; place = 63 }
last_sample = refl
