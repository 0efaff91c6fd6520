-- Worked numbers: Y4M files, their lines, and files whose pictures don't have one format.
use Rattle.std.proofs.Common.{◌≡◌, ℕ, zero, suc, List, [], ◌∷◌, ◌++◌, length, replicate, take, drop, refl, ap, lit≤, lit<, true, false, None, arith}
use Rattle.std.specs.Prelude.{codes}
use Rattle.std.specs.Fmt.{digits as decimal_digits}
use Rattle.apv_base.specs.declared.exits.Exit.TheVariants.{NoTag, FormatChange}
use Rattle.apv_base.specs.declared.format.Chroma.TheVariants.{C400, C422, C4444}
use Rattle.apv_base.specs.declared.format.Format.{Format}
use Rattle.apv_base.specs.declared.options.Form.TheVariants.{Y4m}
use Rattle.apv_base.specs.declared.options.Select.TheVariants.{Primary}
use Rattle.apv_base.specs.model.Bits.{digits, number, bits}
use Rattle.apv_base.specs.model.Block.{places, ac_elements}
use Rattle.apv_base.specs.model.Body.{with_bodies}
use Rattle.apv_base.specs.model.CodedFrame.{CodedFrame, HasFrame, Exists, HasBlocks, HasLevels, blocks_at}
use Rattle.apv_base.specs.model.CodeWord.{code_word, zeros_of, halvings}
use Rattle.apv_base.specs.model.Component.{IsComponent}
use Rattle.apv_base.specs.model.Frame.{bytes_left, WalksHeader, WalksTiles}
use Rattle.apv_base.specs.model.Header.{header_values}
use Rattle.apv_base.specs.model.Judge.{DecodedFrame, DecodedUnit, none, decoded, IsValidUnit}
use Rattle.apv_base.specs.model.Output.{OutputSettings, FormatsDiffer, no_tag, other_format, differs, by_content, DecodesTo, dec_out}
use Rattle.apv_base.specs.model.Pbu.{Pbu, signature}
use Rattle.apv_base.specs.model.Picture.{sample, picture}
use Rattle.apv_base.specs.model.Run.{sized, refused}
use Rattle.apv_base.specs.model.Scan.{scan_table}
use Rattle.apv_base.specs.model.Table.{walk, fields}
use Rattle.apv_base.specs.model.Tile.{Tile, tiles_values, tiles_from}
use Rattle.apv_base.specs.model.Transform.{column_sum, residual}
use Rattle.apv_base.specs.model.Unit.{HasPbuHeader, Structure}
use Rattle.apv_base.specs.model.Video.{header_line, frame_line, VideoHeaderAt}
use Rattle.apv_base.proofs.BitsLemmas.{zeros_have_no_one}
use Rattle.apv_base.proofs.HeaderLemmas.{flat-is-matrix}
use Rattle.apv_base.proofs.SomeRunLemmas.{accepted-none, accepted-push}
use Rattle.apv_base.proofs.WorkedComponents.{zeros_are_blocks}
use Rattle.apv_base.proofs.WorkedFrames.{zeros, flat-matrices, grey_unit, grey_decoded_unit, grey_is_valid}
use Rattle.apv_base.proofs.WorkedPictures.{format_18, header_18, levels_18}

-- ---- lines that are written

abbrev pub format_16 : Format
format_16 = record { width = 16; height = 16; chroma = C400; depth = 10 }

-- the header line of grey pictures of 16x16 samples with 10 bits, at 30 pictures a second, has 40 bytes
pub written_line : header_line format_16 (30, 1) (codes "Cmono10") ≡ codes "YUV4MPEG2 W16 H16 F30:1 Ip A0:0 Cmono10\n"
unfolding decimal_digits
written_line = refl

pub written_length : length (header_line format_16 (30, 1) (codes "Cmono10")) ≡ 40
unfolding decimal_digits
written_length = refl

-- before each picture comes a line of 6 bytes
pub frame_bytes : frame_line ≡ 70 ∷ 82 ∷ 65 ∷ 77 ∷ 69 ∷ 10 ∷ []
frame_bytes = refl

-- ---- a line that is read

abbrev pub wide_line : List ℕ
wide_line = codes "YUV4MPEG2 W1920 H1080 F25:1 Ip A1:1 C422p10 XYSCSS=422P10"

abbrev pub wide_format : Format
wide_format = record { width = 1920; height = 1080; chroma = C422; depth = 10 }

-- it names 1920x1080 samples, 4:2:2, 10 bits; what follows its line feed, here FRAME and a line feed, is left
pub header_read : VideoHeaderAt (wide_line ++ 10 ∷ codes "FRAME\n") wide_format (codes "FRAME\n")
header_read = record {
  line = wide_line;
  line_at = record { bytes = refl; first = refl; short = lit< tt };
  names = record {
    tag = codes "C422p10";
    is = record {
      rest = codes " W1920 H1080 F25:1 Ip A1:1 C422p10 XYSCSS=422P10";
      named = refl;
      divided = λ some. refl;
      w = codes "W1920";
      h = codes "H1080";
      one_w = refl;
      one_h = refl;
      w_is = record { some = lit≤ tt; few = lit≤ tt; digits = refl; is = refl };
      h_is = record { some = lit≤ tt; few = lit≤ tt; digits = refl; is = refl };
      all_tags = refl;
      few = lit≤ tt;
    };
    known = refl;
  };
  size = refl;
  few = lit≤ tt;
}

-- ---- formats

-- 4:4:4:4 has no tag
abbrev pub format_4444 : Format
format_4444 = record { width = 16; height = 16; chroma = C4444; depth = 10 }

pub without_tag : FormatsDiffer (format_4444 ∷ []) (NoTag format_4444)
without_tag = no_tag format_4444 [] refl refl

-- and neither has 4:2:2 with 11 bits, whatever follows
abbrev pub format_11 : Format
format_11 = record { width = 16; height = 16; chroma = C422; depth = 11 }

pub without_tag_11 : FormatsDiffer (format_11 ∷ format_16 ∷ []) (NoTag format_11)
without_tag_11 = no_tag format_11 (format_16 ∷ []) refl refl

-- pictures of 16x16 and then one of 18x18
pub from_16_to_18 : FormatsDiffer (format_16 ∷ format_18 ∷ []) (FormatChange format_16 format_18)
from_16_to_18 = other_format format_16 [] format_18 [] refl (λ none. absurd (let no : ⊥ = cc in no), tt)
    (λ same. let widths : 18 ≡ 16 = ap (λ (format : Format). format.width) same in absurd (omega (arith, widths)))

-- ---- the access unit of the frame of 18x18 samples is valid

-- the header: 217B00000012000012220000 00 00004000020000
abbrev pub header_bytes_18 : List ℕ
header_bytes_18 = 0x21 ∷ 0x7B ∷ 0x00 ∷ 0x00 ∷ 0x00 ∷ 0x12 ∷ 0x00 ∷ 0x00 ∷ 0x12 ∷ 0x22 ∷ 0x00 ∷ 0x00 ∷ 0x00 ∷ 0x00 ∷ 0x00 ∷ 0x40 ∷ 0x00 ∷ 0x02 ∷ 0x00 ∷ 0x00 ∷ []

-- 8 and 16 blocks whose levels are 0
abbrev pub data_of_8 : List ℕ
data_of_8 = 0x81 ∷ 0x07 ∷ 0xD4 ∷ 0x1F ∷ 0x50 ∷ 0x7D ∷ 0x41 ∷ 0xF5 ∷ 0x07 ∷ 0xD4 ∷ 0x1F ∷ 0x50 ∷ 0x7D ∷ 0x41 ∷ 0xF0 ∷ []

abbrev pub data_of_16 : List ℕ
data_of_16 = take 14 data_of_8 ++ 0xF5 ∷ 0x07 ∷ 0xD4 ∷ 0x1F ∷ 0x50 ∷ 0x7D ∷ 0x41 ∷ 0xF5 ∷ drop 8 data_of_8

-- the size 79, 0014 0000, the lengths 29, 15 and 15, three QPs of 0, 00, and the data
abbrev pub tile_bytes_18 : List ℕ
tile_bytes_18 =
    0x00 ∷ 0x00 ∷ 0x00 ∷ 0x4F ∷ 0x00 ∷ 0x14 ∷ 0x00 ∷ 0x00 ∷ 0x00 ∷ 0x00 ∷ 0x00 ∷ 0x1D ∷ 0x00 ∷ 0x00 ∷ 0x00 ∷ 0x0F ∷ 0x00 ∷ 0x00 ∷ 0x00 ∷ 0x0F
    ∷ 0x00 ∷ 0x00 ∷ 0x00 ∷ 0x00 ∷ data_of_16 ++ data_of_8 ++ data_of_8

abbrev pub body_18 : List ℕ
body_18 = header_bytes_18 ++ tile_bytes_18

abbrev pub tile_18 : Tile
tile_18 = record { lengths = 29 ∷ 15 ∷ 15 ∷ []; qps = 0 ∷ 0 ∷ 0 ∷ []; bytes = data_of_16 ++ data_of_8 ++ data_of_8 }

abbrev pub frame_18 : CodedFrame
frame_18 = record { header = header_18; tiles = tile_18 ∷ [] }

header_walks : WalksHeader body_18 (header_values header_18 []) (bits tile_bytes_18)
unfolding walk fields digits number
header_walks = refl

tiles_walk : WalksTiles (header_values header_18 []) (bytes_left body_18 (bits tile_bytes_18)) (tiles_values 3 0 (tile_18 ∷ [])) []
unfolding walk fields digits number tiles_from tiles_values
tiles_walk = refl

frame_18_stands : HasFrame body_18 frame_18
frame_18_stands = record {
  header = record {
    info = record {
      format = record { size = refl; width = lit< tt; height = lit< tt; few = lit≤ tt; low = lit≤ tt; high = lit≤ tt };
      level = lit< tt;
      band = lit≤ tt;
      capture = lit< tt;
      readable = refl;
    };
    colour = tt;
    width = lit< tt;
    height = lit< tt;
    tiles = refl;
    four = refl;
    each = (flat-is-matrix, (flat-is-matrix, (flat-is-matrix, (flat-is-matrix, tt))));
    matrices = λ comp lt without. flat-matrices comp lt;
  };
  tiles = (record { lengths = refl; qps = refl }, tt);
  left = bits tile_bytes_18;
  after = [];
  walked = header_walks;
  walked_tiles = tiles_walk;
  filler = refl;
}

sixteen_blocks : IsComponent 16 data_of_16 (replicate 16 zeros)
unfolding number code_word zeros_of halvings digits places ac_elements scan_table
sixteen_blocks = record {
  count = refl;
  left = 0 ∷ 0 ∷ 0 ∷ [];
  begins = record { sound = zeros_are_blocks 16; prefix = refl };
  aligned = zeros_have_no_one 3;
}

eight_blocks : IsComponent 8 data_of_8 (replicate 8 zeros)
unfolding number code_word zeros_of halvings digits places ac_elements scan_table
eight_blocks = record {
  count = refl;
  left = 0 ∷ 0 ∷ 0 ∷ [];
  begins = record { sound = zeros_are_blocks 8; prefix = refl };
  aligned = zeros_have_no_one 3;
}

blocks_stand : (tile comp : ℕ) → Exists frame_18 tile comp → HasBlocks frame_18 tile comp (blocks_at levels_18 tile comp)
blocks_stand zero zero exists = sixteen_blocks
blocks_stand zero (suc zero) exists = eight_blocks
blocks_stand zero (suc (suc zero)) exists = eight_blocks
blocks_stand zero (suc (suc (suc comp))) exists = absurd (omega (arith, exists.1))
blocks_stand (suc tile) comp exists = absurd (omega (arith, exists.0))

levels_stand : HasLevels frame_18 levels_18
levels_stand = record { tiles = refl; comps = (refl, tt); blocks = blocks_stand }

abbrev pub pbu_18 : Pbu
pbu_18 = record { kind = 1; group = 1; body = body_18; payloads = [] }

abbrev pub unit_18 : List ℕ
unit_18 = signature ++ 0x00 ∷ 0x00 ∷ 0x00 ∷ 0x6B ∷ 0x01 ∷ 0x00 ∷ 0x01 ∷ 0x00 ∷ body_18

abbrev pub decoded_18 : DecodedFrame
decoded_18 = record { kind = 1; group = 1; frame = frame_18; levels = levels_18 }

abbrev pub decoded_unit_18 : DecodedUnit
decoded_unit_18 = record { bytes = unit_18; pbus = pbu_18 ∷ []; frames = decoded_18 ∷ [] }

pbu_header : HasPbuHeader (drop 4 unit_18) 1 1 body_18 []
unfolding walk number
pbu_header = refl

structure_18 : Structure with_bodies unit_18 (pbu_18 ∷ [])
structure_18 = record {
  signed = refl;
  some = λ none. absurd (let no : ⊥ = cc in no);
  sequence = (
    [],
    record {
      header = pbu_header;
      sound = (refl, (header_values header_18 [], tiles_values 3 0 (tile_18 ∷ []), record { left = bits tile_bytes_18; after = []; walked = header_walks; walked_tiles = tiles_walk; filler = refl }));
    },
    refl,
  );
}

-- the unit of 115 bytes breaks no rule, in structure and in content
pub is_valid_18 : IsValidUnit false decoded_unit_18
is_valid_18 = record {
  structure = structure_18;
  strictly = λ strict. absurd (let no : ⊥ = cc in no);
  content = decoded pbu_18 [] decoded_18 [] refl (record { kind = refl; group = refl; frame = frame_18_stands; levels = levels_stand }) none;
}

pub length_18 : length unit_18 ≡ 115
length_18 = refl

-- each of its samples is 512; here the last one of each component
pub samples_18 : (sample frame_18 levels_18 0 17 17 ≡ 512) × (sample frame_18 levels_18 1 8 17 ≡ 512) × (sample frame_18 levels_18 2 8 17 ≡ 512)
unfolding sample column_sum residual
samples_18 = (refl, refl, refl)

-- ---- a file of a frame of 16x16 samples and one of 18x18

abbrev pub y4m_settings : OutputSettings
y4m_settings = record { output = true; payloads = false; form = Y4m; rate = (30, 1); select = Primary; group = None; strict = false }

-- the first is written, and then the format changes
pub format_changes : DecodesTo y4m_settings (sized grey_unit ++ sized unit_18) (grey_decoded_unit ∷ []) (FormatChange format_16 format_18)
unfolding digits number
format_changes = record {
  rest = sized unit_18;
  prefix = record {
    parts = refl;
    count = lit≤ tt;
    accepted = accepted-push (by_content y4m_settings) [] grey_decoded_unit (accepted-none (by_content y4m_settings)) (lit≤ tt) (grey_is_valid, λ y4m. (λ none. absurd (let no : ⊥ = cc in no), tt));
  };
  stops = refused _ unit_18 [] (lit< tt) (record { bytes = refl; small = lit≤ tt }) (differs decoded_unit_18 _ refl is_valid_18 refl from_16_to_18);
}

-- the output has 558 bytes: the header line, FRAME and a line feed, and 256 samples of two bytes
pub output_length : length (dec_out y4m_settings (grey_decoded_unit ∷ [])) ≡ 558
unfolding decimal_digits picture
output_length = refl

pub output_lines : take 46 (dec_out y4m_settings (grey_decoded_unit ∷ [])) ≡ codes "YUV4MPEG2 W16 H16 F30:1 Ip A0:0 Cmono10\nFRAME\n"
unfolding decimal_digits picture
output_lines = refl
