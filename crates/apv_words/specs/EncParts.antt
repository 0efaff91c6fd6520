-- Parts of the settings of the encoder, which the code reads one by one.
use Rattle.std.specs.Prelude.{pos, Option, codes}
use Rattle.std.specs.Option.{option_map, option_map_or}
use Rattle.apv_words.specs.Encoder.{matrix_of, signed_of}
use Rattle.apv_words.specs.Table.{Text}
use Rattle.apv_words.specs.Values.{number_of}
use Rattle.apv_words.specs.declared.encoder.Coding.{Coding}
use Rattle.apv_words.specs.declared.encoder.Files.{Files}

-- the names of the files by the value of each option
abbrev pub files_by : (Text → Option Text) → Files
files_by value = record {
  input = value (codes "input");
  output = value (codes "output");
  preview = value (codes "preview");
  depth_map = value (codes "depth-map");
  alpha = value (codes "alpha");
  metadata = value (codes "metadata");
  recon = value (codes "recon");
  tile_qp = value (codes "tile-qp");
}

-- the QPs, the quantisation matrices and the size of a tile by the value of each option
abbrev pub coding_by : (Text → Option Text) → Coding
coding_by value = record {
  qp = option_map number_of (value (codes "qp"));
  limit = option_map number_of (value (codes "limit"));
  qp_min = option_map number_of (value (codes "qp-min"));
  qp_max = option_map number_of (value (codes "qp-max"));
  qp_offset_1 = option_map_or signed_of (value (codes "qp-offset-1")) (pos 0);
  qp_offset_2 = option_map_or signed_of (value (codes "qp-offset-2")) (pos 0);
  qp_offset_3 = option_map_or signed_of (value (codes "qp-offset-3")) (pos 0);
  matrix_0 = option_map matrix_of (value (codes "matrix-0"));
  matrix_1 = option_map matrix_of (value (codes "matrix-1"));
  matrix_2 = option_map matrix_of (value (codes "matrix-2"));
  matrix_3 = option_map matrix_of (value (codes "matrix-3"));
  tile_width = option_map number_of (value (codes "tile-width"));
  tile_height = option_map number_of (value (codes "tile-height"));
}
