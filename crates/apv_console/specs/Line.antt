-- The console's lines, each with its line feed: one for each answer but Done, and one for a report.
use Rattle.std.specs.Prelude.{ℕ, List, [], ◌++◌, codes}
use Rattle.std.specs.Fmt.{decimal}
use Rattle.apv_base.specs.declared.rules.Break.{Break}
use Rattle.apv_base.specs.declared.exits.Exit.{Exit}
use Rattle.apv_base.specs.declared.exits.Exit.TheVariants.{Done, Memory, Usage, Broken, BadVideo, BadPayloads}
use Rattle.apv_base.specs.declared.exits.Exit.TheVariants.{BadTileQp, OpenFailed, ReadFailed, WriteFailed, LimitMet}
use Rattle.apv_base.specs.declared.exits.Exit.TheVariants.{FormatChange, NoTag, TooLarge}
use Rattle.apv_base.specs.declared.exits.VideoBreak.{VideoBreak}
use Rattle.apv_base.specs.declared.format.Format.{Format}
use Rattle.apv_base.specs.declared.options.UsageKind.{UsageKind}
use Rattle.apv_base.specs.declared.options.UsageKind.TheVariants.{Words, Value, Missing, Clash, SameName}
use Rattle.apv_console.specs.declared.report.Report.{Report}
use Rattle.apv_console.specs.Names.{rule_name, limit_name, slot_name, option_name, video_rule_name, chroma_name}

abbrev pub usage_line : UsageKind → List ℕ
usage_line Words = codes "usage: words\n"
usage_line (Value option) = codes "usage: value " ++ (option_name option ++ codes "\n")
usage_line (Missing option) = codes "usage: missing " ++ (option_name option ++ codes "\n")
usage_line (Clash option) = codes "usage: clash " ++ (option_name option ++ codes "\n")
usage_line SameName = codes "usage: same name\n"

abbrev pub broken_line : Break → List ℕ
broken_line break =
    codes "broken " ++ (rule_name break.rule ++ (codes " at unit " ++ (decimal break.place.unit
    ++ (codes ", pbu " ++ (decimal break.place.pbu ++ (codes ", tile " ++ (decimal break.place.tile
    ++ (codes ", component " ++ (decimal break.place.comp ++ codes "\n")))))))))

abbrev pub video_line : VideoBreak → List ℕ
video_line break =
    codes "bad video " ++ (slot_name break.slot ++ (codes ": " ++ (video_rule_name break.rule
    ++ (codes " at frame " ++ (decimal break.frame ++ codes "\n")))))

-- a format: its size, its chroma format and its bit depth
abbrev pub format_text : Format → List ℕ
format_text f =
    decimal f.width ++ (codes "x" ++ (decimal f.height ++ (codes " " ++ (chroma_name f.chroma
    ++ (codes " " ++ decimal f.depth)))))

abbrev pub line_of : Exit → List ℕ
line_of Done = []
line_of Memory = codes "out of memory\n"
line_of (Usage kind) = usage_line kind
line_of (Broken break) = broken_line break
line_of (BadVideo break) = video_line break
line_of (BadPayloads byte) = codes "bad payloads at byte " ++ (decimal byte ++ codes "\n")
line_of (BadTileQp byte) = codes "bad tile qp at byte " ++ (decimal byte ++ codes "\n")
line_of (OpenFailed slot) = codes "cannot open " ++ (slot_name slot ++ codes "\n")
line_of (ReadFailed slot) = codes "read failed on " ++ (slot_name slot ++ codes "\n")
line_of (WriteFailed slot) = codes "write failed on " ++ (slot_name slot ++ codes "\n")
line_of (LimitMet limit count) =
    codes "limit " ++ (limit_name limit ++ (codes " met: " ++ (decimal count ++ codes "\n")))
line_of (FormatChange first other) =
    codes "format changes from " ++ (format_text first ++ (codes " to " ++ (format_text other ++ codes "\n")))
line_of (NoTag format) = codes "no tag for " ++ (format_text format ++ codes "\n")
line_of (TooLarge frame smallest limit) =
    codes "frame " ++ (decimal frame ++ (codes " too large: " ++ (decimal smallest
    ++ (codes " over " ++ (decimal limit ++ codes "\n")))))

-- what was encoded, and the size of the file
abbrev pub encoded_text : Report → List ℕ
encoded_text report =
    codes "generated " ++ (decimal report.seed ++ (codes ": frames " ++ (decimal report.frames
    ++ (codes ", bytes " ++ decimal report.bytes))))

abbrev pub report_line : Report → List ℕ
report_line report =
    encoded_text report ++ (codes ", least qp " ++ (decimal report.least_qp ++ (codes ", greatest qp "
    ++ (decimal report.greatest_qp ++ (codes ", peak difference " ++ (decimal report.peak ++ codes "\n"))))))
