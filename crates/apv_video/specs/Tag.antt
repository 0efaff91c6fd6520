-- The texts of tags.
use Rattle.std.specs.Prelude.{◌≢◌, ℕ, List, codes}
use Rattle.apv_video.specs.declared.tag.Tag.{Tag}
use Rattle.apv_video.specs.declared.tag.Tag.TheVariants.{Mono10, P422D10, P444D10, P422D12, P444D12}

-- the text of a tag in a Y4M file
abbrev pub tag_text : Tag → List ℕ
tag_text Mono10 = codes "Cmono10"
tag_text P422D10 = codes "C422p10"
tag_text P444D10 = codes "C444p10"
tag_text P422D12 = codes "C422p12"
tag_text P444D12 = codes "C444p12"

-- the text is no tag
abbrev pub HasNoTag : List ℕ → Type 0
HasNoTag text = (tag : Tag) → tag_text tag ≢ text
