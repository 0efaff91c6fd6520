-- The files that are held in memory, by their names.
use Rattle.std.specs.Prelude.{ℕ, List, Option}
use Rattle.std.specs.Option.{option_map}
use Rattle.std.specs.HashMap.{get_by_text}
use Rattle.apv_files.specs.declared.held_files.HeldFiles.{HeldFiles}

-- the content of the file of a name
abbrev pub content_of : HeldFiles → List ℕ → Option (List ℕ)
content_of held name = option_map (λ bytes. bytes.items) (get_by_text held.files name)
