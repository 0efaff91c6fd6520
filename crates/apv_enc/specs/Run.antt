-- What the words of a command line ask an encoder for, and what its run reads.
use Rattle.std.specs.Prelude.{◌≡◌, ℕ, List, String, map, string_bytes, Bool, true, false}
use Rattle.std.specs.Prelude.{Option, Some, None, is_some, option_and_then}
use Rattle.std.specs.declared.alloc.Global.{Global}
use Rattle.apv_base.specs.declared.exits.Exit.{Exit}
use Rattle.apv_base.specs.declared.exits.Exit.TheVariants.{Usage, BadVideo, BadPayloads, BadTileQp, LimitMet, TooLarge}
use Rattle.apv_base.specs.declared.options.UsageKind.{UsageKind}
use Rattle.apv_base.specs.declared.slot.Slot.{Slot}
use Rattle.apv_base.specs.declared.slot.Slot.TheVariants.{Input, Preview, Depth, Alpha, Metadata, TileQp, Output, Recon}
use Rattle.apv_base.specs.model.Slot.{is_input}
use Rattle.apv_run.specs.Known.{IsKnownAs}
use Rattle.apv_run.specs.Names.{IsNamed, Names}
use Rattle.apv_words.specs.Encoder.{HasEncSettings, built_enc_table}
use Rattle.apv_words.specs.Fault.{HasFault}
use Rattle.apv_words.specs.declared.encoder.EncSettings.{EncSettings}
use Rattle.apv_encoding.specs.Answer.{Inputs}
use Rattle.apv_encoding.specs.Generated.{generated_file}
use Rattle.apv_tracks.specs.Opening.{IsGivenAs}

-- ---- words

-- the words are refused by that fault
abbrev pub HaveFault : List (String Global) → UsageKind → Type 0
HaveFault words kind = HasFault built_enc_table (map string_bytes words) kind

-- where the words give settings, the claim is true of them
abbrev pub WithSettings : List (String Global) → (EncSettings → Type 0) → Type 0
WithSettings words claim =
    (settings : EncSettings) → HasEncSettings built_enc_table (map string_bytes words) settings → claim settings

-- where the words have a fault, the claim is true of it
abbrev pub WithFault : List (String Global) → (UsageKind → Type 0) → Type 0
WithFault words claim = (kind : UsageKind) → HaveFault words kind → claim kind

-- no words are refused but by the fault that they have
abbrev pub OnlyByFault : List (String Global) → Exit → Type 0
OnlyByFault words exit = (kind : UsageKind) → exit ≡ Usage kind → HaveFault words kind

-- ---- files

-- the name of each slot, where the settings name it, but for Input, which has this one
abbrev pub names_with : Option (List ℕ) → EncSettings → Names
names_with input settings Input = input
names_with input settings Preview = settings.preview
names_with input settings Depth = settings.depth_map
names_with input settings Alpha = settings.alpha
names_with input settings Metadata = settings.metadata
names_with input settings TileQp = settings.tile_qp
names_with input settings Output = settings.output
names_with input settings Recon = settings.recon
names_with input settings _ = None

-- the name of each slot, where the settings name it
abbrev pub name_of : EncSettings → Names
name_of settings = names_with settings.input settings

-- an answer that is an encoder's own: the other ones come from the words, from the files or from memory, or never
abbrev pub is_own_answer : Exit → Bool
is_own_answer (BadVideo break) = true
is_own_answer (BadPayloads byte) = true
is_own_answer (BadTileQp byte) = true
is_own_answer (TooLarge frame smallest limit) = true
is_own_answer (LimitMet limit count) = true
is_own_answer _ = false

-- what the file of a name holds, where there is a name and that is known
abbrev pub content_of : Option (List ℕ) → (List ℕ → Option (List ℕ)) → Option (List ℕ)
content_of name held = option_and_then held name

-- ---- what is read

-- what Input holds: the video that is generated from the seed, where there is one, else what its file does
abbrev pub input_by : Option ℕ → Option (List ℕ) → Option (List ℕ)
input_by None known = known
input_by (Some seed) known = Some (generated_file seed)

abbrev pub input_content : EncSettings → (List ℕ → Option (List ℕ)) → Option (List ℕ)
input_content settings held = input_by settings.generate (content_of settings.input held)

-- the inputs are these files: what is held by the names that the settings give, where that is known, and a generated
-- video in place of Input where there is a seed
pub record AreFiles (settings : EncSettings) (held : List ℕ → Option (List ℕ)) (inputs : Inputs) : Type 0 where
  pub input : IsKnownAs (input_content settings held) (inputs.contents Input)
  pub preview : IsKnownAs (content_of settings.preview held) (inputs.contents Preview)
  pub depth : IsKnownAs (content_of settings.depth_map held) (inputs.contents Depth)
  pub alpha : IsKnownAs (content_of settings.alpha held) (inputs.contents Alpha)
  pub metadata : IsGivenAs settings.metadata (content_of settings.metadata held) inputs.payloads
  pub tile_qp : IsGivenAs settings.tile_qp (content_of settings.tile_qp held) inputs.offsets

-- what each file holds that is read is known
abbrev pub AreKnown : EncSettings → (List ℕ → Option (List ℕ)) → Type 0
AreKnown settings held =
    (slot : Slot) → is_input slot ≡ true → IsNamed (name_of settings) slot
    → is_some (content_of (name_of settings slot) held) ≡ true
