-- What the names of a run are connected to.
use Rattle.std.specs.Prelude.{ℕ, List, codes, Bool, true, false, ⊤}
use Rattle.std.specs.Str.{bytes_eq}
use Rattle.apv_base.specs.declared.slot.Slot.{Slot}
use Rattle.apv_base.specs.declared.slot.Slot.TheVariants.{Input, Output}
use Rattle.apv_files.specs.declared.host.Stream.{Stream}
use Rattle.apv_files.specs.declared.host.Stream.TheVariants.{File, Input as FromInput, Output as ToOutput}

-- whether a name is that of standard input or standard output on a slot
abbrev pub is_standard : Slot → List ℕ → Bool
is_standard Input name = bytes_eq name (codes "-")
is_standard Output name = bytes_eq name (codes "-")
is_standard _ name = false

-- what is opened: standard input, or else a file
abbrev pub IsOpened : {F : Type 0} → Bool → Stream F → Type 0
IsOpened true FromInput = ⊤
IsOpened false (File _) = ⊤
IsOpened _ _ = ⊥

-- what is created: standard output, or else a file
abbrev pub IsCreated : {F : Type 0} → Bool → Stream F → Type 0
IsCreated true ToOutput = ⊤
IsCreated false (File _) = ⊤
IsCreated _ _ = ⊥
