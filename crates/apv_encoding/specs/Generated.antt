-- The video that is generated from a number: 8 pictures of 640x360, 4:2:2, 10 bits.
use Rattle.std.specs.Prelude.{ℕ, ◌+◌, ◌-◌, ◌*◌, ◌%◌, List}
use Rattle.std.specs.List.{flat_map, range_with_len}
use Rattle.apv_base.specs.declared.format.Format.{Format}
use Rattle.apv_base.specs.declared.format.Chroma.TheVariants.{C422}
use Rattle.apv_base.specs.model.Picture.{Samples, picture}

abbrev pub GENERATED_FRAMES : ℕ
GENERATED_FRAMES = 8

abbrev pub generated_format : Format
generated_format = record { width = 640; height = 360; chroma = C422; depth = 10 }

-- the sample at x, y of a component of a frame, in the component's own samples
abbrev pub generated : ℕ → ℕ → ℕ → ℕ → ℕ → ℕ
generated seed comp frame x y =
    (seed * 37 + comp * 211 + frame * 17 + x * 5 + y * 3 + x * y % 61 * 4) % 1024

-- the samples of a frame
abbrev pub generated_picture : ℕ → ℕ → Samples
generated_picture seed frame comp x y = generated seed comp frame x y

-- the frames from one on, as a planar file
abbrev pub generated_from : ℕ → ℕ → List ℕ
generated_from seed first =
    flat_map (λ frame. picture generated_format (generated_picture seed frame))
    (range_with_len first (GENERATED_FRAMES - first))

-- the generated video as a planar file
abbrev pub generated_file : ℕ → List ℕ
generated_file seed = generated_from seed 0
