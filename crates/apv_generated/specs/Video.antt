-- What is left of a generated video.
use Rattle.std.specs.Prelude.{ℕ, List, ◌++◌, drop}
use Rattle.apv_encoding.specs.Generated.{generated_from}
use Rattle.apv_generated.specs.declared.video.GeneratedVideo.{GeneratedVideo}

-- the bytes that aren't read yet
abbrev pub left_of : GeneratedVideo → List ℕ
left_of video = drop video.taken video.picture.items ++ generated_from video.seed video.number
