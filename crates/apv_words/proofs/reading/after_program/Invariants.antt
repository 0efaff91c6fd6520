use Rattle.std.proofs.Common.{◌≡◌, ◌∷◌, codes, map, take}
use Rattle.std.specs.Prelude.{string_bytes}
use Rattle.apv_words.specs.View.{texts_of}
use Rattle.apv_words.proofs.reading.after_program.Given as goal

abbrev pub invariant-loop-word : goal.invariant-loop-word
invariant-loop-word l = texts_of l.texts.items ≡ codes "apv" ∷ map string_bytes (take l.word-index l.words)
