-- The parts of the tiles of a run that begins with tile 0.
use Rattle.std.proofs.Common.{◌≡◌, ℕ, ◌+◌, ◌-◌, ◌<◌, List, length, get_or, drop, ◌∙◌, arith}
use Rattle.std.proofs.lemmas.List.{length-take-le, length-drop, get_or-take, get_or-drop}
use Rattle.apv_workers.specs.Cuts.{cut, part, IsRun}

-- its length
pub part-size : {A : Type 0} (cuts : List ℕ) (count : ℕ) (values : List A) (tile : ℕ) → IsRun cuts 0 count values → tile < count → length (part cuts 0 values tile) ≡ cut cuts (tile + 1) - cut cuts tile
unfolding part
part-size cuts count values tile r lt =
    let a = r.sound.rising 0 tile (omega arith) (omega arith) in
    let b = r.sound.rising tile (tile + 1) (omega arith) (omega arith) in
    let d = r.sound.rising (tile + 1) (0 + count) (omega arith) (omega arith) in
    length-take-le (cut cuts (tile + 1) - cut cuts tile) (drop (cut cuts tile - cut cuts 0) values) (omega (arith, a, b, d, r.whole, length-drop (cut cuts tile - cut cuts 0) values))

-- an item of it
pub part-at : {A : Type 0} (cuts : List ℕ) (values : List A) (tile i : ℕ) (d : A) → i < cut cuts (tile + 1) - cut cuts tile → get_or (part cuts 0 values tile) i d ≡ get_or values (cut cuts tile - cut cuts 0 + i) d
unfolding part
part-at cuts values tile i d lt =
    get_or-take (cut cuts (tile + 1) - cut cuts tile) (drop (cut cuts tile - cut cuts 0) values) i d lt ∙ get_or-drop (cut cuts tile - cut cuts 0) values i d
