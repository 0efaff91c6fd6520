use Rattle.std.proofs.Common.{◌≡◌, ℕ, ◌+◌, List, [], ◌∷◌, get_or, length, ap, rules, ◌∙◌, zero-add}
use Rattle.std.specs.List.{flat_map, range_with_len}
use Rattle.apv_encoding.specs.Difference.{distance, maximum}
use Rattle.apv_encoding.specs.Generated.{generated_picture}
use Rattle.apv_generated.proofs.ListLemmas.{pieces-same}
use Rattle.apv_grid.specs.Buffer.{samples_of}
use Rattle.apv_generated.proofs.difference.piece_difference.Goals as goal

pub returns : goal.returns
returns c =
    let g = c.args in
    let f = generated_picture g.seed g.number in
    let row = c.row_into.new.row in
    let size : length row ≡ g.count = search rules in
    let of_list : ℕ → List ℕ = λ (i : ℕ). distance (f g.comp (g.x + i) g.y) (get_or row i 0) ∷ [] in
    let of_frame : ℕ → List ℕ = λ (x : ℕ). distance (f g.comp x g.y) (samples_of g.frame.now g.comp x g.y) ∷ [] in
    c.samples_difference.ensures ∙ ap (λ (n : ℕ). maximum (flat_map of_list (range_with_len 0 n))) size
    ∙ ap maximum (pieces-same g.count 0 g.x of_list of_frame (λ i less. rw (zero-add i) (ap (λ (v : ℕ). distance (f g.comp (g.x + i) g.y) v ∷ []) (c.row_into.ensures i (search rules)))))
