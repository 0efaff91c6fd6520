use Rattle.std.proofs.Common.{◌≡◌, ◌∙◌, ap, map, refl, List, ℕ, Option}
use Rattle.std.specs.List.{list_any}
use Rattle.std.specs.Prelude.{is_some}
use Rattle.apv_base.specs.declared.format.Format.{Format}
use Rattle.apv_base.specs.model.Header.{flat}
use Rattle.apv_words.specs.declared.encoder.EncSettings.{EncSettings}
use Rattle.apv_encoding.specs.Settings.{given_or, matrices_of, uses_matrix}
use Rattle.apv_tracks.specs.Plain.{plain_settings}
use Rattle.apv_tracks.proofs.HeaderLemmas.{matrices-are, matrix-used}
use Rattle.apv_tracks.proofs.format.header_of.Goals as goal

pub returns : goal.returns
returns c =
    let settings : EncSettings = c.args.settings.now in
    let format : Format = c.args.format.now in
    let used : c.uses_matrix.result ≡ uses_matrix (plain_settings settings) format =
    c.uses_matrix.ensures ∙ ap (λ (given : List (Option (List ℕ))). list_any is_some given) c.given_matrices-matrices.ensures
    ∙ matrix-used settings.matrix_0 settings.matrix_1 settings.matrix_2 settings.matrix_3 format.chroma in
    let matrices : c.or_flat.result ≡ matrices_of (plain_settings settings) format =
    c.or_flat.ensures ∙ ap (λ (given : List (Option (List ℕ))). map (λ (matrix : Option (List ℕ)). given_or matrix flat) given) c.given_matrices-matrices.ensures
    ∙ matrices-are settings.matrix_0 settings.matrix_1 settings.matrix_2 settings.matrix_3 format.chroma in
    rw (used, matrices, c.info_of.ensures, c.tile_size-tile_width.ensures, c.requires.profile) refl
