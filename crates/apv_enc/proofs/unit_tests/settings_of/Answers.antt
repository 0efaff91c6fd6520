use Rattle.std.proofs.Common.{◌≡◌, ◌++◌, ℕ, Bool, true, false, Option, Some, None, List, ◌∷◌, length, refl, ap, ◌∙◌}
use Rattle.std.specs.Prelude.{is_some, if◌then◌else◌}
use Rattle.apv_base.specs.declared.slot.Slot.TheVariants.{Input, Preview, Depth, Alpha}
use Rattle.apv_tracks.specs.Kinds.{kind_with, kinds_of, where_named}
use Rattle.apv_tracks.specs.declared.kinds.TrackKind.{TrackKind}
use Rattle.apv_words.specs.declared.encoder.EncSettings.{EncSettings}
use Rattle.apv_enc.proofs.unit_tests.settings_of.Goals as goal

kinds-count : (preview depth alpha : Option (List ℕ)) (asked : Bool) → preview ≡ None → depth ≡ None → is_some alpha ≡ asked
    → length (kind_with Input 1 ∷ where_named preview (kind_with Preview 25) ++ where_named depth (kind_with Depth 26) ++ where_named alpha (kind_with Alpha 27)) ≡ (if asked then 2 else 1)
kinds-count (Some name) depth alpha asked e f g = absurd (let no : ⊥ = cc (e) in no)
kinds-count None (Some name) alpha asked e f g = absurd (let no : ⊥ = cc (f) in no)
kinds-count None None (Some name) true e f g = refl
kinds-count None None (Some name) false e f g = absurd (let no : ⊥ = cc (g) in no)
kinds-count None None None true e f g = absurd (let no : ⊥ = cc (g) in no)
kinds-count None None None false e f g = refl

pub returns-clause-count : goal.returns-clause-count
returns-clause-count c =
    let made = c.without_options-settings.ensures in
    kinds-count c.without_options-settings.result.preview c.without_options-settings.result.depth_map c.without_options-settings.result.alpha c.args.asked.alpha made.preview made.depth (ap is_some made.alpha ∙ c.in_ok-alpha_where.ensures)
