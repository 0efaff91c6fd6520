use Rattle.std.proofs.Common.{◌≡◌, Bool, true, Option, None, sym, ◌∙◌}
use Rattle.apv_base.specs.declared.exits.VideoRule.TheVariants.{Profile, Grid, Qp}
use Rattle.apv_base.specs.declared.format.Format.{Format}
use Rattle.apv_base.specs.model.Video.{VideoFault, bad}
use Rattle.apv_tracks.specs.Plain.{plain_settings}
use Rattle.apv_encoding.specs.Settings.{EncoderSettings, check_input, check_size_of, has_large_qp, has_many_tiles, is_written, profile_of}
use Rattle.apv_tracks.proofs.HeaderLemmas.{depth-written, fails-grid, fails-profile, fails-qp, format-sound, header-sound, passes-all, written-by}
use Rattle.apv_tracks.proofs.format.judge_format.Goals as goal

abbrev size_of : Format → Option VideoFault
size_of format = check_size_of format

abbrev written_of : EncoderSettings → Format → Bool
written_of settings format = is_written (profile_of settings format) format

abbrev large_of : EncoderSettings → Format → Bool
large_of settings format = has_large_qp settings.rate format.depth

pub returns-in_default : goal.returns-in_default
returns-in_default c =
    let settings : EncoderSettings = plain_settings c.args.settings.now in
    let format : Format = c.args.format.now in
    (bad Profile, fails-profile (size_of format) (written_of settings format) (has_many_tiles settings format) (large_of settings format) c.in_ok-judge_size.ensures.0 c.in_default.ensures.none, c.bad_format.ensures)

pub has_many_tiles-requires-clause-sound : goal.has_many_tiles-requires-clause-sound
has_many_tiles-requires-clause-sound c =
    format-sound c.args.format.now c.in_ok-judge_size.ensures.0 (depth-written c.in-Some.profile c.args.format.now c.in-Some.ensures.some.1)

pub returns-then-has_many_tiles : goal.returns-then-has_many_tiles
returns-then-has_many_tiles c =
    let settings : EncoderSettings = plain_settings c.args.settings.now in
    let format : Format = c.args.format.now in
    let written : written_of settings format ≡ true = written-by (profile_of settings format) c.in-Some.profile format c.in-Some.ensures.some.0 c.in-Some.ensures.some.1 in (
      bad Grid,
      fails-grid (size_of format) (written_of settings format) (has_many_tiles settings format) (large_of settings format) c.in_ok-judge_size.ensures.0 written (sym c.has_many_tiles.ensures ∙ c.if-has_many_tiles.true),
      c.bad_format-then-has_many_tiles.ensures,
    )

pub returns-then-has_large_qp : goal.returns-then-has_large_qp
returns-then-has_large_qp c =
    let settings : EncoderSettings = plain_settings c.args.settings.now in
    let format : Format = c.args.format.now in
    let written : written_of settings format ≡ true = written-by (profile_of settings format) c.in-Some.profile format c.in-Some.ensures.some.0 c.in-Some.ensures.some.1 in (
      bad Qp,
      fails-qp (size_of format) (written_of settings format) (has_many_tiles settings format) (large_of settings format) c.in_ok-judge_size.ensures.0 written (sym c.has_many_tiles.ensures ∙ c.if-has_many_tiles.false) (sym c.has_large_qp.ensures ∙ c.if-has_large_qp.true),
      c.bad_format-then-has_large_qp.ensures,
    )

pub header_of-requires-clause-sound : goal.header_of-requires-clause-sound
header_of-requires-clause-sound c =
    format-sound c.args.format.now c.in_ok-judge_size.ensures.0 (depth-written c.in-Some.profile c.args.format.now c.in-Some.ensures.some.1)

pub returns : goal.returns
returns c =
    let settings : EncoderSettings = plain_settings c.args.settings.now in
    let format : Format = c.args.format.now in
    let written : written_of settings format ≡ true = written-by (profile_of settings format) c.in-Some.profile format c.in-Some.ensures.some.0 c.in-Some.ensures.some.1 in
    let passes : check_input settings format ≡ None = passes-all (size_of format) (written_of settings format) (has_many_tiles settings format) (large_of settings format) c.in_ok-judge_size.ensures.0 written (sym c.has_many_tiles.ensures ∙ c.if-has_many_tiles.false) (sym c.has_large_qp.ensures ∙ c.if-has_large_qp.false) in
    (passes, record { is = c.header_of.ensures; sound = rw c.header_of.ensures (header-sound c.args.settings.now format c.requires passes) })
