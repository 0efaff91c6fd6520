use Rattle.std.proofs.Common.{rules, ◌≡◌}
use Rattle.apv_encoding.specs.Settings.{grey_header}
use Rattle.apv_tracks.specs.Plain.{plain_settings}
use Rattle.apv_tracks.proofs.HeaderLemmas.{grey-sound, input-sound}
use Rattle.apv_tracks.proofs.format.grey_header.Goals as goal

pub tile_size-requires : goal.tile_size-requires
tile_size-requires c = input-sound c.args.settings.now c.args.format.now c.requires.bounds c.requires.passes

pub returns-clause-sound : goal.returns-clause-sound
returns-clause-sound c =
    let is : c.further_header.result ≡ grey_header (plain_settings c.args.settings.now) c.args.format.now = search rules in
    rw is (grey-sound c.args.settings.now c.args.format.now c.requires.bounds c.requires.passes)
