use Rattle.apv_encoding.proofs.SettingsLemmas.{are-tracks}
use Rattle.apv_encoding.proofs.laws.tracks.Goals as goal

pub returns : goal.returns
returns c = are-tracks
