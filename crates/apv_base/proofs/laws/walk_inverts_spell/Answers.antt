use Rattle.std.proofs.Common.{lit<, lit≤}
use Rattle.apv_base.specs.model.AuInfo.{au_info_table}
use Rattle.apv_base.specs.model.Header.{info_table, header_table}
use Rattle.apv_base.specs.model.Tile.{tiles_table}
use Rattle.apv_base.specs.model.Payload.{payload_table}
use Rattle.apv_base.specs.model.Pbu.{pbu_table, metadata_table}
use Rattle.apv_base.proofs.PassesLemmas.{walk_inverts_spell}
use Rattle.apv_base.proofs.laws.walk_inverts_spell.Goals as goal

pub returns : goal.returns
returns c = record {
  info = walk_inverts_spell 2 info_table (lit< tt) (lit≤ tt);
  header = walk_inverts_spell 2 header_table (lit< tt) (lit≤ tt);
  tiles = λ layout. walk_inverts_spell 256 (tiles_table layout) (lit< tt) (lit≤ tt);
  au_info = walk_inverts_spell 2 au_info_table (lit< tt) (lit≤ tt);
  pbu = walk_inverts_spell 256 pbu_table (lit< tt) (lit≤ tt);
  metadata = walk_inverts_spell 256 metadata_table (lit< tt) (lit≤ tt);
  payload = walk_inverts_spell 256 payload_table (lit< tt) (lit≤ tt);
}
