use Rattle.std.proofs.Common.{refl}
use Rattle.apv_base.specs.model.Table.{spell}
use Rattle.apv_base.specs.model.Bits.{digits}
use Rattle.bench.proofs.structure.unit.frame_header_bytes.Goals as goal

-- the fields of this header have 160 bits
pub put_frame_header-requires-clause-room : goal.put_frame_header-requires-clause-room
unfolding spell digits
put_frame_header-requires-clause-room c = refl
