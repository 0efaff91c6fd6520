use Rattle.std.proofs.Common.{refl, ap, ◌∙◌, arith}
use Rattle.apv_base.specs.model.AuInfo.{info_bytes}
use Rattle.apv_enc.proofs.unit.entries.entry_of.Goals as goal

pub returns : goal.returns
returns c = record {
  kind = refl;
  group = refl;
  info = c.put_info.ensures ∙ ap (λ h. info_bytes h.info) c.header.ensures.header;
  sound = record { kind = omega (arith, c.ranges.kind); group = omega arith; info = c.header.ensures.sound.info };
}
