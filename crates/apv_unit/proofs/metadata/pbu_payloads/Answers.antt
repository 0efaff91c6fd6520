use Rattle.std.proofs.Common.{sym, ap}
use Rattle.apv_base.specs.model.Payload.{payloads_bytes}
use Rattle.apv_base.specs.model.Body.{with_bodies, body_kind_of}
use Rattle.apv_base.proofs.UnitLemmas.{content-other, payloads_of-metadata, payloads_of-other}
use Rattle.apv_unit.proofs.metadata.pbu_payloads.Goals as goal

pub payload_list-requires : goal.payload_list-requires
payload_list-requires c = (c.requires.0, payloads_of-metadata c.args.kind c.args.body.now c.requires.0 c.if-kind-eq-METADATA.true c.requires.1)

pub returns-then-kind-eq-METADATA : goal.returns-then-kind-eq-METADATA
returns-then-kind-eq-METADATA c ps sound = (c.payload_list.ensures ps (payloads_of-metadata c.args.kind c.args.body.now ps c.if-kind-eq-METADATA.true sound)).0

pub returns-else-kind-eq-METADATA : goal.returns-else-kind-eq-METADATA
returns-else-kind-eq-METADATA c ps sound = ap payloads_bytes (sym (payloads_of-other (body_kind_of with_bodies c.args.kind) c.args.body.now ps (content-other c.args.kind c.if-kind-eq-METADATA.false) sound))
