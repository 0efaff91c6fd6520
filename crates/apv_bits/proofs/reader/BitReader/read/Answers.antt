use Rattle.std.proofs.Common.{◌≡◌, ◌+◌, ◌*◌, length, refl, arith}
use Rattle.apv_bits.proofs.ReaderLemmas.{left_is, takes, takes_seen}
use Rattle.apv_bits.proofs.reader.BitReader.read.Goals as goal

pub returns-in-Some-clause-ok : goal.returns-in-Some-clause-ok
returns-in-Some-clause-ok c = (
  c.top.ensures.small,
  takes_seen c.self.inside.bytes.now c.self.inside.place c.args.n c.top.result c.in-Some.window c.args.self.now c.self.view_is (omega arith)
      c.in-Some.ensures.some c.top.ensures.bits,
)

pub returns-then-end-self-clause-ended : goal.returns-then-end-self-clause-ended
returns-then-end-self-clause-ended c =
    let l : length c.args.self.now.left + c.self.inside.place ≡ 8 * length c.self.inside.bytes.now =
    left_is c.self.inside.bytes.now c.self.inside.place c.args.self.now (omega arith) c.self.view_is in
    (λ _. omega arith, λ _. refl)

pub returns-clause-ok : goal.returns-clause-ok
returns-clause-ok c = (
  c.field-value.ensures.small,
  takes c.self.inside.bytes.now c.self.inside.place c.args.n c.field-value.result c.args.self.now c.self.view_is c.field-value.ensures.bits,
)

pub returns-clause-ended : goal.returns-clause-ended
returns-clause-ended c =
    let l : length c.args.self.now.left + c.self.inside.place ≡ 8 * length c.self.inside.bytes.now =
    left_is c.self.inside.bytes.now c.self.inside.place c.args.self.now (omega arith) c.self.view_is in
    (λ e. cc, λ h. absurd (omega arith))
