use Rattle.std.proofs.Common.{◌≡◌, drop, take, List, ℕ, sym, ◌∙◌, false, true}
use Rattle.apv_base.specs.declared.rules.Rule.TheVariants.{V8, V25}
use Rattle.apv_base.specs.model.Bits.{number}
use Rattle.apv_base.specs.model.Payload.{Payload, ArePayloads, HasPartialPayload}
use Rattle.apv_base.specs.model.Pbu.{in_size, in_payloads, in_filler, is_filler}
use Rattle.apv_base.proofs.PbuLemmas.{metadata-no-size, metadata-small, metadata-cut, metadata-whole}
use Rattle.apv_unit.proofs.metadata.metadata_break.Goals as goal

pub returns-then-body-lt4 : goal.returns-then-body-lt4
returns-then-body-lt4 c = in_size V8 (metadata-no-size c.args.body.now c.if-body-lt4.true)

pub returns-then-size-lt2 : goal.returns-then-size-lt2
returns-then-size-lt2 c =
    let body : List ℕ = c.args.body.now in
    let size : c.be32-size.result ≡ number 256 (take 4 body) = c.be32-size.ensures in
    in_size V25 (metadata-small body c.be32-size.result c.if-body-lt4.false size c.if-size-lt2.true)

pub returns-then-size-rest : goal.returns-then-size-rest
returns-then-size-rest c =
    let body : List ℕ = c.args.body.now in
    let size : c.be32-size.result ≡ number 256 (take 4 body) = c.be32-size.ensures in
    in_size V25 (metadata-cut body c.be32-size.result c.if-body-lt4.false size c.if-size-lt2.false (rw (← c.split_at.ensures.back) c.if-size-rest.true))

pub returns-then-not-are_payloads : goal.returns-then-not-are_payloads
returns-then-not-are_payloads c =
    let body : List ℕ = c.args.body.now in
    let size : c.be32-size.result ≡ number 256 (take 4 body) = c.be32-size.ensures in
    let partial : (byte : ℕ) × HasPartialPayload c.split_at-2.result.0.now byte = rw c.if-not-are_payloads.true at c.are_payloads.ensures in
    in_payloads c.be32-size.result partial.0 (drop 4 body) (metadata-whole body c.be32-size.result c.if-body-lt4.false size c.if-size-lt2.false (rw (← c.split_at.ensures.back) c.if-size-rest.false)) (rw (← c.split_at.ensures.back, ← c.split_at-2.ensures.front) partial.1)

pub returns-then-not-is_filler : goal.returns-then-not-is_filler
returns-then-not-is_filler c =
    let body : List ℕ = c.args.body.now in
    let size : c.be32-size.result ≡ number 256 (take 4 body) = c.be32-size.ensures in
    let found : (ps : List Payload) × ArePayloads c.split_at-2.result.0.now ps = rw c.if-not-are_payloads.false at c.are_payloads.ensures in
    let filled : is_filler c.split_at-2.result.1.now ≡ false = sym c.is_filler.ensures ∙ c.if-not-is_filler.true in
    in_filler c.be32-size.result (drop 4 body) found.0 (metadata-whole body c.be32-size.result c.if-body-lt4.false size c.if-size-lt2.false (rw (← c.split_at.ensures.back) c.if-size-rest.false)) (rw (← c.split_at.ensures.back, ← c.split_at-2.ensures.front) found.1) (rw (← c.split_at.ensures.back, ← c.split_at-2.ensures.back) filled)

pub returns : goal.returns
returns c =
    let body : List ℕ = c.args.body.now in
    let size : c.be32-size.result ≡ number 256 (take 4 body) = c.be32-size.ensures in
    let found : (ps : List Payload) × ArePayloads c.split_at-2.result.0.now ps = rw c.if-not-are_payloads.false at c.are_payloads.ensures in
    let filled : is_filler c.split_at-2.result.1.now ≡ true = sym c.is_filler.ensures ∙ c.if-not-is_filler.false in (
      found.0,
      record {
        size = c.be32-size.result;
        rest = drop 4 body;
        walked = metadata-whole body c.be32-size.result c.if-body-lt4.false size c.if-size-lt2.false (rw (← c.split_at.ensures.back) c.if-size-rest.false);
        whole = rw (← c.split_at.ensures.back, ← c.split_at-2.ensures.front) found.1;
        filler = rw (← c.split_at.ensures.back, ← c.split_at-2.ensures.back) filled;
      },
    )
