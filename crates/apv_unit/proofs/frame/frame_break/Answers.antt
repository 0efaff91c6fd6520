use Rattle.std.proofs.Common.{◌≡◌, ◌∙◌, List, ℕ, drop, sym, ap, subst, false, true}
use Rattle.apv_base.specs.model.Bits.{bits}
use Rattle.apv_base.specs.model.Pbu.{is_filler}
use Rattle.apv_base.specs.model.Header.{header_values}
use Rattle.apv_base.specs.model.Frame.{FrameBreaks, in_header, in_tile, in_filler}
use Rattle.apv_unit.specs.declared.broken_body.BodyBreak.{BodyBreak}
use Rattle.apv_header.proofs.FrameWalks.{tiles-by-values}
use Rattle.apv_unit.proofs.frame.frame_break.Goals as goal

pub returns-in-Err : goal.returns-in-Err
returns-in-Err c = in_header c.in-Err.end c.in-Err.ensures.err

pub returns-in-Err-read_tiles : goal.returns-in-Err-read_tiles
returns-in-Err-read_tiles c =
    let head = c.in-Ok.head in
    let is = c.in-Ok.ensures.ok in
    let body : List ℕ = c.args.body.now in
    subst (λ (b : BodyBreak). FrameBreaks body b.tile b.end) (sym c.inside.ensures)
    (in_tile (header_values head.header head.sizes.items) (bits (drop head.len body)) c.in-Err-read_tiles.broken is.walked (tiles-by-values body head is ∙ c.in-Err-read_tiles.ensures.err))

pub returns-then-not-is_filler : goal.returns-then-not-is_filler
returns-then-not-is_filler c =
    let head = c.in-Ok.head in
    let is = c.in-Ok.ensures.ok in
    let of = c.in-Ok-read_tiles.ensures.ok in
    let body : List ℕ = c.args.body.now in
    let filler : is_filler (drop c.in-Ok-read_tiles.table.end body) ≡ false = sym (ap is_filler c.split_at.ensures.back) ∙ sym c.is_filler.ensures ∙ c.if-not-is_filler.true in
    subst (λ (b : BodyBreak). FrameBreaks body b.tile b.end) (sym c.outside.ensures)
    (in_filler (header_values head.header head.sizes.items) (bits (drop head.len body)) _ (drop c.in-Ok-read_tiles.table.end body) is.walked (tiles-by-values body head is ∙ of.walked) filler)

pub returns : goal.returns
returns c =
    let head = c.in-Ok.head in
    let is = c.in-Ok.ensures.ok in
    let of = c.in-Ok-read_tiles.ensures.ok in
    let body : List ℕ = c.args.body.now in
    let filler : is_filler (drop c.in-Ok-read_tiles.table.end body) ≡ true = sym (ap is_filler c.split_at.ensures.back) ∙ sym c.is_filler.ensures ∙ c.if-not-is_filler.false in (
      header_values head.header head.sizes.items,
      _,
      record {
        left = bits (drop head.len body);
        after = drop c.in-Ok-read_tiles.table.end body;
        walked = is.walked;
        walked_tiles = tiles-by-values body head is ∙ of.walked;
        filler = filler;
      },
    )
