use Rattle.std.proofs.Common.{sym, ◌∙◌, arith}
use Rattle.apv_header.proofs.TileLemmas.{differs-from, size-short, size-differs, size-small, size-large}
use Rattle.apv_header.proofs.tiles.read_tile_size.Goals as goal

pub returns-then-bytes-lt4 : goal.returns-then-bytes-lt4
returns-then-bytes-lt4 c = λ count sizes e next. size-short _ _ count _ sizes next _ c.if-bytes-lt4.true

pub returns-then-is_another : goal.returns-then-is_another
returns-then-is_another c = λ count sizes e next.
    size-differs _ _ count _ c.be32-size.result sizes next _ c.if-bytes-lt4.false c.be32-size.ensures (differs-from sizes _ _ c.args.stated e ∙ sym c.is_another.ensures ∙ c.if-is_another.true)

pub returns-then-size-header_size : goal.returns-then-size-header_size
returns-then-size-header_size c = λ count sizes e next.
    size-small _ _ count _ c.be32-size.result sizes next _ c.if-bytes-lt4.false c.be32-size.ensures (differs-from sizes _ _ c.args.stated e ∙ sym c.is_another.ensures ∙ c.if-is_another.false)
    (rw (← c.comps.ensures, ← c.header_size.ensures) c.if-size-header_size.true)

pub returns-then-size-bytes : goal.returns-then-size-bytes
returns-then-size-bytes c = λ count sizes e next.
    size-large _ _ count _ c.be32-size.result sizes next _ c.if-bytes-lt4.false c.be32-size.ensures (differs-from sizes _ _ c.args.stated e ∙ sym c.is_another.ensures ∙ c.if-is_another.false)
    (rw (← c.comps.ensures, ← c.header_size.ensures) c.if-size-header_size.false) c.if-size-bytes.true

pub returns : goal.returns
returns c = record {
  long = c.if-bytes-lt4.false;
  is = sym c.be32-size.ensures;
  low = rw (← c.comps.ensures, ← c.header_size.ensures) c.if-size-header_size.false;
  high = omega arith;
  same = λ sizes e. differs-from sizes _ _ c.args.stated e ∙ sym c.is_another.ensures ∙ c.if-is_another.false;
}
