use Rattle.std.proofs.Common.{◌≡◌, ◌+◌, ◌-◌, ◌*◌, length, sym, ap, refl, arith, ℕ}
use Rattle.apv_header.specs.Parts.{tile_size_fields}
use Rattle.apv_header.proofs.FieldLemmas.{err-gives, cut-breaks, reads-walks, fields-breaks, fields-walks, walks-as, walks-start}
use Rattle.apv_header.proofs.PartLemmas.{no-size-left}
use Rattle.apv_header.proofs.read.read_tile_sizes.Goals as goal

pub returns-in_err-size-clause-err : goal.returns-in_err-size-clause-err
returns-in_err-size-clause-err c =
    err-gives _ _ _ c.from_residual.ensures.1 (λ next.
    fields-breaks next (c.args.count - c.loop-tile._tile) (c.args.count - (c.loop-tile._tile + 1)) (omega arith) (c.loop-tile.invariant.passed next) (cut-breaks _ _ c.in_err-size.ensures.err))

pub loop-tile-init : goal.loop-tile-init
loop-tile-init c = record {
  count = ap (length {A = ℕ}) c.new-sizes.ensures;
  passed = λ next. walks-as refl (sym c.new-sizes.ensures) (ap (λ (n : ℕ). tile_size_fields n next) (omega arith)) (walks-start (tile_size_fields c.args.count next) c.args.reader.now);
}

pub push-requires : goal.push-requires
push-requires c = omega (arith, c.loop-tile.invariant.count)

pub loop-tile-preserved : goal.loop-tile-preserved
loop-tile-preserved c =
    let tile : ℕ = c.loop-tile._tile in
    record {
      count = omega (arith, c.loop-tile.invariant.count, c.push.ensures.len);
      passed = λ next.
          walks-as (omega arith) (sym c.push.ensures.items) refl
          (fields-walks next (c.args.count - tile) (c.args.count - (tile + 1)) (omega arith) (c.loop-tile.invariant.passed next) (reads-walks _ _ _ c.in_ok-size.ensures.ok (λ left. refl)));
    }

pub returns-clause-ok : goal.returns-clause-ok
returns-clause-ok c next =
    let all : c.loop-tile._tile ≡ c.args.count = omega arith in
    walks-as (ap (λ (n : ℕ). 32 * n) all) refl (no-size-left (c.args.count - c.loop-tile._tile) next (omega arith)) (c.loop-tile.invariant.passed next)

pub returns-clause-count : goal.returns-clause-count
returns-clause-count c = omega (arith, c.loop-tile.invariant.count)
