use Rattle.std.proofs.Common.{◌≡◌, ap, subst, ◌∙◌, rules, arith, to_z, of_z, w16}
use Rattle.std.proofs.lemmas.Int.{to_z-of_z}
use Rattle.std.proofs.lemmas.Result.{err_from_is_err_and}
use Rattle.apv_base.specs.model.Scan.{level_at}
use Rattle.apv_base.specs.model.Block.{Context, IsContext}
use Rattle.apv_scan.proofs.WalkLemmas.{block_reads, block_breaks_dc, block_breaks_ac}
use Rattle.apv_scan.proofs.block.read.read_levels.Goals as goal

pub returns-in_err-dc : goal.returns-in_err-dc
returns-in_err-dc c =
    let p = err_from_is_err_and c.from_residual.result c.from_residual.ensures.1 in
    rw (p.1, p.2) (block_breaks_dc c.args.context.now c.args.reader.now _ (rw c.ahead-ahead.ensures at c.in_err-dc.ensures.err))

pub returns-in_err-first : goal.returns-in_err-first
returns-in_err-first c =
    let e : to_z w16 (of_z w16 c.in_ok-dc.dc) ≡ c.in_ok-dc.dc = grind (rules, arith, to_z-of_z) in
    let first : c.before-2.inside.first ≡ c.args.context.now.first = ap (λ (context : Context). context.first) c.before-2.view_is in
    let p = err_from_is_err_and c.from_residual-in_err-first.result c.from_residual-in_err-first.ensures.1 in
    rw (p.1, p.2) (block_breaks_ac c.args.context.now c.args.reader.now c.read_dc.new.reader c.in_ok-dc.dc _ (subst IsContext c.before-2.view_is c.before-2.invariant) c.in_ok-dc.ensures.ok.0 (rw c.ahead-ahead.ensures at c.in_ok-dc.ensures.ok.1)
    (rw (c.clear.ensures.first, e, first) at c.in_err-first.ensures))

pub returns : goal.returns
returns c =
    let e : to_z w16 (of_z w16 c.in_ok-dc.dc) ≡ c.in_ok-dc.dc = grind (rules, arith, to_z-of_z) in
    let first : c.before-2.inside.first ≡ c.args.context.now.first = ap (λ (context : Context). context.first) c.before-2.view_is in
    record {
      takes = block_reads c.args.context.now c.args.reader.now c.read_dc.new.reader c.read_ac_by.new.reader c.in_ok-dc.dc (level_at c.read_ac_by.new.levels)
          (c.in_ok-first.ensures.dc ∙ c.clear.ensures.first ∙ e) (rw c.ahead-ahead.ensures at c.in_ok-dc.ensures.ok.1) (rw first at c.in_ok-first.ensures.read.takes);
      next = search rules;
    }
