use Rattle.std.proofs.Common.{◌≡◌, ℕ, List, arith, subst}
use Rattle.std.proofs.lemmas.List.{get_or_default}
use Rattle.std.specs.Prelude.{slice_index_or}
use Rattle.apv_base.proofs.HeaderLemmas.{comps-few}
use Rattle.apv_base.specs.model.Header.{flat}
use Rattle.apv_quant.specs.Reaching.{ReachLevels}
use Rattle.apv_workers.proofs.Coded.{coded-part, coded-long}
use Rattle.apv_workers.proofs.LeastLemmas.{least-component}
use Rattle.apv_workers.proofs.encode.least.LeastCountingComponentLength.length_of.Goals as goal

pub least_len_component-requires-clause-whole : goal.least_len_component-requires-clause-whole
least_len_component-requires-clause-whole c =
    let long = coded-long c.args.self.now.head.now c.args.self.now.coeffs.now c.args.tile c.args.comp _ c.part.result.now c.requires c.part.ensures in
    omega (arith, long)

pub returns : goal.returns
returns c =
    let head = c.args.self.now.head.now in
    let coeffs = c.args.self.now.coeffs.now in
    let same : slice_index_or head.header.matrices c.args.comp c.index-header-comp.result ≡ slice_index_or head.header.matrices c.args.comp flat =
    get_or_default head.header.matrices c.args.comp c.index-header-comp.result flat (omega (arith, c.requires.of_header.sound.four, c.requires.comp_exists, comps-few head.header.info.chroma)) in
    least-component head coeffs c.args.tile c.args.comp c.least_len_component.result c.sizes_reaching-sizes.result c.part.result.now
    (coded-part head coeffs c.args.tile c.args.comp _ c.part.result.now c.requires c.part.ensures)
    (coded-long head coeffs c.args.tile c.args.comp _ c.part.result.now c.requires c.part.ensures)
    (subst (λ (qp : ℕ). ReachLevels (slice_index_or head.header.matrices c.args.comp flat) qp head.header.info.depth c.sizes_reaching-sizes.result) c.qp.ensures.is
    (subst (λ (matrix : List ℕ). ReachLevels matrix c.qp.result head.header.info.depth c.sizes_reaching-sizes.result) same c.sizes_reaching-sizes.ensures.each))
    c.least_len_component.ensures.least
