use Rattle.std.proofs.Common.{◌≡◌, ◌^◌, ◌<◌, ℕ, List, length, get_or, sym, ap, ◌∙◌, subst, arith, rules}
use Rattle.apv_base.specs.declared.format.Format.{Format}
use Rattle.apv_grid.specs.Buffer.{part_of}
use Rattle.apv_tile.specs.Blocks.{block_at}
use Rattle.apv_transform.specs.Sample.{AreCoefficientsOf}
use Rattle.apv_workers.proofs.Pieces.{part-in-long}
use Rattle.apv_workers.proofs.Samples.{part-of-depth}
use Rattle.apv_workers.proofs.encode.transform.TransformingComponentWorkI16.work_on.Goals as goal

pub transform_component-requires-clause-whole : goal.transform_component-requires-clause-whole
transform_component-requires-clause-whole c =
    let long = ap length c.part-samples.ensures ∙ part-in-long c.args.self.now.frame.now.grid c.args.tile c.args.comp c.args.self.now.frame.now.values c.requires.whole c.requires.tile_exists c.requires.comp_exists in
    omega (arith, long)

pub transform_component-requires-clause-same : goal.transform_component-requires-clause-same
transform_component-requires-clause-same c =
    let long = ap length c.part-samples.ensures ∙ part-in-long c.args.self.now.frame.now.grid c.args.tile c.args.comp c.args.self.now.frame.now.values c.requires.whole c.requires.tile_exists c.requires.comp_exists in
    c.requires.room ∙ sym long

pub transform_component-requires-clause-samples : goal.transform_component-requires-clause-samples
transform_component-requires-clause-samples c place lt =
    let long = ap length c.part-samples.ensures ∙ part-in-long c.args.self.now.frame.now.grid c.args.tile c.args.comp c.args.self.now.frame.now.values c.requires.whole c.requires.tile_exists c.requires.comp_exists in
    let format : c.format.result ≡ c.args.self.now.frame.now.grid.format = search rules in
    let P : List ℕ → Type 0 = λ samples. get_or samples place 0 < 2 ^ c.format.result.depth in
    let Q : Format → Type 0 = λ f. get_or (part_of c.args.self.now.frame.now c.args.tile c.args.comp) place 0 < 2 ^ f.depth in
    subst P (sym c.part-samples.ensures) (subst Q (sym format)
    (part-of-depth c.args.self.now.frame.now.grid c.args.tile c.args.comp c.args.self.now.frame.now.values (c.samples_of_a_part.ensures c.args.self.now.frame.now.grid c.requires.sound) c.requires.depth c.requires.tile_exists c.requires.comp_exists place (omega (arith, lt, long))))

pub returns : goal.returns
returns c block lt =
    let long = ap length c.part-samples.ensures ∙ part-in-long c.args.self.now.frame.now.grid c.args.tile c.args.comp c.args.self.now.frame.now.values c.requires.whole c.requires.tile_exists c.requires.comp_exists in
    let format : c.format.result ≡ c.args.self.now.frame.now.grid.format = search rules in
    let P : List ℕ → Format → Type 0 = λ samples f. AreCoefficientsOf f.depth (block_at samples block) (block_at c.transform_component.new.coeffs block) in
    subst (λ (samples : List ℕ). P samples c.args.self.now.frame.now.grid.format) c.part-samples.ensures
    (subst (λ (f : Format). P c.part-samples.result.now f) format (c.transform_component.ensures block (omega (arith, lt, long))))
