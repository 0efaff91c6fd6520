use Rattle.std.proofs.Common.{◌≡◌, length, arith, ◌∙◌, ap, sym}
use Rattle.apv_grid.specs.Buffer.{values_before}
use Rattle.apv_workers.specs.Components.{of_component}
use Rattle.apv_workers.proofs.Pieces.{room-of, component-before}
use Rattle.apv_workers.proofs.encode.components.ByComponent.work_within.Goals as goal

pub split_at_mut-after-requires : goal.split_at_mut-after-requires
split_at_mut-after-requires g c =
    let room = room-of c.args.self.now.grid.now c.args.tile c.args.comp c.requires.comp in
    omega (arith, room, c.values_before-start.ensures.count, c.requires.ready.size)

pub split_at_mut-values-requires : goal.split_at_mut-values-requires
split_at_mut-values-requires g c =
    let room = room-of c.args.self.now.grid.now c.args.tile c.args.comp c.requires.comp in
    omega (arith, room, c.values_before-start.ensures.count, c.requires.ready.size, c.blocks-2.ensures.count, c.split_at_mut-after.ensures.back_len)

pub work_on-requires : goal.work_on-requires
work_on-requires g c =
    c.requires.ready.ready c.args.tile c.args.comp c.split_at_mut-values.result.0.now c.requires.ready.exists c.requires.comp
    (omega (arith, c.split_at_mut-values.ensures.front_len, c.blocks-2.ensures.count))

pub returns-clause-others : goal.returns-clause-others
returns-clause-others g c other lt =
    let before : length c.split_at_mut-after.result.0.now ≡ values_before c.args.self.now.grid.now c.args.tile c.args.comp = c.split_at_mut-after.ensures.front_len ∙ c.values_before-start.ensures.count in
    component-before c.args.self.now.grid.now c.args.tile other c.args.comp c.split_at_mut-after.result.0.now _ c.split_at_mut-after.result.1.now lt before
    ∙ ap (of_component c.args.self.now.grid.now c.args.tile other) (sym c.split_at_mut-after.ensures.value)
