use Rattle.std.proofs.Common.{◌≡◌, ◌*◌, length, get_or, refl, rules, ◌∙◌}
use Rattle.std.proofs.lemmas.Result.{on_ok_weaker}
use Rattle.apv_base.specs.model.Grid.{block_count}
use Rattle.apv_base.specs.model.Header.{header_comps}
use Rattle.apv_workers.proofs.Parts.{component-decoded}
use Rattle.apv_workers.proofs.decode.TileDecoding.decode_component.Goals as goal

pub returns-in-Some-clause-ok : goal.returns-in-Some-clause-ok
returns-in-Some-clause-ok c =
    let comps : c.comps.result ≡ header_comps c.args.self.now.head.now.header = search rules in
    let long : length c.decode_component_with.new.samples ≡ 64 * block_count c.args.self.now.head.now.grid c.args.tile c.args.comp = c.decode_component_with.auto.samples ∙ c.requires.samples in
    on_ok_weaker c.decode_component_with.result
    (component-decoded c.args.self.now.body.now c.args.self.now.head.now c.args.self.now.table.now c.args.tile c.args.comp c.comps.result c.entry-entry.result.now (get_or c.args.self.now.head.now.header.matrices c.args.comp c.index-header-comp.result) c.index-header-comp.result c.of-scaling.result c.component_bytes-bytes.result.now
    c.decode_component_with.new.samples c.requires.read c.requires.comp comps c.entry-entry.ensures.tile c.component_bytes-bytes.ensures.data long refl c.samples_of_a_frame.ensures c.of-scaling.ensures.each c.of-scaling.ensures.shift)
    c.decode_component_with.ensures.ok

pub returns-in-None-clause-ok : goal.returns-in-None-clause-ok
returns-in-None-clause-ok c =
    let comps : c.comps.result ≡ header_comps c.args.self.now.head.now.header = search rules in
    let long : length c.decode_component.new.samples ≡ 64 * block_count c.args.self.now.head.now.grid c.args.tile c.args.comp = c.decode_component.auto.samples ∙ c.requires.samples in
    on_ok_weaker c.decode_component.result
    (component-decoded c.args.self.now.body.now c.args.self.now.head.now c.args.self.now.table.now c.args.tile c.args.comp c.comps.result c.entry-entry.result.now (get_or c.args.self.now.head.now.header.matrices c.args.comp c.index-header-comp.result) c.index-header-comp.result c.of.result c.component_bytes-bytes.result.now
    c.decode_component.new.samples c.requires.read c.requires.comp comps c.entry-entry.ensures.tile c.component_bytes-bytes.ensures.data long refl c.samples_of_a_frame.ensures c.of.ensures.each c.of.ensures.shift)
    c.decode_component.ensures.ok
