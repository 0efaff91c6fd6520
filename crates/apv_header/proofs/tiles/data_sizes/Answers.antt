use Rattle.std.proofs.Common.{◌≡◌, ℕ, suc, ◌+◌, ◌*◌, ◌<◌, ◌≤◌, ◌++◌, ◌∷◌, [], List, length, take, drop, slice_set, refl, sym, ap, ◌∙◌, arith}
use Rattle.std.proofs.lemmas.List.{take_more_set, length-set}
use Rattle.apv_base.specs.model.Bits.{number}
use Rattle.apv_header.specs.Walks.{numbers}
use Rattle.apv_header.proofs.NumbersLemmas.{numbers-none, numbers-push, zeros, zero-after}
use Rattle.apv_header.proofs.tiles.data_sizes.Goals as goal

pub loop-comp-init : goal.loop-comp-init
loop-comp-init c = record { count = refl; others = λ k le. zeros 4 k 0; prefix = sym (numbers-none 4 c.args.bytes.now) }

more-sizes : (bytes sizes rest : List ℕ) (comp comps size : ℕ) → length sizes ≡ 4 → comp < comps → comps ≤ 4 → take comp sizes ≡ numbers 4 comp bytes → rest ≡ drop (4 * comp) bytes → size ≡ number 256 (take 4 rest)
    → take (comp + 1) (slice_set sizes comp size) ≡ numbers 4 (comp + 1) bytes
more-sizes bytes sizes rest comp comps size count lt few prefix at is =
    let within : comp < length sizes = omega arith in
    let one : comp + 1 ≡ suc comp = omega arith in
    take_more_set sizes comp size within
    ∙ ap (λ (ys : List ℕ). ys ++ size ∷ []) prefix
    ∙ ap (λ (x : ℕ). numbers 4 comp bytes ++ x ∷ []) (is ∙ ap (λ (ys : List ℕ). number 256 (take 4 ys)) at)
    ∙ sym (numbers-push 4 comp bytes)
    ∙ ap (λ (n : ℕ). numbers 4 n bytes) (sym one)

pub loop-comp-preserved : goal.loop-comp-preserved
loop-comp-preserved c =
    let i = c.loop-comp.invariant in
    record {
      count = length-set c.loop-comp.sizes c.loop-comp.comp c.be32.result ∙ i.count;
      others = zero-after c.loop-comp.sizes c.loop-comp.comp c.be32.result i.others;
      prefix = more-sizes c.args.bytes.now c.loop-comp.sizes c.split_at.result.1.now c.loop-comp.comp c.args.comps c.be32.result i.count (omega arith) c.requires.few i.prefix c.split_at.ensures.back c.be32.ensures;
    }
