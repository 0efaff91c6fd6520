use Rattle.std.proofs.Common.{◌≡◌, ◌*◌, ◌+◌, ◌-◌, ◌∙◌, ap, ap₂, ◌++◌, [], ◌∷◌, ℕ, List, length, replicate, arith}
use Rattle.apv_unit.proofs.AuInfoWriteLemmas.{body-written, two-bytes}
use Rattle.apv_unit.proofs.au_info.put_au_info.Goals as goal

pub returns-clause-bytes : goal.returns-clause-bytes
returns-clause-bytes c =
    let one : length c.split_at_mut-listed.result.1.now ≡ 1 = omega (arith, c.requires.room, c.split_at_mut-number.ensures.back_len, c.split_at_mut-listed.ensures.back_len) in
    let last : c.fill.new.self ≡ 0 ∷ [] = c.fill.ensures.after (λ y e. e) ∙ ap (λ (n : ℕ). replicate n 0) one in
    ap₂ (λ (xs ys : List ℕ). xs ++ ys) (c.copy_from_slice.ensures.after ∙ c.to_be_bytes-count.ensures ∙ two-bytes (length c.args.entries.now) (omega (arith, c.requires.few)))
    (ap₂ (λ (xs ys : List ℕ). xs ++ ys) c.put_entries.ensures last)

pub returns-clause-body : goal.returns-clause-body
returns-clause-body c frames lists = returns-clause-bytes c ∙ body-written c.args.entries.now frames c.requires.few lists
