-- Access unit information that lists frames breaks no rule.
use Rattle.std.proofs.Common.{◌≡◌, ℕ, ◌<◌, List, [], ◌∷◌, ◌++◌, length, replicate, refl, ap, ◌∙◌, arith, lit<, true, false}
use Rattle.std.specs.List.{AllByRecursion, flat_map}
use Rattle.std.proofs.lemmas.List.{drop_all, length-replicate}
use Rattle.apv_base.specs.declared.rules.HeadEnd.{HeadEnd}
use Rattle.apv_base.specs.model.AuInfo.{ListedFrame, IsListable, IsAuInfo, au_info_body, au_info_table, entries_fields, listed_values}
use Rattle.apv_base.specs.model.Bits.{padding}
use Rattle.apv_base.specs.model.Frame.{bytes_left}
use Rattle.apv_base.specs.model.Header.{info_fields, reserved}
use Rattle.apv_base.specs.model.Pbu.{is_filler}
use Rattle.apv_base.specs.model.Table.{Table, done, spell, walk}
use Rattle.apv_base.specs.laws.Table.{Passes}
use Rattle.apv_base.proofs.TableLemmas.{spelled-walked}
use Rattle.apv_base.proofs.PackedLemmas.{bits_of_bytes}
use Rattle.apv_laws.proofs.SpelledFieldLemmas.{HasNumbersAlone, digits-spelled}
use Rattle.apv_laws.proofs.SpelledHeaderLemmas.{pass-info}

-- ---- the values of the fields

-- what passes where values are judged passes where they aren't
unjudged : (next : Table HeadEnd) (values : List ℕ) (left : ℕ) → Passes 2 (info_fields true (λ format. next)) values left → Passes 2 (info_fields false (λ format. next)) values left
unjudged next values left p =
    let level = p.3 in
    let band = level.3 in
    let blank = band.3 in
    let width = blank.3 in
    let height = width.3 in
    let idc = height.3 in
    let depth = idc.3 in
    (p.0, p.1, refl, (level.0, level.1, refl, (band.0, band.1, refl, (blank.0, blank.1, blank.2, (width.0, width.1, refl, (height.0, height.1, refl, (idc.0, idc.1, refl, (depth.0, depth.1, refl, depth.3))))))))

pass-entries : (frames : List ListedFrame) (next : Table HeadEnd) (later : List ℕ) (left : ℕ) → AllByRecursion IsListable frames → Passes 2 next later left → Passes 2 (entries_fields (length frames) next) (flat_map listed_values frames ++ later) left
unfolding entries_fields
pass-entries [] next later left all p = p
pass-entries (frame ∷ frames) next later left all p =
    let more : List ℕ = flat_map listed_values frames ++ later in
    let rest : Table HeadEnd = entries_fields (length frames) next in
    let info = unjudged rest _ left (pass-info (λ format. rest) frame.info more left all.0.info (pass-entries frames next later left all.1 p)) in
    (refl, all.0.kind, refl, (refl, all.0.group, refl, (refl, lit< tt, refl, info)))

numbers-entries : (frames : List ListedFrame) (next : Table HeadEnd) (later : List ℕ) → HasNumbersAlone next later → HasNumbersAlone (entries_fields (length frames) next) (flat_map listed_values frames ++ later)
unfolding entries_fields
numbers-entries [] next later p = p
numbers-entries (frame ∷ frames) next later p = numbers-entries frames next later p

-- ---- the body

-- fewer bits than a byte has are no whole bytes
none-left : (body : List ℕ) (n : ℕ) → n < 8 → bytes_left body (replicate n 0) ≡ []
none-left body n lt = drop_all _ body (omega (arith, length-replicate {A = ℕ} n 0, lt))

-- access unit information is read back, and no filler is in it
pub au-info-read : (frames : List ListedFrame) → length frames < 65536 → AllByRecursion IsListable frames → (values : List ℕ) × IsAuInfo (au_info_body frames) values
au-info-read frames few all =
    let values : List ℕ = length frames ∷ (flat_map listed_values frames ++ 0 ∷ []) in
    let spelled : List ℕ = spell 2 au_info_table values in
    let n : ℕ = padding (length spelled) in
    let zeros : List ℕ = replicate n 0 in
    let last : Passes 2 (reserved 8 done) (0 ∷ []) (length zeros) = (refl, lit< tt, refl, refl) in
    let passes : Passes 2 au_info_table values (length zeros) = (refl, few, refl, pass-entries frames (reserved 8 done) (0 ∷ []) (length zeros) all last) in
    let bits_are = bits_of_bytes spelled (digits-spelled 2 au_info_table values (lit< tt) (numbers-entries frames (reserved 8 done) (0 ∷ []) tt)) in (
      values,
      record {
        left = zeros;
        walked = ap (walk 2 au_info_table) bits_are ∙ spelled-walked 2 au_info_table values zeros (lit< tt) passes;
        filler = ap is_filler (none-left (au_info_body frames) n (omega arith));
      },
    )
