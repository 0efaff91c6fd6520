use Rattle.std.proofs.Common.{◌≡◌, List, ℕ, ◌++◌, codes, ap, ◌∙◌, append_assoc}
use Rattle.std.specs.Fmt.{decimal}
use Rattle.apv_video.specs.Tag.{tag_text}
use Rattle.apv_video.proofs.line.header_line.Goals as goal

-- one more part of a line
then : {old new text : List ℕ} (part : List ℕ) → old ≡ text → new ≡ old ++ part → new ≡ text ++ part
then part e f = f ∙ ap (λ (xs : List ℕ). xs ++ part) e

-- the parts of the line, from the last to the first
nested : (a w b h c f d s e t n : List ℕ) → ((((((((((a ++ w) ++ b) ++ h) ++ c) ++ f) ++ d) ++ s) ++ e) ++ t) ++ n) ≡ a ++ (w ++ (b ++ (h ++ (c ++ (f ++ (d ++ (s ++ (e ++ (t ++ n)))))))))
nested a w b h c f d s e t n = simp append_assoc

pub returns : goal.returns
returns c =
    let tag = c.push_text-6.ensures.text ∙ ap (λ (xs : List ℕ). c.push_text-5.new.self ++ xs) c.text.ensures.text in
    let width = decimal c.args.format.now.width in
    let height = decimal c.args.format.now.height in
    let frames = decimal c.args.rate.0 in
    let seconds = decimal c.args.rate.1 in
    let l1 = then (codes "YUV4MPEG2 W") c.new-line.ensures c.push_text.ensures.text in
    let l2 = then width l1 c.push_number.ensures.text in
    let l3 = then (codes " H") l2 c.push_text-2.ensures.text in
    let l4 = then height l3 c.push_number-2.ensures.text in
    let l5 = then (codes " F") l4 c.push_text-3.ensures.text in
    let l6 = then frames l5 c.push_number-3.ensures.text in
    let l7 = then (codes ":") l6 c.push_text-4.ensures.text in
    let l8 = then seconds l7 c.push_number-4.ensures.text in
    let l9 = then (codes " Ip A0:0 ") l8 c.push_text-5.ensures.text in
    let l10 = then (tag_text c.args.tag) l9 tag in
    let l11 = then (codes "\n") l10 c.push_text-7.ensures.text in
    l11 ∙ nested (codes "YUV4MPEG2 W") width (codes " H") height (codes " F") frames (codes ":") seconds (codes " Ip A0:0 ") (tag_text c.args.tag) (codes "\n")
