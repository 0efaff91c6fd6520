-- The bytes of access unit information that lists frames.
use Rattle.std.proofs.Common.{◌≡◌, ℕ, zero, suc, ◌-◌, ◌*◌, ◌<◌, Bool, List, [], ◌∷◌, ◌++◌, length, refl, sym, ap, ap₂, ◌∙◌, subst, lit<, append_assoc}
use Rattle.std.specs.List.{AllByRecursion, flat_map}
use Rattle.apv_base.specs.declared.format.FrameInfo.{FrameInfo}
use Rattle.apv_base.specs.declared.rules.HeadEnd.{HeadEnd}
use Rattle.apv_base.specs.model.AuInfo.{ListedFrame, IsListable, listed_values, au_info_body, info_bytes, listed_bytes, entry_fields, entries_fields, au_info_table}
use Rattle.apv_base.specs.model.Bits.{digits, bin, be, bits, AreDigits, AreBytes}
use Rattle.apv_base.specs.model.Component.{bytes_of_bits}
use Rattle.apv_base.specs.model.Format.{idc_of}
use Rattle.apv_base.specs.model.Header.{info_fields, info_table, info_values, reserved}
use Rattle.apv_base.specs.model.Table.{Table, done, spell}
use Rattle.apv_base.proofs.BitsLemmas.{bits-append, bits-be}
use Rattle.apv_base.proofs.DigitsLemmas.{digits-append, digits-small}
use Rattle.apv_base.proofs.PackedLemmas.{bits-of-whole, bytes-of-bits, bytes-small}

-- ---- words one after another

-- words, and then these bits
abbrev joined : List (List ℕ) → List ℕ → List ℕ
joined [] rest = rest
joined (word ∷ words) rest = word ++ joined words rest

joined-more : (words : List (List ℕ)) (rest : List ℕ) → joined words [] ++ rest ≡ joined words rest
joined-more [] rest = refl
joined-more (word ∷ words) rest = append_assoc word (joined words []) rest ∙ ap (λ (xs : List ℕ). word ++ xs) (joined-more words rest)

-- the words of frame_info()
abbrev info_words : FrameInfo → List (List ℕ)
info_words info =
    bin 8 info.profile ∷ bin 8 info.level ∷ bin 3 info.band ∷ bin 5 0 ∷ bin 24 info.width ∷ bin 24 info.height
    ∷ bin 4 (idc_of info.chroma) ∷ bin 4 (info.depth - 8) ∷ bin 8 info.capture ∷ bin 8 0 ∷ []

-- frame_info() is its words, whether its values are judged or not
info-spelled : (judged : Bool) (next : Table HeadEnd) (info : FrameInfo) (later : List ℕ)
    → spell 2 (info_fields judged (λ format. next)) (info_values info ++ later) ≡ joined (info_words info) (spell 2 next later)
unfolding spell
info-spelled judged next info later = refl

info-alone : (info : FrameInfo) → spell 2 info_table (info_values info) ≡ joined (info_words info) []
unfolding spell
info-alone info = refl

words-digits : (words : List (List ℕ)) → AllByRecursion (AreDigits 2) words → AreDigits 2 (joined words [])
words-digits [] all = λ i. lit< tt
words-digits (word ∷ words) all = digits-append 2 word (joined words []) all.0 (words-digits words all.1)

info-digits : (info : FrameInfo) → AreDigits 2 (joined (info_words info) [])
info-digits info = words-digits (info_words info) (small 8 _, (small 8 _, (small 3 _, (small 5 _, (small 24 _, (small 24 _, (small 4 _, (small 4 _, (small 8 _, (small 8 _, tt))))))))))
  where
    small : (n v : ℕ) → AreDigits 2 (bin n v)
    small n v = digits-small 2 n v (lit< tt)

info-length : (info : FrameInfo) → length (joined (info_words info) []) ≡ 8 * 12
unfolding digits
info-length info = refl

-- the bits of frame_info()
pub info-bits : (info : FrameInfo) → bits (info_bytes info) ≡ joined (info_words info) []
info-bits info = ap (λ (xs : List ℕ). bits (bytes_of_bits xs)) (info-alone info) ∙ bits-of-whole 12 (joined (info_words info) []) (info-digits info) (info-length info)

-- ---- entries

entry-spelled : (next : Table HeadEnd) (frame : ListedFrame) (later : List ℕ)
    → spell 2 (entry_fields next) (listed_values frame ++ later) ≡ bin 8 frame.kind ++ (bin 16 frame.group ++ (bin 8 0 ++ joined (info_words frame.info) (spell 2 next later)))
unfolding spell
entry-spelled next frame later = refl

entry-bits : (frame : ListedFrame) (rest : List ℕ) → bits (listed_bytes frame) ++ rest ≡ bin 8 frame.kind ++ (bin 16 frame.group ++ (bin 8 0 ++ joined (info_words frame.info) rest))
entry-bits frame rest =
    let group : List ℕ = bits (be 2 frame.group) in
    let word : List ℕ = joined (info_words frame.info) [] in
    let after : bits (0 ∷ info_bytes frame.info) ≡ bin 8 0 ++ word = ap (λ (xs : List ℕ). bin 8 0 ++ xs) (info-bits frame.info) in
    let all : bits (listed_bytes frame) ≡ bin 8 frame.kind ++ (bin 16 frame.group ++ (bin 8 0 ++ word)) =
    ap (λ (xs : List ℕ). bin 8 frame.kind ++ xs) (bits-append (be 2 frame.group) (0 ∷ info_bytes frame.info) ∙ ap₂ (λ (xs ys : List ℕ). xs ++ ys) (bits-be 2 frame.group) after) in
    ap (λ (xs : List ℕ). xs ++ rest) all ∙ joined-more (bin 8 frame.kind ∷ bin 16 frame.group ∷ bin 8 0 ∷ info_words frame.info) rest

entries-spelled : (frames : List ListedFrame) (last : Table HeadEnd) (later : List ℕ)
    → spell 2 (entries_fields (length frames) last) (flat_map listed_values frames ++ later) ≡ bits (flat_map listed_bytes frames) ++ spell 2 last later
unfolding entries_fields
entries-spelled [] last later = refl
entries-spelled (frame ∷ frames) last later =
    let more : List ℕ = flat_map listed_values frames in
    let next : Table HeadEnd = entries_fields (length frames) last in
    let rest : List ℕ = spell 2 next (more ++ later) in
    ap (spell 2 (entry_fields next)) (append_assoc (listed_values frame) more later)
    ∙ entry-spelled next frame (more ++ later)
    ∙ sym (entry-bits frame rest)
    ∙ ap (λ (xs : List ℕ). bits (listed_bytes frame) ++ xs) (entries-spelled frames last later)
    ∙ sym (append_assoc (bits (listed_bytes frame)) (bits (flat_map listed_bytes frames)) (spell 2 last later))
    ∙ ap (λ (xs : List ℕ). xs ++ spell 2 last later) (sym (bits-append (listed_bytes frame) (flat_map listed_bytes frames)))

-- ---- the whole

last-spelled : spell 2 (reserved 8 done) (0 ∷ []) ≡ bits (0 ∷ [])
unfolding spell
last-spelled = refl

table-spelled : (n : ℕ) (later : List ℕ) → spell 2 au_info_table (n ∷ later) ≡ bin 16 n ++ spell 2 (entries_fields n (reserved 8 done)) later
unfolding spell
table-spelled n later = refl

-- the bytes of the list
abbrev list_bytes : List ListedFrame → List ℕ
list_bytes frames = be 2 (length frames) ++ (flat_map listed_bytes frames ++ 0 ∷ [])

list-bits : (frames : List ListedFrame) → spell 2 au_info_table (length frames ∷ flat_map listed_values frames ++ 0 ∷ []) ≡ bits (list_bytes frames)
list-bits frames =
    let all : List ℕ = flat_map listed_bytes frames in
    table-spelled (length frames) (flat_map listed_values frames ++ 0 ∷ [])
    ∙ ap₂ (λ (xs ys : List ℕ). xs ++ ys) (sym (bits-be 2 (length frames)))
    (entries-spelled frames (reserved 8 done) (0 ∷ []) ∙ ap (λ (xs : List ℕ). bits all ++ xs) last-spelled ∙ sym (bits-append all (0 ∷ [])))
    ∙ sym (bits-append (be 2 (length frames)) (all ++ 0 ∷ []))

one-small : (byte : ℕ) → byte < 256 → AreBytes (byte ∷ [])
one-small byte small zero = small
one-small byte small (suc i) = lit< tt

entry-small : (frame : ListedFrame) → IsListable frame → AreBytes (listed_bytes frame)
entry-small frame is =
    let info : AreBytes (info_bytes frame.info) =
    subst (λ (xs : List ℕ). AreBytes (bytes_of_bits xs)) (sym (info-alone frame.info)) (bytes-small 12 (joined (info_words frame.info) []) (info-digits frame.info) (info-length frame.info)) in
    digits-append 256 (frame.kind ∷ []) (be 2 frame.group ++ 0 ∷ info_bytes frame.info) (one-small frame.kind is.kind)
    (digits-append 256 (be 2 frame.group) (0 ∷ info_bytes frame.info) (digits-small 256 2 frame.group (lit< tt)) (digits-append 256 (0 ∷ []) (info_bytes frame.info) (one-small 0 (lit< tt)) info))

entries-small : (frames : List ListedFrame) → AllByRecursion IsListable frames → AreBytes (flat_map listed_bytes frames)
entries-small [] all = λ i. lit< tt
entries-small (frame ∷ frames) all = digits-append 256 (listed_bytes frame) (flat_map listed_bytes frames) (entry-small frame all.0) (entries-small frames all.1)

list-small : (frames : List ListedFrame) → AllByRecursion IsListable frames → AreBytes (list_bytes frames)
list-small frames all =
    digits-append 256 (be 2 (length frames)) (flat_map listed_bytes frames ++ 0 ∷ []) (digits-small 256 2 (length frames) (lit< tt))
    (digits-append 256 (flat_map listed_bytes frames) (0 ∷ []) (entries-small frames all) (one-small 0 (lit< tt)))

-- access unit information is the number of its frames in two bytes, 16 bytes for each, and a reserved byte
pub au-info-bytes : (frames : List ListedFrame) → length frames < 65536 → AllByRecursion IsListable frames → au_info_body frames ≡ be 2 (length frames) ++ (flat_map listed_bytes frames ++ 0 ∷ [])
au-info-bytes frames few all = ap bytes_of_bits (list-bits frames) ∙ bytes-of-bits (list_bytes frames) (list-small frames all)
