-- A writer that is given values one after another.
use Rattle.std.proofs.Common.{◌≡◌, ℕ, ◌+◌, ◌-◌, ◌*◌, ◌^◌, ◌<◌, ◌≤◌, List, [], ◌∷◌, ◌++◌, length, take, drop, replicate, get_or, refl, sym, ap, ◌∙◌, arith, append_assoc, append-nil, length-append, add-one, drop-cons}
use Rattle.std.specs.List.{flat_map, concat}
use Rattle.std.proofs.lemmas.List.{length-drop, take_more, take_all}
use Rattle.std.proofs.lemmas.List.Concat.{concat_is}
use Rattle.std.proofs.lemmas.Grind.{flat_map-append}
use Rattle.apv_base.specs.model.Bits.{bin, bits, padding}
use Rattle.apv_base.proofs.BitsLemmas.{length-bin, length-bits, bits-append, bin-zeros}
use Rattle.apv_bits.specs.declared.writer.BitWriter.{BitWriter}
use Rattle.apv_bits.specs.Writer.{written, bits_after, Appends}
use Rattle.apv_bits.proofs.WriterLemmas.{appends_both, slice_is}
use Rattle.apv_header.specs.Words.{AreFields, fields_word, fields_bits}

-- a word of known length leaves so much less room
pub room_after : (old new : BitWriter) (word : List ℕ) → Appends old new word → length (bits_after new) ≡ length (bits_after old) - length word
room_after old new word a = rw a.after (length-drop (length word) (bits_after old))

-- the room left, where there was room for the word
pub left_after : (old new : BitWriter) (word : List ℕ) → length word ≤ length (bits_after old) → Appends old new word → length (bits_after new) + length word ≡ length (bits_after old)
left_after old new word fits a = omega (arith, fits, room_after old new word a)

pub room_after_bits : (old new : BitWriter) (n value : ℕ) → Appends old new (bin n value) → length (bits_after new) ≡ length (bits_after old) - n
room_after_bits old new n value a = room_after old new (bin n value) a ∙ ap (λ m. length (bits_after old) - m) (length-bin n value)

-- the words of one element more
pub words_more : {X : Type 0} (f : X → List ℕ) (xs : List X) (i : ℕ) (d : X) → i < length xs → flat_map f (take (i + 1) xs) ≡ flat_map f (take i xs) ++ f (get_or xs i d)
words_more f xs i d lt =
    ap (flat_map f) (take_more xs i d lt) ∙ flat_map-append f (take i xs) (get_or xs i d ∷ []) ∙ ap (λ w. flat_map f (take i xs) ++ w) (append-nil (f (get_or xs i d)))

pub appends_more : {X : Type 0} (f : X → List ℕ) (xs : List X) (i : ℕ) (d : X) (old mid new : BitWriter) → i < length xs
    → Appends old mid (flat_map f (take i xs)) → Appends mid new (f (get_or xs i d)) → Appends old new (flat_map f (take (i + 1) xs))
appends_more f xs i d old mid new lt a b = rw (words_more f xs i d lt) (appends_both old mid new (flat_map f (take i xs)) (f (get_or xs i d)) a b)

-- ---- fields

-- the field at an index, and those after it
pub fields_at : (fields : List (ℕ × ℕ)) (i : ℕ) (d : ℕ × ℕ) → i < length fields → AreFields (drop i fields)
    → ((get_or fields i d).1 ≤ 32) × ((get_or fields i d).0 < 2 ^ (get_or fields i d).1) × AreFields (drop (i + 1) fields)
fields_at fields i d lt are =
    let e : drop i fields ≡ get_or fields i d ∷ drop (i + 1) fields = rw add-one (drop-cons fields i d lt) in
    rw e at are

pub fields_bits_at : (fields : List (ℕ × ℕ)) (i : ℕ) (d : ℕ × ℕ) → i < length fields → fields_bits (drop i fields) ≡ (get_or fields i d).1 + fields_bits (drop (i + 1) fields)
fields_bits_at fields i d lt =
    let e : drop i fields ≡ get_or fields i d ∷ drop (i + 1) fields = rw add-one (drop-cons fields i d lt) in
    ap fields_bits e

pub length-fields : (fields : List (ℕ × ℕ)) → length (fields_word fields) ≡ fields_bits fields
length-fields [] = refl
length-fields (field ∷ fields) = omega (arith, length-append (bin field.1 field.0) (fields_word fields), length-bin field.1 field.0, length-fields fields)

pub length-sizes : (sizes : List ℕ) → length (flat_map (bin 32) sizes) ≡ 32 * length sizes
length-sizes [] = refl
length-sizes (size ∷ sizes) = omega (arith, length-append (bin 32 size) (flat_map (bin 32) sizes), length-bin 32 size, length-sizes sizes)

-- the room left after all fields
pub left_after_fields : (fields : List (ℕ × ℕ)) (i : ℕ) (old new : BitWriter) → length fields ≤ i → fields_bits fields ≤ length (bits_after old) → Appends old new (fields_word (take i fields))
    → length (bits_after new) + fields_bits fields ≡ length (bits_after old)
left_after_fields fields i old new le fits a =
    let all : Appends old new (fields_word fields) = rw (take_all i fields le) at a in
    omega (arith, fits, room_after old new (fields_word fields) all, length-fields fields)

-- ---- lists of values, joined

pub concat_more : (xss : List (List ℕ)) (i : ℕ) (d : List ℕ) → i < length xss → concat (take (i + 1) xss) ≡ concat (take i xss) ++ get_or xss i d
concat_more xss i d lt = concat_is (take (i + 1) xss) ∙ words_more (λ (xs : List ℕ). xs) xss i d lt ∙ ap (λ w. w ++ get_or xss i d) (sym (concat_is (take i xss)))

pub concat_at : (xss : List (List ℕ)) (i : ℕ) (d : List ℕ) → i < length xss → concat (drop i xss) ≡ get_or xss i d ++ concat (drop (i + 1) xss)
concat_at xss i d lt =
    let e : drop i xss ≡ get_or xss i d ∷ drop (i + 1) xss = rw add-one (drop-cons xss i d lt) in
    ap concat e

pub appends_list : (xss : List (List ℕ)) (i : ℕ) (xs : List ℕ) (old mid new : BitWriter) → i < length xss → xs ≡ get_or xss i xs
    → Appends old mid (bits (concat (take i xss))) → Appends mid new (bits xs) → Appends old new (bits (concat (take (i + 1) xss)))
appends_list xss i xs old mid new lt is a b =
    let more : concat (take (i + 1) xss) ≡ concat (take i xss) ++ xs = concat_more xss i xs lt ∙ ap (λ w. concat (take i xss) ++ w) (sym is) in
    rw (more, bits-append (concat (take i xss)) xs) (appends_both old mid new (bits (concat (take i xss))) (bits xs) a b)

-- the room for a list, and that left after it
pub list_room : (xss : List (List ℕ)) (i : ℕ) (xs : List ℕ) → i < length xss → xs ≡ get_or xss i xs → length (bits (concat (drop i xss))) ≡ length (bits xs) + length (bits (concat (drop (i + 1) xss)))
list_room xss i xs lt is =
    let prefix : concat (drop i xss) ≡ xs ++ concat (drop (i + 1) xss) = concat_at xss i xs lt ∙ ap (λ w. w ++ concat (drop (i + 1) xss)) (sym is) in
    rw (prefix, bits-append xs (concat (drop (i + 1) xss))) (length-append (bits xs) (bits (concat (drop (i + 1) xss))))

-- ---- a writer over a slice that just has room

-- what is written and these bits are all, and there is just room for these
pub record Midway (all : List ℕ) (writer : BitWriter) (rest : List ℕ) : Type 0 where
  pub word : written writer ++ rest ≡ all
  pub room : length (bits_after writer) ≡ length rest

pub midway-start : (all bytes : List ℕ) (writer : BitWriter) → written writer ≡ [] → bits_after writer ≡ bits bytes → 8 * length bytes ≡ length all → Midway all writer all
midway-start all bytes writer w b len = record {
  word = rw w refl;
  room = rw b (length-bits bytes ∙ len);
}

pub midway-step : {all : List ℕ} {old new : BitWriter} {word rest : List ℕ} → Midway all old (word ++ rest) → Appends old new word → Midway all new rest
midway-step {all} {old} {new} {word} {rest} m a = record {
  word = rw a.written (append_assoc (written old) word rest ∙ m.word);
  room = omega (arith, room_after old new word a, m.room, length-append word rest);
}

pub midway-room : (all : List ℕ) (writer : BitWriter) (word rest : List ℕ) → Midway all writer (word ++ rest) → length word ≤ length (bits_after writer)
midway-room all writer word rest m = omega (arith, m.room, length-append word rest)

-- zeros up to a whole byte are the bits left
pub midway-align : (all : List ℕ) (len : ℕ) (old new : BitWriter) (p : ℕ) → Midway all old (bin p 0) → p < 8 → 8 * len ≡ length all
    → Appends old new (replicate (padding (length (written old))) 0) → Midway all new []
midway-align all len old new p m small whole a =
    let place : length (written old) + p ≡ 8 * len = omega (arith, ap length m.word, length-append (written old) (bin p 0), length-bin p 0, whole) in
    let same : padding (length (written old)) ≡ p = omega arith in
    let zeros : Appends old new (bin p 0) = rw bin-zeros (rw same at a) in
    let nothing : bin p 0 ≡ bin p 0 ++ [] = sym (append-nil (bin p 0)) in
    midway-step (rw nothing at m) zeros

no_bits : (xs : List ℕ) → length xs ≡ 0 → xs ≡ []
no_bits [] e = refl
no_bits (x ∷ xs) e = absurd (omega (arith, e))

pub midway-done : (all : List ℕ) (writer : BitWriter) → Midway all writer [] → bits writer.bytes.now ≡ all
midway-done all writer m =
    let nothing : bits_after writer ≡ [] = no_bits (bits_after writer) m.room in
    slice_is writer ∙ ap (λ b. written writer ++ b) nothing ∙ m.word
