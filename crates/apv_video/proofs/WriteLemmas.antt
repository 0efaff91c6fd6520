-- Writes of a text part by part.
use Rattle.std.proofs.Common.{◌≡◌, ℕ, ◌+◌, ◌-◌, ◌<◌, ◌≤◌, List, ◌++◌, length, take, refl, ap, sym, ◌∙◌, subst, arith, Result, Ok, Err, length-append, append_assoc}
use Rattle.std.specs.List.{flat_map, range_with_len}
use Rattle.std.specs.Result.{IsErrAnd}
use Rattle.std.proofs.Math.Seq.{take-append-add}
use Rattle.std.proofs.lemmas.List.{take-append-le}
use Rattle.apv_base.specs.declared.format.Format.{Format}
use Rattle.apv_base.specs.model.Picture.{Samples, joined, low_first, picture}
use Rattle.apv_base.specs.model.Format.{comps_of, component_width}
use Rattle.apv_files.specs.SlotView.{SlotView}
use Rattle.apv_files.specs.Loops.{WroteAll}
use Rattle.apv_files.proofs.Many.{wrote-wrote, wrote-failed}
use Rattle.apv_video.specs.declared.write.Put.{Put}
use Rattle.apv_video.specs.declared.write.Put.TheVariants.{Failed, Memory}
use Rattle.apv_video.specs.Samples.{sample_count, sample_at, samples_from, component_text, bytes_at}
use Rattle.apv_video.specs.Writes.{PutsAll}
use Rattle.apv_video.proofs.TextLemmas.{joined-add, joined-split, joined-more, by-number, flat_map-map}

-- a part of a text was written in part, so a longer one is
pub fails-longer : (T U : Type 0) (old new : SlotView) (part rest : List ℕ) (e : Put) → PutsAll {T = T} old part (Err e) new → PutsAll {T = U} old (part ++ rest) (Err e) new
fails-longer T U old new part rest Failed h = record {
  count = h.count;
  short = omega (arith, h.short, length-append part rest);
  failed = rw (take-append-le h.count part rest (omega (arith, h.short))) h.failed;
}
fails-longer T U old new part rest Memory h = record {
  count = h.count;
  short = omega (arith, h.short, length-append part rest);
  wrote = rw (take-append-le h.count part rest (omega (arith, h.short))) h.wrote;
}

-- after a text, another one
pub puts-then : {T : Type 0} (old mid new : SlotView) (done part : List ℕ) (r : Result T Put) → WroteAll old done mid → PutsAll {T = T} mid part r new → PutsAll {T = T} old (done ++ part) r new
puts-then old mid new done part (Ok _) w h = wrote-wrote old mid new done part w h
puts-then old mid new done part (Err Failed) w h = record {
  count = length done + h.count;
  short = omega (arith, h.short, length-append done part);
  failed = rw (take-append-add done part h.count) (wrote-failed old mid new done (take h.count part) w h.failed);
}
puts-then old mid new done part (Err Memory) w h = record {
  count = length done + h.count;
  short = omega (arith, h.short, length-append done part);
  wrote = rw (take-append-add done part h.count) (wrote-wrote old mid new done (take h.count part) w h.wrote);
}

-- an error in a part of a text
pub fails-in : (T U : Type 0) (old mid new : SlotView) (done part rest whole : List ℕ) (e : Put) → whole ≡ done ++ (part ++ rest) → WroteAll old done mid → PutsAll {T = T} mid part (Err e) new → PutsAll {T = U} old whole (Err e) new
fails-in T U old mid new done part rest whole e is w h =
    let P : List ℕ → Type 0 = λ (text : List ℕ). PutsAll {T = U} old text (Err e) new in
    subst P (sym is) (puts-then {T = U} old mid new done (part ++ rest) (Err e) w (fails-longer T U mid new part rest e h))

-- an error that is handed on
pub puts-err : (T : Type 0) (r : Result T Put) (end : Put) (old new : SlotView) (text : List ℕ) → IsErrAnd r (λ given. given ≡ end) → PutsAll {T = T} old text (Err end) new → PutsAll {T = T} old text r new
puts-err T (Ok x) end old new text is h = elim is [ ]
puts-err T (Err given) end old new text is h = let P : Put → Type 0 = λ (e : Put). PutsAll {T = T} old text (Err e) new in subst P (sym is) h

-- ---- components

-- the bytes of samples
pub spelled-pieces : (format : Format) (samples : Samples) (comp first m n : ℕ) (piece spelled : List ℕ) → spelled ≡ flat_map low_first piece → piece ≡ samples_from format samples comp first m → m ≡ n
    → spelled ≡ flat_map (bytes_at format samples comp) (range_with_len first n)
spelled-pieces format samples comp first m n piece spelled is so same =
    is ∙ ap (flat_map low_first) so ∙ flat_map-map low_first (sample_at format samples comp) (range_with_len first m) ∙ ap (λ (k : ℕ). flat_map (bytes_at format samples comp) (range_with_len first k)) same

-- all bytes of a component
pub component-all : (format : Format) (samples : Samples) (comp : ℕ) → component_text format samples comp ≡ joined (sample_count format comp) (bytes_at format samples comp)
component-all format samples comp = sym (by-number format.height (component_width format comp) (samples comp))

-- more bytes of a component
pub component-more : (format : Format) (samples : Samples) (comp first n : ℕ) (old mid new : SlotView) (spelled : List ℕ) → WroteAll old (joined first (bytes_at format samples comp)) mid → WroteAll mid spelled new
    → spelled ≡ flat_map (bytes_at format samples comp) (range_with_len first n) → WroteAll old (joined (first + n) (bytes_at format samples comp)) new
component-more format samples comp first n old mid new spelled so wrote is =
    let f : ℕ → List ℕ = bytes_at format samples comp in
    rw (joined-add first n f, sym is) (wrote-wrote old mid new (joined first f) spelled so wrote)

-- an error among the bytes of a component
pub component-fails : (T U : Type 0) (format : Format) (samples : Samples) (comp first n : ℕ) (old mid new : SlotView) (spelled : List ℕ) (e : Put) → first + n ≤ sample_count format comp
    → WroteAll old (joined first (bytes_at format samples comp)) mid → PutsAll {T = T} mid spelled (Err e) new → spelled ≡ flat_map (bytes_at format samples comp) (range_with_len first n)
    → PutsAll {T = U} old (component_text format samples comp) (Err e) new
component-fails T U format samples comp first n old mid new spelled e room so fails is =
    let f : ℕ → List ℕ = bytes_at format samples comp in
    let count : ℕ = sample_count format comp in
    let more : ℕ = count - (first + n) in
    let rest : List ℕ = flat_map f (range_with_len (first + n) more) in
    let size : count ≡ first + n + more = omega arith in
    let whole : component_text format samples comp ≡ joined first f ++ (spelled ++ rest) =
    component-all format samples comp ∙ ap (λ (m : ℕ). joined m f) size ∙ joined-add (first + n) more f ∙ ap (λ (xs : List ℕ). xs ++ rest) (joined-add first n f)
    ∙ append_assoc (joined first f) (flat_map f (range_with_len first n)) rest ∙ ap (λ (xs : List ℕ). joined first f ++ (xs ++ rest)) (sym is) in
    fails-in T U old mid new (joined first f) spelled rest (component_text format samples comp) e whole so fails

-- ---- pictures

-- all components
pub picture-all : (format : Format) (samples : Samples) (n : ℕ) → n ≡ comps_of format.chroma → picture format samples ≡ joined n (component_text format samples)
unfolding picture
picture-all format samples n e = ap (λ (m : ℕ). joined m (component_text format samples)) (sym e)

-- an error in a component
pub picture-fails : (T U : Type 0) (format : Format) (samples : Samples) (comp : ℕ) (old mid new : SlotView) (e : Put) → comp < comps_of format.chroma → WroteAll old (joined comp (component_text format samples)) mid
    → PutsAll {T = T} mid (component_text format samples comp) (Err e) new → PutsAll {T = U} old (picture format samples) (Err e) new
picture-fails T U format samples comp old mid new e less so fails =
    let f : ℕ → List ℕ = component_text format samples in
    let n : ℕ = comps_of format.chroma in
    let rest : List ℕ = flat_map f (range_with_len (comp + 1) (n - comp - 1)) in
    fails-in T U old mid new (joined comp f) (f comp) rest (picture format samples) e (picture-all format samples n refl ∙ joined-split comp n f less) so fails

-- one more component
pub picture-more : (f : ℕ → List ℕ) (comp : ℕ) (old mid new : SlotView) → WroteAll old (joined comp f) mid → WroteAll mid (f comp) new → WroteAll old (joined (comp + 1) f) new
picture-more f comp old mid new so wrote = rw (joined-more comp f) (wrote-wrote old mid new (joined comp f) (f comp) so wrote)
